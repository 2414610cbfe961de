-- How a reply is read.
use Rattle.std.proofs.Common.{◌≡◌, ◌∙◌, ℕ, ◌+◌, ◌<◌, ◌≤◌, ◌^◌, List, [], ◌++◌, Ok, Err, inl, inr, refl, sym, subst, length, take, append-nil, arith}
use Rattle.std.specs.Prelude.{◌⊎◌, Option, Result}
use Rattle.std.specs.Io.KnownBytes.{Appends, Consumes, IsAtEnd, Keeps}
use Rattle.std.proofs.KnownBytes.{Consumes-kept, Consumes-nil, Consumes-trans}
use Rattle.std.proofs.lemmas.List.{length-append, length-take-le, take_all}
use Rattle.ov_base.specs.declared.limits.TheConstants.{MAX_FRAME_BYTES}
use Rattle.ov_base.specs.Causes.{Rose}
use Rattle.ov_fields.specs.Spelling.{u32}
use Rattle.ov_io.specs.declared.traits.Fault.{Fault}
use Rattle.ov_peer.specs.Causes.{HasLinkCause}
use Rattle.ov_peer.specs.declared.fault.PeerFault.{PeerFault}
use Rattle.ov_peer.specs.declared.fault.PeerFault.TheVariants as faults
use Rattle.ov_wire.specs.Frames.{IsBadLength, IsFrameLength, in_frame, framed}
use Rattle.ov_session.specs.Links.{Link}
use Rattle.ov_session.specs.Reading.{AppendsPiece, ExchangesOrFails, FailsHolding, Fills, IsReason, LacksPiece, Reads, TakesBody, TakesFrame, TakesPiece, faults_after}
use Rattle.ov_session.specs.Replies.{Breaks, HoldsWhatCame, LinkFails}
use Rattle.ov_session.specs.Steps.{PutsFrame}

-- what is no longer than a list is no longer than one that ends with it
behind : (front xs : List ℕ) (n : ℕ) → n ≤ length xs → n ≤ length (front ++ xs)
behind front xs n le =
    let long : length (front ++ xs) ≡ length front + length xs = length-append front xs in
    omega (arith, long, le)

-- a list is no longer than one that begins with it
before_it : (xs more : List ℕ) → length xs ≤ length (xs ++ more)
before_it xs more =
    let long : length (xs ++ more) ≡ length xs + length more = length-append xs more in
    omega (arith, long)

reads_on : (a b c : Link) (xs ys : List ℕ) → Reads a b xs → Reads b c ys → Reads a c (xs ++ ys)
reads_on a b c xs ys one two = record {
  read = Consumes-trans a.left b.left c.left xs ys one.read two.read;
  written = two.written ∙ one.written;
  writes = two.writes ∙ one.writes;
  later = omega (arith, one.later, two.later);
}

-- nothing was taken
pub reads_none : (old new : Link) → Keeps old.left new.left → new.written ≡ old.written
    → new.write_faults ≡ old.write_faults → old.read_faults ≤ new.read_faults → Reads old new []
reads_none old new kept written writes le = record {
  read = Consumes-kept old.left old.left new.left [] (Consumes-nil old.left) kept;
  written = written;
  writes = writes;
  later = le;
}

pub took_none : (old new : Link) (buf : List ℕ) (count : ℕ) → count ≡ 0
    → Reads old new (take count buf) → Reads old new []
took_none old new buf count none reads =
    subst (λ (n : ℕ). Reads old new (take n buf)) none reads

-- a list was filled up to its end
pub filled : (old new : Link) (buf : List ℕ) (count : ℕ) → length buf ≤ count
    → Fills old new buf count → Reads old new buf
filled old new buf count all f = subst (Reads old new) (take_all count buf all) f.reads

-- a length field outside its limits
pub bad_length : (n : ℕ) → n < 2 ^ 32 → (n ≡ 0) ⊎ (MAX_FRAME_BYTES < n) → IsBadLength (u32 n)
bad_length n field outside =
    record { n = n; more = []; field = field; outside = outside; begins = sym (append-nil (u32 n)) }

-- what was read before counts too
reason_before : (old mid new : Link) (taken : List ℕ) → old.read_faults ≤ mid.read_faults
    → IsReason mid new taken → IsReason old new taken
reason_before old mid new taken le (inl rose) =
    inl (omega (arith, le, rose))
reason_before old mid new taken le (inr other) = inr other

fails_after : (old mid new : Link) (front reply : List ℕ) → Reads old mid front
    → FailsHolding mid new front reply → FailsHolding old new [] reply
fails_after old mid new front reply first f = record {
  fails = record {
    taken = front ++ f.fails.taken;
    reads = reads_on old mid new front f.fails.taken first f.fails.reads;
    reason = reason_before old mid new (front ++ f.fails.taken) first.later f.fails.reason;
  };
  few = behind front f.fails.taken (length reply) f.few;
}

-- ---- the pieces of a body

-- no more of a body came than is before its end
cut_short : (old mid new : Link) (wanted left : ℕ) (front more : List ℕ) → IsFrameLength wanted
    → length front + left ≡ wanted → old.read_faults ≤ mid.read_faults
    → Rose mid.read_faults new.read_faults ⊎ ((length more < left) × IsAtEnd new.left)
    → IsReason old new (u32 wanted ++ (front ++ more))
cut_short old mid new wanted left front more fits whole le (inl rose) =
    inl (omega (arith, le, rose))
cut_short old mid new wanted left front more fits whole le (inr (short, at_end)) =
    let long : length (front ++ more) ≡ length front + length more = length-append front more in
    inr (inl (in_frame wanted (front ++ more) fits refl (omega (arith, long, short, whole)), at_end))

-- a body's next piece didn't come, or memory for it was refused, and what is kept came before
pub body_stops : (old mid new : Link) (wanted left : ℕ) (front reply : List ℕ) (fault : PeerFault)
    → IsFrameLength wanted → length front + left ≡ wanted → Reads old mid front
    → TakesPiece mid new left front reply (Err fault) → TakesBody old new wanted reply (Err fault)
body_stops old mid new wanted left front reply faults.Link fits whole first (lacks, kept) = record {
  fails = record {
    taken = front ++ lacks.taken;
    reads = reads_on old mid new front lacks.taken first lacks.reads;
    reason = cut_short old mid new wanted left front lacks.taken fits whole first.later lacks.reason;
  };
  few = subst (λ (r : List ℕ). length r ≤ length (front ++ lacks.taken)) (sym kept)
      (before_it front lacks.taken);
}
body_stops old mid new wanted left front reply faults.Memory fits whole first (taken, more, kept) =
    record {
      taken = front ++ taken;
      reads = reads_on old mid new front taken first more;
      few = subst (λ (r : List ℕ). length r ≤ length (front ++ taken)) (sym kept)
          (before_it front taken);
    }

-- ---- a frame

-- a frame is its length field and what is behind it
pub frame_behind : (old mid new : Link) (wanted : ℕ) (reply : List ℕ)
    (result : Result (Unit {0}) PeerFault)
    → IsFrameLength wanted → Reads old mid (u32 wanted) → TakesBody mid new wanted reply result
    → TakesFrame old new reply result
frame_behind old mid new wanted reply (Ok done) fits first (whole, body) = (
  subst IsFrameLength (sym whole) fits,
  subst (λ (n : ℕ). Reads old new (u32 n ++ reply)) (sym whole)
      (reads_on old mid new (u32 wanted) reply first body),
)
frame_behind old mid new wanted reply (Err faults.Link) fits first fails =
    fails_after old mid new (u32 wanted) reply first fails
frame_behind old mid new wanted reply (Err faults.Memory) fits first held = record {
  taken = u32 wanted ++ held.taken;
  reads = reads_on old mid new (u32 wanted) held.taken first held.reads;
  few = behind (u32 wanted) held.taken (length reply) held.few;
}

-- ---- a request and its reply

-- the request's frame was written, and what was read then was left before
module _ (old mid new : Link) (request : List ℕ)
    (put : PutsFrame {E = Fault} old mid request (Ok tt)) where
  wrote : (now : Option (List ℕ)) → now ≡ mid.written → Appends old.written now (framed request)
  wrote now same = subst (λ w. Appends old.written w (framed request)) (sym same) put.written

  took : (taken : List ℕ) → Reads mid new taken → Consumes old.left new.left taken
  took taken reads = subst (λ l. Consumes l new.left taken) put.half.left reads.read

  breaks : (taken : List ℕ) → Reads mid new taken → Breaks old new request
  breaks taken reads = record {
    front = length (framed request);
    written = subst (Appends old.written new.written)
        (sym (take_all (length (framed request)) (framed request) (omega arith)))
        (wrote new.written reads.written);
    taken = taken;
    read = took taken reads;
  }

  why : (taken : List ℕ) → Reads mid new taken → IsReason mid new taken → LinkFails old new
  why taken reads (inl rose) =
      inl (inl (subst (λ (n : ℕ). Rose n new.read_faults) put.half.reads rose))
  why taken reads (inr (inl (unfinished, at_end))) =
      inr (inl (record {
        taken = taken;
        read = took taken reads;
        unfinished = unfinished;
        at_end = at_end;
      }))
  why taken reads (inr (inr bad)) =
      inr (inr (record { field = taken; read = took taken reads; bad = bad }))

  holds : (reply taken : List ℕ) → Reads mid new taken → length reply ≤ length taken
      → HoldsWhatCame old new reply
  holds reply taken reads few = record { taken = taken; read = took taken reads; few = few }

  pub exchanged : (reply : List ℕ) (result : Result (Unit {0}) PeerFault)
      → TakesFrame mid new reply result → ExchangesOrFails old new request reply result
  exchanged reply (Ok done) (is, reads) = (
    is,
    record {
      written = wrote new.written reads.written;
      read = took (framed reply) reads;
    },
  )
  exchanged reply (Err faults.Link) f = (
    breaks f.fails.taken f.fails.reads,
    why f.fails.taken f.fails.reads f.fails.reason,
    holds reply f.fails.taken f.fails.reads f.few,
  )
  exchanged reply (Err faults.Memory) held =
      (breaks held.taken held.reads, holds reply held.taken held.reads held.few)

-- ---- a peer that is lost

-- the count of a peer that is lost rises for a fault of the link
pub counts_loss : (before now : ℕ) (fault : PeerFault) → now ≡ faults_after before fault
    → before ≤ now → HasLinkCause {T = Unit {0}} before now (Err fault)
counts_loss before now faults.Link counted le = record { later = le; failed = omega (arith, counted) }
counts_loss before now faults.Memory counted le = record { later = le; failed = tt }
