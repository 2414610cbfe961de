-- How a session goes on, and how it ends.
use Rattle.std.proofs.Common.{◌≡◌, ◌∙◌, ℕ, ◌+◌, ◌≤◌, List, [], ◌∷◌, ◌++◌, Ok, Err, inl, inr, refl, sym, ap, subst, length, take, min, append-nil, append_assoc, length-append, arith}
use Rattle.std.specs.Prelude.{Result}
use Rattle.std.specs.List.{flat_map}
use Rattle.std.specs.Io.KnownBytes.{Appends, Consumes, IsAtEnd}
use Rattle.std.proofs.KnownBytes.{Appends-nil, Appends-trans, Consumes-nil, Consumes-trans}
use Rattle.std.proofs.lemmas.List.{map-append}
use Rattle.ov_base.specs.Causes.{Rose}
use Rattle.ov_wire.specs.declared.fault.FeedFault.{FeedFault}
use Rattle.ov_wire.specs.declared.fault.FeedFault.TheVariants as feeds
use Rattle.ov_wire.specs.Frames.{Decoding, Feeds, IsCut, Stops, Takes, framed, in_length, later}
use Rattle.ov_wire.proofs.StreamLaws.{takes_both, takes_then_stops}
use Rattle.ov_session.specs.declared.end.SessionEnd.{SessionEnd}
use Rattle.ov_session.specs.declared.end.SessionEnd.TheVariants as ends
use Rattle.ov_session.specs.declared.one.Stop.{Stop}
use Rattle.ov_session.specs.declared.one.Stop.TheVariants as stops
use Rattle.ov_session.specs.Ends.{Answered, AnswersAll, EndsSpent, EndsWanting, EndsWriting, Serves}
use Rattle.ov_session.specs.Exchanges.{Exchange, Leads, answer_for, answers, requests}
use Rattle.ov_session.specs.Links.{IsLater, Link}
use Rattle.ov_session.specs.Reading.{Reads}
use Rattle.ov_session.specs.Steps.{AnswersFrames, AnswersThem, Going, SessionGoesOn, IsEndOf, IsWriting, StopsSpent, StopsWriting, end_of, fresh, go_on}
use Rattle.ov_session.specs.Tells.{AskerTells}
use Rattle.ov_session.proofs.Answering.{answered_both, cut_both, leads_both}

-- ---- what a decoder does with a piece

requests_both : (es fs : List Exchange) → requests (es ++ fs) ≡ requests es ++ requests fs
requests_both es fs = map-append (λ (e : Exchange). e.request) es fs

-- a decoder appends to whatever frames were there
takes_behind : (d d' : Decoding) (piece : List ℕ) (before frames : List (List ℕ))
    → Takes d d' piece [] frames → Takes d d' piece before (before ++ frames)
takes_behind d d' piece before frames t = record {
  good = t.good;
  frames = t.frames;
  appended = ap (λ (l : List (List ℕ)). before ++ l) t.appended;
  cut = t.cut;
  unfinished = t.unfinished;
  start = t.start;
  still_good = t.still_good;
}

stops_behind : (d d' : Decoding) (piece : List ℕ) (before frames : List (List ℕ)) (place : ℕ)
    → Stops d d' piece [] frames place → Stops d d' piece before (before ++ frames) place
stops_behind d d' piece before frames place s = record {
  good = s.good;
  frames = s.frames;
  rest = s.rest;
  appended = ap (λ (l : List (List ℕ)). before ++ l) s.appended;
  cut = s.cut;
  bad_length = s.bad_length;
  start = s.start;
  stopped = s.stopped;
}

cut_behind : (bytes more : List ℕ) (frames : List (List ℕ)) (rest : List ℕ) → IsCut bytes frames rest
    → IsCut (bytes ++ more) frames (rest ++ more)
cut_behind bytes more frames rest cut = record {
  parts = ap (λ (l : List ℕ). l ++ more) cut.parts ∙ append_assoc (flat_map framed frames) rest more;
  each = cut.each;
}

-- ---- a session that has answered all that it read

module _ {A : Type 0} (tells : AskerTells A) (a b : A) (old mid : Link)
    (d : Decoding) (count : ℕ) (so_far : Going tells a b old mid d count) where
  cut_so_far : IsCut so_far.taken (requests so_far.exchanges) d.rest
  cut_so_far =
      subst (λ (l : List (List ℕ)). IsCut so_far.taken l d.rest) (sym so_far.fed.appended) so_far.fed.cut

  -- nothing more was taken
  all_at : (new : Link) → Reads mid new [] → AnswersAll tells a b old new so_far.taken d.rest
  all_at new reads = record {
    exchanges = so_far.exchanges;
    asked = record {
      asked = so_far.asked;
      read = subst (Consumes old.left new.left) (append-nil so_far.taken)
          (Consumes-trans old.left mid.left new.left so_far.taken [] so_far.read reads.read);
      cut = subst (λ (l : List (List ℕ)). IsCut so_far.taken l d.rest)
          (sym (append-nil (requests so_far.exchanges))) cut_so_far;
    };
    answered = record {
      bytes = so_far.answered.bytes;
      cut = so_far.answered.cut;
      written = subst (λ w. Appends old.written w so_far.answered.bytes) (sym reads.written)
          so_far.answered.written;
    };
  }

  -- the input ended
  pub ends_at_end : (new : Link) → Reads mid new [] → IsAtEnd new.left → (ending : SessionEnd)
      → IsEndOf d.rest count ending → Serves tells a b old new ending
  ends_at_end new reads at_end ends.End none = record {
    taken = so_far.taken;
    all = subst (AnswersAll tells a b old new so_far.taken) none (all_at new reads);
    at_end = at_end;
  }
  ends_at_end new reads at_end (ends.Bad place) (some, stands) = inr (record {
    taken = so_far.taken;
    rest = d.rest;
    all = all_at new reads;
    inside = so_far.fed.unfinished;
    some = some;
    at_end = at_end;
    stands = stands ∙ so_far.counted;
  })
  ends_at_end new reads at_end ends.LinkFault none = absurd none
  ends_at_end new reads at_end ends.Spent none = absurd none
  ends_at_end new reads at_end ends.Memory none = absurd none

  -- the input couldn't be read
  pub ends_reading : (new : Link) → Reads mid new [] → Rose mid.read_faults new.read_faults
      → Serves tells a b old new ends.LinkFault
  ends_reading new reads rose = inl (record {
    taken = so_far.taken;
    rest = d.rest;
    all = all_at new reads;
    inside = so_far.fed.unfinished;
    rose = omega (arith, so_far.later.reads, rose);
  })

  -- a piece was taken and fed, and its frames were asked
  module _ (took new : Link) (c : A) (piece : List ℕ) (d' : Decoding) (frames : List (List ℕ))
      (reads : Reads mid took piece) (most : length piece ≤ 8192) (half : IsWriting took new)
      (writes : took.write_faults ≤ new.write_faults) where
    -- all bytes so far
    abbrev bytes : List ℕ
    bytes = so_far.taken ++ piece

    consumed : Consumes old.left new.left bytes
    consumed = subst (λ l. Consumes old.left l bytes) (sym half.left)
        (Consumes-trans old.left mid.left took.left so_far.taken piece so_far.read reads.read)

    abbrev answered_before : Answered old took so_far.exchanges
    answered_before = record {
      bytes = so_far.answered.bytes;
      cut = so_far.answered.cut;
      written = subst (λ w. Appends old.written w so_far.answered.bytes) (sym reads.written)
          so_far.answered.written;
    }

    still_later : IsLater old new
    still_later = record {
      reads = omega (arith, so_far.later.reads, reads.later, half.reads);
      writes = omega (arith, so_far.later.writes, reads.writes, writes);
    }

    fed_both : Takes d d' piece [] frames
        → Takes fresh d' bytes [] (requests so_far.exchanges ++ frames)
    fed_both t = takes_both fresh d d' so_far.taken piece [] (requests so_far.exchanges)
        (requests so_far.exchanges ++ frames) so_far.fed
        (takes_behind d d' piece (requests so_far.exchanges) frames t)

    stops_both : (place : ℕ) → Stops d d' piece [] frames place
        → Stops fresh d' bytes [] (requests so_far.exchanges ++ frames) place
    stops_both place s = takes_then_stops fresh d d' so_far.taken piece []
        (requests so_far.exchanges) (requests so_far.exchanges ++ frames) place so_far.fed
        (stops_behind d d' piece (requests so_far.exchanges) frames place s)

    -- nothing was fed: all of the piece is left
    cut_unfed : frames ≡ [] → IsCut bytes (requests so_far.exchanges ++ frames) (d.rest ++ piece)
    cut_unfed none =
        subst (λ (l : List (List ℕ)). IsCut bytes l (d.rest ++ piece))
        (sym (append-nil (requests so_far.exchanges))
        ∙ ap (λ (l : List (List ℕ)). requests so_far.exchanges ++ l) (sym none))
        (cut_behind so_far.taken piece (requests so_far.exchanges) d.rest cut_so_far)

    -- what was fed is these frames and some rest
    cut_of : (fed : Result (Unit {0}) FeedFault) → Feeds d d' piece [] frames fed
        → (rest : List ℕ) × IsCut bytes (requests so_far.exchanges ++ frames) rest
    cut_of (Ok done) t =
        let both = fed_both t in
        (d'.rest, subst (λ (l : List (List ℕ)). IsCut bytes l d'.rest) (sym both.appended) both.cut)
    cut_of (Err (feeds.BadFrame place)) (inl s) =
        let both = stops_both place s in
        (both.rest, subst (λ (l : List (List ℕ)). IsCut bytes l both.rest) (sym both.appended) both.cut)
    cut_of (Err (feeds.BadFrame place)) (inr stays) =
        let good = so_far.fed.still_good in let bad = stays.bad in absurd cc
    cut_of (Err feeds.Memory) (same, none) = (d.rest ++ piece, cut_unfed none)

    -- all of these frames were answered
    module _ (them : AnswersThem tells b c took new frames) where
      abbrev exchanges : List Exchange
      exchanges = so_far.exchanges ++ them.exchanges

      all_requests : requests so_far.exchanges ++ frames ≡ requests exchanges
      all_requests =
          ap (λ (l : List (List ℕ)). requests so_far.exchanges ++ l) them.same
          ∙ sym (requests_both so_far.exchanges them.exchanges)

      asked_all : Leads tells a exchanges c
      asked_all = leads_both tells a b c so_far.exchanges them.exchanges so_far.asked them.asked

      answered_all : Answered old new exchanges
      answered_all =
          answered_both old took new so_far.exchanges them.exchanges answered_before them.answered

      abbrev all_with : (rest : List ℕ) → IsCut bytes (requests so_far.exchanges ++ frames) rest
          → AnswersAll tells a c old new bytes rest
      all_with rest cut = record {
        exchanges = exchanges;
        asked = record {
          asked = asked_all;
          read = consumed;
          cut = subst (λ (l : List (List ℕ)). IsCut bytes l rest)
              (all_requests ∙ sym (append-nil (requests exchanges))) cut;
        };
        answered = answered_all;
      }

      pub goes_on : (count' : ℕ) → count' ≡ min (count + length piece) 18446744073709551615
          → (fed : Result (Unit {0}) FeedFault) → Feeds d d' piece [] frames fed
          → SessionGoesOn tells a c old new d' count' (go_on fed)
      goes_on count' counts (Ok done) t = record {
        exchanges = exchanges;
        taken = bytes;
        asked = asked_all;
        answered = answered_all;
        read = consumed;
        fed = subst (Takes fresh d' bytes []) all_requests (fed_both t);
        counted = omega (arith, counts, so_far.counted, length-append so_far.taken piece);
        later = still_later;
      }
      goes_on count' counts (Err (feeds.BadFrame place)) (inl s) =
          let both = stops_both place s in
          let cut : IsCut bytes (requests so_far.exchanges ++ frames) both.rest =
          subst (λ (l : List (List ℕ)). IsCut bytes l both.rest) (sym both.appended) both.cut in
          inl (record {
            taken = bytes;
            rest = both.rest;
            all = all_with both.rest cut;
            bad = both.bad_length;
            stands = both.start ∙ ap (λ (l : List (List ℕ)). later 0 l) (sym both.appended ∙ all_requests);
          })
      goes_on count' counts (Err (feeds.BadFrame place)) (inr stays) =
          let good = so_far.fed.still_good in let bad = stays.bad in absurd cc
      goes_on count' counts (Err feeds.Memory) (same, none) = record {
        taken = bytes;
        part = d.rest;
        piece = piece;
        all = all_with (d.rest ++ piece) (cut_unfed none);
        inside = so_far.fed.unfinished;
        most = most;
      }

    -- the last of these frames that was asked wasn't answered whole
    ends_writing : (fed : Result (Unit {0}) FeedFault) → Feeds d d' piece [] frames fed
        → StopsWriting tells b c took new frames → EndsWriting tells a c old new
    ends_writing fed f s =
        let (rest, cut) = cut_of fed f in
        let before = so_far.exchanges ++ s.before in
        let asked = s.before ++ s.last ∷ [] in
        let one_list : so_far.exchanges ++ asked ≡ before ++ s.last ∷ [] =
        sym (append_assoc so_far.exchanges s.before (s.last ∷ [])) in
        let all : requests so_far.exchanges ++ frames ≡ requests (before ++ s.last ∷ []) ++ s.unasked =
        ap (λ (l : List (List ℕ)). requests so_far.exchanges ++ l) s.same
        ∙ sym (append_assoc (requests so_far.exchanges) (requests asked) s.unasked)
        ∙ ap (λ (l : List (List ℕ)). l ++ s.unasked)
        (sym (requests_both so_far.exchanges asked) ∙ ap (λ (l : List Exchange). requests l) one_list) in
        record {
          before = before;
          last = s.last;
          taken = bytes;
          unasked = s.unasked;
          rest = rest;
          asked = record {
            asked = subst (λ (l : List Exchange). Leads tells a l c) one_list
                (leads_both tells a b c so_far.exchanges asked so_far.asked s.asked);
            read = consumed;
            cut = subst (λ (l : List (List ℕ)). IsCut bytes l rest) all cut;
          };
          bytes = so_far.answered.bytes ++ s.bytes;
          cut = subst (λ (l : List (List ℕ)). IsCut (so_far.answered.bytes ++ s.bytes) l [])
              (sym (map-append (λ (e : Exchange). answer_for e.reply) so_far.exchanges s.before))
              (cut_both so_far.answered.bytes s.bytes (answers so_far.exchanges) (answers s.before)
              so_far.answered.cut s.cut);
          front = s.front;
          written = subst (Appends old.written new.written)
              (sym (append_assoc so_far.answered.bytes s.bytes
              (take s.front (framed (answer_for s.last.reply)))))
              (Appends-trans old.written took.written new.written so_far.answered.bytes
              (s.bytes ++ take s.front (framed (answer_for s.last.reply)))
              answered_before.written s.written);
          rose = omega (arith, so_far.later.writes, reads.writes, s.rose);
        }

    ends_spent : (fed : Result (Unit {0}) FeedFault) → Feeds d d' piece [] frames fed
        → StopsSpent tells b c took new frames → EndsSpent tells a c old new
    ends_spent fed f s =
        let (rest, cut) = cut_of fed f in
        let asked = so_far.exchanges ++ s.exchanges in
        let all : requests so_far.exchanges ++ frames ≡ requests asked ++ (s.request ∷ s.unasked) =
        ap (λ (l : List (List ℕ)). requests so_far.exchanges ++ l) s.same
        ∙ sym (append_assoc (requests so_far.exchanges) (requests s.exchanges) (s.request ∷ s.unasked))
        ∙ ap (λ (l : List (List ℕ)). l ++ (s.request ∷ s.unasked))
        (sym (requests_both so_far.exchanges s.exchanges)) in
        record {
          exchanges = asked;
          taken = bytes;
          request = s.request;
          unasked = s.unasked;
          rest = rest;
          asked = record {
            asked = leads_both tells a b c so_far.exchanges s.exchanges so_far.asked s.asked;
            read = consumed;
            cut = subst (λ (l : List (List ℕ)). IsCut bytes l rest) all cut;
          };
          answered = answered_both old took new so_far.exchanges s.exchanges answered_before s.answered;
          no_more = s.no_more;
        }

    -- these frames weren't all answered
    pub stops_so : (fed : Result (Unit {0}) FeedFault) → Feeds d d' piece [] frames fed → (stop : Stop)
        → AnswersFrames tells b c took new frames (Err stop)
        → Serves tells a c old new (end_of stop)
    stops_so fed f stops.Link s = inr (ends_writing fed f s)
    stops_so fed f stops.Spent s = ends_spent fed f s

-- ---- where it begins

pub begins : {A : Type 0} (tells : AskerTells A) (a : A) (l : Link) → Going tells a a l l fresh 0
begins tells a l = record {
  exchanges = [];
  taken = [];
  asked = refl;
  answered = record {
    bytes = [];
    cut = record { parts = refl; each = tt };
    written = Appends-nil l.written;
  };
  read = Consumes-nil l.left;
  fed = record {
    good = refl;
    frames = [];
    appended = refl;
    cut = record { parts = refl; each = tt };
    unfinished = in_length (omega arith);
    start = refl;
    still_good = refl;
  };
  counted = refl;
  later = record { reads = omega arith; writes = omega arith };
}

-- no memory to begin with
pub wants_at_once : {A : Type 0} (tells : AskerTells A) (a : A) (l : Link) → EndsWanting tells a a l l
wants_at_once tells a l = record {
  taken = [];
  part = [];
  piece = [];
  inside = in_length (omega arith);
  most = omega arith;
  all = record {
    exchanges = [];
    asked = record {
      asked = refl;
      read = Consumes-nil l.left;
      cut = record { parts = refl; each = tt };
    };
    answered = record {
      bytes = [];
      cut = record { parts = refl; each = tt };
      written = Appends-nil l.written;
    };
  };
}
