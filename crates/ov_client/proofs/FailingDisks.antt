-- Where a read ends with a fault of the server's disk, the server replied that its disk failed.
use Rattle.std.proofs.Common.{◌≡◌, ℕ, List, [], ◌∷◌, ◌++◌, length}
use Rattle.std.proofs.Common.{Option, Some, None, Result, Ok, Err, refl, sym, subst, inl, inr}
use Rattle.std.specs.Prelude.{◌⊎◌, ◌+◌, option_map, slice_index_or}
use Rattle.ov_base.specs.declared.limits.TheConstants.{MAX_CHUNK_BYTES}
use Rattle.ov_fields.specs.Fronts.{AreAllBytes}
use Rattle.ov_record.specs.Updates.{SealedUpdate}
use Rattle.ov_history.specs.Catalogue.{Filed}
use Rattle.ov_history.specs.Places.{living_at}
use Rattle.ov_wire.specs.AnswerReading.{answer_of}
use Rattle.ov_wire.specs.Requests.{HasRequestForm, request_bytes}
use Rattle.ov_wire.specs.declared.answer.Answer.{Answer}
use Rattle.ov_wire.specs.declared.answer.Answer.TheVariants as answers
use Rattle.ov_wire.specs.declared.answer.Chained.{Chained}
use Rattle.ov_wire.specs.declared.request.Request.{Request}
use Rattle.ov_wire.specs.declared.request.Request.TheVariants as requests
use Rattle.ov_protocol.specs.Answers.{Answers}
use Rattle.ov_protocol.specs.Reading.{AnswersChunk}
use Rattle.ov_protocol.specs.Replies.{Replies}
use Rattle.ov_protocol.specs.Serving.{Service, Serving, later, served}
use Rattle.ov_protocol.proofs.Reading.{replies_are_read}
use Rattle.ov_peer.specs.Alone.{IsAlone}
use Rattle.ov_peer.specs.Asks.{Ask, EndsAt, Leads}
use Rattle.ov_peer.specs.Tells.{PeerTells}
use Rattle.ov_client.specs.Completeness.{FailsDisk}
use Rattle.ov_client.specs.Readers.{Reader}
use Rattle.ov_client.specs.Reads.{Reads}
use Rattle.ov_client.specs.Talks.{AsksChain, AsksChunk, Closes, Ends, Goes, IsAfter, Moves, Stage}
use Rattle.ov_client.specs.Talks.{after, asked_at}
use Rattle.ov_client.specs.Telling.{chunk_bytes, wrong_field}
use Rattle.ov_client.specs.declared.fault.ClientFault.TheVariants as client
use Rattle.ov_client.proofs.Stages.{HoldsOnTheWay, again_holds, sized_holds, unless_holds}

-- a disk that fails from a later peer on fails from an earlier one on too
pub fails_later : {P : Type 0} (peer : PeerTells P) (p m q : P)
    (request reply : List ℕ)
    → peer.asked p request reply m → FailsDisk peer m q → FailsDisk peer p q
fails_later peer p m q request reply sent f = record {
  earlier = record { request = request; reply = reply } ∷ f.earlier;
  before = f.before;
  leads = (m, sent, f.leads);
  request = f.request;
  reply = f.reply;
  after = f.after;
  asks = f.asks;
  more = f.more;
  goes_on = f.goes_on;
  service = f.service;
  serving = f.serving;
  made = f.made;
  fault = f.fault;
}

-- a stage that isn't the end by a fault of the disk
abbrev IsOther : Stage → Type 0
IsOther (Ends (Err client.Device)) = ⊥
IsOther stage = Unit {0}

on_the_way : HoldsOnTheWay IsOther
on_the_way = record {
  chain = λ tries least. tt;
  chunk = λ tries c stored. tt;
  done = λ bytes. tt;
  damaged = λ stored computed. tt;
  bad = λ place. tt;
  unsettled = λ generations. tt;
}

chain_other : (r : Reader) (tries : List ℕ) (least : ℕ) (a : Answer)
    → IsOther (after r (AsksChain tries least) (Ok a))
chain_other r tries least (answers.Chained c) =
    unless_holds r IsOther on_the_way tries (wrong_field r least c) c
chain_other r tries least (answers.Refused why) = tt
chain_other r tries least answers.NoMemory = tt
chain_other r tries least a = tt

no_fault : (o : Option Filed) (told : Option (List ℕ)) (generation start count : ℕ)
    → AnswersChunk o told generation start count answers.DeviceFault → ⊥
no_fault None told generation start count is = cc is
no_fault (Some f) told generation start count is = is

-- no answer by what is shown says that the disk failed
chunk_other : (s : Serving) (r : Reader) (tries : List ℕ) (c : Chained) (stored : List ℕ)
    (a : Answer)
    → Answers s (requests.Chunk c.file c.generation (length stored) MAX_CHUNK_BYTES) a
    → IsOther (after r (AsksChunk tries c stored) (Ok a))
chunk_other s r tries c stored (answers.Bytes bytes) is =
    sized_holds r IsOther on_the_way tries c stored (chunk_bytes c.length (length stored)) bytes
chunk_other s r tries c stored (answers.Moved now) is =
    again_holds r IsOther on_the_way (tries ++ c.generation ∷ []) now
chunk_other s r tries c stored (answers.Refused why) is =
    again_holds r IsOther on_the_way (tries ++ c.generation ∷ []) (c.generation + 1)
chunk_other s r tries c stored answers.DeviceFault is =
    absurd (no_fault (living_at s.catalogue.files c.file)
    (option_map (λ bytes. slice_index_or bytes c.file []) s.stored) c.generation (length stored)
    MAX_CHUNK_BYTES is)
chunk_other s r tries c stored answers.NoMemory is = tt
chunk_other s r tries c stored a is = tt

module _ {P : Type 0} (peer : PeerTells P)
    (alone : IsAlone peer) (r : Reader) (file : List ℕ) where
  read_other : (v : Service) (stage : Stage) (request : Request) (reply : List ℕ)
      (made : List SealedUpdate) (read : Result Answer ℕ)
      → asked_at r file stage ≡ Some request → HasRequestForm request
      → AreAllBytes reply → answer_of request reply ≡ read
      → Replies (served v) (request_bytes request) reply made
      → IsOther (after r stage read)
  read_other v (Ends result) request reply made read due form bytes reads replies =
      absurd (cc due)
  read_other v (AsksChain tries least) request reply made (Err place) due form bytes reads replies =
      tt
  read_other v (AsksChunk tries c stored) request reply made (Err place) due form bytes reads
      replies =
      tt
  read_other v (AsksChain tries least) request reply made (Ok a) due form bytes reads replies =
      chain_other r tries least a
  read_other v (AsksChunk tries c stored) request reply made (Ok a) due form bytes reads replies =
      let same : request ≡ requests.Chunk c.file c.generation (length stored) MAX_CHUNK_BYTES =
      cc due in
      chunk_other (served v) r tries c stored a
      (subst (λ (x : Request). Answers (served v) x a) same
      (replies_are_read (served v) request reply made a bytes form replies reads).0)

  move_other : (v : Service) (stage next : Stage) (a : Ask) (made : List SealedUpdate)
      (moves : Moves r file stage a next)
      → Replies (served v) a.request a.reply made → IsOther next
  move_other v stage next a made moves replies = by moves.reads where
    at_it : Replies (served v) (request_bytes moves.asks.request) a.reply made
    at_it = subst (λ (f : List ℕ). Replies (served v) f a.reply made) moves.asks.spelled replies

    by : (IsAfter r stage moves.asks.request a.reply next)
        ⊎ (next ≡ Ends (Err client.Memory))
        → IsOther next
    by (inr memory) = subst IsOther (sym memory) tt
    by (inl moved) =
        subst IsOther (sym moved.moves)
        (read_other v stage moves.asks.request a.reply made
        (answer_of moves.asks.request a.reply) moves.asks.is_asked moves.asks.form moved.bytes refl
        at_it)

  goes_fails : (asks : List Ask) (stage : Stage) (p q : P) (v : Service) → IsOther stage
      → Goes r file stage asks (Ends (Err client.Device)) → Leads peer p asks q
      → peer.serves p v → FailsDisk peer p q
  goes_fails [] stage p q v other goes leads serving = absurd (subst IsOther goes other)
  goes_fails (a ∷ asks) stage p q v other (next, moves, goes) (n, one, rest) serving =
      let (made, at_v, goes_on) = alone p n a.request a.reply v one serving in
      elim at_v [
        | inl replies ↦ fails_later peer p n q a.request a.reply one
            (goes_fails asks next n q (later v made)
            (move_other v stage next a made moves replies) goes rest goes_on)
        | inr fault ↦ record {
          earlier = [];
          before = p;
          leads = refl;
          request = a.request;
          reply = a.reply;
          after = n;
          asks = one;
          more = asks;
          goes_on = rest;
          service = v;
          serving = serving;
          made = made;
          fault = fault;
        }
      ]

  ends_there : (final : Stage) (o : Option (List ℕ)) (m q : P)
      → Closes r file final o (Err client.Device) → EndsAt peer m o q
      → (final ≡ Ends (Err client.Device)) × (m ≡ q)
  ends_there final None m q (inl e) ends = (e, ends)
  ends_there final None m q (inr e) ends = absurd (cc e)
  ends_there final (Some frame) m q (due, inl e) ends = absurd (cc e)
  ends_there final (Some frame) m q (due, inr e) ends = absurd (cc e)

  -- a read that ends so was replied that the disk failed
  pub read_fails : (p q : P) (v : Service) → Reads peer p q r file (Err client.Device)
      → peer.serves p v → FailsDisk peer p q
  read_fails p q v (asks, unanswered, (m, leads, ends), (final, goes, closes)) serving =
      let both = ends_there final unanswered m q closes ends in
      subst (FailsDisk peer p) both.1
      (goes_fails asks (AsksChain [] 0) p m v tt
      (subst (λ (s : Stage). Goes r file (AsksChain [] 0) asks s) both.0 goes) leads
      serving)
