-- The generations of tries in which a file moved or was removed rise.
use Rattle.std.proofs.Common.{◌≡◌, ℕ, ◌+◌, ◌<◌, ◌≤◌, List, [], ◌∷◌, ◌++◌, length, length-append}
use Rattle.std.proofs.Common.{Option, Some, None, Result, Ok, Err, refl, sym, subst, inl, inr}
use Rattle.std.proofs.Common.{arith, lit<}
use Rattle.std.specs.Prelude.{nat_lt, ◌==◌, Bool, true, false, ◌⊎◌, if◌then◌else◌, min, bytes_eq}
use Rattle.std.proofs.lemmas.Bool.Decides.{nat_tests}
use Rattle.ov_base.specs.declared.limits.TheConstants.{MAX_CHUNK_BYTES}
use Rattle.ov_fields.specs.Fronts.{AreAllBytes}
use Rattle.ov_surface.specs.Tags.{tag_of_file}
use Rattle.ov_wire.specs.declared.answer.Answer.{Answer}
use Rattle.ov_wire.specs.declared.answer.Answer.TheVariants as answers
use Rattle.ov_wire.specs.declared.answer.Chained.{Chained}
use Rattle.ov_wire.specs.declared.request.Request.{Request}
use Rattle.ov_wire.specs.declared.request.Request.TheVariants as requests
use Rattle.ov_wire.specs.AnswerReading.{answer_of}
use Rattle.ov_wire.specs.AnswersTo.{IsAnswer}
use Rattle.ov_peer.specs.Asks.{Ask}
use Rattle.ov_client.specs.Readers.{Reader, judged, keys_along, uncovered}
use Rattle.ov_client.specs.Rising.{MovedGenerationsRise, Rises}
use Rattle.ov_client.specs.Talks.{AsksChain, AsksChunk, Closes, Ends, Goes, IsAfter, Moves, Stage}
use Rattle.ov_client.specs.Talks.{after, after_fetched, asked_at, goes_on, then_or}
use Rattle.ov_client.specs.Telling.{chained_unless, chunk_bytes, generation_place, wrong_field}
use Rattle.ov_client.specs.Telling.{base_root_place, wrong_surface}
use Rattle.ov_client.specs.declared.fault.ClientFault.TheVariants as client
use Rattle.ov_client.specs.declared.reading.TheConstants.{TRIES}
use Rattle.ov_client.specs.declared.telling.Fetched.TheVariants.{Bytes}
use Rattle.ov_client.proofs.Answering.{answer_is}

-- a last number that isn't lower
pub rises_up : (xs : List ℕ) (n m : ℕ) → Rises (xs ++ n ∷ []) → n ≤ m → Rises (xs ++ m ∷ [])
rises_up [] n m rises le = tt
rises_up (x ∷ []) n m (lt, rises) le = (omega arith, tt)
rises_up (x ∷ (y ∷ xs)) n m (lt, rises) le = (lt, rises_up (y ∷ xs) n m rises le)

-- a higher number behind numbers that rise
pub rises_more : (xs : List ℕ) (n m : ℕ) → Rises (xs ++ n ∷ []) → n < m
    → Rises ((xs ++ n ∷ []) ++ m ∷ [])
rises_more [] n m rises lt = (lt, tt)
rises_more (x ∷ []) n m (less, rises) lt = (less, rises_more [] n m rises lt)
rises_more (x ∷ (y ∷ xs)) n m (less, rises) lt = (less, rises_more (y ∷ xs) n m rises lt)

abbrev AllRise : List ℕ → Type 0
AllRise generations = (length generations ≡ TRIES) × Rises generations

-- where no field of a Chained is wrong, its generation isn't below the least
not_below : (r : Reader) (least : ℕ) (c : Chained) → wrong_field r least c ≡ None
    → least ≤ c.generation
not_below r least c none = by_test (nat_lt c.generation least) refl none where
  by_test : (b : Bool) → nat_lt c.generation least ≡ b
      → (if b then Some generation_place
      else if c.base.root == r.base_root then wrong_surface r (length c.base.steps) c.surface
      else Some base_root_place) ≡ None
      → least ≤ c.generation
  by_test true is wrong = absurd cc
  by_test false is right = grind (arith, nat_tests)

module _ (r : Reader) (file : List ℕ) where
  -- the tries so far rise, and so does what comes next
  abbrev Rising : Stage → Type 0
  Rising (AsksChain tries least) = Rises (tries ++ least ∷ []) × (length tries < TRIES)
  Rising (AsksChunk tries c stored) = Rises (tries ++ c.generation ∷ []) × (length tries < TRIES)
  Rising (Ends result) = (gs : List ℕ) → result ≡ Err (client.Unsettled gs) → AllRise gs

  judged_rising : (b : Bool) (c : Chained) (bytes computed : List ℕ)
      → Rising (Ends (if b then Ok bytes else Err (client.Damaged c.tag computed)))
  judged_rising true c bytes computed = λ gs wrong. absurd (cc wrong)
  judged_rising false c bytes computed = λ gs wrong. absurd (cc wrong)

  on_rising : (b : Bool) (tries : List ℕ) (c : Chained) (stored : List ℕ)
      → Rises (tries ++ c.generation ∷ []) → length tries < TRIES
      → Rising (if b then AsksChunk tries c stored
      else Ends (judged (keys_along r c) c (uncovered (keys_along r c) c.file 0 stored)))
  on_rising true tries c stored rises few = (rises, few)
  on_rising false tries c stored rises few =
      let plain = uncovered (keys_along r c) c.file 0 stored in
      let computed = tag_of_file (keys_along r c).access c.file plain in
      judged_rising (bytes_eq computed c.tag) c plain computed

  chained_rising : (o : Option ℕ) (tries : List ℕ) (least : ℕ) (c : Chained)
      → wrong_field r least c ≡ o → Rises (tries ++ least ∷ []) → length tries < TRIES
      → Rising (then_or (λ (d : Chained). goes_on r tries d []) (chained_unless o c))
  chained_rising None tries least c is rises few =
      on_rising (nat_lt 0 c.length) tries c []
      (rises_up tries least c.generation rises (not_below r least c is)) few
  chained_rising (Some place) tries least c is rises few = λ gs wrong. absurd (cc wrong)

  chain_rising : (a : Answer) (tries : List ℕ) (least : ℕ) → Rises (tries ++ least ∷ [])
      → length tries < TRIES → Rising (after r (AsksChain tries least) (Ok a))
  chain_rising (answers.Chained c) tries least rises few =
      chained_rising (wrong_field r least c) tries least c refl rises few
  chain_rising (answers.Refused why) tries least rises few = λ gs wrong. absurd (cc wrong)
  chain_rising answers.NoMemory tries least rises few = λ gs wrong. absurd (cc wrong)
  chain_rising a tries least rises few = λ gs wrong. absurd (cc wrong)

  again_rising : (b : Bool) (tries : List ℕ) (g now : ℕ)
      → (length (tries ++ g ∷ []) == TRIES) ≡ b
      → Rises (tries ++ g ∷ []) → length tries < TRIES → g < now
      → Rising (if b then Ends (Err (client.Unsettled (tries ++ g ∷ [])))
      else AsksChain (tries ++ g ∷ []) now)
  again_rising true tries g now is rises few lt =
      let all : length (tries ++ g ∷ []) ≡ TRIES = grind (arith, nat_tests) in
      λ gs same. let these : tries ++ g ∷ [] ≡ gs = cc in subst AllRise these (all, rises)
  again_rising false tries g now is rises few lt =
      let one = length-append tries (g ∷ []) in
      let few_yet : length (tries ++ g ∷ []) < TRIES = grind (arith, nat_tests, one) in
      (rises_more tries g now rises lt, few_yet)

  sized_rising : (b : Bool) (tries : List ℕ) (c : Chained) (stored bytes : List ℕ) (place : ℕ)
      → Rises (tries ++ c.generation ∷ []) → length tries < TRIES
      → Rising (then_or (after_fetched r tries c stored)
      (if b then Ok (Bytes bytes) else Err (client.BadReply place)))
  sized_rising true tries c stored bytes place rises few =
      on_rising (nat_lt (length (stored ++ bytes)) c.length) tries c (stored ++ bytes) rises few
  sized_rising false tries c stored bytes place rises few = λ gs wrong. absurd (cc wrong)

  chunk_rising : (a : Answer) (tries : List ℕ) (c : Chained) (stored : List ℕ)
      → IsAnswer (requests.Chunk c.file c.generation (length stored) MAX_CHUNK_BYTES) a
      → Rises (tries ++ c.generation ∷ []) → length tries < TRIES
      → Rising (after r (AsksChunk tries c stored) (Ok a))
  chunk_rising (answers.Bytes bytes) tries c stored is rises few =
      let count = chunk_bytes c.length (length stored) in
      sized_rising (length bytes == count) tries c stored bytes (1 + min (length bytes) count)
      rises few
  chunk_rising (answers.Moved now) tries c stored is rises few =
      again_rising (length (tries ++ c.generation ∷ []) == TRIES) tries c.generation now refl rises
      few is.0
  chunk_rising (answers.Refused why) tries c stored is rises few =
      again_rising (length (tries ++ c.generation ∷ []) == TRIES) tries c.generation
      (c.generation + 1) refl rises few (omega arith)
  chunk_rising answers.DeviceFault tries c stored is rises few = λ gs wrong. absurd (cc wrong)
  chunk_rising answers.NoMemory tries c stored is rises few = λ gs wrong. absurd (cc wrong)
  chunk_rising a tries c stored is rises few = λ gs wrong. absurd (cc wrong)

  read_rising : (stage : Stage) (request : Request) (reply : List ℕ) (read : Result Answer ℕ)
      → Rising stage → asked_at r file stage ≡ Some request → AreAllBytes reply
      → answer_of request reply ≡ read → Rising (after r stage read)
  read_rising (Ends result) request reply read rising due bytes reads = rising
  read_rising (AsksChain tries least) request reply (Err place) rising due bytes reads =
      λ gs wrong. absurd (cc wrong)
  read_rising (AsksChunk tries c stored) request reply (Err place) rising due bytes reads =
      λ gs wrong. absurd (cc wrong)
  read_rising (AsksChain tries least) request reply (Ok a) (rises, few) due bytes reads =
      chain_rising a tries least rises few
  read_rising (AsksChunk tries c stored) request reply (Ok a) (rises, few) due bytes reads =
      let chunk : Request = requests.Chunk c.file c.generation (length stored) MAX_CHUNK_BYTES in
      let ours : request ≡ chunk = cc due in
      chunk_rising a tries c stored
      (subst (λ (x : Request). IsAnswer x a) ours (answer_is request reply a bytes reads)) rises few

  moves_rising : (stage : Stage) (a : Ask) (next : Stage) → Rising stage
      → Moves r file stage a next → Rising next
  moves_rising stage a next rising moves = by_read moves.reads where
    by_read : (IsAfter r stage moves.asks.request a.reply next)
        ⊎ (next ≡ Ends (Err client.Memory))
        → Rising next
    by_read (inl moved) =
        subst Rising (sym moved.moves)
        (read_rising stage moves.asks.request a.reply (answer_of moves.asks.request a.reply) rising
        moves.asks.is_asked moved.bytes refl)
    by_read (inr memory) = subst Rising (sym memory) (λ gs wrong. absurd (cc wrong))

  goes_rising : (stage last : Stage) (asks : List Ask) → Rising stage
      → Goes r file stage asks last → Rising last
  goes_rising stage last [] rising same = subst Rising same rising
  goes_rising stage last (a ∷ asks) rising (next, moves, goes) =
      goes_rising next last asks (moves_rising stage a next rising moves) goes

  ends_rising : (last : Stage) (o : Option (List ℕ)) (gs : List ℕ) → Rising last
      → Closes r file last o (Err (client.Unsettled gs)) → AllRise gs
  ends_rising last None gs rising (inl is) =
      let at_end : Rising (Ends (Err (client.Unsettled gs))) = subst Rising is rising in
      at_end gs refl
  ends_rising last None gs rising (inr memory) = absurd (cc memory)
  ends_rising last (Some frame) gs rising (due, inl link) = absurd (cc link)
  ends_rising last (Some frame) gs rising (due, inr memory) = absurd (cc memory)

pub generations_rise : MovedGenerationsRise
generations_rise r file asks unanswered gs (last, goes, closes) =
    ends_rising r file last unanswered gs
    (goes_rising r file (AsksChain [] 0) last asks (tt, lit< tt) goes) closes
