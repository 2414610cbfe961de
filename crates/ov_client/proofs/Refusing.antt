-- A read is refused exactly where a Chain was.
use Rattle.std.proofs.Common.{◌≡◌, ◌∙◌, ◌⊎◌, ◌+◌, ℕ, List, [], ◌∷◌, ◌++◌, length}
use Rattle.std.proofs.Common.{Option, Some, None, Result, Ok, Err, refl, sym, ap, subst, inl, inr}
use Rattle.std.proofs.Common.{arith, get_or}
use Rattle.ov_base.specs.declared.limits.TheConstants.{MAX_CHUNK_BYTES}
use Rattle.ov_base.specs.declared.refusal.Refusal.{Refusal}
use Rattle.ov_wire.specs.AnswerReading.{answer_of}
use Rattle.ov_wire.specs.Requests.{request_bytes}
use Rattle.ov_wire.specs.declared.answer.Answer.{Answer}
use Rattle.ov_wire.specs.declared.answer.Answer.TheVariants as answers
use Rattle.ov_wire.specs.declared.answer.Chained.{Chained}
use Rattle.ov_wire.specs.declared.request.Request.{Request}
use Rattle.ov_wire.specs.declared.request.Request.TheVariants as requests
use Rattle.ov_peer.specs.Asks.{Ask}
use Rattle.ov_client.specs.Readers.{Reader}
use Rattle.ov_client.specs.Refusing.{EndsRefused, IsRefusedChain, RefusalsAreOfChains}
use Rattle.ov_client.specs.Refusing.{RefusedChainsEndReads}
use Rattle.ov_client.specs.Talks.{AsksChain, AsksChunk, Closes, Ends, Goes, IsAfter, Moves, Stage}
use Rattle.ov_client.specs.Talks.{after, asked_at}
use Rattle.ov_client.specs.Telling.{chunk_bytes, wrong_field}
use Rattle.ov_client.specs.declared.fault.ClientFault.{ClientFault}
use Rattle.ov_client.specs.declared.fault.ClientFault.TheVariants as client
use Rattle.ov_client.proofs.Stages.{HoldsOnTheWay, again_holds, sized_holds, unless_holds}

-- a stage that isn't the end by a refusal
abbrev IsUnrefused : Stage → Type 0
IsUnrefused (Ends (Err (client.Refused why))) = ⊥
IsUnrefused stage = Unit {0}

on_the_way : HoldsOnTheWay IsUnrefused
on_the_way = record {
  chain = λ tries least. tt;
  chunk = λ tries c stored. tt;
  done = λ bytes. tt;
  damaged = λ stored computed. tt;
  bad = λ place. tt;
  unsettled = λ generations. tt;
}

-- no answer to a Chunk refuses the read
chunk_unrefused : (r : Reader) (tries : List ℕ) (c : Chained) (stored : List ℕ) (a : Answer)
    → IsUnrefused (after r (AsksChunk tries c stored) (Ok a))
chunk_unrefused r tries c stored (answers.Bytes bytes) =
    sized_holds r IsUnrefused on_the_way tries c stored (chunk_bytes c.length (length stored)) bytes
chunk_unrefused r tries c stored (answers.Moved now) =
    again_holds r IsUnrefused on_the_way (tries ++ c.generation ∷ []) now
chunk_unrefused r tries c stored (answers.Refused why) =
    again_holds r IsUnrefused on_the_way (tries ++ c.generation ∷ []) (c.generation + 1)
chunk_unrefused r tries c stored answers.DeviceFault = tt
chunk_unrefused r tries c stored answers.NoMemory = tt
chunk_unrefused r tries c stored a = tt

-- an answer to a Chain that refuses the read is a refusal
chain_unrefused : (r : Reader) (tries : List ℕ) (least : ℕ) (a : Answer)
    → IsUnrefused (after r (AsksChain tries least) (Ok a))
    ⊎ ((why : Refusal) × (a ≡ answers.Refused why))
chain_unrefused r tries least (answers.Chained c) =
    inl (unless_holds r IsUnrefused on_the_way tries (wrong_field r least c) c)
chain_unrefused r tries least (answers.Refused why) = inr (why, refl)
chain_unrefused r tries least answers.NoMemory = inl tt
chain_unrefused r tries least a = inl tt

module _ (r : Reader) (file : List ℕ) where
  abbrev chain : Request
  chain = requests.Chain r.name file

  -- the stage isn't the end by a refusal, or the ask before it was a Chain that was refused
  abbrev ComesTo : Ask → Stage → Type 0
  ComesTo a next =
      IsUnrefused next
      ⊎ ((why : Refusal) × (next ≡ Ends (Err (client.Refused why)))
      × IsRefusedChain r file why a)

  chain_comes : (tries : List ℕ) (least : ℕ) (a : Ask) (next : Stage) (read : Result Answer ℕ)
      → a.request ≡ request_bytes chain → answer_of chain a.reply ≡ read
      → after r (AsksChain tries least) read ≡ next → ComesTo a next
  chain_comes tries least a next (Err place) asked reads goes = inl (subst IsUnrefused goes tt)
  chain_comes tries least a next (Ok answer) asked reads goes =
      elim (chain_unrefused r tries least answer) [
        | inl other ↦ inl (subst IsUnrefused goes other)
        | inr (why, is) ↦
            inr (
              why,
              sym goes ∙ ap (λ (x : Answer). after r (AsksChain tries least) (Ok x)) is,
              record { asked = asked; refused = reads ∙ ap (λ (x : Answer). Ok x) is },
            )
      ]

  chunk_comes : (tries : List ℕ) (c : Chained) (stored : List ℕ) (a : Ask) (next : Stage)
      (read : Result Answer ℕ)
      → after r (AsksChunk tries c stored) read ≡ next → ComesTo a next
  chunk_comes tries c stored a next (Err place) goes = inl (subst IsUnrefused goes tt)
  chunk_comes tries c stored a next (Ok answer) goes =
      inl (subst IsUnrefused goes (chunk_unrefused r tries c stored answer))

  -- the stage after an ask
  asked_comes : (stage next : Stage) (a : Ask) → Moves r file stage a next → ComesTo a next
  asked_comes stage next a moves = by_read moves.reads where
    by_stage : (s : Stage) → s ≡ stage → IsAfter r stage moves.asks.request a.reply next
        → ComesTo a next
    by_stage (AsksChain tries least) is moved =
        let request : chain ≡ moves.asks.request = cc
        (ap (asked_at r file) is, moves.asks.is_asked) in
        chain_comes tries least a next (answer_of chain a.reply)
        (moves.asks.spelled ∙ ap request_bytes (sym request)) refl
        ((λ i. after r (is i) (answer_of (request i) a.reply)) ∙ sym moved.moves)
    by_stage (AsksChunk tries c stored) is moved =
        let chunk : Request = requests.Chunk c.file c.generation (length stored)
        MAX_CHUNK_BYTES in
        let request : chunk ≡ moves.asks.request = cc
        (ap (asked_at r file) is, moves.asks.is_asked) in
        chunk_comes tries c stored a next (answer_of chunk a.reply)
        ((λ i. after r (is i) (answer_of (request i) a.reply)) ∙ sym moved.moves)
    by_stage (Ends result) is moved =
        absurd (let none = ap (asked_at r file) is in cc (none, moves.asks.is_asked))

    by_read : (IsAfter r stage moves.asks.request a.reply next)
        ⊎ (next ≡ Ends (Err client.Memory))
        → ComesTo a next
    by_read (inl moved) = by_stage stage refl moved
    by_read (inr memory) = inl (subst IsUnrefused (sym memory) tt)

  -- nothing is asked after a refusal
  last_ask : (asks : List Ask) (a : Ask) (next : Stage) (first why : Refusal)
      → next ≡ Ends (Err (client.Refused first)) → IsRefusedChain r file first a
      → Goes r file next asks (Ends (Err (client.Refused why))) → EndsRefused r file why (a ∷ asks)
  last_ask [] a next first why ended is goes =
      let both : Ends (Err (client.Refused first)) ≡ Ends (Err (client.Refused why)) =
      sym ended ∙ goes in
      let same : first ≡ why = cc both in
      ([], a, refl, subst (λ (w : Refusal). IsRefusedChain r file w a) same is)
  last_ask (b ∷ asks) a next first why ended is (later, moves, goes) =
      absurd (let none = ap (asked_at r file) ended in cc (none, moves.asks.is_asked))

  goes_refused : (asks : List Ask) (stage : Stage) (why : Refusal) → IsUnrefused stage
      → Goes r file stage asks (Ends (Err (client.Refused why))) → EndsRefused r file why asks
  goes_refused [] stage why other goes = absurd (subst IsUnrefused goes other)
  goes_refused (a ∷ asks) stage why other (next, moves, goes) =
      elim (asked_comes stage next a moves) [
        | inl still ↦
            let (before, last, are, is) = goes_refused asks next why still goes in
            (a ∷ before, last, ap (λ (all : List Ask). a ∷ all) are, is)
        | inr (first, ended, is) ↦ last_ask asks a next first why ended is goes
      ]

  closed_so : (last : Stage) (unanswered : Option (List ℕ)) (why : Refusal)
      → Closes r file last unanswered (Err (client.Refused why))
      → last ≡ Ends (Err (client.Refused why))
  closed_so last None why (inl is) = is
  closed_so last None why (inr memory) = absurd (cc memory)
  closed_so last (Some frame) why (due, inl link) = absurd (cc link)
  closed_so last (Some frame) why (due, inr memory) = absurd (cc memory)

  -- ---- the other way round

  -- what follows a Chain that is refused is the end by this refusal, or memory ran out
  refused_ends : (stage next : Stage) (a : Ask) (why : Refusal) → Moves r file stage a next
      → IsRefusedChain r file why a
      → (next ≡ Ends (Err (client.Refused why))) ⊎ (next ≡ Ends (Err client.Memory))
  refused_ends stage next a why moves is = by_read moves.reads where
    by_stage : (s : Stage) → s ≡ stage → IsAfter r stage moves.asks.request a.reply next
        → next ≡ Ends (Err (client.Refused why))
    by_stage (AsksChain tries least) same moved =
        let request : chain ≡ moves.asks.request = cc
        (ap (asked_at r file) same, moves.asks.is_asked) in
        let goes : after r (AsksChain tries least) (answer_of chain a.reply) ≡ next =
        (λ i. after r (same i) (answer_of (request i) a.reply)) ∙ sym moved.moves in
        sym goes
        ∙ ap (λ (read : Result Answer ℕ). after r (AsksChain tries least) read) is.refused
    by_stage (AsksChunk tries c stored) same moved =
        let chunk : Request = requests.Chunk c.file c.generation (length stored)
        MAX_CHUNK_BYTES in
        let request : chunk ≡ moves.asks.request = cc
        (ap (asked_at r file) same, moves.asks.is_asked) in
        let bytes : request_bytes chunk ≡ request_bytes chain =
        ap request_bytes request ∙ sym moves.asks.spelled ∙ is.asked in
        let kinds : 6 ≡ 5 = ap (λ (l : List ℕ). get_or l 0 0) bytes in
        absurd (omega (arith, kinds))
    by_stage (Ends result) same moved =
        absurd (let none = ap (asked_at r file) same in cc (none, moves.asks.is_asked))

    by_read : (IsAfter r stage moves.asks.request a.reply next)
        ⊎ (next ≡ Ends (Err client.Memory))
        → (next ≡ Ends (Err (client.Refused why))) ⊎ (next ≡ Ends (Err client.Memory))
    by_read (inl moved) = inl (by_stage stage refl moved)
    by_read (inr memory) = inr memory

  -- nothing is asked at an end, and its result is the read's, or memory ran out
  ends_there : (asks : List Ask) (stage last : Stage) (ended result : Result (List ℕ) ClientFault)
      (unanswered : Option (List ℕ)) → stage ≡ Ends ended → Goes r file stage asks last
      → Closes r file last unanswered result
      → (asks ≡ []) × ((result ≡ ended) ⊎ (result ≡ Err client.Memory))
  ends_there [] stage last ended result None is goes (inl closed) =
      let both : Ends ended ≡ Ends result = sym is ∙ goes ∙ closed in
      let same : ended ≡ result = cc both in
      (refl, inl (sym same))
  ends_there [] stage last ended result None is goes (inr memory) = (refl, inr memory)
  ends_there [] stage last ended result (Some frame) is goes (due, cut) =
      absurd (let none = ap (asked_at r file) (sym is ∙ goes) in cc (none, due.is_asked))
  ends_there (b ∷ asks) stage last ended result unanswered is (next, moves, goes) closes =
      absurd (let none = ap (asked_at r file) is in cc (none, moves.asks.is_asked))

  goes_ends : (before rest : List Ask) (a : Ask) (stage last : Stage) (why : Refusal)
      (unanswered : Option (List ℕ)) (result : Result (List ℕ) ClientFault)
      → Goes r file stage (before ++ a ∷ rest) last → Closes r file last unanswered result
      → IsRefusedChain r file why a
      → (rest ≡ []) × ((result ≡ Err (client.Refused why)) ⊎ (result ≡ Err client.Memory))
  goes_ends [] rest a stage last why unanswered result (next, moves, goes) closes is =
      elim (refused_ends stage next a why moves is) [
        | inl refused ↦
            ends_there rest next last (Err (client.Refused why)) result unanswered refused goes
            closes
        | inr memory ↦
            let (none, how) =
            ends_there rest next last (Err client.Memory) result unanswered memory goes closes in (
              none,
              inr (elim how [
                | inl at_once ↦ at_once
                | inr later ↦ later
              ]),
            )
      ]
  goes_ends (b ∷ before) rest a stage last why unanswered result (next, moves, goes) closes is =
      goes_ends before rest a next last why unanswered result goes closes is

pub refusals_are_of_chains : RefusalsAreOfChains
refusals_are_of_chains r file asks unanswered why (last, goes, closes) =
    goes_refused r file asks (AsksChain [] 0) why tt
    (subst (λ (s : Stage). Goes r file (AsksChain [] 0) asks s)
    (closed_so r file last unanswered why closes) goes)

pub refused_chains_end_reads : RefusedChainsEndReads
refused_chains_end_reads r file before rest a unanswered why result (last, goes, closes) is =
    goes_ends r file before rest a (AsksChain [] 0) last why unanswered result goes closes is
