-- The stages of a read at a history that nobody changes.
use Rattle.std.proofs.Common.{◌≡◌, ◌∙◌, ◌≤◌, ◌+◌, ℕ, Bool, true, false}
use Rattle.std.proofs.Common.{List, [], ◌++◌, length, take, drop, Option, Some, None}
use Rattle.std.proofs.Common.{Ok, Err, refl, sym, ap, subst, arith, append_assoc}
use Rattle.std.proofs.Common.{eq-eqb, length-append}
use Rattle.std.specs.Prelude.{min, nat_lt, if◌then◌else◌, slice_index_or}
use Rattle.std.proofs.Math.Seq.{drop-append_seam}
use Rattle.std.proofs.lemmas.List.{length-take, take-append-drop}
use Rattle.ov_base.proofs.Tests.{ge_of_false}
use Rattle.ov_base.specs.declared.limits.TheConstants.{MAX_CHUNK_BYTES}
use Rattle.ov_base.specs.Sets.{has}
use Rattle.std.specs.Prelude.{slice_index}
use Rattle.ov_history.specs.Asking.{file_named, user_named}
use Rattle.ov_history.specs.Catalogue.{Catalogue, matrix_shown}
use Rattle.ov_history.specs.History.{Matrix, matrix_of}
use Rattle.ov_history.specs.Layers.{root_of}
use Rattle.ov_history.specs.Lists.{user_number}
use Rattle.ov_history.specs.Masters.{Masters}
use Rattle.ov_history.specs.Plain.{PlainHistory, history_of}
use Rattle.ov_history.specs.Refusals.{IsLegal, read_refusal}
use Rattle.ov_history.specs.Sealed.{catalogue_of, stored_of}
use Rattle.ov_history.specs.Sealing.{sealed}
use Rattle.ov_history.proofs.Keeping.{kept_shows}
use Rattle.ov_wire.specs.declared.request.Request.TheVariants as requests
use Rattle.ov_wire.specs.declared.answer.Answer.{Answer}
use Rattle.ov_wire.specs.declared.answer.Answer.TheVariants as answers
use Rattle.ov_wire.specs.declared.answer.Chained.{Chained}
use Rattle.ov_wire.specs.AnswerForm.{HasAnswerForm}
use Rattle.ov_wire.specs.AnswersTo.{IsAnswer}
use Rattle.ov_protocol.specs.Reading.{AnswersChain, AnswersChunk, IsChainedFor}
use Rattle.ov_client.specs.Laws.{HasRoots, HoldsRootKeys, IsAnsweredOrCut}
use Rattle.ov_client.specs.Readers.{Reader, judged, keys_along, uncovered}
use Rattle.ov_client.specs.Talks.{AsksChain, AsksChunk, Ends, Stage}
use Rattle.ov_client.specs.Talks.{after, after_fetched, goes_on, then_or}
use Rattle.ov_client.specs.Telling.{chained_unless, chunk_bytes, wrong_field}
use Rattle.ov_client.specs.declared.fault.ClientFault.TheVariants as client
use Rattle.ov_client.specs.declared.telling.Fetched.TheVariants.{Bytes}
use Rattle.ov_client.proofs.Leading.{BeginsAt}
use Rattle.ov_client.proofs.Opening.{judged_is, length_is, there}
use Rattle.ov_client.proofs.Staying.{IsIn, file_in}
use Rattle.ov_client.proofs.Fields.{no_rest, right_field}
use Rattle.ov_client.proofs.ReadingBack.{base_begins, surface_begins}

module _ (k : Masters) (r : Reader) (file : List ℕ) (p : PlainHistory)
    (legal : IsLegal (history_of p)) (holds : HoldsRootKeys k r) (roots : HasRoots p r) where
  abbrev pub s : Catalogue
  s = catalogue_of k.surface (sealed k p)

  abbrev pub u : ℕ
  u = user_named s r.name

  abbrev pub n : ℕ
  n = file_named s file

  -- the chains to the file were told, and these stored bytes are a front of its own
  pub record IsFetching (c : Chained) (stored : List ℕ) : Type 0 where
    pub allowed : read_refusal (matrix_shown s) u n ≡ None
    pub told : IsChainedFor s u n c
    pub base : c.base.root ≡ r.base_root
    pub surface : BeginsAt r.surface_root c.surface
    pub rest : List ℕ
    pub front : slice_index_or (stored_of k.surface (sealed k p)) c.file [] ≡ stored ++ rest

  unfoldable pub StandsQuiet : Stage → Type 0
  StandsQuiet (AsksChain tries least) = least ≡ 0
  StandsQuiet (AsksChunk tries c stored) = IsFetching c stored
  StandsQuiet (Ends result) = IsAnsweredOrCut result

  module _ (c : Chained) (stored : List ℕ) (f : IsFetching c stored) where
    low : IsIn s.files n
    low = there k p legal u n f.allowed

    pub low_told : IsIn s.files c.file
    low_told = subst (λ m. IsIn s.files m) (sym f.told.file) low

    size : length (slice_index_or (stored_of k.surface (sealed k p)) c.file []) ≡ c.length
    size =
        ap (λ m. length (slice_index_or (stored_of k.surface (sealed k p)) m [])) f.told.file
        ∙ length_is k p legal n low ∙ sym f.told.length

    pub goes_on_stands : (tries : List ℕ) → StandsQuiet (goes_on r tries c stored)
    unfolding StandsQuiet
    goes_on_stands tries = by_test (nat_lt (length stored) c.length) refl where
      by_test : (b : Bool) → nat_lt (length stored) c.length ≡ b
          → StandsQuiet
          (if b then AsksChunk tries c stored
          else Ends (judged (keys_along r c) c (uncovered (keys_along r c) c.file 0 stored)))
      by_test true is = f
      by_test false is =
          let enough : c.length ≤ length stored = ge_of_false (length stored) c.length is in
          let long = ap length f.front in
          let whole : stored ≡ slice_index_or (stored_of k.surface (sealed k p)) n [] =
          sym (f.front ∙ no_rest stored f.rest (omega (arith, size, enough, long)))
          ∙ ap (λ m. slice_index_or (stored_of k.surface (sealed k p)) m []) f.told.file in
          subst IsAnsweredOrCut
          (sym (judged_is k p legal r holds u n c low f.told f.base f.surface stored whole)) tt

  -- ---- an answer to Chain

  chained_stands : (tries : List ℕ) (c : Chained) → AnswersChain s u n (answers.Chained c)
      → StandsQuiet (then_or (λ (d : Chained). goes_on r tries d [])
      (chained_unless (wrong_field r 0 c) c))
  chained_stands tries c (allowed, told) =
      let shows = kept_shows k p s (legal, refl) in
      let user : u ≡ user_number (matrix_of (history_of p)) r.name =
      ap (λ (m : Matrix). user_number m r.name) shows.matrix in
      let base : c.base.root ≡ r.base_root =
      base_begins (has (slice_index s.base.sets (file_in s.files n).node) u) s.base s.grants u
      (file_in s.files n).node c.base told.base
      ∙ (λ i. root_of (shows.layers i).base (user i)) ∙ sym roots.base in
      let surface : BeginsAt r.surface_root c.surface =
      subst (λ m. BeginsAt m c.surface)
      ((λ i. root_of (shows.layers i).surface (user i)) ∙ sym roots.surface)
      (surface_begins s.surface u (file_in s.files n).surface c.surface told.surface) in
      subst (λ (o : Option ℕ). StandsQuiet
      (then_or (λ (d : Chained). goes_on r tries d []) (chained_unless o c)))
      (sym (right_field r c base surface))
      (goes_on_stands c [] (record {
        allowed = allowed;
        told = told;
        base = base;
        surface = surface;
        rest = slice_index_or (stored_of k.surface (sealed k p)) c.file [];
        front = refl;
      }) tries)

  pub chain_stands : (tries : List ℕ) (least : ℕ) (a : Answer) → least ≡ 0 → AnswersChain s u n a
      → StandsQuiet (after r (AsksChain tries least) (Ok a))
  unfolding StandsQuiet
  chain_stands tries least (answers.Chained c) none is =
      subst (λ m. StandsQuiet (after r (AsksChain tries m) (Ok (answers.Chained c)))) (sym none)
      (chained_stands tries c is)
  chain_stands tries least (answers.Refused why) none is = tt
  chain_stands tries least a none is = absurd is

  -- ---- an answer to Chunk

  module _ (tries : List ℕ) (c : Chained) (stored : List ℕ) (f : IsFetching c stored) where
    bytes_stand : (bytes : List ℕ)
        → bytes ≡ take MAX_CHUNK_BYTES
        (drop (length stored) (slice_index_or (stored_of k.surface (sealed k p)) c.file []))
        → StandsQuiet (after r (AsksChunk tries c stored) (Ok (answers.Bytes bytes)))
    unfolding StandsQuiet
    bytes_stand bytes are =
        let taken : bytes ≡ take MAX_CHUNK_BYTES f.rest =
        are
        ∙ ap (take MAX_CHUNK_BYTES)
        (ap (drop (length stored)) f.front ∙ drop-append_seam stored f.rest) in
        let split : f.rest ≡ bytes ++ drop MAX_CHUNK_BYTES f.rest =
        sym (take-append-drop MAX_CHUNK_BYTES f.rest)
        ∙ ap (λ (t : List ℕ). t ++ drop MAX_CHUNK_BYTES f.rest) (sym taken) in
        let long = ap length f.front in
        let some = ap length taken in
        let count : length bytes ≡ chunk_bytes c.length (length stored) =
        omega (
          arith,
          size c stored f,
          long,
          some,
          length-append stored f.rest,
          length-take
              MAX_CHUNK_BYTES f.rest,
        ) in
        subst
        (λ (b : Bool). StandsQuiet
        (then_or (after_fetched r tries c stored)
        (if b then Ok (Bytes bytes) else Err
        (client.BadReply (1 + min (length bytes) (chunk_bytes c.length (length stored)))))))
        (sym (eq-eqb (length bytes) (chunk_bytes c.length (length stored)) count))
        (goes_on_stands c (stored ++ bytes) (record {
          allowed = f.allowed;
          told = f.told;
          base = f.base;
          surface = f.surface;
          rest = drop MAX_CHUNK_BYTES f.rest;
          front = f.front ∙ ap (λ (t : List ℕ). stored ++ t) split
              ∙ sym (append_assoc stored bytes (drop MAX_CHUNK_BYTES f.rest));
        }) tries)

    pub chunk_stands : (a : Answer)
        → AnswersChunk (Some (file_in s.files c.file))
        (Some (slice_index_or (stored_of k.surface (sealed k p)) c.file []))
        c.generation (length stored) MAX_CHUNK_BYTES a
        → HasAnswerForm a
        → IsAnswer (requests.Chunk c.file c.generation (length stored) MAX_CHUNK_BYTES) a
        × StandsQuiet (after r (AsksChunk tries c stored) (Ok a))
    chunk_stands (answers.Bytes bytes) is form = (form, bytes_stand bytes is.2)
    chunk_stands (answers.Moved now) is form =
        absurd
        (is.0
        (ap (λ m. (file_in s.files m).generation) f.told.file ∙ sym f.told.generation))
    chunk_stands (answers.Refused why) is form = absurd is
    chunk_stands a is form = absurd is
