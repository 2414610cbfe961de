-- The stages of a read at histories that are right.
use Rattle.std.proofs.Common.{◌≡◌, ◌∙◌, ◌≤◌, ℕ, Bool, true, false}
use Rattle.std.proofs.Common.{List, [], ◌∷◌, ◌++◌, length, take, drop, Option, Some, None}
use Rattle.std.proofs.Common.{Ok, Err, refl, sym, ap, subst, arith, append_assoc}
use Rattle.std.specs.Prelude.{◌+◌, min, ◌==◌, nat_lt, if◌then◌else◌, is_some, slice_index_or}
use Rattle.std.proofs.Math.Seq.{drop-append_seam}
use Rattle.std.proofs.lemmas.List.{take-append-drop}
use Rattle.ov_base.proofs.Tests.{ge_of_false}
use Rattle.ov_base.specs.declared.limits.TheConstants.{MAX_CHUNK_BYTES}
use Rattle.ov_base.specs.declared.refusal.Refusal.TheVariants.{NoFile}
use Rattle.ov_record.specs.Updates.{SealedUpdate}
use Rattle.ov_history.specs.Asking.{file_named, user_named}
use Rattle.ov_history.specs.Catalogue.{Catalogue, Filed, matrix_shown}
use Rattle.ov_history.specs.FadingLaws.{IsRight}
use Rattle.ov_history.specs.Masters.{Masters}
use Rattle.ov_history.specs.Places.{living_at}
use Rattle.ov_history.specs.Plain.{PlainHistory, bytes_of}
use Rattle.ov_history.specs.Refusals.{read_refusal}
use Rattle.ov_history.specs.Sealed.{SealedHistory, catalogue_of, stored_of}
use Rattle.ov_history.specs.Sealing.{sealed}
use Rattle.ov_history.proofs.Agreeing.{right_keeps, right_shows}
use Rattle.ov_wire.specs.declared.answer.Answer.{Answer}
use Rattle.ov_wire.specs.declared.answer.Answer.TheVariants as answers
use Rattle.ov_wire.specs.declared.answer.Chained.{Chained}
use Rattle.ov_protocol.specs.Reading.{AnswersChain, AnswersChunk, IsChainedFor}
use Rattle.ov_protocol.specs.Serving.{Service, followed, later}
use Rattle.ov_protocol.proofs.Following.{followed-append}
use Rattle.ov_client.specs.Laws.{HoldsRootKeys, IsAsMachine}
use Rattle.ov_client.specs.Readers.{Reader, judged, keys_along, uncovered}
use Rattle.ov_client.specs.Talks.{AsksChain, AsksChunk, Ends, Stage}
use Rattle.ov_client.specs.Talks.{after, after_fetched, again, goes_on, then_or}
use Rattle.ov_client.specs.Telling.{chained_unless, chunk_bytes, wrong_field}
use Rattle.ov_client.specs.declared.fault.ClientFault.TheVariants as client
use Rattle.ov_client.specs.declared.reading.TheConstants.{TRIES}
use Rattle.ov_client.specs.declared.telling.Fetched.TheVariants.{Bytes}
use Rattle.ov_client.proofs.Leading.{BeginsAt}
use Rattle.ov_client.proofs.Opening.{file_is, judged_is, length_is, read_named, there}
use Rattle.ov_client.proofs.Staying.{IsIn, file_in, found_file, same_stored}
use Rattle.ov_client.proofs.Fields.{no_field, no_rest}

module _ (k : Masters) (r : Reader) (file : List ℕ) (holds : HoldsRootKeys k r) where
  -- The file's chains were told at this history, which is right, and these stored bytes are a front
  -- of those that it has there; what is served goes on from that history.
  pub record IsFetching (v : Service) (c : Chained) (stored : List ℕ)
      (at_one : Option SealedHistory) : Type 0 where
    pub plain : PlainHistory
    pub history : SealedHistory
    pub right : IsRight k plain history
    pub chained_at : at_one ≡ Some history
    pub more : List SealedUpdate
    pub goes : v.history ≡ followed history more
    pub allowed : read_refusal (matrix_shown (catalogue_of k.surface (sealed k plain)))
        (user_named (catalogue_of k.surface (sealed k plain)) r.name)
        (file_named (catalogue_of k.surface (sealed k plain)) file)
        ≡ None
    pub told : IsChainedFor (catalogue_of k.surface (sealed k plain))
        (user_named (catalogue_of k.surface (sealed k plain)) r.name)
        (file_named (catalogue_of k.surface (sealed k plain)) file) c
    pub base : c.base.root ≡ r.base_root
    pub surface : BeginsAt r.surface_root c.surface
    pub rest : List ℕ
    pub front : slice_index_or (stored_of k.surface (sealed k plain)) c.file [] ≡ stored ++ rest

  -- what holds of a stage, by the history of the last Chain
  unfoldable pub StandsAt : Service → Stage → Option SealedHistory → Type 0
  StandsAt v (AsksChain tries least) at_one = Unit {0}
  StandsAt v (AsksChunk tries c stored) at_one = IsFetching v c stored at_one
  StandsAt v (Ends result) at_one = IsAsMachine k at_one r.name file result

  module _ (v : Service) (tries : List ℕ) (at_one : Option SealedHistory) where
    pub again_stands : (least : ℕ) → StandsAt v (again tries least) at_one
    unfolding StandsAt
    again_stands least = by_count (length tries == TRIES) where
      by_count : (b : Bool)
          → StandsAt v (if b then Ends (Err (client.Unsettled tries)) else AsksChain tries least)
          at_one
      by_count true = tt
      by_count false = tt

    pub goes_on_stands : (c : Chained) (stored : List ℕ) → IsFetching v c stored at_one
        → StandsAt v (goes_on r tries c stored) at_one
    unfolding StandsAt
    goes_on_stands c stored f = by_test (nat_lt (length stored) c.length) refl where
      by_test : (b : Bool) → nat_lt (length stored) c.length ≡ b
          → StandsAt v
          (if b then AsksChunk tries c stored
          else Ends (judged (keys_along r c) c (uncovered (keys_along r c) c.file 0 stored))) at_one
      by_test true is = f
      by_test false is =
          let s : Catalogue = catalogue_of k.surface (sealed k f.plain) in
          let n : ℕ = file_named s file in
          let text : List ℕ = slice_index_or (stored_of k.surface (sealed k f.plain)) n [] in
          let low : IsIn s.files n = there k f.plain f.right.0 (user_named s r.name) n
          f.allowed in
          let split : text ≡ stored ++ f.rest =
          ap (λ m. slice_index_or (stored_of k.surface (sealed k f.plain)) m []) (sym f.told.file)
          ∙ f.front in
          let size : length text ≡ c.length =
          length_is k f.plain f.right.0 n low ∙ sym f.told.length in
          let enough : c.length ≤ length stored = ge_of_false (length stored) c.length is in
          let long : length text ≡ length (stored ++ f.rest) = ap length split in
          let whole : stored ≡ text =
          sym (split ∙ no_rest stored f.rest (omega (arith, size, enough, long))) in
          let ok = judged_is k f.plain f.right.0 r holds (user_named s r.name) n c low f.told
          f.base f.surface stored whole in
          subst (IsAsMachine k at_one r.name file) (sym ok) (
            f.plain,
            f.history,
            f.chained_at,
            f.right,
            (
              sym (read_named k f.plain f.right.0 r.name file) ∙ f.allowed,
              ap (bytes_of f.plain) (file_is k f.plain f.right.0 file),
            ),
          )

  -- ---- an answer to Chain

  module _ (v : Service) (tries : List ℕ) (least : ℕ) (p : PlainHistory)
      (right : IsRight k p v.history) where
    abbrev c_at : Catalogue
    c_at = catalogue_of k.surface (sealed k p)

    told_stands : (c : Chained)
        → AnswersChain c_at (user_named c_at r.name) (file_named c_at file) (answers.Chained c)
        → (o : Option ℕ) → wrong_field r least c ≡ o
        → StandsAt v (then_or (λ (d : Chained). goes_on r tries d []) (chained_unless o c))
        (Some v.history)
    unfolding StandsAt
    told_stands c (allowed, told) (Some place) wrong = tt
    told_stands c (allowed, told) None wrong =
        let (base, surface) = no_field r least c wrong in
        goes_on_stands v tries (Some v.history) c [] (record {
          plain = p;
          history = v.history;
          right = right;
          chained_at = refl;
          more = [];
          goes = refl;
          allowed = allowed;
          told = told;
          base = base;
          surface = surface;
          rest = slice_index_or (stored_of k.surface (sealed k p)) c.file [];
          front = refl;
        })

    pub chain_stands : (answer : Answer)
        → AnswersChain c_at (user_named c_at r.name) (file_named c_at file) answer
        → StandsAt v (after r (AsksChain tries least) (Ok answer)) (Some v.history)
    unfolding StandsAt
    chain_stands (answers.Chained c) is = told_stands c is (wrong_field r least c) refl
    chain_stands (answers.Refused why) is =
        (p, v.history, refl, right, sym (read_named k p right.0 r.name file) ∙ is)
    chain_stands answers.NoMemory is = tt
    chain_stands answer is = tt

  -- ---- an answer to Chunk

  module _ (v : Service) (tries : List ℕ) (c : Chained) (stored : List ℕ)
      (at_one : Option SealedHistory)
      (f : IsFetching v c stored at_one) (others : List SealedUpdate)
      (q : PlainHistory) (right : IsRight k q (followed v.history others)) where
    abbrev before : Catalogue
    before = catalogue_of k.surface (sealed k f.plain)

    abbrev now : Catalogue
    now = catalogue_of k.surface (sealed k q)

    abbrev all_more : List SealedUpdate
    all_more = f.more ++ others

    goes_to : followed v.history others ≡ followed f.history all_more
    goes_to =
        ap (λ (g : SealedHistory). followed g others) f.goes
        ∙ followed-append f.history f.more others

    low : IsIn before.files c.file
    low =
        subst (λ n. IsIn before.files n) (sym f.told.file)
        (there k f.plain f.right.0 (user_named before r.name) (file_named before file) f.allowed)

    generation_before : c.generation ≡ (file_in before.files c.file).generation
    generation_before =
        f.told.generation ∙ ap (λ n. (file_in before.files n).generation) (sym f.told.file)

    -- what both histories show
    shown_before : catalogue_of k.surface f.history ≡ before
    shown_before = right_shows k f.plain f.history f.right.0 f.right.1

    shown_now : catalogue_of k.surface (followed f.history all_more) ≡ now
    shown_now =
        ap (λ (g : SealedHistory). catalogue_of k.surface g) (sym goes_to)
        ∙ right_shows k q (followed v.history others) right.0 right.1

    -- of a file that is there still, of the same generation, the same bytes are stored
    still_stored : IsIn now.files c.file
        → (file_in now.files c.file).generation ≡ c.generation
        → slice_index_or (stored_of k.surface (sealed k q)) c.file []
        ≡ slice_index_or (stored_of k.surface (sealed k f.plain)) c.file []
    still_stored still generation =
        let n : ℕ = c.file in
        let was_in : IsIn (catalogue_of k.surface f.history).files n =
        subst (λ (d : Catalogue). IsIn d.files n) (sym shown_before) low in
        let is_in : IsIn (catalogue_of k.surface (followed f.history all_more)).files n =
        subst (λ (d : Catalogue). IsIn d.files n) (sym shown_now) still in
        let same : (file_in (catalogue_of k.surface (followed f.history all_more)).files
        n).generation
        ≡ (file_in (catalogue_of k.surface f.history).files n).generation =
        ap (λ (d : Catalogue). (file_in d.files n).generation) shown_now
        ∙ generation ∙ generation_before
        ∙ ap (λ (d : Catalogue). (file_in d.files n).generation) (sym shown_before) in
        ap (λ (bytes : List (List ℕ)). slice_index_or bytes n [])
        (sym (right_keeps k q (followed v.history others) right.0 right.1)
        ∙ ap (λ (g : SealedHistory). stored_of k.surface g) goes_to)
        ∙ same_stored k.surface f.history all_more n was_in is_in same
        ∙ ap (λ (bytes : List (List ℕ)). slice_index_or bytes n [])
        (right_keeps k f.plain f.history f.right.0 f.right.1)

    bytes_stand : (bytes : List ℕ) → IsIn now.files c.file
        → (file_in now.files c.file).generation ≡ c.generation
        → bytes ≡ take MAX_CHUNK_BYTES
        (drop (length stored) (slice_index_or (stored_of k.surface (sealed k q)) c.file []))
        → (b : Bool)
        → StandsAt (later v others)
        (then_or (after_fetched r tries c stored)
        (if b then Ok (Bytes bytes) else Err
        (client.BadReply (1 + min (length bytes) (chunk_bytes c.length (length stored)))))) at_one
    unfolding StandsAt
    bytes_stand bytes still generation are false = tt
    bytes_stand bytes still generation are true =
        let text : List ℕ = slice_index_or (stored_of k.surface (sealed k f.plain)) c.file [] in
        let left : drop (length stored) text ≡ f.rest =
        ap (drop (length stored)) f.front ∙ drop-append_seam stored f.rest in
        let taken : bytes ≡ take MAX_CHUNK_BYTES f.rest =
        are ∙ ap (λ (t : List ℕ). take MAX_CHUNK_BYTES (drop (length stored) t))
        (still_stored still generation)
        ∙ ap (take MAX_CHUNK_BYTES) left in
        let split : f.rest ≡ bytes ++ drop MAX_CHUNK_BYTES f.rest =
        sym (take-append-drop MAX_CHUNK_BYTES f.rest)
        ∙ ap (λ (t : List ℕ). t ++ drop MAX_CHUNK_BYTES f.rest) (sym taken) in
        goes_on_stands (later v others) tries at_one c (stored ++ bytes) (record {
          plain = f.plain;
          history = f.history;
          right = f.right;
          chained_at = f.chained_at;
          more = all_more;
          goes = goes_to;
          allowed = f.allowed;
          told = f.told;
          base = f.base;
          surface = f.surface;
          rest = drop MAX_CHUNK_BYTES f.rest;
          front = f.front ∙ ap (λ (t : List ℕ). stored ++ t) split
              ∙ sym (append_assoc stored bytes (drop MAX_CHUNK_BYTES f.rest));
        })

    -- the file is there still
    still_stands : (answer : Answer) → IsIn now.files c.file
        → AnswersChunk (Some (file_in now.files c.file))
        (Some (slice_index_or (stored_of k.surface (sealed k q)) c.file []))
        c.generation (length stored) MAX_CHUNK_BYTES answer
        → StandsAt (later v others) (after r (AsksChunk tries c stored) (Ok answer)) at_one
    unfolding StandsAt
    still_stands (answers.Bytes bytes) still (generation, many, are) =
        bytes_stand bytes still generation are
        (length bytes == chunk_bytes c.length (length stored))
    still_stands (answers.Moved to) still is =
        again_stands (later v others) (tries ++ c.generation ∷ []) at_one to
    still_stands (answers.Refused why) still is = absurd is
    still_stands answer still is = tt

    -- the file is gone
    gone_stands : (answer : Answer) → answer ≡ answers.Refused NoFile
        → StandsAt (later v others) (after r (AsksChunk tries c stored) (Ok answer)) at_one
    gone_stands answer is =
        subst (λ (a : Answer). StandsAt (later v others)
        (after r (AsksChunk tries c stored) (Ok a)) at_one) (sym is)
        (again_stands (later v others) (tries ++ c.generation ∷ []) at_one (c.generation + 1))

    pub chunk_stands : (answer : Answer)
        → AnswersChunk (living_at now.files c.file)
        (Some (slice_index_or (stored_of k.surface (sealed k q)) c.file []))
        c.generation (length stored) MAX_CHUNK_BYTES answer
        → StandsAt (later v others) (after r (AsksChunk tries c stored) (Ok answer)) at_one
    chunk_stands answer is = by_file (living_at now.files c.file) refl is where
      by_file : (o : Option Filed) → living_at now.files c.file ≡ o
          → AnswersChunk o (Some (slice_index_or (stored_of k.surface (sealed k q)) c.file []))
          c.generation (length stored) MAX_CHUNK_BYTES answer
          → StandsAt (later v others) (after r (AsksChunk tries c stored) (Ok answer)) at_one
      by_file None none is = gone_stands answer is
      by_file (Some g) some is =
          let still : IsIn now.files c.file = ap (λ (o : Option Filed). is_some o) some in
          still_stands answer still
          (subst (λ (o : Option Filed). AnswersChunk o
          (Some (slice_index_or (stored_of k.surface (sealed k q)) c.file []))
          c.generation (length stored) MAX_CHUNK_BYTES answer)
          (sym some ∙ found_file now.files c.file still) is)
