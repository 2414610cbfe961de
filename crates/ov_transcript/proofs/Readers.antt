-- The asks of a read are the requests of its command, behind the one for keys.
use Rattle.std.proofs.Common.{◌≡◌, ◌∙◌, ◌<◌, ◌+◌, ℕ, Bool, true, false, List, [], ◌∷◌, ◌++◌, length}
use Rattle.std.proofs.Common.{Option, Some, None, Result, Ok, Err, refl, sym, ap, subst, inl, inr}
use Rattle.std.proofs.Common.{arith, length-append}
use Rattle.std.specs.Prelude.{◌⊎◌, ◌==◌, ◌-◌, bytes_eq, min, nat_lt, slice_index_or}
use Rattle.std.specs.Prelude.{if◌then◌else◌, is_some}
use Rattle.std.proofs.Common.{true≢false}
use Rattle.std.proofs.lemmas.Bool.Decides.{nat_tests}
use Rattle.ov_base.specs.declared.limits.TheConstants.{MAX_CHUNK_BYTES}
use Rattle.ov_fields.specs.Fronts.{AreAllBytes}
use Rattle.ov_record.specs.Updates.{SealedUpdate}
use Rattle.ov_history.specs.Asking.{file_named, user_named}
use Rattle.ov_history.specs.Catalogue.{Catalogue, Filed, filed_at, matrix_shown}
use Rattle.ov_history.specs.History.{Matrix, matrix_of}
use Rattle.ov_history.specs.Layers.{layers_of}
use Rattle.ov_history.specs.Lists.{file_at, file_number}
use Rattle.ov_history.specs.Places.{living_at}
use Rattle.ov_history.specs.Masters.{Masters}
use Rattle.ov_history.specs.Plain.{PlainHistory, history_of}
use Rattle.ov_history.specs.Refusals.{IsLegal, read_tests}
use Rattle.ov_history.specs.Sealed.{catalogue_of, stored_of}
use Rattle.ov_history.specs.Sealing.{sealed}
use Rattle.ov_history.specs.Laws.{ShowsHistory}
use Rattle.ov_history.proofs.Keeping.{kept_shows}
use Rattle.ov_history.proofs.SoundTests.{file_is, none_applies}
use Rattle.ov_surface.specs.Tags.{tag_of_file}
use Rattle.ov_wire.specs.declared.request.Request.{Request}
use Rattle.ov_wire.specs.declared.request.Request.TheVariants as requests
use Rattle.ov_wire.specs.declared.answer.Answer.{Answer}
use Rattle.ov_wire.specs.declared.answer.Answer.TheVariants as answers
use Rattle.ov_wire.specs.declared.answer.Chained.{Chained}
use Rattle.ov_wire.specs.AnswerBytes.{answer_bytes}
use Rattle.ov_wire.specs.AnswerReading.{answer_of}
use Rattle.ov_wire.specs.Requests.{HasRequestForm, request_bytes}
use Rattle.ov_protocol.specs.Serving.{Service, later, served}
use Rattle.ov_protocol.specs.Reading.{AnswersChain, AnswersChunk}
use Rattle.ov_protocol.specs.Replies.{Replies}
use Rattle.ov_protocol.proofs.Reading.{replies_are_read}
use Rattle.ov_peer.specs.Asks.{Ask}
use Rattle.ov_peer.specs.Tells.{IsReplyAt}
use Rattle.ov_peer.specs.Disks.{MayNeedDisk}
use Rattle.ov_peer.proofs.Needing.{needs_disk}
use Rattle.ov_client.specs.Readers.{Reader, judged, keys_along, uncovered}
use Rattle.ov_client.specs.Talks.{AsksChain, AsksChunk, Ends, IsAfter, IsAskedAt, Moves, Stage}
use Rattle.ov_client.specs.Talks.{after, after_fetched, goes_on, then_or}
use Rattle.ov_client.specs.Telling.{chained_unless, chunk_bytes, wrong_field}
use Rattle.ov_client.specs.declared.fault.ClientFault.TheVariants as faults
use Rattle.ov_client.specs.declared.telling.Fetched.TheVariants.{Bytes}
use Rattle.ov_client.proofs.ReadingBack.{reads_back}
use Rattle.ov_transcript.specs.Transcripts.{chunk_count, chunks_at, chunks_from, generation_of}
use Rattle.ov_transcript.specs.Transcripts.{left_unless, says_refused, service_of}
use Rattle.ov_transcript.proofs.Chunks.{file_found, generation-shown, length-shown, next_chunk}
use Rattle.ov_transcript.proofs.Chunks.{none_left}
use Rattle.ov_transcript.proofs.Engines.{IsNext, IsStepBy}
use Rattle.ov_transcript.proofs.Refusing.{is_read, still_served}

-- whether a read was cut off
abbrev pub Cut : Stage → Type 0
Cut (Ends (Err faults.Device)) = Unit {0}
Cut (Ends (Err faults.Memory)) = Unit {0}
Cut stage = ⊥

module _ (k : Masters) (r : Reader) (file : List ℕ) (p : PlainHistory)
    (legal : IsLegal (history_of p)) where
  abbrev here : Service
  here = service_of k p

  abbrev s : Catalogue
  s = catalogue_of k.surface (sealed k p)

  abbrev m : Matrix
  m = matrix_of (history_of p)

  abbrev chain : Request
  chain = requests.Chain r.name file

  -- what was told of the file
  pub record IsTold (c : Chained) : Type 0 where
    pub file_is : c.file ≡ file_named s file
    pub generation : c.generation ≡ (filed_at s (file_named s file)).generation
    pub there : is_some (living_at s.files c.file) ≡ true

  abbrev chunk : Chained → List ℕ → Request
  chunk c stored = requests.Chunk c.file c.generation (length stored) MAX_CHUNK_BYTES

  abbrev left_of : Chained → List ℕ → List Request
  left_of c stored =
      chunks_from c.file c.generation (length stored) (chunk_count (c.length - length stored))

  -- what is left to ask at a stage
  abbrev pub Due : Stage → Service → List Request → Type 0
  Due (AsksChain tries least) v rs =
      (v ≡ here) × (rs ≡ chain ∷ chunks_at (history_of p) (file_number m file))
  Due (AsksChunk tries c stored) v rs =
      (v ≡ here) × IsTold c × (length stored < c.length) × (rs ≡ left_of c stored)
  Due (Ends (Ok bytes)) v rs = rs ≡ []
  Due (Ends (Err (faults.Refused why))) v rs = rs ≡ []
  Due (Ends (Err fault)) v rs = Unit {0}

  -- ---- what follows what was told

  judged_due : (b : Bool) (c : Chained) (plain tag : List ℕ) (v : Service) (rs : List Request) → rs
      ≡ []
      → Due (Ends (if b then Ok plain else Err (faults.Damaged c.tag tag))) v rs
  judged_due true c plain tag v rs none = none
  judged_due false c plain tag v rs none = tt

  goes_on_due : (tries : List ℕ) (c : Chained) (stored : List ℕ) (v : Service) (rs : List Request)
      → v ≡ here
      → IsTold c → rs ≡ left_of c stored → Due (goes_on r tries c stored) v rs
  goes_on_due tries c stored v rs same told are =
      by_test (nat_lt (length stored) c.length) refl where
        by_test : (b : Bool) → nat_lt (length stored) c.length ≡ b
            → Due (if b then AsksChunk tries c stored
            else Ends (judged (keys_along r c) c (uncovered (keys_along r c) c.file 0 stored))) v rs
        by_test true is = (same, told, grind (arith, nat_tests), are)
        by_test false is =
            let plain = uncovered (keys_along r c) c.file 0 stored in
            let tag = tag_of_file (keys_along r c).access c.file plain in
            judged_due (bytes_eq tag c.tag) c plain tag v rs
            (are
            ∙ none_left c.file c.generation (length stored) c.length (grind (arith, nat_tests)))

  module _ (a : Ask) (made : List SealedUpdate) where
    -- ---- Chain

    abbrev left : List Request
    left = left_unless (says_refused a.reply) (chunks_at (history_of p) (file_number m file))

    told_so : (c : Chained) → AnswersChain s (user_named s r.name) (file_named s file)
        (answers.Chained c)
        → IsTold c × (chunks_at (history_of p) (file_number m file) ≡ left_of c [])
    told_so c (allowed, told) =
        let shows : ShowsHistory (history_of p) s = kept_shows k p s (legal, refl) in
        let number : file_number m file ≡ c.file =
        ap (λ (x : Matrix). file_number x file) (sym shows.matrix) ∙ sym told.file in
        let generation : generation_of (layers_of (history_of p)) (file_number m file)
        ≡ c.generation =
        (λ i. generation_of (sym shows.layers i) (number i))
        ∙ sym (generation-shown s c.file) ∙ ap (λ n. (filed_at s n).generation) told.file
        ∙ sym told.generation in
        let size : (file_at m (file_number m file)).length ≡ c.length =
        (λ i. (file_at (sym shows.matrix i) (number i)).length)
        ∙ sym (length-shown s c.file) ∙ ap (λ n. (filed_at s n).length) told.file
        ∙ sym told.length in
        let whole : c.length ≡ c.length - 0 = omega arith in
        let tests =
        none_applies (read_tests (matrix_shown s) (user_named s r.name) (file_named s file)) allowed
        in
        let there : is_some (living_at s.files (file_named s file)) ≡ true =
        file_is (file_named s file) s tests.1.0 in (
          record {
            file_is = told.file;
            generation = told.generation;
            there = subst (λ n. is_some (living_at s.files n) ≡ true) (sym told.file) there;
          },
          (λ i. chunks_from (number i) (generation i) 0 (chunk_count (size i)))
              ∙ ap (λ n. chunks_from c.file c.generation 0 (chunk_count n)) whole,
        )

    chained_due : (wrong : Option ℕ) (tries : List ℕ) (c : Chained)
        → AnswersChain s (user_named s r.name) (file_named s file) (answers.Chained c)
        → later here made ≡ here → left ≡ chunks_at (history_of p) (file_number m file)
        → Due (then_or (λ (x : Chained). goes_on r tries x []) (chained_unless wrong c))
        (later here made) left
    chained_due None tries c is same are =
        let (told, all) = told_so c is in
        goes_on_due tries c [] (later here made) left same told (are ∙ all)
    chained_due (Some place) tries c is same are = tt

    chain_due : (tries : List ℕ) (least : ℕ) (x : Answer)
        → AnswersChain s (user_named s r.name) (file_named s file) x
        → later here made ≡ here → a.reply ≡ answer_bytes x
        → Due (after r (AsksChain tries least) (Ok x)) (later here made) left
    chain_due tries least (answers.Chained c) is same spelled =
        chained_due (wrong_field r least c) tries c is same
        (ap (λ (l : List ℕ). left_unless (says_refused l)
        (chunks_at (history_of p) (file_number m file))) spelled)
    chain_due tries least (answers.Refused why) is same spelled =
        ap (λ (l : List ℕ). left_unless (says_refused l)
        (chunks_at (history_of p) (file_number m file))) spelled
    chain_due tries least x is same spelled = absurd is

    chain_read : (tries : List ℕ) (least : ℕ) (read : Result Answer ℕ) → HasRequestForm chain
        → AreAllBytes a.reply → answer_of chain a.reply ≡ read
        → Replies (served here) (request_bytes chain) a.reply made
        → Due (after r (AsksChain tries least) read) (later here made) left
    chain_read tries least (Err place) form bytes is replies = tt
    chain_read tries least (Ok x) form bytes is replies =
        chain_due tries least x
        (replies_are_read (served here) chain a.reply made x bytes form replies is).0
        (still_served here chain a.reply made form refl replies)
        (is_read (served here) chain a.reply made x (request_bytes chain) replies bytes is)

    -- ---- Chunk

    module _ (tries : List ℕ) (c : Chained) (stored : List ℕ) (told : IsTold c) where
      abbrev got : ℕ
      got = chunk_bytes c.length (length stored)

      abbrev tail : List Request
      tail =
          chunks_from c.file c.generation (length stored + got)
          (chunk_count (c.length - (length stored + got)))

      abbrev rest : List Request
      rest = left_unless (says_refused a.reply) tail

      sized_due : (b : Bool) (bytes : List ℕ) → (length bytes == got) ≡ b → later here made ≡ here
          → a.reply ≡ answer_bytes (answers.Bytes bytes)
          → Due (then_or (after_fetched r tries c stored)
          (if b then Ok (Bytes bytes) else Err (faults.BadReply (1 + min (length bytes) got))))
          (later here made) rest
      sized_due true bytes is same spelled =
          let count : length bytes ≡ got = grind (arith, nat_tests) in
          let long : length stored + got ≡ length (stored ++ bytes) =
          ap (λ n. length stored + n) (sym count) ∙ sym (length-append stored bytes) in
          goes_on_due tries c (stored ++ bytes) (later here made) rest same told
          (ap (λ (l : List ℕ). left_unless (says_refused l) tail) spelled
          ∙ (λ i. chunks_from c.file c.generation (long i) (chunk_count (c.length - long i))))
      sized_due false bytes is same spelled = tt

      found_due : (o : Option Filed) (x : Answer) → living_at s.files c.file ≡ o
          → AnswersChunk o (Some (slice_index_or (stored_of k.surface (sealed k p)) c.file []))
          c.generation (length stored) MAX_CHUNK_BYTES x
          → later here made ≡ here → a.reply ≡ answer_bytes x
          → Due (after r (AsksChunk tries c stored) (Ok x)) (later here made) rest
      found_due None x found is same spelled =
          absurd (true≢false
          (sym told.there ∙ ap (λ (o : Option Filed). is_some o) found))
      found_due (Some f) (answers.Bytes bytes) found is same spelled =
          sized_due (length bytes == got) bytes refl same spelled
      found_due (Some f) (answers.Moved now) found is same spelled =
          absurd
          (is.0
          (ap (λ (x : Filed). x.generation) (sym (file_found s c.file f found))
          ∙ ap (λ n. (filed_at s n).generation) told.file_is ∙ sym told.generation))
      found_due (Some f) x found is same spelled = absurd is

      chunk_read : (read : Result Answer ℕ) → HasRequestForm (chunk c stored)
          → AreAllBytes a.reply → answer_of (chunk c stored) a.reply ≡ read
          → Replies (served here) (request_bytes (chunk c stored)) a.reply made
          → Due (after r (AsksChunk tries c stored) read) (later here made) rest
      chunk_read (Err place) form bytes is replies = tt
      chunk_read (Ok x) form bytes is replies =
          found_due (living_at s.files c.file) x refl
          (replies_are_read (served here) (chunk c stored) a.reply made x bytes form replies is).0
          (still_served here (chunk c stored) a.reply made form refl replies)
          (is_read (served here) (chunk c stored) a.reply made x
          (request_bytes (chunk c stored)) replies bytes is)

      -- the disk failed at a Chunk
      chunk_fails : a.reply ≡ answer_bytes answers.DeviceFault
          → Cut (after r (AsksChunk tries c stored) (answer_of (chunk c stored) a.reply))
      chunk_fails failed =
          subst (λ (x : Result Answer ℕ). Cut (after r (AsksChunk tries c stored) x))
          (sym (ap (answer_of (chunk c stored)) failed
          ∙ reads_back (chunk c stored) answers.DeviceFault tt tt)) tt

  -- ---- each ask

  -- the stage that was read, or memory ran out
  by_reads : (P : Stage → Type 0) (stage next : Stage) (request ours : Request) (reply : List ℕ)
      → ours ≡ request
      → (IsAfter r stage request reply next) ⊎ (next ≡ Ends (Err faults.Memory))
      → P (Ends (Err faults.Memory))
      → (AreAllBytes reply → P (after r stage (answer_of ours reply))) → P next
  by_reads P stage next request ours reply same (inr memory) out read = subst P (sym memory) out
  by_reads P stage next request ours reply same (inl is) out read =
      subst P (ap (λ (x : Request). after r stage (answer_of x reply)) same ∙ sym is.moves)
      (read is.bytes)

  chain_step : (tries : List ℕ) (least : ℕ) (next : Stage) (a : Ask) (made : List SealedUpdate)
      → Moves r file (AsksChain tries least) a next → IsReplyAt here a.request a.reply made
      → IsStepBy Due Cut next here (chain ∷ chunks_at (history_of p) (file_number m file)) a made
  chain_step tries least next a made moves replied =
      let ours : chain ≡ moves.asks.request = cc (moves.asks.is_asked) in
      let frame : a.request ≡ request_bytes chain = moves.asks.spelled
      ∙ ap request_bytes (sym ours) in
      let form : HasRequestForm chain = subst HasRequestForm (sym ours) moves.asks.form in record {
        request = chain;
        more = chunks_at (history_of p) (file_number m file);
        is_next = refl;
        asked = frame;
        goes_on = inl (by_reply form frame ours
            (subst (λ (f : List ℕ). IsReplyAt here f a.reply made) frame replied));
      } where
        by_reply : HasRequestForm chain → a.request ≡ request_bytes chain → chain
            ≡ moves.asks.request
            → IsReplyAt here (request_bytes chain) a.reply made
            → Replies (served here) a.request a.reply made
            × Due next (later here made) (left_unless (says_refused a.reply)
            (chunks_at (history_of p) (file_number m file)))
        by_reply form frame ours (inr failed) =
            absurd (needs_disk (served here) chain form failed.needs)
        by_reply form frame ours (inl replies) = (
          subst (λ (f : List ℕ). Replies (served here) f a.reply made) (sym frame) replies,
          by_reads
              (λ (x : Stage). Due x (later here made)
              (left_unless (says_refused a.reply) (chunks_at (history_of p) (file_number m file))))
              (AsksChain tries least) next moves.asks.request chain a.reply ours moves.reads tt
              (λ bytes. chain_read a made tries least
              (answer_of chain a.reply) form bytes refl replies),
        )

  chunk_step : (tries : List ℕ) (c : Chained) (stored : List ℕ) (next : Stage) (a : Ask)
      (made : List SealedUpdate)
      → IsTold c → length stored < c.length
      → Moves r file (AsksChunk tries c stored) a next → IsReplyAt here a.request a.reply made
      → IsStepBy Due Cut next here (left_of c stored) a made
  chunk_step tries c stored next a made told some moves replied =
      let ours : chunk c stored ≡ moves.asks.request = cc (moves.asks.is_asked) in
      let frame : a.request ≡ request_bytes (chunk c stored) = moves.asks.spelled
      ∙ ap request_bytes (sym ours) in
      let form : HasRequestForm (chunk c stored) =
      subst HasRequestForm (sym ours) moves.asks.form in record {
        request = chunk c stored;
        more = tail a made tries c stored told;
        is_next = next_chunk c.file c.generation (length stored) c.length
            (chunk_bytes c.length (length stored)) some refl;
        asked = frame;
        goes_on = by_reply form frame ours
            (subst (λ (f : List ℕ). IsReplyAt here f a.reply made) frame replied);
      } where
        by_reply : HasRequestForm (chunk c stored) → a.request ≡ request_bytes (chunk c stored)
            → chunk c stored ≡ moves.asks.request
            → IsReplyAt here (request_bytes (chunk c stored)) a.reply made
            → (Replies (served here) a.request a.reply made
            × Due next (later here made) (left_unless (says_refused a.reply)
            (tail a made tries c stored told)))
            ⊎ (MayNeedDisk (chunk c stored) × (a.reply ≡ answer_bytes answers.DeviceFault)
            × Cut next)
        by_reply form frame ours (inr failed) =
            inr (
              tt,
              failed.spelled,
              by_reads Cut (AsksChunk tries c stored) next moves.asks.request
                  (chunk c stored) a.reply ours moves.reads tt
                  (λ bytes. chunk_fails a made tries c stored told failed.spelled),
            )
        by_reply form frame ours (inl replies) =
            inl (
              subst (λ (f : List ℕ). Replies (served here) f a.reply made) (sym frame) replies,
              by_reads
                  (λ (x : Stage). Due x (later here made)
                  (left_unless (says_refused a.reply) (tail a made tries c stored told)))
                  (AsksChunk tries c stored) next moves.asks.request
                  (chunk c stored) a.reply ours moves.reads tt
                  (λ bytes. chunk_read a made tries c stored told
                  (answer_of (chunk c stored) a.reply) form bytes refl replies),
            )

  pub nothing_asked : (result : Result (List ℕ) _) (frame : List ℕ)
      → IsAskedAt r file (Ends result) frame → ⊥
  nothing_asked result frame asks = let none : None ≡ Some asks.request = asks.is_asked in cc none

  pub steps : (stage next : Stage) (v : Service) (rs : List Request) (a : Ask)
      (made : List SealedUpdate)
      → Due stage v rs → Moves r file stage a next → IsReplyAt v a.request a.reply made
      → IsStepBy Due Cut next v rs a made
  steps (Ends result) next v rs a made due moves replied =
      absurd (nothing_asked result a.request moves.asks)
  steps (AsksChain tries least) next v rs a made (same, are) moves replied =
      subst (λ (w : Service). IsStepBy Due Cut next w rs a made) (sym same)
      (subst (λ (l : List Request). IsStepBy Due Cut next here l a made) (sym are)
      (chain_step tries least next a made moves
      (subst (λ (w : Service). IsReplyAt w a.request a.reply made) same replied)))
  steps (AsksChunk tries c stored) next v rs a made (same, told, some, are) moves replied =
      subst (λ (w : Service). IsStepBy Due Cut next w rs a made) (sym same)
      (subst (λ (l : List Request). IsStepBy Due Cut next here l a made) (sym are)
      (chunk_step tries c stored next a made told some moves
      (subst (λ (w : Service). IsReplyAt w a.request a.reply made) same replied)))

  -- a read that was cut off asks nothing
  pub cut_due : (stage : Stage) (frame : List ℕ) → Cut stage → IsAskedAt r file stage frame → ⊥
  cut_due (Ends result) frame is asks = nothing_asked result frame asks
  cut_due (AsksChain tries least) frame is asks = is
  cut_due (AsksChunk tries c stored) frame is asks = is

  pub nothing_more : (stage next : Stage) (a : Ask) → Cut stage → Moves r file stage a next → ⊥
  nothing_more stage next a is moves = cut_due stage a.request is moves.asks

  -- what is due at a stage is the next request
  pub is_due : (stage : Stage) (v : Service) (rs : List Request) (frame : List ℕ) → Due stage v rs
      → IsAskedAt r file stage frame → IsNext rs frame
  is_due (Ends result) v rs frame due asks = absurd (nothing_asked result frame asks)
  is_due (AsksChain tries least) v rs frame (same, are) asks =
      let ours : chain ≡ asks.request = cc (asks.is_asked) in record {
        request = chain;
        more = chunks_at (history_of p) (file_number m file);
        is_next = are;
        form = subst HasRequestForm (sym ours) asks.form;
        asked = asks.spelled ∙ ap request_bytes (sym ours);
      }
  is_due (AsksChunk tries c stored) v rs frame (same, told, some, are) asks =
      let ours : chunk c stored ≡ asks.request = cc (asks.is_asked) in record {
        request = chunk c stored;
        more = chunks_from c.file c.generation
            (length stored + chunk_bytes c.length (length stored))
            (chunk_count (c.length - (length stored + chunk_bytes c.length (length stored))));
        is_next = are
            ∙ next_chunk c.file c.generation (length stored) c.length
            (chunk_bytes c.length (length stored)) some refl;
        form = subst HasRequestForm (sym ours) asks.form;
        asked = asks.spelled ∙ ap request_bytes (sym ours);
      }
