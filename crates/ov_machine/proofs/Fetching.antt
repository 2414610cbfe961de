-- How a read goes over the machine's server, whatever history it serves.
use Rattle.std.proofs.Common.{◌≡◌, ◌∙◌, ◌+◌, ◌-◌, ℕ, Bool, true, false}
use Rattle.std.proofs.Common.{List, [], ◌∷◌, ◌++◌, length, Option, Some, None}
use Rattle.std.proofs.Common.{Result, Ok, Err, refl, sym, ap, subst, inl, inr}
use Rattle.std.proofs.Common.{eq-eqb, true≢false}
use Rattle.std.proofs.lemmas.Slice.Eq.{bytes_eq-Decides}
use Rattle.std.specs.Prelude.{◌⊎◌, ◌≢◌, bytes_eq, min, nat_lt, if◌then◌else◌, option_map}
use Rattle.std.specs.Prelude.{slice_index, slice_index_or}
use Rattle.ov_base.specs.Causes.{Rose}
use Rattle.ov_base.specs.declared.limits.TheConstants.{MAX_CHUNK_BYTES}
use Rattle.ov_base.specs.declared.refusal.Refusal.TheVariants.{NoUser, NoFile, NoPath}
use Rattle.ov_base.specs.Sets.{has}
use Rattle.ov_disk.specs.Tells.{DiskTells}
use Rattle.ov_surface.specs.Tags.{tag_of_file}
use Rattle.ov_history.specs.Asking.{file_named, user_named}
use Rattle.ov_history.specs.Catalogue.{Catalogue, Filed, matrix_shown}
use Rattle.ov_history.specs.Layers.{root_of}
use Rattle.ov_history.specs.Refusals.{first_of_tests, read_refusal}
use Rattle.ov_history.proofs.SoundTests.{file_is}
use Rattle.ov_wire.specs.declared.request.Request.{Request}
use Rattle.ov_wire.specs.declared.request.Request.TheVariants as requests
use Rattle.ov_wire.specs.declared.answer.Answer.{Answer}
use Rattle.ov_wire.specs.declared.answer.Answer.TheVariants as answers
use Rattle.ov_wire.specs.declared.answer.Chained.{Chained}
use Rattle.ov_wire.specs.AnswerForm.{HasAnswerForm}
use Rattle.ov_wire.specs.AnswerReading.{answer_of}
use Rattle.ov_wire.specs.AnswersTo.{IsAnswer}
use Rattle.ov_wire.specs.Requests.{HasRequestForm, request_bytes}
use Rattle.ov_protocol.proofs.Reading.{request_back}
use Rattle.ov_protocol.specs.Answers.{Answers}
use Rattle.ov_protocol.specs.Serving.{Serving}
use Rattle.ov_protocol.specs.Reading.{AnswersChain, AnswersChunk, IsChainedFor}
use Rattle.ov_peer.specs.Asks.{Ask, Leads}
use Rattle.ov_peer.specs.Disks.{AsksBytes}
use Rattle.ov_server.specs.Answering.{AnswersOrFails, FailsUpdate, IsFaulted, WritesNothing}
use Rattle.ov_server.specs.Answering.{serving_of}
use Rattle.ov_store.specs.Opened.{Opened}
use Rattle.ov_client.specs.Readers.{Reader, judged, keys_along, uncovered}
use Rattle.ov_client.specs.Talks.{AsksChain, AsksChunk, Closes, Ends, Goes, IsAfter, IsAskedAt, Moves, Stage, Talks}
use Rattle.ov_client.specs.Talks.{after, after_fetched, asked_at, goes_on, then_or}
use Rattle.ov_client.specs.Telling.{chained_unless, chunk_bytes, wrong_field}
use Rattle.ov_client.specs.declared.fault.ClientFault.{ClientFault}
use Rattle.ov_client.specs.declared.fault.ClientFault.TheVariants as client
use Rattle.ov_client.specs.declared.telling.Fetched.TheVariants.{Bytes}
use Rattle.ov_client.proofs.Leading.{BeginsAt}
use Rattle.ov_client.proofs.Staying.{IsIn, file_in, found_file}
use Rattle.ov_client.proofs.Fields.{right_field}
use Rattle.ov_client.proofs.ReadingBack.{base_begins, chain_is_answer, reads_back, surface_begins}
use Rattle.ov_machine.specs.Seats.{AllStay, LeftBy, Stays, served, store_peer}
use Rattle.ov_machine.proofs.Quiet.{asked_stays, quiet_asked, says}
use Rattle.ov_machine.proofs.Stays.{fails_same, rose_since, shows_same, stays_then}

-- the third test of a read comes only where the file is there
pub file_there : (a b c : Bool)
    → first_of_tests ((NoUser, a) ∷ (NoFile, b) ∷ (NoPath, c) ∷ []) ≡ None → b ≡ false
file_there true b c none = cc
file_there false true c none = cc
file_there false false c none = refl

-- a file that may be read is there
pub there : (c : Catalogue) (user n : ℕ) → read_refusal (matrix_shown c) user n ≡ None
    → IsIn c.files n
there c user n none = file_is n c (file_there _ _ _ none)

-- the reader's roots are those of the user of its name there
pub record HasRootsAt (c : Catalogue) (r : Reader) : Type 0 where
  pub base : r.base_root ≡ root_of c.base.sets (user_named c r.name)
  pub surface : r.surface_root ≡ root_of c.surface.sets (user_named c r.name)

-- A read ends so: with bytes or a refusal, with a wrong tag, or cut off; that the disk failed, only
-- where its count rose.
abbrev pub IsReadEnd : ℕ → ℕ → Result (List ℕ) ClientFault → Type 0
IsReadEnd before now (Err (client.BadReply place)) = ⊥
IsReadEnd before now (Err (client.Unsettled generations)) = ⊥
IsReadEnd before now (Err client.Device) = Rose before now
IsReadEnd before now (Err (client.Damaged stored computed)) = computed ≢ stored
IsReadEnd before now result = Unit {0}

module _ {D : Type 0} (tells : DiskTells D) (s : Opened D) (sound : s.failed ≡ false) (r : Reader)
    (roots : HasRootsAt s.catalogue r) (file : List ℕ) where
  abbrev c : Catalogue
  c = s.catalogue

  abbrev u : ℕ
  u = user_named c r.name

  abbrev n : ℕ
  n = file_named c file

  abbrev asked : Opened D → List ℕ → List ℕ → Opened D → Type 0
  asked p request reply q = served tells p request reply q

  -- the chains to the file were told
  pub record IsFetching (told : Chained) : Type 0 where
    pub allowed : read_refusal (matrix_shown c) u n ≡ None
    pub chained : IsChainedFor c u n told

  -- what holds of a stage, where the disk has this count of faults
  unfoldable pub Stands : ℕ → Stage → Type 0
  Stands count (AsksChain tries least) = least ≡ 0
  Stands count (AsksChunk tries told stored) = IsFetching told
  Stands count (Ends result) = IsReadEnd (tells.faults s.disk) count result

  -- bytes are given, or a wrong tag is told
  judged_ends : (count : ℕ) (told : Chained) (bytes : List ℕ)
      → IsReadEnd (tells.faults s.disk) count (judged (keys_along r told) told bytes)
  judged_ends count told bytes =
      by_test (bytes_eq (tag_of_file (keys_along r told).access told.file bytes) told.tag) refl where
        computed : List ℕ
        computed = tag_of_file (keys_along r told).access told.file bytes

        by_test : (b : Bool) → bytes_eq computed told.tag ≡ b
            → IsReadEnd (tells.faults s.disk) count
            (if b then Ok bytes else Err (client.Damaged told.tag computed))
        by_test true is = tt
        by_test false is = λ same. true≢false (sym ((bytes_eq-Decides computed told.tag).1 same) ∙ is)

  module _ (told : Chained) (f : IsFetching told) where
    low : IsIn c.files n
    low = there c u n f.allowed

    pub low_told : IsIn c.files told.file
    low_told = subst (λ m. IsIn c.files m) (sym f.chained.file) low

    size : (file_in c.files told.file).length ≡ told.length
    size = ap (λ m. (file_in c.files m).length) f.chained.file ∙ sym f.chained.length

    pub goes_on_stands : (count : ℕ) (tries : List ℕ) (stored : List ℕ)
        → Stands count (goes_on r tries told stored)
    unfolding Stands
    goes_on_stands count tries stored = by_test (nat_lt (length stored) told.length) where
      by_test : (b : Bool)
          → Stands count
          (if b then AsksChunk tries told stored
          else Ends (judged (keys_along r told) told (uncovered (keys_along r told) told.file 0 stored)))
      by_test true = f
      by_test false = judged_ends count told (uncovered (keys_along r told) told.file 0 stored)

  -- ---- an answer to Chain

  chained_stands : (count : ℕ) (tries : List ℕ) (told : Chained)
      → AnswersChain c u n (answers.Chained told)
      → Stands count (then_or (λ (d : Chained). goes_on r tries d [])
      (chained_unless (wrong_field r 0 told) told))
  chained_stands count tries told (allowed, chained) =
      let base : told.base.root ≡ r.base_root =
      base_begins (has (slice_index c.base.sets (file_in c.files n).node) u) c.base c.grants u
      (file_in c.files n).node told.base chained.base
      ∙ sym roots.base in
      let surface : BeginsAt r.surface_root told.surface =
      subst (λ m. BeginsAt m told.surface) (sym roots.surface)
      (surface_begins c.surface u (file_in c.files n).surface told.surface chained.surface) in
      subst (λ (o : Option ℕ). Stands count
      (then_or (λ (d : Chained). goes_on r tries d []) (chained_unless o told)))
      (sym (right_field r told base surface))
      (goes_on_stands told (record { allowed = allowed; chained = chained }) count tries [])

  chain_stands : (count : ℕ) (tries : List ℕ) (least : ℕ) (a : Answer) → least ≡ 0
      → AnswersChain c u n a → Stands count (after r (AsksChain tries least) (Ok a))
  unfolding Stands
  chain_stands count tries least (answers.Chained told) none is =
      subst (λ m. Stands count (after r (AsksChain tries m) (Ok (answers.Chained told)))) (sym none)
      (chained_stands count tries told is)
  chain_stands count tries least (answers.Refused why) none is = tt
  chain_stands count tries least a none is = absurd is

  -- ---- an answer to Chunk

  module _ (tries : List ℕ) (told : Chained) (stored : List ℕ) (f : IsFetching told) where
    bytes_stand : (count : ℕ) (bytes : List ℕ)
        → length bytes ≡ min MAX_CHUNK_BYTES ((file_in c.files told.file).length - length stored)
        → Stands count (after r (AsksChunk tries told stored) (Ok (answers.Bytes bytes)))
    unfolding Stands
    bytes_stand count bytes many =
        let right : length bytes ≡ chunk_bytes told.length (length stored) =
        many ∙ ap (λ l. min MAX_CHUNK_BYTES (l - length stored)) (size told f) in
        subst
        (λ (b : Bool). Stands count
        (then_or (after_fetched r tries told stored)
        (if b then Ok (Bytes bytes) else Err
        (client.BadReply (1 + min (length bytes) (chunk_bytes told.length (length stored)))))))
        (sym (eq-eqb (length bytes) (chunk_bytes told.length (length stored)) right))
        (goes_on_stands told f count tries (stored ++ bytes))

    abbrev chunk : Request
    chunk = requests.Chunk told.file told.generation (length stored) MAX_CHUNK_BYTES

    chunk_stands : (count : ℕ) (all : Option (List ℕ)) (a : Answer)
        → AnswersChunk (Some (file_in c.files told.file)) all told.generation (length stored)
        MAX_CHUNK_BYTES a
        → HasAnswerForm a
        → IsAnswer chunk a × Stands count (after r (AsksChunk tries told stored) (Ok a))
    chunk_stands count all (answers.Bytes bytes) is form = (form, bytes_stand count bytes is.1)
    chunk_stands count all (answers.Moved now) is form =
        absurd
        (is.0 (ap (λ m. (file_in c.files m).generation) f.chained.file ∙ sym f.chained.generation))
    chunk_stands count all (answers.Refused why) is form = absurd is
    chunk_stands count all a is form = absurd is

    -- a Chunk is asked of the store
    chunk_asked : (p t : Opened D) (reply : List ℕ) → Stays tells s p → HasRequestForm chunk
        → asked p (request_bytes chunk) reply t
        → Stays tells p t
        × Stands (tells.faults t.disk) (after r (AsksChunk tries told stored) (answer_of chunk reply))
    unfolding Stands
    chunk_asked p t reply still form asks = by asks.answer where
      by_need : IsFaulted tells p t (request_bytes chunk) reply
          → FailsUpdate p t (request_bytes chunk)
          ⊎ (AsksBytes (serving_of p) (request_bytes chunk) × WritesNothing tells p t)
          → Stays tells p t
          × Stands (tells.faults t.disk)
          (after r (AsksChunk tries told stored) (answer_of chunk reply))
      by_need is (inl fails) =
          let back = request_back chunk form in absurd (let other = fails.has.is in cc (back, other))
      by_need is (inr (asks_bytes, writes)) =
          let read : answer_of chunk reply ≡ Ok answers.DeviceFault =
          ap (answer_of chunk) is.spelled ∙ reads_back chunk answers.DeviceFault tt tt in
          let rose : Rose (tells.faults p.disk) (tells.faults t.disk) =
          asks.call.3 (is.spelled, λ update. fails_same tells s p still ∙ sound) in (
            asked_stays tells p t (request_bytes chunk) reply asks writes,
            subst (λ (x : Result Answer ℕ). Stands (tells.faults t.disk)
                (after r (AsksChunk tries told stored) x)) (sym read)
                (rose_since (tells.faults s.disk) (tells.faults p.disk) (tells.faults t.disk)
                still.later rose),
          )

      by : AnswersOrFails tells p t (request_bytes chunk) reply
          → Stays tells p t
          × Stands (tells.faults t.disk)
          (after r (AsksChunk tries told stored) (answer_of chunk reply))
      by (inl is) =
          let (a, said, makes) = says (serving_of p) chunk reply is.frame.made form is.frame.replies in
          let at_s : Answers (serving_of s) chunk a =
          subst (λ (x : Serving). Answers x chunk a) (shows_same tells s p still) said.answers in
          let all : Option (List ℕ) =
          option_map (λ bytes. slice_index_or bytes told.file []) s.stored in
          let both = chunk_stands (tells.faults t.disk) all a
          (subst (λ (o : Option Filed). AnswersChunk o all told.generation (length stored)
          MAX_CHUNK_BYTES a)
          (found_file c.files told.file (low_told told f)) at_s) said.form in
          let read : answer_of chunk reply ≡ Ok a =
          ap (answer_of chunk) said.spelled ∙ reads_back chunk a both.0 said.form in (
            asked_stays tells p t (request_bytes chunk) reply asks (is.untouched makes),
            subst (λ (x : Result Answer ℕ). Stands (tells.faults t.disk)
                (after r (AsksChunk tries told stored) x)) (sym read) both.1,
          )
      by (inr is) = by_need is is.needs

  -- ---- one ask, and all

  chain_asked : (tries : List ℕ) (least : ℕ) (p t : Opened D) (reply : List ℕ) → Stays tells s p
      → least ≡ 0
      → HasRequestForm (requests.Chain r.name file)
      → asked p (request_bytes (requests.Chain r.name file)) reply t
      → Stays tells p t
      × Stands (tells.faults t.disk)
      (after r (AsksChain tries least) (answer_of (requests.Chain r.name file) reply))
  chain_asked tries least p t reply still none form asks =
      let (stays, a, said) = quiet_asked tells p t
      (requests.Chain r.name file) reply form (λ x. x) asks in
      let at_s : AnswersChain c u n a =
      subst (λ (x : Serving). AnswersChain x.catalogue (user_named x.catalogue r.name)
      (file_named x.catalogue file) a) (shows_same tells s p still) said.answers in
      let read : answer_of (requests.Chain r.name file) reply ≡ Ok a =
      ap (answer_of (requests.Chain r.name file)) said.spelled
      ∙ reads_back (requests.Chain r.name file) a
      (chain_is_answer c r.name file u n a at_s said.form) said.form in (
        stays,
        subst (λ (x : Result Answer ℕ). Stands (tells.faults t.disk) (after r (AsksChain tries least) x))
            (sym read)
            (chain_stands (tells.faults t.disk) tries least a none at_s),
      )

  one_ask : (stage next : Stage) (a : Ask) (p t : Opened D) → Stays tells s p
      → Stands (tells.faults p.disk) stage
      → Moves r file stage a next → asked p a.request a.reply t
      → Stays tells p t × Stands (tells.faults t.disk) next
  unfolding Stands
  one_ask stage next a p t still stands moves asks = by_stage stage refl where
    spelled : a.request ≡ request_bytes moves.asks.request
    spelled = moves.asks.spelled

    asks_so : (request : Request) → request ≡ moves.asks.request
        → asked p (request_bytes request) a.reply t
    asks_so request same =
        subst (λ (f : List ℕ). asked p f a.reply t) (spelled ∙ ap request_bytes (sym same)) asks

    then_so : (before : Stage) (request : Request) → before ≡ stage → request ≡ moves.asks.request
        → Stands (tells.faults t.disk) (after r before (answer_of request a.reply))
        → Stands (tells.faults t.disk) next
    then_so before request at_it same is = by_read moves.reads where
      by_read : (IsAfter r stage moves.asks.request a.reply next)
          ⊎ (next ≡ Ends (Err client.Memory)) → Stands (tells.faults t.disk) next
      by_read (inl moved) =
          subst (Stands (tells.faults t.disk))
          ((λ i. after r (at_it i) (answer_of (same i) a.reply)) ∙ sym moved.moves) is
      by_read (inr memory) = subst (Stands (tells.faults t.disk)) (sym memory) tt

    by_stage : (before : Stage) → before ≡ stage
        → Stays tells p t × Stands (tells.faults t.disk) next
    by_stage (AsksChain tries least) is =
        let request : requests.Chain r.name file ≡ moves.asks.request = cc
        (ap (asked_at r file) is, moves.asks.is_asked) in
        let (stays, at_next) = chain_asked tries least p t a.reply still
        (subst (Stands (tells.faults p.disk)) (sym is) stands)
        (subst HasRequestForm (sym request) moves.asks.form)
        (asks_so (requests.Chain r.name file) request) in
        (stays, then_so (AsksChain tries least) (requests.Chain r.name file) is request at_next)
    by_stage (AsksChunk tries told stored) is =
        let chunk_is : requests.Chunk told.file told.generation (length stored) MAX_CHUNK_BYTES
        ≡ moves.asks.request = cc (ap (asked_at r file) is, moves.asks.is_asked) in
        let f : IsFetching told = subst (Stands (tells.faults p.disk)) (sym is) stands in
        let (stays, at_next) = chunk_asked tries told stored f p t a.reply still
        (subst HasRequestForm (sym chunk_is) moves.asks.form)
        (asks_so (requests.Chunk told.file told.generation (length stored) MAX_CHUNK_BYTES) chunk_is) in (
          stays,
          then_so (AsksChunk tries told stored)
              (requests.Chunk told.file told.generation (length stored) MAX_CHUNK_BYTES) is chunk_is at_next,
        )
    by_stage (Ends result) is =
        absurd (let none = ap (asked_at r file) is in cc (none, moves.asks.is_asked))

  all_asks : (asks : List Ask) (stage last : Stage) (p m : Opened D) → Stays tells s p
      → Stands (tells.faults p.disk) stage
      → Goes r file stage asks last → Leads (store_peer tells) p asks m
      → Stays tells s m × Stands (tells.faults m.disk) last × AllStay tells p asks
  all_asks [] stage last p m still stands goes leads = (
    subst (Stays tells s) leads still,
    subst (λ (x : Opened D). Stands (tells.faults x.disk) last) leads
        (subst (Stands (tells.faults p.disk)) goes stands),
    tt,
  )
  all_asks (a ∷ asks) stage last p m still stands (next, moves, goes) (q, first, leads) =
      let (stays, at_next) = one_ask stage next a p q still stands moves first in
      let (at_m, at_last, each) = all_asks asks next last q m (stays_then tells s p q still stays)
      at_next goes leads in
      (at_m, at_last, (q, first, stays, each))

  -- an ask that failed, or whose reply was lost
  last_ask : (stage : Stage) (frame : List ℕ) (m t : Opened D) → Stays tells s m
      → Stands (tells.faults m.disk) stage
      → IsAskedAt r file stage frame → ((t ≡ m) ⊎ ((reply : List ℕ) × asked m frame reply t))
      → Stays tells s t
  last_ask stage frame m t still stands due (inl same) = subst (Stays tells s) (sym same) still
  last_ask stage frame m t still stands due (inr (reply, asks)) =
      stays_then tells s m t still
      (one_ask stage (Ends (Err client.Memory)) (record { request = frame; reply = reply }) m t still
      stands (record { asks = due; reads = inr refl }) asks).0

  begins : (count : ℕ) → Stands count (AsksChain [] 0)
  unfolding Stands
  begins count = refl

  closed_so : (last : Stage) (o : Option (List ℕ)) (result : Result (List ℕ) ClientFault)
      (m t : Opened D) → Stays tells s m → Stands (tells.faults m.disk) last
      → Closes r file last o result
      → LeftBy tells m o t
      → Stays tells s t × IsReadEnd (tells.faults s.disk) (tells.faults t.disk) result
  unfolding Stands
  closed_so last None result m t still stands (inl is) left = (
    subst (Stays tells s) left still,
    subst (λ (x : Opened D). IsReadEnd (tells.faults s.disk) (tells.faults x.disk) result) left
        (subst (Stands (tells.faults m.disk)) is stands),
  )
  closed_so last None result m t still stands (inr memory) left = (
    subst (Stays tells s) left still,
    subst (IsReadEnd (tells.faults s.disk) (tells.faults t.disk)) (sym memory) tt,
  )
  closed_so last (Some frame) result m t still stands (due, why) left =
      (last_ask last frame m t still stands due left, by why) where
        by : (result ≡ Err client.Link) ⊎ (result ≡ Err client.Memory)
            → IsReadEnd (tells.faults s.disk) (tells.faults t.disk) result
        by (inl link) = subst (IsReadEnd (tells.faults s.disk) (tells.faults t.disk)) (sym link) tt
        by (inr memory) =
            subst (IsReadEnd (tells.faults s.disk) (tells.faults t.disk)) (sym memory) tt

  -- a read changes nothing but the disk, and ends so
  pub reads_so : (asks : List Ask) (o : Option (List ℕ)) (result : Result (List ℕ) ClientFault)
      (p m t : Opened D) → Stays tells s p
      → Talks r file asks o result → Leads (store_peer tells) p asks m
      → LeftBy tells m o t
      → Stays tells s t × IsReadEnd (tells.faults s.disk) (tells.faults t.disk) result
      × AllStay tells p asks
  reads_so asks o result p m t still (last, goes, closes) leads left =
      let (at_m, stands, each) = all_asks asks (AsksChain [] 0) last p m still
      (begins (tells.faults p.disk)) goes leads in
      let (stays, ends) = closed_so last o result m t at_m stands closes left in
      (stays, ends, each)
