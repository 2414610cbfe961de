-- The frames of a call to a server that nobody else updates are short.
use Rattle.std.proofs.Common.{◌≡◌, ℕ, ◌+◌, ◌*◌, ◌≤◌, ◌∙◌, List, [], ◌∷◌, ◌++◌, length, length-append, Option, Result, Ok, Err, refl, ap, subst, sym, inl, inr, arith}
use Rattle.std.specs.Prelude.{nat_lt, Bool, true, false}
use Rattle.ov_base.specs.Sets.{size}
use Rattle.ov_base.specs.declared.limits.TheConstants.{SET_BYTES}
use Rattle.ov_fields.specs.Fronts.{AreAllBytes}
use Rattle.ov_fields.specs.Spelling.{u32}
use Rattle.ov_record.specs.Reading.{update_of}
use Rattle.ov_record.specs.Spelling.{HasForm, spelling}
use Rattle.ov_record.specs.Updates.{SealedUpdate}
use Rattle.ov_record.specs.Forms.{second_form}
use Rattle.ov_script.specs.declared.command.Command.{Command}
use Rattle.ov_script.specs.declared.command.Command.TheVariants as commands
use Rattle.ov_history.specs.Asking.{file_named}
use Rattle.ov_history.specs.Catalogue.{Catalogue, outline}
use Rattle.ov_history.specs.Layers.{layers_of, list_in}
use Rattle.ov_history.specs.Lists.{file_number, set_named, user_number}
use Rattle.ov_history.specs.History.{matrix_of}
use Rattle.ov_history.specs.Masters.{Masters}
use Rattle.ov_history.specs.Plain.{PlainEnrol, PlainGrant, PlainHistory, PlainRemove, PlainRevoke, history_of}
use Rattle.ov_history.specs.Refusals.{IsLegal}
use Rattle.ov_history.specs.Sealed.{SealedHistory, catalogue_of}
use Rattle.ov_history.specs.Sealing.{IsSealedAs, sealed, sealed_update}
use Rattle.ov_history.specs.Sent.{spelled}
use Rattle.ov_history.proofs.Agreeing.{right_shows}
use Rattle.ov_wire.specs.declared.request.Question.TheVariants as questions
use Rattle.ov_wire.specs.declared.request.Request.{Request}
use Rattle.ov_wire.specs.declared.answer.Answer.{Answer}
use Rattle.ov_wire.specs.declared.answer.Answer.TheVariants as answers
use Rattle.ov_wire.specs.AnswerBytes.{answer_bytes}
use Rattle.ov_wire.specs.AnswerReading.{answer_of}
use Rattle.ov_wire.specs.Requests.{HasRequestForm, request_bytes}
use Rattle.ov_protocol.specs.Serving.{Service, followed, served}
use Rattle.ov_protocol.specs.Answers.{Answers}
use Rattle.ov_protocol.specs.Replies.{AnswersRead}
use Rattle.ov_protocol.specs.Updating.{AnswersUpdate, owner_tag}
use Rattle.ov_protocol.proofs.Reading.{request_back}
use Rattle.ov_peer.specs.Asks.{Ask}
use Rattle.ov_peer.specs.Tells.{IsReplyAt}
use Rattle.ov_peer.specs.Exchanges.{IsAnswerAt}
use Rattle.ov_peer.proofs.Telling.{answer_at}
use Rattle.ov_owner.specs.Alone.{AnsweredAlone, AskedAlone}
use Rattle.ov_owner.specs.Errands.{Errand, creating, enrolling, granting, removing, replacing, revoking}
use Rattle.ov_owner.specs.Laws.{TalksAreShort, frame_bytes, list_size}
use Rattle.ov_owner.specs.Talks.{Asks, Ends, Goes, IsAfter, Moves, Sends, Stage, Talks, after as stage_after, after_first, after_update, sends_if, start, update_request}
use Rattle.ov_owner.specs.declared.fault.OwnerFault.{OwnerFault}
use Rattle.ov_owner.proofs.Agreeing.{answers_alike}
use Rattle.ov_owner.proofs.Leaving.{Serves, is_first, is_spelling, is_update, nothing_due, one_ask}
use Rattle.ov_owner.proofs.Sizes.{ask_answer_short, cover_answer_short, cover_short, creation_short, list_few, question_short, replacement_short, replan_answer_short, replan_short, short_update, spelled_answer_short}
use Rattle.ov_owner.proofs.Doing.{Does, create_does, enrol_does, grant_does, remove_does, replace_does, revoke_does}
use Rattle.ov_owner.proofs.Telling.{list_here, list_shown, names_after, under}

-- a reply to a request that was sent is an answer to it, or says that the disk failed
reply_short : (v : Service) (request : Request) (reply : List ℕ) (made : List SealedUpdate) (most : ℕ)
    → HasRequestForm request → 1 ≤ most
    → ((a : Answer) → Answers (served v) request a → length (answer_bytes a) ≤ most)
    → IsReplyAt v (request_bytes request) reply made → length reply ≤ most
reply_short v request reply made most form some each (inl replies) =
    let answered : Answers (served v) request replies.answer =
    subst (λ (r : Result Request ℕ). AnswersRead (served v) r replies.answer) (request_back request form) replies.answers in
    subst (λ (x : List ℕ). length x ≤ most) (sym replies.spelled) (each replies.answer answered)
reply_short v request reply made most form some each (inr failed) =
    let one : length reply ≡ 1 = ap length failed.spelled in omega arith

-- an answer to an update has five bytes at most
update_answer_short : (surface : List ℕ) (c : Catalogue) (epoch : ℕ) (spelled tag : List ℕ) (a : Answer)
    → AnswersUpdate surface c epoch spelled tag a → length (answer_bytes a) ≤ 5
update_answer_short surface c epoch spelled tag answers.BadTag is = omega arith
update_answer_short surface c epoch spelled tag (answers.Stale now) is = omega arith
update_answer_short surface c epoch spelled tag a (tagged, now, is) =
    spelled_answer_short c (update_of second_form spelled) a is

update_length : (surface : List ℕ) (epoch : ℕ) (u : SealedUpdate)
    → HasRequestForm (update_request surface epoch u)
    → length (request_bytes (update_request surface epoch u)) ≡ 37 + length (spelling second_form u)
update_length surface epoch u form =
    let tag = owner_tag surface epoch (spelling second_form u) in
    let all : length tag ≡ 32 = form.is_request.2 in
    omega (arith, all, length-append (u32 epoch ++ spelling second_form u) tag, length-append (u32 epoch) (spelling second_form u))

module _ (k : Masters) (command : Command) (e : Errand) (d : Does k command e) (base_check : List ℕ) (p : PlainHistory) (legal : IsLegal (history_of p))
    (first told sent : ℕ) (some : 1 ≤ told)
    (first_short : HasRequestForm e.first → length (request_bytes e.first) ≤ first)
    (told_short : (a : Answer) → Answers (served (under k.surface base_check (sealed k p))) e.first a
    → length (answer_bytes a) ≤ told)
    (sent_short : let u = spelled (names_after p) (sealed_update k (layers_of (history_of p)) (d.plain p)) in
    HasForm second_form u → length (spelling second_form u) ≤ sent)
    (s : SealedHistory) (right : IsSealedAs k p s) where
  abbrev At : Stage → SealedHistory → Type 0
  At stage g = Serves k command e d base_check p legal s right stage g

  abbrev here : SealedHistory → Service
  here g = under k.surface base_check g

  -- from a stage on the frames have at most this many bytes
  abbrev most : Stage → ℕ
  most (Asks tries least) = (4 + first) + (4 + told) + (50 + sent)
  most (Sends tries epoch u) = 50 + sent
  most (Ends result) = 0

  by_test : (b : Bool) (tries : List ℕ) (epoch : ℕ) (u : SealedUpdate)
      → most (sends_if b tries epoch u) ≤ 50 + sent
  by_test true tries epoch u = omega arith
  by_test false tries epoch u = omega arith

  by_told : (r : Result (ℕ × SealedUpdate) OwnerFault) (tries : List ℕ) (least : ℕ)
      → most (after_first tries least r) ≤ 50 + sent
  by_told (Err fault) tries least = omega arith
  by_told (Ok (epoch, u)) tries least = by_test (nat_lt epoch least) tries epoch u

  by_read : (read : Result Answer ℕ) (tries : List ℕ) (least : ℕ)
      → most (stage_after e (Asks tries least) read) ≤ 50 + sent
  by_read (Err place) tries least = omega arith
  by_read (Ok a) tries least = by_told (e.sealed a) tries least

  after_asking : (tries : List ℕ) (least : ℕ) (request : Request) (reply : List ℕ) (next : Stage)
      → IsAfter e (Asks tries least) request reply next → most next ≤ 50 + sent
  after_asking tries least request reply next (inr memory) =
      subst (λ (s : Stage). most s ≤ 50 + sent) (sym memory) (omega arith)
  after_asking tries least request reply next (inl (bytes, is)) =
      subst (λ (s : Stage). most s ≤ 50 + sent) (sym is) (by_read (answer_of request reply) tries least)

  -- the server is still at the epoch of the update, so that it isn't stale
  never_stale : (g : SealedHistory) (epoch now : ℕ) (u : SealedUpdate) (made : List SealedUpdate)
      → g ≡ s → epoch ≡ (catalogue_of k.surface (sealed k p)).epoch
      → IsAnswerAt (here g) (update_request k.surface epoch u) (answers.Stale now) made → ⊥
  never_stale g epoch now u made same at_epoch (inr (disk, may, needs)) = cc disk
  never_stale g epoch now u made same at_epoch (inl ((tagged, other, is), makes_it)) =
      other (at_epoch ∙ ap (λ (c : Catalogue). c.epoch) (sym (right_shows k p s legal right))
      ∙ ap (λ (x : SealedHistory). (catalogue_of k.surface x).epoch) (sym same))

  by_answer : (g : SealedHistory) (tries : List ℕ) (epoch : ℕ) (u : SealedUpdate) (a : Answer)
      (made : List SealedUpdate)
      → g ≡ s → epoch ≡ (catalogue_of k.surface (sealed k p)).epoch
      → IsAnswerAt (here g) (update_request k.surface epoch u) a made
      → most (after_update tries epoch a) ≡ 0
  by_answer g tries epoch u (answers.Accepted now) made same at_epoch is = refl
  by_answer g tries epoch u (answers.Refused why) made same at_epoch is = refl
  by_answer g tries epoch u (answers.Stale now) made same at_epoch is =
      absurd (never_stale g epoch now u made same at_epoch is)
  by_answer g tries epoch u answers.BadTag made same at_epoch is = refl
  by_answer g tries epoch u answers.DeviceFault made same at_epoch is = refl
  by_answer g tries epoch u answers.NoMemory made same at_epoch is = refl
  by_answer g tries epoch u a made same at_epoch is = refl

  by_sent : (g : SealedHistory) (tries : List ℕ) (epoch : ℕ) (u : SealedUpdate)
      (read : Result Answer ℕ) (reply : List ℕ) (made : List SealedUpdate)
      → g ≡ s → epoch ≡ (catalogue_of k.surface (sealed k p)).epoch
      → HasRequestForm (update_request k.surface epoch u) → AreAllBytes reply
      → answer_of (update_request k.surface epoch u) reply ≡ read
      → IsReplyAt (here g) (request_bytes (update_request k.surface epoch u)) reply made
      → most (stage_after e (Sends tries epoch u) read) ≡ 0
  by_sent g tries epoch u (Err place) reply made same at_epoch form bytes reads replied = refl
  by_sent g tries epoch u (Ok a) reply made same at_epoch form bytes reads replied =
      by_answer g tries epoch u a made same at_epoch
      (answer_at (here g) (update_request k.surface epoch u) a reply made form bytes reads replied)

  -- one ask
  one_short : (stage next : Stage) (a : Ask) (g : SealedHistory) (made : List SealedUpdate)
      (moves : Moves k.surface e stage a next) → At stage g
      → IsReplyAt (here g) a.request a.reply made
      → IsAfter e stage moves.asked.request a.reply next
      → (4 + length a.request) + (4 + length a.reply) + most next ≤ most stage
  one_short (Ends r) next a g made moves ready replied then =
      absurd (nothing_due k command e d base_check p legal r a.request moves.asked)
  one_short (Asks tries least) next a g made moves same replied then =
      let ours : e.first ≡ moves.asked.request =
      is_first k command e d base_check p legal tries least a.request moves.asked in
      let frame : a.request ≡ request_bytes e.first = moves.asked.spelled ∙ ap request_bytes (sym ours) in
      let one : length a.request ≡ length (request_bytes e.first) = ap length frame in
      let two = first_short moves.asked.form in
      let three : length a.reply ≤ told =
      reply_short (here g) e.first a.reply made told moves.asked.form some
      (λ x is. told_short x (answers_alike k base_check p s legal right e.first x
      (subst (λ (h : SealedHistory). Answers (served (here h)) e.first x) same is)))
      (subst (λ (x : List ℕ). IsReplyAt (here g) x a.reply made) frame replied) in
      let four = after_asking tries least moves.asked.request a.reply next then in
      omega (arith, one, two, three, four)
  one_short (Sends tries epoch u) next a g made moves (same, ready) replied then =
      let request = update_request k.surface epoch u in
      let ours : request ≡ moves.asked.request =
      is_update k command e d base_check p legal tries epoch u a.request moves.asked in
      let frame : a.request ≡ request_bytes request = moves.asked.spelled ∙ ap request_bytes (sym ours) in
      let replied_so : IsReplyAt (here g) (request_bytes request) a.reply made =
      subst (λ (x : List ℕ). IsReplyAt (here g) x a.reply made) frame replied in
      let one : length a.request ≡ 37 + length (spelling second_form u) =
      ap length frame ∙ update_length k.surface epoch u moves.asked.form.1 in
      let as_sealed = is_spelling k command e d base_check p legal epoch u ready in
      let two : length (spelling second_form u) ≤ sent =
      subst (λ (x : SealedUpdate). length (spelling second_form x) ≤ sent) as_sealed
      (sent_short (subst (HasForm second_form) (sym as_sealed) moves.asked.form.0)) in
      let three : length a.reply ≤ 5 =
      reply_short (here g) request a.reply made 5 moves.asked.form.1 (omega arith)
      (λ x is. update_answer_short k.surface (catalogue_of k.surface g) epoch (spelling second_form u)
      (owner_tag k.surface epoch (spelling second_form u)) x is)
      replied_so in
      let four : most next ≡ 0 = by_next replied_so then in
      omega (arith, one, two, three, four) where
        by_next : IsReplyAt (here g) (request_bytes (update_request k.surface epoch u)) a.reply made
            → IsAfter e (Sends tries epoch u) moves.asked.request a.reply next → most next ≡ 0
        by_next replied_so (inr memory) = ap most memory
        by_next replied_so (inl (bytes, is)) =
            let ours : update_request k.surface epoch u ≡ moves.asked.request =
            is_update k command e d base_check p legal tries epoch u a.request moves.asked in
            ap most (is ∙ ap (λ (r : Request). stage_after e (Sends tries epoch u) (answer_of r a.reply)) (sym ours))
            ∙ by_sent g tries epoch u (answer_of (update_request k.surface epoch u) a.reply) a.reply made same
            ready.at_epoch moves.asked.form.1 bytes refl replied_so

  all_short : (stage final : Stage) (asks : List Ask) (g : SealedHistory) (m : Service) → At stage g
      → Goes k.surface e stage asks final → AnsweredAlone (here g) asks m
      → frame_bytes asks ≤ most stage
  all_short stage final [] g m ready same alone = omega arith
  all_short stage final (a ∷ asks) g m ready (next, moves, goes) (made, replied, alone) =
      let one = one_short stage next a g made moves ready replied moves.then in
      let rest = all_short next final asks (followed g made) m
      (one_ask k command e d base_check p legal s right stage next a g made moves ready replied moves.then)
      goes alone in
      omega (arith, one, rest)

  pub talk_short : (asks : List Ask) (unanswered : Option (List ℕ)) (result : Result ℕ OwnerFault)
      (last : Service)
      → Talks k.surface e asks unanswered result
      → AskedAlone (here s) asks unanswered last → frame_bytes asks ≤ first + told + sent + 58
  talk_short asks unanswered result last (final, goes, closes) (m, alone, left) =
      let k = all_short start final asks s m refl goes alone in omega (arith, k)

by_sizes : (k : Masters) (command : Command) (e : Errand) (d : Does k command e)
    (asks : List Ask) (unanswered : Option (List ℕ)) (result : Result ℕ OwnerFault)
    (v last : Service) (p : PlainHistory) (first told sent : ℕ)
    → Talks k.surface e asks unanswered result → v.surface ≡ k.surface → IsLegal (history_of p)
    → IsSealedAs k p v.history → AskedAlone v asks unanswered last
    → 1 ≤ told → (HasRequestForm e.first → length (request_bytes e.first) ≤ first)
    → ((a : Answer) → Answers (served (under k.surface v.base_check (sealed k p))) e.first a
    → length (answer_bytes a) ≤ told)
    → (let u = spelled (names_after p) (sealed_update k (layers_of (history_of p)) (d.plain p)) in
    HasForm second_form u → length (spelling second_form u) ≤ sent)
    → frame_bytes asks ≤ first + told + sent + 58
by_sizes k command e d asks unanswered result v last p first told sent talks same legal right
    alone some first_short told_short sent_short =
    talk_short k command e d v.base_check p legal first told sent some first_short told_short
    sent_short v.history right asks unanswered result last talks
    (subst (λ (s : List ℕ). AskedAlone (under s v.base_check v.history) asks unanswered last) same alone)

pub talks_are_short : TalksAreShort
talks_are_short k (commands.Enrol user) e asks unanswered result v last p is talks same legal right alone =
    let c = catalogue_of k.surface (sealed k p) in
    let n = by_sizes k (commands.Enrol user) (enrolling user) (enrol_does k user)
    asks unanswered result v last p 132 26 66
    (subst (λ (x : Errand). Talks k.surface x asks unanswered result) is talks) same legal right alone (omega arith)
    (question_short (questions.Enrol user)) (ask_answer_short c (questions.Enrol user))
    (λ form. short_update (spelled (names_after p) (sealed_update k (layers_of (history_of p)) (PlainEnrol user))) form refl) in
    omega (arith, n)
talks_are_short k (commands.Create file names bytes) e asks unanswered result v last p is talks same legal right alone =
    let c = catalogue_of k.surface (sealed k p) in
    let m = matrix_of (history_of p) in
    let shown = list_few c.users names in
    let list = list_few m.users names in
    let n = by_sizes k (commands.Create file names bytes) (creating k.base file names bytes)
    (create_does k file names bytes)
    asks unanswered result v last p (72 + 65 * length names) (16 + SET_BYTES + 4 * length names)
    (104 + SET_BYTES + 32 * length names + length bytes)
    (subst (λ (x : Errand). Talks k.surface x asks unanswered result) is talks) same legal right alone (omega arith)
    (cover_short file (length bytes) names)
    (λ a is. cover_answer_short c file (length bytes) (set_named c.users names) (length names) a is shown)
    (creation_short k (layers_of (history_of p)) (names_after p) file (set_named m.users names) (length names) bytes list) in
    omega (arith, n)
talks_are_short k (commands.Grant user file) e asks unanswered result v last p is talks same legal right alone =
    let m = matrix_of (history_of p) in
    let c = catalogue_of k.surface (sealed k p) in
    let n = by_sizes k (commands.Grant user file) (granting k.base user file) (grant_does k user file)
    asks unanswered result v last p 132 26 66
    (subst (λ (x : Errand). Talks k.surface x asks unanswered result) is talks) same legal right alone (omega arith)
    (question_short (questions.Grant user file)) (ask_answer_short c (questions.Grant user file))
    (λ form. short_update (spelled (names_after p) (sealed_update k (layers_of (history_of p)) (PlainGrant (user_number m user) (file_number m file)))) form refl) in
    omega (arith, n)
talks_are_short k (commands.Revoke user file) e asks unanswered result v last p is talks same legal right alone =
    let m = matrix_of (history_of p) in
    let c = catalogue_of k.surface (sealed k p) in
    let n = by_sizes k (commands.Revoke user file) (revoking user file) (revoke_does k user file)
    asks unanswered result v last p 132 26 66
    (subst (λ (x : Errand). Talks k.surface x asks unanswered result) is talks) same legal right alone (omega arith)
    (question_short (questions.Revoke user file)) (ask_answer_short c (questions.Revoke user file))
    (λ form. short_update (spelled (names_after p) (sealed_update k (layers_of (history_of p)) (PlainRevoke (user_number m user) (file_number m file)))) form refl) in
    omega (arith, n)
talks_are_short k (commands.Remove file) e asks unanswered result v last p is talks same legal right alone =
    let m = matrix_of (history_of p) in
    let c = catalogue_of k.surface (sealed k p) in
    let n = by_sizes k (commands.Remove file) (removing file) (remove_does k file)
    asks unanswered result v last p 132 26 66
    (subst (λ (x : Errand). Talks k.surface x asks unanswered result) is talks) same legal right alone (omega arith)
    (question_short (questions.Remove file)) (ask_answer_short c (questions.Remove file))
    (λ form. short_update (spelled (names_after p) (sealed_update k (layers_of (history_of p)) (PlainRemove (file_number m file)))) form refl) in
    omega (arith, n)
talks_are_short k (commands.Replace file bytes) e asks unanswered result v last p is talks same legal right alone =
    let h = history_of p in
    let c = catalogue_of k.surface (sealed k p) in
    let number = file_number (matrix_of h) file in
    let most = list_size p file in
    let few : size (list_in (layers_of h) number) ≤ most =
    omega (arith, ap size (list_here k p legal file)) in
    let few_shown : size (list_in (outline c) (file_named c file)) ≤ most =
    omega (arith, ap size (list_shown k p legal file)) in
    let n = by_sizes k (commands.Replace file bytes) (replacing k.base file bytes)
    (replace_does k file bytes)
    asks unanswered result v last p 70 (16 + SET_BYTES + 4 * most) (104 + 32 * most + length bytes)
    (subst (λ (x : Errand). Talks k.surface x asks unanswered result) is talks) same legal right alone (omega arith)
    (replan_short file (length bytes))
    (λ a is. replan_answer_short c (file_named c file) (length bytes) most a is few_shown)
    (replacement_short k (layers_of h) (names_after p) number most bytes few) in
    omega (arith, n)
talks_are_short k command e asks unanswered result v last p is talks same legal right alone = absurd is
