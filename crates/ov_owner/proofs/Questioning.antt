-- What a told peer's answer to one question is.
use Rattle.std.proofs.Common.{◌≡◌, ℕ, ◌∙◌, List, [], Some, None, Result, Ok, Err, refl, sym, ap, subst, inl, inr}
use Rattle.ov_base.specs.declared.refusal.Refusal.{Refusal}
use Rattle.ov_record.specs.Updates.{SealedUpdate}
use Rattle.ov_history.specs.Catalogue.{matrix_shown}
use Rattle.ov_history.specs.History.{matrix_of}
use Rattle.ov_history.specs.Lists.{file_at, file_number, names_in as names_of_set}
use Rattle.ov_history.specs.Masters.{Masters}
use Rattle.ov_history.specs.Plain.{PlainHistory, history_of}
use Rattle.ov_history.specs.Refusals.{IsLegal, list_refusal}
use Rattle.ov_history.specs.Sealed.{catalogue_of}
use Rattle.ov_history.specs.Sealing.{IsSealedAs, sealed}
use Rattle.ov_history.proofs.Keeping.{kept_shows}
use Rattle.ov_history.proofs.Agreeing.{right_shows}
use Rattle.ov_model.specs.Step.{names_reply, reply_or}
use Rattle.ov_script.specs.declared.command.Command.TheVariants.{List as ListNames}
use Rattle.ov_script.specs.declared.reply.Reply.TheVariants as replies
use Rattle.ov_wire.specs.declared.answer.Answer.{Answer}
use Rattle.ov_wire.specs.declared.answer.Answer.TheVariants as answers
use Rattle.ov_wire.specs.declared.request.Request.{Request}
use Rattle.ov_wire.specs.declared.request.Request.TheVariants as requests
use Rattle.ov_protocol.specs.Serving.{Service, later, served}
use Rattle.ov_protocol.specs.Answers.{Answers, welcome_of}
use Rattle.ov_protocol.proofs.Leaving.{later-nil}
use Rattle.ov_peer.specs.Exchanges.{Exchanges, Tells}
use Rattle.ov_peer.specs.declared.fault.ExchangeFault.{ExchangeFault}
use Rattle.ov_peer.specs.declared.fault.ExchangeFault.TheVariants.{BadReply, Link, Memory}
use Rattle.ov_peer.specs.Tells.{PeerTells}
use Rattle.ov_owner.specs.Questions.{AsksOnce, IsListOf, IsWelcomeOf, RepliesThere, names_in, welcome_in}
use Rattle.ov_owner.specs.Helpers.{owner_fault}
use Rattle.ov_owner.specs.declared.fault.OwnerFault.{OwnerFault}

-- ---- one ask

module _ {P T : Type 0} (peer : PeerTells P) (p q : P) (request : Request)
    (take : Answer → Result T OwnerFault) where
  pub answered_once : (a : Answer) → Exchanges peer p q request (Ok a)
      → AsksOnce peer p q request take (take a)
  answered_once a x = inl (Ok a, x, refl)

  pub unanswered_once : (fault : ExchangeFault) → Exchanges peer p q request (Err fault)
      → AsksOnce peer p q request take (Err (owner_fault fault))
  unanswered_once Link x = inr (inl (refl, x))
  unanswered_once (BadReply place) x = inl (Err place, x, refl)
  unanswered_once Memory x = inr (inr (refl, x))

-- ---- of a told peer

-- nothing was made
pub none_made : (Then : Service → Type 0) (v : Service) (others made : List SealedUpdate) → made ≡ []
    → Then (later (later v others) made) → Then (later v others)
none_made Then v others made none then =
    subst Then (ap (later (later v others)) none ∙ later-nil (later v others)) then

pub welcome_told : (Then : Service → Type 0) (v : Service) (a : Answer)
    → Tells v requests.Hello a Then → IsWelcomeOf v Then (welcome_in a)
welcome_told Then v (answers.Welcome welcome) (others, made, inl (is, makes), then) =
    let same : welcome ≡ welcome_of (served (later v others)) = cc is in
    (others, same, none_made Then v others made makes then)
welcome_told Then v (answers.Welcome welcome) (others, made, inr (disk, may, needs), then) = absurd (cc disk)
welcome_told Then v answers.NoMemory tells = tt
welcome_told Then v a tells = tt

-- the machine's reply at a history that is right
machines : (v : Service) (others : List SealedUpdate) (k : Masters) (p : PlainHistory)
    → v.surface ≡ k.surface → IsLegal (history_of p) → IsSealedAs k p (later v others).history
    → matrix_shown (catalogue_of v.surface (later v others).history) ≡ matrix_of (history_of p)
machines v others k p same legal right =
    ap (λ (master : List ℕ). matrix_shown (catalogue_of master (later v others).history)) same
    ∙ ap matrix_shown (right_shows k p (later v others).history legal right)
    ∙ (kept_shows k p (catalogue_of k.surface (sealed k p)) (legal, refl)).matrix

listed_there : (Then : Service → Type 0) (v : Service) (file : List ℕ) (names : List (List ℕ))
    (others made : List SealedUpdate)
    → Answers (served (later v others)) (requests.List file) (answers.Listed names)
    → made ≡ [] → Then (later (later v others) made)
    → RepliesThere v Then (ListNames file) (replies.List file names)
listed_there Then v file names others made (none, is) makes then = (
  others,
  none_made Then v others made makes then,
  λ k p same legal right.
      let m = machines v others k p same legal right in
      let free : list_refusal (matrix_of (history_of p)) (file_number (matrix_of (history_of p)) file) ≡ None =
      (λ i. list_refusal (sym m i) (file_number (sym m i) file)) ∙ none in
      let listed : names_of_set (file_at (matrix_of (history_of p)) (file_number (matrix_of (history_of p)) file)).list (matrix_of (history_of p)).users ≡ names =
      (λ i. names_of_set (file_at (sym m i) (file_number (sym m i) file)).list (sym m i).users) ∙ sym is in
      ap (reply_or (names_reply (matrix_of (history_of p)) file (file_number (matrix_of (history_of p)) file))) free
      ∙ ap (replies.List file) listed,
)

refused_there : (Then : Service → Type 0) (v : Service) (file : List ℕ) (why : Refusal)
    (others made : List SealedUpdate)
    → Answers (served (later v others)) (requests.List file) (answers.Refused why)
    → made ≡ [] → Then (later (later v others) made)
    → RepliesThere v Then (ListNames file) (replies.Refused why)
refused_there Then v file why others made some makes then = (
  others,
  none_made Then v others made makes then,
  λ k p same legal right.
      let m = machines v others k p same legal right in
      let refused : list_refusal (matrix_of (history_of p)) (file_number (matrix_of (history_of p)) file) ≡ Some why =
      (λ i. list_refusal (sym m i) (file_number (sym m i) file)) ∙ some in
      ap (reply_or (names_reply (matrix_of (history_of p)) file (file_number (matrix_of (history_of p)) file))) refused,
)

pub list_told : (Then : Service → Type 0) (v : Service) (file : List ℕ) (a : Answer)
    → Tells v (requests.List file) a Then → IsListOf v Then file (names_in a)
list_told Then v file (answers.Listed names) (others, made, inl (answered, makes), then) =
    listed_there Then v file names others made answered makes then
list_told Then v file (answers.Listed names) (others, made, inr (disk, may, needs), then) = absurd (cc disk)
list_told Then v file (answers.Refused why) (others, made, inl (answered, makes), then) =
    refused_there Then v file why others made answered makes then
list_told Then v file (answers.Refused why) (others, made, inr (disk, may, needs), then) = absurd (cc disk)
list_told Then v file answers.NoMemory tells = tt
list_told Then v file a tells = tt
