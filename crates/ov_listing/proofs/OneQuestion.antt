-- One question to a told peer.
use Rattle.std.proofs.Common.{◌≡◌, ◌∙◌, ℕ, List, [], Bool, true, false, Option, Some, None}
use Rattle.std.proofs.Common.{Result, Ok, Err, refl, sym, subst, inl, inr}
use Rattle.ov_base.specs.declared.refusal.Refusal.TheVariants.{NoFile}
use Rattle.ov_record.specs.Updates.{SealedUpdate}
use Rattle.ov_wire.specs.Requests.{HasRequestForm, request_bytes}
use Rattle.ov_wire.specs.declared.answer.Answer.{Answer}
use Rattle.ov_wire.specs.declared.answer.Answer.TheVariants as answers
use Rattle.ov_wire.specs.declared.request.Request.{Request}
use Rattle.ov_wire.specs.declared.request.Request.TheVariants as requests
use Rattle.ov_protocol.specs.Answers.{Answers, made_by}
use Rattle.ov_protocol.specs.Serving.{Service, later, served}
use Rattle.ov_protocol.proofs.Leaving.{later-nil}
use Rattle.ov_peer.specs.Disks.{MayNeedDisk}
use Rattle.ov_peer.specs.Exchanges.{Answered, IsAnswerAt}
use Rattle.ov_peer.specs.Tells.{PeerTells}
use Rattle.ov_peer.proofs.Needing.{needs_disk}
use Rattle.ov_peer.proofs.Telling.{answer_at, exchanges_told}
use Rattle.ov_listing.specs.Questions.{IsListAt, IsShownAt, IsWelcomeAt, ShownIn, listed_in}
use Rattle.ov_listing.specs.Questions.{matrix_at, part_number, welcome_in}
use Rattle.ov_listing.specs.Telling.{IsAloneIf, MayBeMade, Told}
use Rattle.ov_listing.specs.declared.fault.ListingFault.{ListingFault}
use Rattle.ov_listing.specs.declared.part.Part.{Part}
use Rattle.ov_listing.specs.declared.shown.Shown.{Shown}
use Rattle.ov_listing.proofs.GoneFiles.{none_named}
use Rattle.ov_listing.proofs.Meanwhile.{same_left}
use Rattle.ov_listing.proofs.Pages.{no_page, page_shown}

-- a question that changes nothing and needs no disk
abbrev pub IsQuiet : Request → Type 0
IsQuiet request = (MayNeedDisk request → ⊥) × ((a : Answer) → made_by request a ≡ [])

module _ {P : Type 0} (peer : PeerTells P) (p q : P) (request : Request) (quiet : IsQuiet request)
    (form : HasRequestForm request) where
  -- its answer is one by what is served, and nothing is made
  plainly : (w : Service) (a : Answer) (made : List SealedUpdate) → IsAnswerAt w request a made
      → Answers (served w) request a × (made ≡ [])
  plainly w a made (inl (answers, makes)) = (answers, makes ∙ quiet.1 a)
  plainly w a made (inr (disk, may, needs)) =
      absurd (quiet.0 (needs_disk (served w) request form needs))

  pub answered_at : (alone : Bool) (v : Service) (a : Answer)
      → Answered peer p q request (Ok a) → IsAloneIf alone peer → peer.serves p v
      → (others : List SealedUpdate) × MayBeMade alone others × peer.serves q (later v others)
      × Answers (served (later v others)) request a
  answered_at false v a answered alone serves =
      let (others, made, at_it, then) = exchanges_told peer p q request a v form answered serves in
      let (is, none) = plainly (later v others) a made at_it in
      (others, tt, subst (peer.serves q) (same_left (later v others) made none) then, is)
  answered_at true v a answered alone serves =
      let (made, replied, then) =
      alone p q (request_bytes request) answered.reply v answered.sent serves in
      let (is, none) = plainly v a made
      (answer_at v request a answered.reply made form answered.bytes answered.reads replied) in (
        [],
        refl,
        subst (peer.serves q) (same_left v made none ∙ sym (later-nil v)) then,
        subst (λ (w : Service). Answers (served w) request a) (sym (later-nil v)) is,
      )

-- ---- the three questions

pub quiet_hello : IsQuiet requests.Hello
quiet_hello = (λ none. none, λ a. refl)

pub quiet_page : (part number : ℕ) → IsQuiet (requests.Page part number)
quiet_page part number = (λ none. none, λ a. refl)

pub quiet_list : (file : List ℕ) → IsQuiet (requests.List file)
quiet_list file = (λ none. none, λ a. refl)

module _ {P : Type 0} (peer : PeerTells P) (p q : P) (alone : Bool) (v : Service)
    (is_alone : IsAloneIf alone peer) (serves : peer.serves p v) where
  pub welcome_told : HasRequestForm requests.Hello → (a : Answer)
      → Answered peer p q requests.Hello (Ok a)
      → Told alone v (peer.serves q) IsWelcomeAt (welcome_in a)
  welcome_told form (answers.Welcome welcome) answered =
      let (others, may, then, is) = answered_at peer p q requests.Hello quiet_hello form alone v
      (answers.Welcome welcome) answered is_alone serves in
      (others, may, then, cc is)
  welcome_told form answers.NoMemory answered = tt
  welcome_told form a answered = tt

  pub shown_told : (part : Part) (number : ℕ)
      → HasRequestForm (requests.Page (part_number part) number)
      → (a : Answer) (result : Result (Option Shown) ListingFault)
      → Answered peer p q (requests.Page (part_number part) number) (Ok a) → ShownIn a result
      → Told alone v (peer.serves q) (IsShownAt part number) result
  shown_told part number form a (Ok (Some shown)) answered (entry, is_page, by) =
      let (others, may, then, is) = answered_at peer p q (requests.Page (part_number part) number)
      (quiet_page (part_number part) number) form alone v a answered is_alone serves in (
        others,
        may,
        then,
        page_shown part (served (later v others)).catalogue number shown entry
            (cc (is, is_page)) by,
      )
  shown_told part number form a (Ok None) answered is_page =
      let (others, may, then, is) = answered_at peer p q (requests.Page (part_number part) number)
      (quiet_page (part_number part) number) form alone v a answered is_alone serves in
      let now : Service = later v others in (
        others,
        may,
        then,
        no_page part (served now).catalogue number (cc (is, is_page)),
      )
  shown_told part number form a (Err fault) answered shown = tt

  pub list_told : (file : List ℕ) → HasRequestForm (requests.List file) → (a : Answer)
      → Answered peer p q (requests.List file) (Ok a)
      → Told alone v (peer.serves q) (IsListAt file) (listed_in a)
  list_told file form (answers.Listed names) answered =
      let (others, may, then, is) = answered_at peer p q (requests.List file) (quiet_list file) form
      alone v (answers.Listed names) answered is_alone serves in
      (others, may, then, is.1)
  list_told file form (answers.Refused NoFile) answered =
      let (others, may, then, is) = answered_at peer p q (requests.List file) (quiet_list file) form
      alone v (answers.Refused NoFile) answered is_alone serves in
      (others, may, then, none_named (matrix_at (later v others)) file form.is_request is)
  list_told file form answers.NoMemory answered = tt
  list_told file form a answered = tt
