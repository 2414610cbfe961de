-- The text that answers a question is that of the history.
use Rattle.std.proofs.Common.{◌≡◌, ◌∙◌, ℕ, List, Bool, Option, Some, Result, Ok, Err, refl}
use Rattle.std.proofs.Common.{sym, ap}
use Rattle.std.specs.Prelude.{IfOk}
use Rattle.ov_base.specs.declared.memory.Memory.{Memory}
use Rattle.ov_base.specs.declared.mode.Mode.{Mode}
use Rattle.ov_history.specs.History.{epoch_of, matrix_of}
use Rattle.ov_history.specs.Sealed.{outer_of}
use Rattle.ov_history.proofs.Showing.{history_is_shown}
use Rattle.ov_protocol.specs.Serving.{Service, later, served}
use Rattle.ov_wire.specs.declared.answer.Welcome.{Welcome}
use Rattle.ov_listing.specs.Answers.{IsTextAt, files_answer, given_text, text_of}
use Rattle.ov_listing.specs.Listings.{IsListingAt}
use Rattle.ov_listing.specs.Questions.{IsWelcomeAt}
use Rattle.ov_listing.specs.Telling.{Told}
use Rattle.ov_listing.specs.Texts.{epoch_text, users_text}
use Rattle.ov_listing.specs.declared.answering.Question.{Question}
use Rattle.ov_listing.specs.declared.answering.Question.TheVariants as questions
use Rattle.ov_listing.specs.declared.listing.Listing.{Listing}
use Rattle.ov_listing.specs.declared.listing.Wanted.TheVariants.{Files, Users}

module _ (alone : Bool) (v : Service) (Then : Service → Type 0) (question : Question) where
  -- where a right value gives a right text
  given : {T : Type 0} (IsRight : T → Service → Type 0) (value : T) (text : Option (List ℕ))
      → ((w : Service) → IsRight value w → IsTextAt question text w)
      → Told alone v Then IsRight (Ok value) → Told alone v Then (IsTextAt question) (Ok text)
  given IsRight value text right (others, may, then, is) =
      (others, may, then, right (later v others) is)

  pub epoch_told : question ≡ questions.Epoch → (welcome : Welcome) (made : Result (List ℕ) Memory)
      → IfOk made (λ text. text ≡ epoch_text welcome.mode welcome.epoch)
      → Told alone v Then IsWelcomeAt (Ok welcome)
      → Told alone v Then (IsTextAt question) (given_text made)
  epoch_told asked welcome (Err refused) is told = tt
  epoch_told asked welcome (Ok text) is told =
      given IsWelcomeAt welcome (Some text)
      (λ w greets fits.
      let h = outer_of w.history in
      let shown = history_is_shown w.surface (served w).catalogue w.history (fits, refl) in
      let mode : welcome.mode ≡ h.mode = ap (λ (x : Welcome). x.mode) greets ∙ shown.mode in
      let epoch : welcome.epoch ≡ epoch_of h = ap (λ (x : Welcome). x.epoch) greets ∙ shown.epoch in
      ap Some (is ∙ ap (λ (x : Mode). epoch_text x welcome.epoch) mode ∙ ap (epoch_text h.mode) epoch)
      ∙ ap (λ (q : Question). text_of q h) (sym asked))
      told
