-- What a server shows that serves a book's history, and the history with one update more.
use Rattle.std.proofs.Common.{◌≡◌, ◌∙◌, ◌+◌, [], ◌∷◌, length, Option, Some, None, refl}
use Rattle.std.proofs.Common.{sym, ap, subst, inl, inr}
use Rattle.std.proofs.lemmas.List.{length_push}
use Rattle.ov_record.specs.Briefs.{Brief as SpelledBrief, brief}
use Rattle.ov_record.specs.Updates.{SealedUpdate as SpelledUpdate}
use Rattle.ov_history.specs.Briefs.{Brief}
use Rattle.ov_history.specs.Catalogue.{numbered_at, outline}
use Rattle.ov_history.specs.History.{History, matrix_of}
use Rattle.ov_history.specs.Briefs.{numbered_brief}
use Rattle.ov_history.specs.Lists.{file_names}
use Rattle.ov_history.specs.Masters.{Masters}
use Rattle.ov_history.specs.Sealed.{HasParts, SealedHistory, catalogue_of, file_names_of, refusal_shown}
use Rattle.ov_history.specs.Sealed.{with_spelled}
use Rattle.ov_history.specs.Sent.{numbered}
use Rattle.ov_history.specs.Texts.{BriefHistory, IsSealedBriefly, StandsBriefly, brief_of, catalogue_by}
use Rattle.ov_history.specs.Texts.{with_brief}
use Rattle.ov_history.proofs.Briefly.{brief_of-push, catalogue-brief}
use Rattle.ov_history.proofs.Numbering.{updates_are_numbered}
use Rattle.ov_protocol.specs.Serving.{Service, later}
use Rattle.ov_books.specs.Books.{Booked, IsBook, history_by, history_of, intended, settled_of, with_next}
use Rattle.ov_books.specs.Books.{with_pending, with_settling}
use Rattle.ov_books.proofs.Keeping.{history_with}
use Rattle.ov_books.proofs.Numbering.{outer-outline, spelled_stop}
use Rattle.ov_book.proofs.Begun.{Shown, shown_by}
use Rattle.ov_owning.specs.Serving.{ServesBook}
use Rattle.ov_owning.proofs.UpdateAlone.{FitsAt}

-- ---- a book's two histories

-- without a pending intent they are the same
pub one_history : (b : Booked) → b.pending ≡ None → history_of b ≡ settled_of b
one_history b none =
    ap (λ (p : Option SpelledBrief). history_by b.mode (with_pending b.settled p)) none

-- with one the second goes on from the first
pub longer_history : (b : Booked) (u : SpelledBrief) → b.pending ≡ Some u
    → history_of b ≡ with_next (settled_of b) u
longer_history b u some =
    ap (λ (p : Option SpelledBrief). history_by b.mode (with_pending b.settled p)) some
    ∙ history_with b.mode b.settled u

-- ---- which of them is served

-- the history that is served is the settled one, at the book's epoch; or that with the pending
-- intent, at the next
pub data IsAt (b : Booked) (v : Service) : Type 0 where
  at_settled : brief_of v.history ≡ settled_of b
      → (catalogue_of v.surface v.history).epoch ≡ length b.settled → IsAt b v
  at_made : (u : SpelledBrief) → b.pending ≡ Some u → brief_of v.history ≡ history_of b
      → (catalogue_of v.surface v.history).epoch ≡ length b.settled + 1 → IsAt b v

-- the catalogue of what is served is that of a history without bytes
shown_as : (v : Service) (h : BriefHistory) → brief_of v.history ≡ h
    → catalogue_of v.surface v.history ≡ catalogue_by v.surface h
shown_as v h same =
    catalogue-brief v.surface v.history ∙ ap (λ (x : BriefHistory). catalogue_by v.surface x) same

stands_as : (v : Service) (h : BriefHistory) → brief_of v.history ≡ h → IsSealedBriefly h
    → StandsBriefly v.surface (catalogue_of v.surface v.history) h
stands_as v h same fits = (fits, shown_as v h same)

module _ (b : Booked) (v : Service) (book : IsBook b) (fits : IsSealedBriefly (settled_of b)) where
  settled_shown : brief_of v.history ≡ settled_of b
      → Shown (catalogue_of v.surface v.history) b
  settled_shown same =
      shown_by v.surface (catalogue_of v.surface v.history) b (stands_as v (settled_of b) same fits)

  whole_shown : brief_of v.history ≡ history_of b
      → Shown (catalogue_of v.surface v.history) (with_settling b)
  whole_shown same =
      shown_by v.surface (catalogue_of v.surface v.history) (with_settling b)
      (stands_as v (history_of b) same book.noted.fits)

  by_pending : (p : Option SpelledBrief) → b.pending ≡ p → brief_of v.history ≡ history_of b
      → IsAt b v
  by_pending None none same =
      let settled : brief_of v.history ≡ settled_of b = same ∙ one_history b none in
      at_settled settled (settled_shown settled).epoch
  by_pending (Some u) some same =
      let count : length (intended b) ≡ length b.settled + 1 =
      ap (λ (p : Option SpelledBrief). length (with_pending b.settled p)) some
      ∙ length_push b.settled u in
      at_made u some same ((whole_shown same).epoch ∙ count)

  module _ (k : Masters) (serves : ServesBook k b v) where
    pub where_is : IsAt b v
    where_is =
        elim serves.history [
          | inl settled ↦ at_settled settled (settled_shown settled).epoch
          | inr whole ↦ by_pending b.pending refl whole
        ]

    pub mode_served : (catalogue_of v.surface v.history).mode ≡ b.mode
    mode_served =
        elim serves.history [
          | inl settled ↦ (settled_shown settled).mode_is
          | inr whole ↦ (whole_shown whole).mode_is
        ]

-- ---- one update more

-- the history with one update more, without bytes
spelled_on : (g : SealedHistory) (u : SpelledUpdate)
    → brief_of (with_spelled g u) ≡ with_next (brief_of g) (brief u)
spelled_on g u =
    brief_of-push g (numbered (file_names_of g) u)
    ∙ ap (λ (x : Brief). with_brief (brief_of g) x)
    ((updates_are_numbered (file_names_of g) u).0
    ∙ ap (λ (h : History). numbered_brief (file_names (matrix_of h).files) (brief u))
    (outer-outline g))

module _ (b : Booked) (br : SpelledBrief) (pending : b.pending ≡ Some br) (v : Service)
    (settled : brief_of v.history ≡ settled_of b) (u : SpelledUpdate) (is : brief u ≡ br) where
  -- with the pending update the history is that with the pending intent
  pub served_with : brief_of (later v (u ∷ [])).history ≡ history_of b
  served_with =
      spelled_on v.history u ∙ (λ i. with_next (settled i) (is i))
      ∙ sym (longer_history b br pending)

  -- the pending update fits there
  pub fits_there : IsBook b → IsSealedBriefly (settled_of b)
      → FitsAt (catalogue_of v.surface v.history) u
  fits_there book fits =
      let c = catalogue_of v.surface v.history in
      let next : IsSealedBriefly (with_next (settled_of b) br) =
      subst (λ (h : BriefHistory). IsSealedBriefly h) (longer_history b br pending)
      book.noted.fits in
      subst (λ (x : SpelledBrief). (refusal_shown c (numbered_at c x) ≡ None)
      × HasParts (outline c) (numbered_at c x)) (sym is)
      (spelled_stop v.surface c (settled_of b) br (stands_as v (settled_of b) settled fits) next)
