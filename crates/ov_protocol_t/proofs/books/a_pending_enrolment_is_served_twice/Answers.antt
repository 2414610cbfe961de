use Rattle.std.proofs.Common.{◌≡◌, ◌⊎◌, ℕ, [], ◌∷◌, ap, arith, inl, inr, length, refl, sym, List}
use Rattle.ov_base.specs.declared.mode.Mode.{Mode}
use Rattle.ov_books.specs.Books.{history_by}
use Rattle.ov_history.specs.Texts.{BriefHistory, blank_brief}
use Rattle.ov_record.specs.Briefs.{Brief as SpelledBrief, BriefEnrol}
use Rattle.ov_protocol_t.proofs.books.a_pending_enrolment_is_served_twice.Goals as goal

-- the history with this user, and the one without
abbrev with_user : Mode → BriefHistory
with_user mode = history_by mode (BriefEnrol (97 ∷ []) ∷ [])

differ : (mode : Mode) → blank_brief mode 0 ≡ with_user mode → ⊥
differ mode is =
    let counts : 0 ≡ 1 = ap (λ (h : BriefHistory). length h.updates) is in omega (arith, counts)

early : (mode : Mode) → (blank_brief mode 0 ≡ with_user mode) ⊎ (blank_brief mode 0 ≡ with_user mode)
    → ⊥
early mode (inl is) = differ mode is
early mode (inr is) = differ mode is

late : (mode : Mode) → (with_user mode ≡ blank_brief mode 0) ⊎ (with_user mode ≡ blank_brief mode 0)
    → ⊥
late mode (inl is) = differ mode (sym is)
late mode (inr is) = differ mode (sym is)

pub returns : goal.returns
returns c = record {
  without = λ k mode. record { surface = refl; check = refl; history = inl refl };
  with_it = λ k mode. record { surface = refl; check = refl; history = inr refl };
  settled = λ k mode. record { surface = refl; check = refl; history = inl refl };
  too_early = λ k mode serves. early mode serves.history;
  too_late = λ k mode serves. late mode serves.history;
}
