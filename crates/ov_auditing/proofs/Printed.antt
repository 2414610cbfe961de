-- What is printed of a history.
use Rattle.std.proofs.Common.{◌≡◌, ◌<◌, ◌++◌, ℕ, Bool, List, [], ◌∷◌, ap, inl, inr, length, subst}
use Rattle.std.specs.Prelude.{Contains}
use Rattle.ov_base.specs.declared.refusal.Refusal.TheVariants.{NoUser}
use Rattle.ov_exposure.specs.Auditing.{AreMembers, Finding}
use Rattle.ov_exposure.specs.Exposure.{AreUsers}
use Rattle.ov_graph.proofs.ListLaws.{Contains-cases, Contains-first, Contains-later, Contains-none}
use Rattle.ov_history.specs.Catalogue.{Catalogue}
use Rattle.ov_history.specs.History.{Matrix, epoch_of, matrix_of}
use Rattle.ov_history.specs.Places.{place_of}
use Rattle.ov_history.specs.Sealed.{SealedHistory, StandsFor, outer_of}
use Rattle.ov_history.proofs.Showing.{history_is_shown}
use Rattle.ov_script.specs.Lines.{reply_line}
use Rattle.ov_script.specs.declared.reply.Reply.TheVariants.{End, Refused}
use Rattle.ov_auditing.specs.Exposed.{AreFindings, AreThere, AreUsersOf, IsMissing, IsPrinted}
use Rattle.ov_auditing.specs.Exposed.{numbers_in, users_of}
use Rattle.ov_auditing.specs.Lines.{finding_lines}

-- the numbers of names that are users' are users
numbers_low : (users names : List (List ℕ)) → AreThere users names → (user : ℕ)
    → Contains (numbers_in users names) user → user < length users
numbers_low users [] there user among = absurd (Contains-none user among)
numbers_low users (name ∷ names) there user among =
    elim (Contains-cases (place_of name users) (numbers_in users names) user among) [
      | inl same ↦ subst (λ n. n < length users) same (there name (Contains-first name names))
      | inr later ↦
          numbers_low users names
          (λ other behind. there other (Contains-later name names other behind)) user later
    ]

module _ (names : List (List ℕ)) (server : Bool) (master : List ℕ) (g : SealedHistory)
    (c : Catalogue) (stands : StandsFor master c g) where
  users_same : c.users ≡ (matrix_of (outer_of g)).users
  users_same =
      ap (λ (m : Matrix). m.users) (history_is_shown master c g stands).matrix

  last_same : reply_line (End c.epoch) ≡ reply_line (End (epoch_of (outer_of g)))
  last_same = ap (λ epoch. reply_line (End epoch)) (history_is_shown master c g stands).epoch

  -- where each name is a user's and the findings are exact
  pub found_printed : (set : ℕ) (findings : List Finding) → AreUsersOf c.users names set
      → ((users : List ℕ) → AreMembers users set → AreUsers g users
      → AreFindings server master g users findings)
      → IsPrinted names server master g (finding_lines findings ++ reply_line (End c.epoch))
  found_printed set findings named exact =
      let m = matrix_of (outer_of g) in
      let these : AreUsersOf m.users names set =
      subst (λ (users : List (List ℕ)). AreUsersOf users names set) users_same named in
      inl (
        these.0,
        (
          findings,
          exact (users_of m names) these.1 (numbers_low m.users names these.0),
          ap (λ (last : List ℕ). finding_lines findings ++ last) last_same,
        ),
      )

  -- where one isn't
  pub none_printed : IsMissing c.users names
      → IsPrinted names server master g (reply_line (Refused NoUser) ++ reply_line (End c.epoch))
  none_printed missing =
      inr (
        subst (λ (users : List (List ℕ)). IsMissing users names) users_same missing,
        ap (λ (last : List ℕ). reply_line (Refused NoUser) ++ last) last_same,
      )
