-- An update that isn't refused and has its parts is within the limits of its spelling.
use Rattle.ov_base.proofs.Tests.{true_of_not}
use Rattle.ov_history.specs.Lists.{is_file}
use Rattle.ov_history.proofs.ChangeLaws.{below_some}
use Rattle.ov_state.proofs.QueryLaws.{file_low}
use Rattle.std.proofs.Common.{◌≡◌, ℕ, ◌<◌, ◌≤◌, Bool, true, false, not, length, refl, arith}
use Rattle.std.specs.Prelude.{is_some, nat_lt}
use Rattle.std.proofs.lemmas.Bool.Decides.{nat_tests}
use Rattle.std.proofs.lemmas.Nat.{ones-le}
use Rattle.ov_base.specs.Sets.{IsBelow, size}
use Rattle.ov_base.proofs.SetLaws.{IsBelow-small}
use Rattle.ov_graph.proofs.GraphLaws.{plan-few}
use Rattle.ov_graph.specs.Contents.{plan_of}
use Rattle.ov_record.specs.Briefs.{Brief as SpelledBrief, BriefEnrol as SpelledEnrol, BriefCreate as SpelledCreate, BriefGrant as SpelledGrant}
use Rattle.ov_record.specs.Briefs.{BriefRemove as SpelledRemove, BriefReplace as SpelledReplace, BriefRevoke as SpelledRevoke}
use Rattle.ov_history.specs.Asking.{file_named}
use Rattle.ov_history.specs.Briefs.{BriefCreate, BriefGrant, BriefRemove, BriefReplace, BriefRevoke, outer}
use Rattle.ov_history.specs.Catalogue.{Catalogue, outline, matrix_shown}
use Rattle.ov_history.specs.Layers.{list_in}
use Rattle.ov_history.specs.Places.{living_at}
use Rattle.ov_history.specs.Refusals.{tests_of}
use Rattle.ov_history.proofs.SoundTests.{NoneApplies, none_applies, accepted}
use Rattle.ov_state.specs.Contents.{IsWell}
use Rattle.ov_state.specs.Plans.{numbered_at, IsFitting, IsTaken, IsWithinLimits}
use Rattle.ov_state.proofs.ListsLeft.{list_in-below}
use Rattle.ov_base.specs.declared.limits.TheConstants.{MAX_USERS}

-- a number that is there
there : (m n most : ℕ) → not (nat_lt m n) ≡ false → n ≤ most → m < most
there m n most e few = by_test (nat_lt m n) refl e where
  by_test : (b : Bool) → nat_lt m n ≡ b → not b ≡ false → m < most
  by_test true is e = grind (arith, nat_tests)
  by_test false is e = absurd (cc)

-- the users of a set below some number are no more than that
few_users : (users list : ℕ) → IsBelow users list → size list ≤ users
few_users users list below = ones-le users list (IsBelow-small users list below)

module _ (limit : ℕ) (s : Catalogue) where
  pub within_limits : (b : SpelledBrief) → IsWell limit s → IsFitting b → IsTaken s (numbered_at s b) → IsWithinLimits b
  within_limits (SpelledEnrol name) well fits taken = tt
  within_limits (SpelledCreate name list tokens tag bytes) well fits (accepts, parts) = (
    omega (arith, parts, plan-few s.base.sets list, few_users (length s.users) list (accepted s (BriefCreate name list tokens tag bytes) accepts).0, well.users),
    fits,
  )
  within_limits (SpelledGrant user file token) well fits (accepts, parts) =
      let passed : NoneApplies (tests_of (matrix_shown s) (outline s) s.epoch (outer (BriefGrant user file token))) = none_applies (tests_of (matrix_shown s) (outline s) s.epoch (outer (BriefGrant user file token))) accepts in (
        there user (length s.users) MAX_USERS passed.0 well.users,
        omega (arith, below_some s.files file (file_low s file (true_of_not (is_file (matrix_shown s) file) passed.1.0)), well.files),
      )
  within_limits (SpelledRevoke user file) well fits (accepts, parts) =
      let passed : NoneApplies (tests_of (matrix_shown s) (outline s) s.epoch (outer (BriefRevoke user file))) = none_applies (tests_of (matrix_shown s) (outline s) s.epoch (outer (BriefRevoke user file))) accepts in (
        there user (length s.users) MAX_USERS passed.0 well.users,
        omega (arith, below_some s.files file (file_low s file (true_of_not (is_file (matrix_shown s) file) passed.1.0)), well.files),
      )
  within_limits (SpelledRemove file) well fits (accepts, parts) =
      let passed : NoneApplies (tests_of (matrix_shown s) (outline s) s.epoch (outer (BriefRemove file))) = none_applies (tests_of (matrix_shown s) (outline s) s.epoch (outer (BriefRemove file))) accepts in
      omega (arith, below_some s.files file (file_low s file (true_of_not (is_file (matrix_shown s) file) passed.0)), well.files)
  within_limits (SpelledReplace name tokens tag bytes) well fits (accepts, parts) =
      let file : ℕ = file_named s name in
      let list : ℕ = list_in (outline s) file in
      let here : is_some (living_at s.files file) ≡ true = (accepted s (BriefReplace file tokens tag bytes) accepts).0 in
      let many : length tokens ≡ length (plan_of s.base.sets list).from = parts in (
        omega (arith, many, plan-few s.base.sets list, few_users (length s.users) list (list_in-below s file well.sound here), well.users),
        fits,
      )
