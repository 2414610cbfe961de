-- What an audit prints of a history.
use Rattle.std.specs.Prelude.{◌≡◌, ◌⊎◌, ◌↔◌, ◌<◌, ℕ, Bool, List, ◌++◌, Contains, length, map, slice_get}
use Rattle.std.specs.Prelude.{Some}
use Rattle.ov_base.specs.declared.refusal.Refusal.TheVariants.{NoUser}
use Rattle.ov_exposure.specs.Auditing.{AreMembers, Finding, WasNamed}
use Rattle.ov_exposure.specs.Exposure.{CanRead, IsExposed}
use Rattle.ov_history.specs.History.{Matrix, epoch_of, matrix_of}
use Rattle.ov_history.specs.Places.{place_of}
use Rattle.ov_history.specs.Sealed.{SealedHistory, outer_of}
use Rattle.ov_script.specs.Lines.{reply_line}
use Rattle.ov_script.specs.declared.reply.Reply.TheVariants.{End, Refused}
use Rattle.ov_auditing.specs.Lines.{finding_lines}

-- the numbers of users of these names among these
abbrev pub numbers_in : List (List ℕ) → List (List ℕ) → List ℕ
numbers_in users names = map (λ name. place_of name users) names

-- the users of these names, by number
abbrev pub users_of : Matrix → List (List ℕ) → List ℕ
users_of m names = numbers_in m.users names

-- each of these names is a user's
abbrev pub AreThere : List (List ℕ) → List (List ℕ) → Type 0
AreThere users names =
    (name : List ℕ) → Contains names name → place_of name users < length users

-- some of these names is no user's
abbrev pub IsMissing : List (List ℕ) → List (List ℕ) → Type 0
IsMissing users names =
    (name : List ℕ) × Contains names name × (place_of name users ≡ length users)

-- the set has just the users of these names, who are all there
abbrev pub AreUsersOf : List (List ℕ) → List (List ℕ) → ℕ → Type 0
AreUsersOf users names set = AreThere users names × AreMembers (numbers_in users names) set

-- The findings are exact: they are those files that are exposed to the users, each with its name, by
-- its cause and since its epoch. So they are just the files that these users can read who kept
-- everything, and each comes once, in the order of their numbers. Files that are gone are among them.
pub record AreFindings (server : Bool) (master : List ℕ) (g : SealedHistory) (users : List ℕ)
    (findings : List Finding) : Type 0 where
  pub exact : (x : Finding)
      → Contains findings x
      ↔ (IsExposed server g users x.file x.cause x.epoch × WasNamed g x.file x.name)
  pub readable : (file : ℕ)
      → ((x : Finding) × Contains findings x × (x.file ≡ file))
      ↔ CanRead server master g users file
  pub ordered : (m n : ℕ) (one other : Finding)
      → m < n → slice_get findings m ≡ Some one → slice_get findings n ≡ Some other
      → one.file < other.file

-- What is printed: where each name is a user's, the lines of the findings, and else the line that
-- says that a user isn't there; and behind that the end line.
abbrev pub IsPrinted : List (List ℕ) → Bool → List ℕ → SealedHistory → List ℕ → Type 0
IsPrinted names server master g printed =
    let m = matrix_of (outer_of g) in
    let last = reply_line (End (epoch_of (outer_of g))) in
    (AreThere m.users names
    × ((findings : List Finding) × AreFindings server master g (users_of m names) findings
    × (printed ≡ finding_lines findings ++ last)))
    ⊎ (IsMissing m.users names × (printed ≡ reply_line (Refused NoUser) ++ last))
