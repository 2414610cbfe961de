-- Lists of accepted updates, and what a pass knows of them.
use Rattle.std.specs.Prelude.{◌≡◌, ◌≢◌, ℕ, ◌+◌, ◌<◌, ◌≤◌, ◌==◌, List, [], ◌∷◌, ◌++◌, length, map}
use Rattle.std.specs.Prelude.{Bool, true, false, All, AllPairs, filter}
use Rattle.ov_peer.specs.Tells.{AnswererTells}
use Rattle.ov_turn.specs.declared.view.Entry.{Entry}
use Rattle.ov_turn.specs.declared.view.Knowledge.{Knowledge}

-- the update of this call of this pass
abbrev pub entry : ℕ → ℕ → List ℕ → Entry
entry pass call spelling = record { pass = pass; call = call; spelling = spelling }

-- the updates, by their spellings alone
abbrev pub spellings : List Entry → List (List ℕ)
spellings log = map (λ e. e.spelling) log

-- the list, with one more where the test says so
abbrev pub longer_if : Bool → List Entry → Entry → List Entry
longer_if true log e = log ++ e ∷ []
longer_if false log e = log

-- the updates that this pass asked
abbrev pub own : ℕ → List Entry → List Entry
own pass log = filter (λ e. e.pass == pass) log

-- the list begins with this one
abbrev pub BeginsWith : List Entry → List Entry → Type 0
BeginsWith log first = (rest : List Entry) × (log ≡ first ++ rest)

-- the entries are of different calls
abbrev pub DifferInCall : Entry → Entry → Type 0
DifferInCall e f = e.pass ≡ f.pass → e.call ≢ f.call

-- each entry is of one of the first so many passes, and no two are of the same call
abbrev pub IsNumbered : ℕ → List Entry → Type 0
IsNumbered passes log = All (λ e. e.pass < passes) log × AllPairs DifferInCall log

module _ {A : Type 0} (tells : AnswererTells A) (start : A) where
  -- the epoch after these updates
  abbrev pub epoch_after : List Entry → ℕ
  epoch_after log = tells.epoch_of start + length log

  -- The list goes on from what a pass knows, by the updates of others: it begins with those that
  -- the pass has seen, has no more of its own, and its epoch is at least the one that it was told.
  -- Once the pass was told that the disk failed in an update, there are no more of others either.
  abbrev pub GoesOnFrom : Knowledge → List Entry → Type 0
  GoesOnFrom k log =
      BeginsWith log k.seen × (own k.number log ≡ own k.number k.seen)
      × (k.told ≤ epoch_after log) × (k.failed ≡ true → log ≡ k.seen)

-- where a pass was told that the disk failed in an update, this value accepts no more
abbrev pub LeavesStuck : {A : Type 0} → AnswererTells A → A → Knowledge → Type 0
LeavesStuck tells value k = k.failed ≡ true → tells.stuck value
