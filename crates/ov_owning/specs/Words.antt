-- The words of a command line by the owner's book.
use Rattle.std.specs.Prelude.{◌≡◌, ℕ, List, [], ◌∷◌, codes}
use Rattle.ov_base.specs.Modes.{mode_word}
use Rattle.ov_acts.specs.Words.{IsActLine}
use Rattle.ov_acts.specs.declared.job.Act.{Act}
use Rattle.ov_acts.specs.declared.job.Act.TheVariants as acts
use Rattle.ov_owning.specs.declared.job.OwnAct.{OwnAct}
use Rattle.ov_owning.specs.declared.job.OwnAct.TheVariants.{Create, Enrol, Grant, Remove, Replace}
use Rattle.ov_owning.specs.declared.job.OwnAct.TheVariants.{Resume, Revoke}
use Rattle.ov_owning.specs.declared.job.OwnJob.{OwnJob}

-- the act by the book is this update; an act that only asks is none
abbrev pub IsUpdate : Act → OwnAct → Type 0
IsUpdate (acts.Enrol user) own = own ≡ Enrol user
IsUpdate (acts.Grant user file) own = own ≡ Grant user file
IsUpdate (acts.Revoke user file) own = own ≡ Revoke user file
IsUpdate (acts.Remove file) own = own ≡ Remove file
IsUpdate (acts.Create file list) own = own ≡ Create file list
IsUpdate (acts.Replace file) own = own ≡ Replace file
IsUpdate (acts.List file) own = ⊥
IsUpdate (acts.Key user) own = ⊥
IsUpdate (acts.Read file) own = ⊥
IsUpdate acts.Check own = ⊥

-- The words of an update behind the mode: a command and its words, as without a book, and the path,
-- where it has one.
abbrev pub IsUpdateTail : OwnAct → List (List ℕ) → List ℕ → Type 0
IsUpdateTail own words path =
    (act : Act) × IsUpdate act own
    × ((command : List ℕ) × (rest : List (List ℕ)) × (words ≡ command ∷ rest)
    × IsActLine act command rest path)

-- The words behind the mode: `resume`, or those of an update.
abbrev pub IsOwnTail : OwnAct → List (List ℕ) → List ℕ → Type 0
IsOwnTail Resume words path = (words ≡ codes "resume" ∷ []) × (path ≡ [])
IsOwnTail own words path = IsUpdateTail own words path

-- these words are behind no mode
abbrev pub IsNoOwnTail : List (List ℕ) → Type 0
IsNoOwnTail words = (own : OwnAct) (path : List ℕ) → IsOwnTail own words path → ⊥

-- these words are the line of this job
abbrev pub IsOwnLine : List (List ℕ) → OwnJob → Type 0
IsOwnLine words job =
    (rest : List (List ℕ))
    × (words ≡ codes "own" ∷ job.address ∷ job.keys ∷ job.book ∷ mode_word job.mode ∷ rest)
    × IsOwnTail job.act rest job.path

-- these words are no such job's line
abbrev pub IsNoOwnLine : List (List ℕ) → Type 0
IsNoOwnLine words = (job : OwnJob) → IsOwnLine words job → ⊥
