-- The words of a question to the owner's book.
use Rattle.std.specs.Prelude.{◌≡◌, ℕ, List, [], ◌∷◌, codes}
use Rattle.ov_base.specs.Modes.{mode_word}
use Rattle.ov_base.specs.Names.{IsName}
use Rattle.ov_consulting.specs.declared.job.BookJob.{BookJob}
use Rattle.ov_consulting.specs.declared.job.Question.{Question}
use Rattle.ov_consulting.specs.declared.job.Question.TheVariants.{Epoch, Files, FilesOf, Key}
use Rattle.ov_consulting.specs.declared.job.Question.TheVariants.{List as ListNames, Pending, Users}

-- the words behind the mode: the question, and the name that it asks for, where it has one
abbrev pub IsQuestionTail : Question → List (List ℕ) → Type 0
IsQuestionTail (Key user) words = (words ≡ codes "key" ∷ user ∷ []) × IsName user
IsQuestionTail (ListNames file) words = (words ≡ codes "list" ∷ file ∷ []) × IsName file
IsQuestionTail Users words = words ≡ codes "users" ∷ []
IsQuestionTail Files words = words ≡ codes "files" ∷ []
IsQuestionTail (FilesOf user) words = (words ≡ codes "files" ∷ user ∷ []) × IsName user
IsQuestionTail Epoch words = words ≡ codes "epoch" ∷ []
IsQuestionTail Pending words = words ≡ codes "pending" ∷ []

-- these words are behind no mode
abbrev pub IsNoQuestionTail : List (List ℕ) → Type 0
IsNoQuestionTail words = (q : Question) → IsQuestionTail q words → ⊥

-- these words are the line of this job
abbrev pub IsBookLine : List (List ℕ) → BookJob → Type 0
IsBookLine words job =
    (rest : List (List ℕ))
    × (words ≡ codes "book" ∷ job.keys ∷ job.book ∷ mode_word job.mode ∷ rest)
    × IsQuestionTail job.question rest

-- these words are no such job's line
abbrev pub IsNoBookLine : List (List ℕ) → Type 0
IsNoBookLine words = (job : BookJob) → IsBookLine words job → ⊥
