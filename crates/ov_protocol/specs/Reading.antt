-- What a reader is told: chains, stored bytes, and the names in a list.
use Rattle.std.specs.Prelude.{◌≡◌, ◌≢◌, ◌-◌, ℕ, min, List, length, take, drop}
use Rattle.std.specs.Prelude.{Option, Some, None, IfSome}
use Rattle.ov_base.specs.declared.refusal.Refusal.TheVariants.{NoFile}
use Rattle.ov_history.specs.Lists.{file_at, names_in}
use Rattle.ov_history.specs.Refusals.{list_refusal, read_refusal}
use Rattle.ov_history.specs.Catalogue.{Catalogue, Filed, filed_at, matrix_shown}
use Rattle.ov_wire.specs.declared.answer.Chained.{Chained}
use Rattle.ov_wire.specs.declared.answer.Answer.{Answer}
use Rattle.ov_wire.specs.declared.answer.Answer.TheVariants as answers
use Rattle.ov_history.specs.Chains.{IsBaseChain, IsSurfaceChain}

-- both chains of a user to a file, with what else a reader needs of it
pub record IsChainedFor (c : Catalogue) (user number : ℕ) (chained : Chained) : Type 0 where
  pub epoch : chained.epoch ≡ c.epoch
  pub file : chained.file ≡ number
  pub length : chained.length ≡ (filed_at c number).length
  pub generation : chained.generation ≡ (filed_at c number).generation
  pub tag : chained.tag ≡ (filed_at c number).tag
  pub base : IsBaseChain c.base c.grants user (filed_at c number).node chained.base
  pub surface : IsSurfaceChain c.surface user (filed_at c number).surface chained.surface

-- the chains to a file where the user may read it, or why not
abbrev pub AnswersChain : Catalogue → ℕ → ℕ → Answer → Type 0
AnswersChain c user file (answers.Chained chained) =
    (read_refusal (matrix_shown c) user file ≡ None) × IsChainedFor c user file chained
AnswersChain c user file (answers.Refused why) = read_refusal (matrix_shown c) user file ≡ Some why
AnswersChain c user file answer = ⊥

-- This many stored bytes of a file from a place on, as far as it has them, where the file is of the
-- generation that was asked for. How many they are follows from the file's length, and which they
-- are is said where the stored bytes are told.
abbrev pub AnswersChunk : Option Filed → Option (List ℕ) → ℕ → ℕ → ℕ → Answer → Type 0
AnswersChunk None stored generation start count answer = answer ≡ answers.Refused NoFile
AnswersChunk (Some f) stored generation start count (answers.Bytes bytes) =
    (f.generation ≡ generation) × (length bytes ≡ min count (f.length - start))
    × IfSome stored (λ all. bytes ≡ take count (drop start all))
AnswersChunk (Some f) stored generation start count (answers.Moved now) =
    (f.generation ≢ generation) × (now ≡ f.generation)
AnswersChunk (Some f) stored generation start count answer = ⊥

-- the names of the users in a file's list, in the order of their numbers
abbrev pub AnswersList : Catalogue → ℕ → Answer → Type 0
AnswersList c file (answers.Listed names) =
    (list_refusal (matrix_shown c) file ≡ None)
    × (names ≡ names_in (file_at (matrix_shown c) file).list c.users)
AnswersList c file (answers.Refused why) = list_refusal (matrix_shown c) file ≡ Some why
AnswersList c file answer = ⊥
