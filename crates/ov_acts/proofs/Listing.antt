-- The names of a list of so few bytes are ones that an owner can send.
use Rattle.std.proofs.Common.{ℕ, ◌≤◌, List, length, arith}
use Rattle.ov_owner.proofs.WrittenLists.{names_sendable}
use Rattle.ov_script.specs.WrittenLists.{IsList}
use Rattle.ov_script.proofs.CreateLaws.{list_names, list_short}
use Rattle.ov_acts.specs.Files.{HasLimits, HasListLimits}
use Rattle.ov_acts.specs.Words.{IsLine}
use Rattle.ov_acts.specs.declared.job.Act.{Act}
use Rattle.ov_acts.specs.declared.job.Act.TheVariants as acts
use Rattle.ov_acts.specs.declared.words.TheConstants.{MAX_WRITTEN_LIST}

-- names that are written in so few bytes are few and short
pub list_is_few : (text : List ℕ) (names : List (List ℕ)) → IsList text names → length text ≤ MAX_WRITTEN_LIST → HasLimits names
list_is_few text names is few = names_sendable names (list_names text names is) (omega (arith, few, list_short text names is))

-- the list of a job that a line of words says is few and short
pub line_limits : (act : Act) (address keys path : List ℕ) (words : List (List ℕ))
    → IsLine act address keys path words → HasListLimits act
line_limits (acts.Create file list) address keys path words (command, rest, e, (text, is, w, named, written)) =
    list_is_few text list written.list written.short
line_limits (acts.Enrol user) address keys path words is = tt
line_limits (acts.Grant user file) address keys path words is = tt
line_limits (acts.Revoke user file) address keys path words is = tt
line_limits (acts.Remove file) address keys path words is = tt
line_limits (acts.Replace file) address keys path words is = tt
line_limits (acts.List file) address keys path words is = tt
line_limits (acts.Key user) address keys path words is = tt
line_limits (acts.Read file) address keys path words is = tt
line_limits acts.Check address keys path words is = tt
