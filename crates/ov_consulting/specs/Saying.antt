-- What an open book says.
use Rattle.std.specs.Prelude.{◌≡◌, ℕ, List, Option, Some, None, Result, Ok, Err, ⊤}
use Rattle.ov_base.specs.declared.memory.Memory.{Memory as Refused}
use Rattle.ov_record.specs.Briefs.{Brief as SpelledBrief}
use Rattle.ov_record.specs.Forms.{second_form}
use Rattle.ov_record.specs.Stored.{HasBriefForm, brief_spelling}
use Rattle.ov_consulting.specs.Answers.{Answer}
use Rattle.ov_consulting.specs.Endings.{End}
use Rattle.ov_consulting.specs.declared.stop.BookStop.TheVariants as stops

-- the end is this answer, unless memory was refused for it
abbrev pub Says : Answer → End → Type 0
Says answer (Ok bytes) = answer ≡ Ok bytes
Says answer (Err (stops.Refused why)) = answer ≡ Err why
Says answer (Err stops.Memory) = ⊤
Says answer (Err stop) = ⊥

-- bytes that were made, or that memory was refused for them
abbrev pub given : Result (List ℕ) Refused → End
given (Ok bytes) = Ok bytes
given (Err refused) = Err stops.Memory

-- these bytes spell the update, without the bytes of its file; or there is neither
abbrev pub IsSpelled : Option SpelledBrief → Option (List ℕ) → Type 0
IsSpelled None None = Unit {0}
IsSpelled (Some u) (Some bytes) =
    HasBriefForm second_form u × (bytes ≡ brief_spelling second_form u)
IsSpelled pending bytes = ⊥
