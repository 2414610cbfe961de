-- Inner: no public contract needs this. How many bytes a line still needs, of which a front was
-- read, and whether there is room for them.
use Rattle.std.specs.Prelude.{ℕ, ◌+◌, ◌-◌, zero, suc, Bool, false, nat_lt, length, Option, None, Some}
use Rattle.ov_base.specs.declared.limits.TheConstants.{MAX_LINE_BYTES}
use Rattle.ov_script.specs.LineFronts.{spelling}
use Rattle.ov_script.specs.declared.front.Word.{Word}
use Rattle.ov_script.specs.declared.front.Word.TheVariants.{Enrol, Create, Grant, Revoke, Remove, Replace, Read, List as Word-List, Epoch}
use Rattle.ov_script.specs.declared.front.Stem.{Stem}
use Rattle.ov_script.specs.declared.front.Stem.TheVariants.{E, R, Re}
use Rattle.ov_script.specs.declared.front.Then.{Then}
use Rattle.ov_script.specs.declared.front.Then.TheVariants.{End, LastName, Readers, Size, NextReader}
use Rattle.ov_script.specs.declared.front.Front.{Front}
use Rattle.ov_script.specs.declared.front.Front.TheVariants.{Start, InStem, InWord, InName, AtReaders, Nobody, InSize, Done, Never}

-- The fewest bytes that may follow a name.
abbrev pub fewest_after : Then → ℕ
fewest_after End = 0
fewest_after LastName = 2
fewest_after Readers = 4
fewest_after Size = 2
fewest_after NextReader = 2

-- The fewest bytes that may follow a word.
abbrev pub fewest_behind : Word → ℕ
fewest_behind Enrol = 1
fewest_behind Create = 5
fewest_behind Grant = 3
fewest_behind Revoke = 3
fewest_behind Remove = 1
fewest_behind Replace = 3
fewest_behind Read = 3
fewest_behind Word-List = 1
fewest_behind Epoch = 0

-- The fewest bytes that may follow what several words begin with.
abbrev pub fewest_from : Stem → ℕ
fewest_from E = 4
fewest_from R = 7
fewest_from Re = 6

-- The fewest bytes that make a whole line of this front, if any do.
abbrev pub fewest_more : Front → Option ℕ
fewest_more Start = Some 5
fewest_more (InStem stem) = Some (fewest_from stem)
fewest_more (InWord word count) = Some (length (spelling word) - count + fewest_behind word)
fewest_more (InName next zero) = Some (fewest_after next + 1)
fewest_more (InName next (suc n)) = Some (fewest_after next)
fewest_more AtReaders = Some 3
fewest_more Nobody = Some 2
fewest_more (InSize None) = Some 1
fewest_more (InSize (Some size)) = Some 0
fewest_more Done = Some 0
fewest_more Never = None

-- Whether a line of this many bytes has room for this many more, if any make it whole, and its LF.
abbrev pub has_room : Option ℕ → ℕ → Bool
has_room None count = false
has_room (Some more) count = nat_lt (count + more) MAX_LINE_BYTES

-- Whether a line may begin with this front, which has this many bytes.
abbrev pub may_go_on : Front → ℕ → Bool
may_go_on front count = has_room (fewest_more front) count
