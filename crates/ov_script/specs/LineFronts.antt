-- Inner: no public contract needs this. How the front of a line is read, byte by byte, where its LF
-- didn't come yet.
use Rattle.std.specs.Prelude.{ℕ, ◌+◌, ◌-◌, ◌*◌, zero, suc, Bool, true, false, ◌&&◌, nat_le, nat_lt, ◌==◌, List, [], ◌∷◌, length, slice_index, codes, Option, None, Some}
use Rattle.ov_base.specs.declared.limits.TheConstants.{MAX_FILE_BYTES}
use Rattle.ov_base.specs.Names.{is_letter_or_digit, is_name_byte}
use Rattle.ov_script.specs.declared.front.Word.{Word}
use Rattle.ov_script.specs.declared.front.Word.TheVariants.{Enrol, Create, Grant, Revoke, Remove, Replace, Read, List as Word-List, Epoch}
use Rattle.ov_script.specs.declared.front.Stem.{Stem}
use Rattle.ov_script.specs.declared.front.Stem.TheVariants.{E, R, Re}
use Rattle.ov_script.specs.declared.front.Then.{Then}
use Rattle.ov_script.specs.declared.front.Then.TheVariants.{End, LastName, Readers, Size, NextReader}
use Rattle.ov_script.specs.declared.front.Front.{Front}
use Rattle.ov_script.specs.declared.front.Front.TheVariants.{Start, InStem, InWord, InName, AtReaders, Nobody, InSize, Done, Never}

-- ---- the word

-- A word, and a space where more follows it.
abbrev pub spelling : Word → List ℕ
spelling Enrol = codes "enrol "
spelling Create = codes "create "
spelling Grant = codes "grant "
spelling Revoke = codes "revoke "
spelling Remove = codes "remove "
spelling Replace = codes "replace "
spelling Read = codes "read "
spelling Word-List = codes "list "
spelling Epoch = codes "epoch"

-- What is read behind the word.
abbrev pub behind : Word → Front
behind Enrol = InName End 0
behind Create = InName Readers 0
behind Grant = InName LastName 0
behind Revoke = InName LastName 0
behind Remove = InName End 0
behind Replace = InName Size 0
behind Read = InName LastName 0
behind Word-List = InName End 0
behind Epoch = Done

-- The first of two, where the test holds, and else the other.
abbrev pub chosen_by : Bool → Front → Front → Front
chosen_by true front other = front
chosen_by false front other = other

-- What this byte leads to, of these choices.
abbrev pub chosen : ℕ → List (ℕ × Front) → Front
chosen b [] = Never
chosen b (choice ∷ choices) = chosen_by (b == choice.0) choice.1 (chosen b choices)

-- The first bytes of a line, and where each leads.
abbrev pub first_bytes : List (ℕ × Front)
first_bytes =
    (99, InWord Create 1) ∷ (101, InStem E) ∷ (103, InWord Grant 1) ∷ (108, InWord Word-List 1)
    ∷ (114, InStem R) ∷ []

-- The bytes behind what several words begin with, and where each leads.
abbrev pub next_bytes : Stem → List (ℕ × Front)
next_bytes E = (110, InWord Enrol 2) ∷ (112, InWord Epoch 2) ∷ []
next_bytes R = (101, InStem Re) ∷ []
next_bytes Re =
    (97, InWord Read 3) ∷ (109, InWord Remove 3) ∷ (112, InWord Replace 3) ∷ (118, InWord Revoke 3)
    ∷ []

-- What is read behind one more byte of a word, by whether it is the word's next one and the last.
abbrev pub word_by : Bool → Bool → Word → ℕ → Front
word_by false is_last word count = Never
word_by true true word count = behind word
word_by true false word count = InWord word (count + 1)

-- Whether this byte is the word's next one.
abbrev pub is_spelled : Word → ℕ → ℕ → Bool
is_spelled word count b =
    nat_lt count (length (spelling word)) && (slice_index (spelling word) count == b)

-- ---- names

-- What is read behind a name and a space.
abbrev pub after_name : Then → Front
after_name End = Never
after_name LastName = InName End 0
after_name Readers = AtReaders
after_name Size = InSize None
after_name NextReader = InSize None

-- What is read behind a name and a comma.
abbrev pub after_comma : Then → Front
after_comma End = Never
after_comma LastName = Never
after_comma Readers = Never
after_comma Size = Never
after_comma NextReader = InName NextReader 0

-- What is read behind a whole name and one more byte, by whether it is a space or a comma.
abbrev pub end_by : Bool → Bool → Then → Front
end_by true is_comma next = after_name next
end_by false true next = after_comma next
end_by false false next = Never

-- What is read behind one more byte of a name, or behind it, by whether the byte goes on with the
-- name and whether that has a byte.
abbrev pub name_by : Bool → Bool → Then → ℕ → ℕ → Front
name_by true is_whole next count b = InName next (count + 1)
name_by false true next count b = end_by (b == 32) (b == 44) next
name_by false false next count b = Never

-- Whether a name of which this many bytes came goes on with this byte.
abbrev pub is_named : ℕ → ℕ → Bool
is_named zero b = is_letter_or_digit b
is_named (suc n) b = nat_lt (suc n) 64 && is_name_byte b

-- What is read behind the first byte of a list, which is `-` or begins with a name.
abbrev pub readers_by : Bool → Bool → Front
readers_by true is_nobody = InName NextReader 1
readers_by false true = Nobody
readers_by false false = Never

-- ---- the size

-- The size, where the test holds.
abbrev pub size_by : Bool → ℕ → Front
size_by false size = Never
size_by true size = InSize (Some size)

-- Whether this byte is a digit.
abbrev pub is_digit : ℕ → Bool
is_digit b = nat_le 48 b && nat_le b 57

-- What is read behind one more byte of a size, which has no leading zero and is no more than a file
-- may have.
abbrev pub size_step : Option ℕ → ℕ → Front
size_step None b = size_by (is_digit b) (b - 48)
size_step (Some size) b =
    size_by (is_digit b && (nat_lt 0 size && nat_le (size * 10 + (b - 48)) MAX_FILE_BYTES))
    (size * 10 + (b - 48))

-- ---- the line

-- What is read behind one more byte.
abbrev pub step : Front → ℕ → Front
step Start b = chosen b first_bytes
step (InStem stem) b = chosen b (next_bytes stem)
step (InWord word count) b =
    word_by (is_spelled word count b) (count + 1 == length (spelling word)) word count
step (InName next count) b = name_by (is_named count b) (nat_lt 0 count) next count b
step AtReaders b = readers_by (is_letter_or_digit b) (b == 45)
step Nobody b = chosen_by (b == 32) (InSize None) Never
step (InSize size) b = size_step size b
step Done b = Never
step Never b = Never

-- What is read behind these bytes.
abbrev pub run : Front → List ℕ → Front
run front [] = front
run front (b ∷ bytes) = run (step front b) bytes

-- The size that was read.
abbrev pub size_read : Front → Option ℕ
size_read Start = None
size_read (InStem stem) = None
size_read (InWord word count) = None
size_read (InName next count) = None
size_read AtReaders = None
size_read Nobody = None
size_read (InSize size) = size
size_read Done = None
size_read Never = None
