-- What a Book says, read from the whole of it: a header of 78 bytes, and then records. In a store of
-- the first format one of them may be a step record, and it says only in which form the others are.
use Rattle.std.specs.Prelude.{◌≡◌, ◌⊎◌, ◌<◌, ◌^◌, ℕ, ◌+◌, List, [], ◌∷◌, ◌++◌, length, take, slice_index}
use Rattle.std.specs.Prelude.{Bool, true, false, ◌==◌, ◌&&◌, codes, Option, Some, None}
use Rattle.std.specs.Int.{w32, to_be_bytes}
use Rattle.ov_base.specs.Modes.{mode_byte}
use Rattle.ov_journal.specs.Runs.{Run, run_after, end_from}
use Rattle.ov_journal.specs.Steps.{before_step, step_body, without_step, has_no_step}
use Rattle.ov_journal.specs.declared.header.Header.{Header}

-- the formats of stores
abbrev pub IsFormat : ℕ → Type 0
IsFormat format = (format ≡ 1) ⊎ (format ≡ 2)

-- the eight bytes behind the header's gate: a word, and the format as a digit
abbrev pub magic : ℕ → List ℕ
magic format = codes "OVERENC" ++ (48 + format) ∷ []

-- a header behind its gate: the magic of its format, the mode, the epoch at which the store began,
-- and the check values of the base master and of the surface master
abbrev pub header_bytes : Header → List ℕ
header_bytes h =
    magic h.format ++ mode_byte h.mode ∷ to_be_bytes w32 h.first ++ h.base_check ++ h.surface_check

-- a whole header with its gate open, 78 bytes
abbrev pub spelled : Header → List ℕ
spelled h = 1 ∷ header_bytes h

-- an epoch of four bytes, and check values of 32 bytes each
pub record HasHeaderForm (h : Header) : Type 0 where
  pub first : h.first < 2 ^ 32
  pub base : length h.base_check ≡ 32
  pub surface : length h.surface_check ≡ 32

-- two headers of this form with the same bytes are the same
abbrev pub HeadersAreSpelledApart : Type 0
HeadersAreSpelledApart =
    (one other : Header) → HasHeaderForm one → HasHeaderForm other
    → header_bytes one ≡ header_bytes other → one ≡ other

-- a Book that begins with these bytes is of the first format, by the last digit of its magic
abbrev pub is_first : List ℕ → Bool
is_first head = slice_index head 8 == 49

-- the place of a length that can't be, behind the gate at this place
abbrev pub place_if : Bool → ℕ → Option ℕ
place_if false gate = None
place_if true gate = Some (gate + 1)

-- What the records of a Book say. `bodies` are those of all records but the step record. `step` is
-- how many of them come before it, in a store of the first format: all, where it has none yet. So a
-- step record that was written behind the last record, and nothing more, changes nothing of this.
-- `bad` is the place of the length that can't be and ended the records, where one did.
pub record Records : Type 0 where
  pub bodies : List (List ℕ)
  pub step : Option ℕ
  pub bad : Option ℕ

-- what these records say in a store of the first format, or of the second, which has no step record
abbrev pub records_in : Bool → Run → Records
records_in true run = record {
  bodies = without_step run.bodies;
  step = Some (before_step run.bodies);
  bad = place_if run.bad (end_from 78 run.bodies);
}
records_in false run = record {
  bodies = run.bodies;
  step = None;
  bad = place_if run.bad (end_from 78 run.bodies);
}

-- a Book's first 78 bytes, and its records
pub record Contents : Type 0 where
  pub head : List ℕ
  pub records : Records

-- what a Book says
abbrev pub contents_of : List ℕ → Contents
contents_of book = record {
  head = take 78 book;
  records = records_in (is_first (take 78 book)) (run_after 78 book);
}

-- The Book is of the first format and has no step record, so that its next record has to follow
-- one.
abbrev pub is_due : List ℕ → Bool
is_due book = is_first (take 78 book) && has_no_step (run_after 78 book).bodies

-- A step record behind the last record of a whole store of the first format, where none stood
-- before, changes nothing of what Book says.
abbrev pub StepSaysNothing : Type 0
StepSaysNothing =
    (book more : List ℕ) → is_due book ≡ true → (run_after 78 book).bad ≡ false
    → take 78 more ≡ take 78 book
    → run_after 78 more
    ≡ record { bodies = (run_after 78 book).bodies ++ step_body ∷ []; bad = false }
    → contents_of more ≡ contents_of book

-- a store with this header, this many bodies before its step record, and these bodies, whole
abbrev pub born : Header → Option ℕ → List (List ℕ) → Contents
born h step bodies = record {
  head = spelled h;
  records = record { bodies = bodies; step = step; bad = None };
}

-- a store with one body more, behind the others
abbrev pub with_body : List ℕ → Contents → Contents
with_body body c = record {
  head = c.head;
  records = record {
    bodies = c.records.bodies ++ body ∷ [];
    step = c.records.step;
    bad = c.records.bad;
  };
}

-- a store with these bodies behind its own, in this order
abbrev pub with_bodies : List (List ℕ) → Contents → Contents
with_bodies bodies c = record {
  head = c.head;
  records = record {
    bodies = c.records.bodies ++ bodies;
    step = c.records.step;
    bad = c.records.bad;
  };
}
