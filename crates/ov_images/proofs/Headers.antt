-- Headers of stores, and what a Book with one is.
use Rattle.std.proofs.Common.{◌≡◌, ⊎_elim, ℕ, zero, suc, ◌≤◌, ◌<◌, ◌^◌, List, [], ◌∷◌, ◌++◌}
use Rattle.std.proofs.Common.{length, take, drop, get_or, Bool, true, false, refl, sym, ◌∙◌, ap}
use Rattle.std.proofs.Common.{arith, lit<}
use Rattle.std.specs.Prelude.{Option, None}
use Rattle.std.proofs.lemmas.List.{take_at, get_or-take, drop-take, take-take}
use Rattle.std.proofs.lemmas.Nat.{from_be_bytes-to_be_bytes_4}
use Rattle.std.specs.Int.{w32, to_be_bytes, from_be_bytes}
use Rattle.ov_base.specs.Modes.{mode_byte}
use Rattle.ov_base.proofs.Modes.{one_byte}
use Rattle.ov_journal.specs.declared.header.Header.{Header}
use Rattle.ov_journal.specs.Book.{Contents, IsFormat, born, contents_of, is_first, magic, place_if}
use Rattle.ov_journal.specs.Book.{records_in, spelled}
use Rattle.ov_journal.specs.Runs.{Run, run_after}
use Rattle.ov_journal.specs.Standing.{HasMagic, IsUnborn}

-- what follows the magic of a header
abbrev behind : Header → List ℕ
behind h = to_be_bytes w32 h.first ++ h.base_check ++ h.surface_check

pub mode_of-spelled : (g h : Header) → spelled g ≡ spelled h → g.mode ≡ h.mode
mode_of-spelled g h same =
    let from : mode_byte g.mode ∷ behind g ≡ mode_byte h.mode ∷ behind h =
    ap (λ (l : List ℕ). drop 9 l) same in
    one_byte g.mode h.mode (cc from)

pub first_of-spelled : (g h : Header) → g.first < 2 ^ 32 → h.first < 2 ^ 32
    → spelled g ≡ spelled h → g.first ≡ h.first
first_of-spelled g h low less same =
    let from : behind g ≡ behind h = ap (λ (l : List ℕ). drop 10 l) same in
    let four : to_be_bytes w32 g.first ≡ to_be_bytes w32 h.first =
    sym (take_at (to_be_bytes w32 g.first) (g.base_check ++ g.surface_check) 4 refl)
    ∙ ap (λ (l : List ℕ). take 4 l) from
    ∙ take_at (to_be_bytes w32 h.first) (h.base_check ++ h.surface_check) 4 refl in
    sym (from_be_bytes-to_be_bytes_4 g.first low) ∙ ap (from_be_bytes w32) four
    ∙ from_be_bytes-to_be_bytes_4 h.first less

-- ---- what has a header is born

no_place : (bad : Bool) (gate : ℕ) → place_if bad gate ≡ None → bad ≡ false
no_place false gate is = refl
no_place true gate is = absurd (cc is)

-- records without a length that can't be, in whichever format, are a run without one
whole_run : (first : Bool) (run : Run) → (records_in first run).bad ≡ None → run.bad ≡ false
whole_run false run is = no_place run.bad _ is
whole_run true run is = no_place run.bad _ is

-- a Book whose records end at a gate has a byte there
has_gate : (skip : ℕ) (book : List ℕ) → (run_after skip book).bad ≡ false → suc skip ≤ length book
has_gate skip [] whole = absurd (cc whole)
has_gate zero (gate ∷ rest) whole = omega arith
has_gate (suc skip) (byte ∷ rest) whole = omega (arith, has_gate skip rest whole)

-- a Book with this header and these records is a store, and not one where none was begun
pub born_is_store : (h : Header) (step : Option ℕ) (bodies : List (List ℕ)) (book : List ℕ)
    → IsFormat h.format → contents_of book ≡ born h step bodies
    → HasMagic book × (IsUnborn book → ⊥)
born_is_store h step bodies book known is =
    let head : take 78 book ≡ spelled h = ap (λ (c : Contents). c.head) is in
    let long : 79 ≤ length book =
    has_gate 78 book (whole_run (is_first (take 78 book)) (run_after 78 book)
    (ap (λ (c : Contents). c.records.bad) is)) in
    let gate : get_or book 0 0 ≡ 1 =
    sym (get_or-take 78 book 0 0 (lit< tt)) ∙ ap (λ (l : List ℕ). get_or l 0 0) head in
    let bytes : take 8 (drop 1 book) ≡ magic h.format =
    sym (take-take 8 77 (drop 1 book) (omega arith))
    ∙ ap (λ (l : List ℕ). take 8 l) (sym (drop-take 1 77 book))
    ∙ ap (λ (l : List ℕ). take 8 (drop 1 l)) head in
    let store : HasMagic book = record {
      long = long;
      open_gate = gate;
      format = h.format;
      known = known;
      magic_bytes = bytes;
    } in (
      store,
      ⊎_elim (λ short. omega (arith, short, long)) (λ unborn. unborn.1 gate),
    )
