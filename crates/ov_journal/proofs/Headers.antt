-- Headers and their bytes.
use Rattle.std.proofs.Common.{◌≡◌, inl, inr, ℕ, ◌++◌, List, take, drop, get_or, ◌==◌, refl, sym, ◌∙◌, ap, arith, ◌+◌}
use Rattle.std.specs.Int.{w32, to_be_bytes, from_be_bytes}
use Rattle.std.proofs.lemmas.Bool.{eq-eqb, ne_eqb}
use Rattle.std.proofs.lemmas.Bool.Decides.{eqb_tells}
use Rattle.std.proofs.lemmas.List.{take_at, drop_at}
use Rattle.std.proofs.lemmas.Nat.{from_be_bytes-to_be_bytes_4}
use Rattle.ov_base.proofs.Modes.{one_byte}
use Rattle.ov_journal.specs.Book.{HeadersAreSpelledApart}

pub spelled_apart : HeadersAreSpelledApart
spelled_apart a b p q e =
    let mode : a.mode ≡ b.mode = one_byte a.mode b.mode (ap (λ (l : List ℕ). get_or l 8 0) e) in
    let field : to_be_bytes w32 a.first ≡ to_be_bytes w32 b.first =
    sym (take_at (to_be_bytes w32 a.first) (a.base_check ++ a.surface_check) 4 refl)
    ∙ ap (λ (l : List ℕ). take 4 (drop 9 l)) e
    ∙ take_at (to_be_bytes w32 b.first) (b.base_check ++ b.surface_check) 4 refl in
    let first : a.first ≡ b.first =
    sym (from_be_bytes-to_be_bytes_4 a.first p.first) ∙ ap (λ (l : List ℕ). from_be_bytes w32 l) field
    ∙ from_be_bytes-to_be_bytes_4 b.first q.first in
    let base : a.base_check ≡ b.base_check =
    sym (take_at a.base_check a.surface_check 32 p.base) ∙ ap (λ (l : List ℕ). take 32 (drop 13 l)) e
    ∙ take_at b.base_check b.surface_check 32 q.base in
    let surface : a.surface_check ≡ b.surface_check =
    sym (drop_at a.base_check a.surface_check 32 p.base) ∙ ap (λ (l : List ℕ). drop 32 (drop 13 l)) e
    ∙ drop_at b.base_check b.surface_check 32 q.base in
    let digit : 48 + a.format ≡ 48 + b.format = ap (λ (l : List ℕ). get_or l 7 0) e in
    let format : a.format ≡ b.format = omega (arith, digit) in
    λ i. record { format = format i; mode = mode i; first = first i; base_check = base i; surface_check = surface i }

-- the format as a number and as a digit
pub digit : (format : ℕ) → (format == 1) ≡ ((48 + format) == 49)
digit format = elim (eqb_tells format 1) [
  | inl one ↦ one.0 ∙ sym (eq-eqb (48 + format) 49 (omega (arith, one.1)))
  | inr other ↦ other.0 ∙ sym (ne_eqb (48 + format) 49 (λ same. other.1 (omega (arith, same))))
]
