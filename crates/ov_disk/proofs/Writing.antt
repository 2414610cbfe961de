-- Bytes that are written over others: how long the whole is, and each byte by its place.
use Rattle.std.proofs.Common.{◌≡◌, ◌⊎◌, inl, inr, ℕ, ◌+◌, ◌-◌, ◌≤◌, ◌<◌, max, List, ◌++◌, length, take, drop, get_or, refl, ◌∙◌, ap, arith, append_assoc, length-append, length-drop}
use Rattle.std.proofs.lemmas.List.{take_at, drop_at, get_or-take, get_or-drop, length-take-le, get_or_append_left, get_or-append_right}
use Rattle.ov_disk.specs.Disk.{overwritten}

module _ (at : ℕ) (bytes old : List ℕ) (le : at ≤ length old) where
  front : length (take at old ++ bytes) ≡ at + length bytes
  front = omega (arith, length-append (take at old) bytes, length-take-le at old le)

  -- how long the whole is
  pub put_length : length (overwritten at bytes old) ≡ max (length old) (at + length bytes)
  put_length = omega (arith, front, length-append (take at old ++ bytes) (drop (at + length bytes) old), length-drop (at + length bytes) old, le)

  -- a byte that was put
  pub put_inside : (q : ℕ) → q < length bytes → get_or (overwritten at bytes old) (at + q) 0 ≡ get_or bytes q 0
  put_inside q lt =
      let same : at + q - at ≡ q = omega arith in
      get_or_append_left (take at old ++ bytes) (drop (at + length bytes) old) 0 (at + q) (omega (arith, front, lt))
      ∙ get_or-append_right (take at old) bytes at (at + q) 0 (length-take-le at old le) (omega arith)
      ∙ ap (λ (n : ℕ). get_or bytes n 0) same

  -- a byte in front or behind
  pub put_outside : (p : ℕ) → (p < at) ⊎ (at + length bytes ≤ p) → get_or (overwritten at bytes old) p 0 ≡ get_or old p 0
  put_outside p (inl lt) =
      get_or_append_left (take at old ++ bytes) (drop (at + length bytes) old) 0 p (omega (arith, front, lt))
      ∙ get_or_append_left (take at old) bytes 0 p (omega (arith, length-take-le at old le, lt))
      ∙ get_or-take at old p 0 lt
  put_outside p (inr ge) =
      let same : at + length bytes + (p - (at + length bytes)) ≡ p = omega (arith, ge) in
      get_or-append_right (take at old ++ bytes) (drop (at + length bytes) old) (at + length bytes) p 0 front ge
      ∙ get_or-drop (at + length bytes) old (p - (at + length bytes)) 0
      ∙ ap (λ (n : ℕ). get_or old n 0) same

  -- all that was put
  pub put_there : take (length bytes) (drop at (overwritten at bytes old)) ≡ bytes
  put_there =
      let rest = drop (at + length bytes) old in
      ap (λ (l : List ℕ). take (length bytes) (drop at l)) (append_assoc (take at old) bytes rest)
      ∙ ap (take (length bytes)) (drop_at (take at old) (bytes ++ rest) at (length-take-le at old le))
      ∙ take_at bytes rest (length bytes) refl
