-- Pieces that fill a buffer.
use Rattle.std.proofs.Common.{◌≡◌, ℕ, ◌+◌, ◌<◌, ◌≤◌, List, [], ◌++◌, length, take, sym, ◌∙◌, ap, subst, arith, length-append, Option}
use Rattle.std.proofs.lemmas.List.{length-take-le}
use Rattle.std.proofs.Math.Seq.{take-append-add}
use Rattle.std.specs.Io.KnownBytes.{Consumes}
use Rattle.std.proofs.KnownBytes.{Consumes-trans}
use Rattle.ov_io.specs.Calls.{TakesPieces, one_more}
use Rattle.ov_io.specs.Tells.{SourceTells}

-- one more piece behind a front
pub piece_more : (old mid new : Option (List ℕ)) (front before after : List ℕ) (end count : ℕ) → length front ≡ end → front ≡ take end before
    → Consumes old mid (take end before) → Consumes mid new (take count after) → Consumes old new (take (end + count) (front ++ after))
piece_more old mid new front before after end count long is had more =
    let whole : take (end + count) (front ++ after) ≡ front ++ take count after =
    ap (λ n. take (n + count) (front ++ after)) (sym long) ∙ take-append-add front after count in
    subst (Consumes old new) (sym whole) (Consumes-trans old mid new front (take count after) (subst (Consumes old mid) (sym is) had) more)

-- a take that gave nothing
pub none_taken : (old new : Option (List ℕ)) (room : List ℕ) (count : ℕ) → count ≡ 0 → Consumes old new (take count room) → Consumes old new []
none_taken old new room count zero c = subst (λ n. Consumes old new (take n room)) zero c

module _ {S : Type 0} (tells : SourceTells S) where
  -- one more piece of a buffer of this size
  pub pieces_more : (old mid new : S) (size end count : ℕ) (room : List ℕ)
      → (seen : List ℕ) × (length seen ≡ end) × TakesPieces tells (λ seen. length seen < size) old mid seen → end < size
      → tells.takes mid new → Consumes (tells.left mid) (tells.left new) (take count room) → count ≤ length room → (count ≡ 0 → ⊥)
      → (seen : List ℕ) × (length seen ≡ end + count) × TakesPieces tells (λ seen. length seen < size) old new seen
  pieces_more old mid new size end count room (seen, long, before) more step c within some =
      let taken : length (take count room) ≡ count = length-take-le count room within in
      let whole : length (seen ++ take count room) ≡ length seen + length (take count room) = length-append seen (take count room) in
      (seen ++ take count room, omega arith, one_more mid new seen (take count room) before (omega arith) step c (λ e. some (sym taken ∙ ap length e)))
