-- One lane of a vector: after a map, a sum and a constant shuffle.
use Rattle.std.proofs.Common.{Bool, slice_index_or, true, false, cond, ltb, ltb-true, ltb-false, ◌-◌, ◌≡◌, ℕ, zero, suc, ◌+◌, ◌*◌, ◌/◌, ◌%◌, ◌<◌, List, [], ◌∷◌, ◌++◌, sym, zero-add, map, length, get_or, bit_xor, refl, ◌∙◌, ap, arith, Fits, w8}
use Rattle.std.specs.List.{range_with_len}
use Rattle.std.proofs.lemmas.List.{ext_get_or, get_or-map, get_or-append_right, get_or_append_left}
use Rattle.std.proofs.lemmas.List.FromFn.{get_or-map-range_with_len}
use Rattle.std.proofs.lemmas.Simd.{Each1-get_or}
use lib.Lanes.{pick_l, zip2}
use Rattle.ov_aes.specs.State.{byte_in}
use Rattle.ov_aes.specs.Tower.{sum5}
use Rattle.ov_aes.proofs.Tables.{at_each}
use Rattle.ov_aes.proofs.Vectors.{At, IsBlock, map_at, xor_at}

pub lane_lt : (v : List ℕ) (l : ℕ) → IsBlock v → l < 16 → get_or v l 0 < 256
lane_lt v l fits lt = (Each1-get_or (Fits w8) v l 0 (omega (arith, fits.0)) fits.1).fits

-- the lane of a vector itself
pub self_at : (v : List ℕ) (l : ℕ) → IsBlock v → At l v (get_or v l 0)
self_at v l fits = record { long = fits.0; is = refl }

pub lane_map : (f : ℕ → ℕ) (v r : List ℕ) (l : ℕ) → r ≡ map f v → IsBlock v → l < 16 → get_or r l 0 ≡ f (get_or v l 0)
lane_map f v r l e fits lt = (map_at f lt e (self_at v l fits)).is

pub lane_xor_maps : (f g : ℕ → ℕ) (v r s : List ℕ) (l : ℕ) → r ≡ map f v → s ≡ map g v → IsBlock v → l < 16
    → get_or (zip2 bit_xor r s) l 0 ≡ bit_xor (f (get_or v l 0)) (g (get_or v l 0))
lane_xor_maps f g v r s l e h fits lt = (xor_at lt (map_at f lt e (self_at v l fits)) (map_at g lt h (self_at v l fits))).is

pub lane_map_xor : (f : ℕ → ℕ) (v r k : List ℕ) (l : ℕ) → r ≡ map f v → IsBlock v → IsBlock k → l < 16
    → get_or (zip2 bit_xor r k) l 0 ≡ bit_xor (f (get_or v l 0)) (get_or k l 0)
lane_map_xor f v r k l e fits key lt = (xor_at lt (map_at f lt e (self_at v l fits)) (self_at k l key)).is

pub lane_sum5 : (a b c d e : List ℕ) (l : ℕ) → IsBlock a → IsBlock b → IsBlock c → IsBlock d → IsBlock e → l < 16
    → get_or (zip2 bit_xor (zip2 bit_xor (zip2 bit_xor (zip2 bit_xor a b) c) d) e) l 0
    ≡ sum5 (get_or a l 0) (get_or b l 0) (get_or c l 0) (get_or d l 0) (get_or e l 0)
lane_sum5 a b c d e l fa fb fc fd fe lt =
    (xor_at lt (xor_at lt (xor_at lt (xor_at lt (self_at a l fa) (self_at b l fb)) (self_at c l fc)) (self_at d l fd)) (self_at e l fe)).is

-- the places of a row moved by n, of four blocks
pub turned : (n : ℕ) (v ks : List ℕ) → length v ≡ 16 → length ks ≡ 16
    → map (λ l. get_or ks l 0) (range_with_len 0 16) ≡ map (λ l. 4 * (l / 4) + (l % 4 + n) % 4) (range_with_len 0 16)
    → (b c : ℕ) → b < 4 → c < 4 → get_or (pick_l 0 (v ++ v) ks) (4 * b + c) 0 ≡ get_or v (4 * b + (c + n) % 4) 0
turned n v ks len count all b c lb lc =
    let lt : 4 * b + c < 16 = omega arith in
    let place = at_each 16 (λ l. get_or ks l 0) (λ l. 4 * (l / 4) + (l % 4 + n) % 4) all (4 * b + c) lt in
    let block : (4 * b + c) / 4 ≡ b = omega arith in
    let column : (4 * b + c) % 4 ≡ c = omega arith in
    let here : get_or ks (4 * b + c) 0 ≡ 4 * b + (c + n) % 4 = rw (block, column) at place in
    get_or-map (λ k. get_or (v ++ v) k 0) ks (4 * b + c) 0 0 (omega (arith, count))
    ∙ ap (λ k. get_or (v ++ v) k 0) here
    ∙ get_or_append_left v v 0 (4 * b + (c + n) % 4) (omega (arith, len))

-- what holds of the numbers 0 to 3
pub below_four : (P : ℕ → Type 0) → P 0 → P 1 → P 2 → P 3 → (n : ℕ) → n < 4 → P n
below_four P a b c d zero lt = a
below_four P a b c d (suc zero) lt = b
below_four P a b c d (suc (suc zero)) lt = c
below_four P a b c d (suc (suc (suc zero))) lt = d
below_four P a b c d (suc (suc (suc (suc n)))) lt = absurd (omega arith)

-- 16 bytes, spelled out
pub spell16 : (a : List ℕ) → length a ≡ 16 → map (λ j. get_or a j 0) (range_with_len 0 16) ≡ a
spell16 a len = sym (ext_get_or 0 _ _ len (λ i lt. sym (get_or-map-range_with_len (λ j. get_or a j 0) 0 16 i i 0 (omega (arith, len)) (zero-add i))))

-- four blocks, spelled out
pub spell4 : (xs : List (List ℕ)) → (n : ℕ) → n < 4 → get_or (get_or xs 0 [] ∷ get_or xs 1 [] ∷ get_or xs 2 [] ∷ get_or xs 3 [] ∷ []) n [] ≡ get_or xs n []
spell4 xs = below_four (λ n. get_or (get_or xs 0 [] ∷ get_or xs 1 [] ∷ get_or xs 2 [] ∷ get_or xs 3 [] ∷ []) n [] ≡ get_or xs n []) refl refl refl refl

one_side : (a b : List ℕ) (k : ℕ) (t : Bool) → length a ≡ 16 → ltb k 16 ≡ t → get_or (a ++ b) k 0 ≡ cond t (get_or a k 0) (get_or b (k - 16) 0)
one_side a b k true len e = get_or_append_left a b 0 k (omega (arith, len, ltb-true k 16 e))
one_side a b k false len e = get_or-append_right a b 16 k 0 len (ltb-false k 16 e)

picked_at : (a b : List ℕ) (k : ℕ) → length a ≡ 16 → get_or (a ++ b) k 0 ≡ cond (ltb k 16) (get_or a k 0) (get_or b (k - 16) 0)
picked_at a b k len = one_side a b k (ltb k 16) len refl

-- what a shuffle takes from two vectors
pub picked : (a b ks : List ℕ) → length a ≡ 16
    → pick_l 0 (a ++ b) ks ≡ map (λ k. cond (ltb k 16) (get_or a k 0) (get_or b (k - 16) 0)) ks
picked a b [] len = refl
picked a b (k ∷ ks) len = λ i. picked_at a b k len i ∷ picked a b ks len i

-- row r of four blocks
abbrev pub row_in : List (List ℕ) → ℕ → List ℕ
row_in blocks r =
    let a = slice_index_or blocks 0 [] in
    let b = slice_index_or blocks 1 [] in
    let c = slice_index_or blocks 2 [] in
    let d = slice_index_or blocks 3 [] in
    byte_in a r 0 ∷ byte_in a r 1 ∷ byte_in a r 2 ∷ byte_in a r 3
    ∷ byte_in b r 0 ∷ byte_in b r 1 ∷ byte_in b r 2 ∷ byte_in b r 3
    ∷ byte_in c r 0 ∷ byte_in c r 1 ∷ byte_in c r 2 ∷ byte_in c r 3
    ∷ byte_in d r 0 ∷ byte_in d r 1 ∷ byte_in d r 2 ∷ byte_in d r 3
    ∷ []
