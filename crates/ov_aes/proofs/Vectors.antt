-- Vectors of 16 bytes as maps over one of them.
use Rattle.std.proofs.Common.{◌≡◌, ℕ, ◌+◌, ◌*◌, ◌/◌, ◌^◌, ◌<◌, Bool, true, T, List, [], ◌∷◌, map, length, get_or, replicate, bit_xor, refl, sym, ap, ◌∙◌, arith, w8, Fits, false, zero-add}
use Rattle.std.specs.List.{range_with_len}
use Rattle.std.proofs.lemmas.List.{get_or-replicate, get_or-map, length-map, ext_get_or}
use Rattle.std.proofs.lemmas.List.FromFn.{get_or-map-range_with_len}
use Rattle.std.proofs.lemmas.Simd.{SwzOk-from_Each1, swz_l, SwzOk, length-swz_l, get_or-swz_l, map-map, zip2_of_maps, splat_is_map, length-zip2, get_or-zip2}
use lib.Lanes.{zip2, Each1}
use Rattle.ov_aes.specs.Tower.{is_place, entry_at}
use Rattle.ov_aes.proofs.Tables.{at_byte}

abbrev pub IsBlock : List ℕ → Type 0
IsBlock v = (length v ≡ 16) × Each1 (Fits w8) v

abbrev pub down : ℕ → ℕ → ℕ
down a b = a / 2 ^ b

true_at : (b : Bool) → b ≡ true → T b
true_at b e = rw e tt

-- a place for each byte
each_place : (f : ℕ → ℕ) → ((x : ℕ) → x < 256 → is_place (f x) ≡ true) → (v : List ℕ) → Each1 (Fits w8) v → Each1 (λ j. T (is_place j)) (map f v)
each_place f e [] h = tt
each_place f e (x ∷ xs) h = (true_at _ (e x h.0.fits), each_place f e xs h.1)

all_true : (p : ℕ → Bool) → map p (range_with_len 0 256) ≡ replicate 256 true → (x : ℕ) → x < 256 → p x ≡ true
all_true p e x lt =
    sym (get_or-map-range_with_len p 0 256 x x false lt (zero-add x)) ∙ ap (λ (t : List Bool). get_or t x false) e ∙ get_or-replicate 256 x true false lt

pub places : (f : ℕ → ℕ) (v js : List ℕ) → IsBlock v → js ≡ map f v → map (λ x. is_place (f x)) (range_with_len 0 256) ≡ replicate 256 true → Each1 (λ j. T (is_place j)) js
places f v js fits e all = rw e (each_place f (all_true (λ x. is_place (f x)) all) v fits.1)

pub swizzle_ok : (at : List ℕ) → length at ≡ 16 → Each1 (λ j. T (is_place j)) at → SwzOk w8 16 16 0 at
swizzle_ok at len h = SwzOk-from_Each1 w8 16 1 16 0 at refl (omega arith) h

pub looked_up : (t at : List ℕ) → length at ≡ 16 → swz_l w8 16 t 0 at ≡ map (entry_at t) at
looked_up t at len =
    ext_get_or 0 _ _ (length-swz_l w8 16 t 0 at ∙ sym (length-map at (entry_at t))) (λ i h.
    let lt : i < 16 = omega (arith, length-swz_l w8 16 t 0 at) in
    let first : 16 * ((0 + i) / 16) + get_or at i 0 ≡ get_or at i 0 = omega arith in
    get_or-swz_l w8 16 t 0 at i (omega arith) ∙ rw first (sym (get_or-map (entry_at t) at i 0 0 (omega arith))))

-- an operator on two vectors, on one and a splat, and a look-up
pub both : (op : ℕ → ℕ → ℕ) (f g : ℕ → ℕ) (v xs ys : List ℕ) → xs ≡ map f v → ys ≡ map g v → zip2 op xs ys ≡ map (λ x. op (f x) (g x)) v
both op f g v xs ys e h = zip2_of_maps op f g v e h

pub with_splat : (op : ℕ → ℕ → ℕ) (f : ℕ → ℕ) (v xs : List ℕ) (c : ℕ) → length v ≡ 16 → xs ≡ map f v → zip2 op xs (replicate 16 c) ≡ map (λ x. op (f x) c) v
with_splat op f v xs c len e = zip2_of_maps op f (λ _. c) v e (splat_is_map v 16 c len)

pub looked : (t : List ℕ) (f : ℕ → ℕ) (v at r : List ℕ) → r ≡ map (entry_at t) at → at ≡ map f v → r ≡ map (λ x. entry_at t (f x)) v
looked t f v at r e h = e ∙ ap (map (entry_at t)) h ∙ map-map (entry_at t) f v

pub map_id : (v : List ℕ) → v ≡ map (λ x. x) v
map_id [] = refl
map_id (x ∷ xs) = ap (λ (l : List ℕ). x ∷ l) (map_id xs)

-- ---- one lane

-- lane j of xs is x
pub record At (j : ℕ) (xs : List ℕ) (x : ℕ) : Type 0 where
  pub long : length xs ≡ 16
  pub is : get_or xs j 0 ≡ x

pub zip_at : (op : ℕ → ℕ → ℕ) {j x y : ℕ} {xs ys : List ℕ} → j < 16 → At j xs x → At j ys y → At j (zip2 op xs ys) (op x y)
zip_at op {j} {x} {y} {xs} {ys} lt a b = record {
  long = length-zip2 op xs ys (a.long ∙ sym b.long) ∙ a.long;
  is = get_or-zip2 op xs ys j 0 0 0 (omega (arith, a.long)) (omega (arith, b.long)) ∙ rw (a.is, b.is) refl;
}

pub xor_at : {j x y : ℕ} {xs ys : List ℕ} → j < 16 → At j xs x → At j ys y → At j (zip2 bit_xor xs ys) (bit_xor x y)
xor_at lt a b = zip_at bit_xor lt a b

pub map_at : {j x : ℕ} {xs ys : List ℕ} (f : ℕ → ℕ) → j < 16 → ys ≡ map f xs → At j xs x → At j ys (f x)
map_at {j} {x} {xs} {ys} f lt e a = record {
  long = ap length e ∙ length-map xs f ∙ a.long;
  is = ap (λ (l : List ℕ). get_or l j 0) e ∙ get_or-map f xs j 0 0 (omega (arith, a.long)) ∙ ap f a.is;
}
