-- Sets compare as their bytes do, of which there are as many as hold both, and that is a total
-- order.
use Rattle.std.proofs.Common.{ℕ, suc, zero, ◌≡◌, ◌<◌, ◌≤◌, ◌+◌, ◌/◌, ◌%◌, ◌^◌, refl, sym, ◌∙◌, ap, arith, true≢false}
use Rattle.std.specs.Prelude.{max}
use Rattle.std.proofs.Math.Nat.{pow-suc}
use Rattle.std.specs.Ordering.{nat_cmp, ordering_then, ordering_reverse, is_lt, is_gt}
use Rattle.std.specs.declared.cmp.Ordering.{Ordering}
use Rattle.std.specs.declared.cmp.Ordering.TheVariants.{Less, Equal, Greater}
use Rattle.std.specs.Cmp.{IsTotalOrder, tied_itself, ranked}
use Rattle.std.specs.Cmp.Lexicographic.{nat_list_cmp_total}
use Rattle.ov_base.specs.Sets.{bytes_of, bytes_cmp, set_cmp}

-- bytes past those that hold both sets decide nothing
wider : (count more a b : ℕ) → a < 256 ^ count → b < 256 ^ count → bytes_cmp count a b ≡ bytes_cmp (count + more) a b
unfolding bytes_of
wider zero more a b low_a low_b =
    let same : a ≡ b = omega arith in
    let width : zero + more ≡ more = omega arith in
    rw (same, width) (sym (tied_itself nat_list_cmp_total (bytes_of more b)))
wider (suc count) more a b low_a low_b =
    let p = pow-suc 256 count in
    let width : suc count + more ≡ suc (count + more) = omega arith in
    rw width (ap (ordering_then (nat_cmp (a % 256) (b % 256))) (wider count more (a / 256) (b / 256) (omega arith) (omega arith)))

-- a set is below this many bytes as its own number
own_bytes : (set more : ℕ) → set ≤ more → set < 256 ^ more
own_bytes zero zero h = omega arith
own_bytes (suc set) zero h = absurd (omega arith)
own_bytes zero (suc more) h = omega (arith, pow-suc 256 more, own_bytes zero more (omega arith))
own_bytes (suc set) (suc more) h = omega (arith, pow-suc 256 more, own_bytes set more (omega arith))

-- sets compare as their bytes do, as many as hold both
pub set_cmp-bytes : (count a b : ℕ) → a < 256 ^ count → b < 256 ^ count → set_cmp a b ≡ bytes_cmp count a b
unfolding set_cmp
set_cmp-bytes count a b low_a low_b =
    wider (max a b) count a b (own_bytes a (max a b) (omega arith)) (own_bytes b (max a b) (omega arith))
    ∙ ap (λ n. bytes_cmp n a b) (omega arith)
    ∙ sym (wider count (max a b) a b low_a low_b)

then_first : (r s : Ordering) → ordering_then r s ≡ Equal → r ≡ Equal
then_first Less s e = e
then_first Equal s e = refl
then_first Greater s e = e

then_second : (r s : Ordering) → ordering_then r s ≡ Equal → s ≡ Equal
then_second Less s e = absurd (true≢false (ap is_lt e))
then_second Equal s e = e
then_second Greater s e = absurd (true≢false (ap is_gt e))

same_byte : (x y : ℕ) → nat_cmp x y ≡ Equal → x ≡ y
same_byte x y e = ranked x y Equal (sym e)

-- sets that the bytes hold and don't tell apart are one
pub same_bytes : (count a b : ℕ) → a < 256 ^ count → b < 256 ^ count → bytes_cmp count a b ≡ Equal → a ≡ b
unfolding bytes_of
same_bytes zero a b low_a low_b e = omega arith
same_bytes (suc count) a b low_a low_b e =
    let p = pow-suc 256 count in
    let byte : Ordering = nat_cmp (a % 256) (b % 256) in
    let rest : Ordering = bytes_cmp count (a / 256) (b / 256) in
    let first : a % 256 ≡ b % 256 = same_byte _ _ (then_first byte rest e) in
    let others : a / 256 ≡ b / 256 = same_bytes count (a / 256) (b / 256) (omega arith) (omega arith) (then_second byte rest e) in
    omega arith

-- only a set itself compares as equal
pub set_cmp-same : (a b : ℕ) → set_cmp a b ≡ Equal → a ≡ b
unfolding set_cmp
set_cmp-same a b e = same_bytes (max a b) a b (own_bytes a (max a b) (omega arith)) (own_bytes b (max a b) (omega arith)) e

-- sets are in a total order
pub set_cmp-total : IsTotalOrder set_cmp
set_cmp-total = record {
  antisymm = λ a b.
      let n : ℕ = max a b in
      set_cmp-bytes n a b (own_bytes a n (omega arith)) (own_bytes b n (omega arith))
      ∙ nat_list_cmp_total.antisymm (bytes_of n a) (bytes_of n b)
      ∙ ap ordering_reverse (sym (set_cmp-bytes n b a (own_bytes b n (omega arith)) (own_bytes a n (omega arith))));
  trans = λ a b c p q.
      let n : ℕ = a + b + c in
      let la = own_bytes a n (omega arith) in let lb = own_bytes b n (omega arith) in let lc = own_bytes c n (omega arith) in
      set_cmp-bytes n a c la lc
      ∙ nat_list_cmp_total.trans (bytes_of n a) (bytes_of n b) (bytes_of n c)
      (sym (set_cmp-bytes n a b la lb) ∙ p) (sym (set_cmp-bytes n b c lb lc) ∙ q);
  congr = λ a b c e. ap (λ s. set_cmp s c) (set_cmp-same a b e);
}
