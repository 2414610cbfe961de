-- One more round.
use Rattle.std.proofs.Common.{◌≡◌, ℕ, ◌+◌, ◌-◌, ◌≤◌, List, zero, suc, arith, refl}
use Rattle.ov_aes.specs.Cipher.{full_round, rounds}

pub one_more : (w : List (List ℕ)) (input : List ℕ) (n : ℕ) → 1 ≤ n → full_round (rounds w input (n - 1)) w n ≡ rounds w input (n + 1 - 1)
unfolding rounds
one_more w input zero le = absurd (omega arith)
one_more w input (suc n) le =
    let before : suc n - 1 ≡ n = omega arith in
    let after : suc n + 1 - 1 ≡ suc n = omega arith in
    let here : n + 1 ≡ suc n = omega arith in
    rw (before, after, here) refl
