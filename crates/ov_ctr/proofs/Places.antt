-- Where a place of the file is in its block.
use Rattle.std.proofs.Common.{◌≡◌, ℕ, ◌+◌, ◌-◌, ◌*◌, ◌/◌, ◌%◌, ◌<◌, List, arith, refl, get_or, ap, sym, ◌^◌, [], ◌∷◌, ◌++◌}
use Rattle.std.specs.Int.{byte_at, to_be_bytes, w32}
use Rattle.ov_aes.specs.Aes.{aes256}
use Rattle.ov_aes.specs.Fronts.{with_last}
use Rattle.ov_ctr.specs.Ctr.{counter_block, pad_byte}

-- the pad at the place s + i, from the block that the place s is in
pub pad_in_block : (key counter : List ℕ) (tag file s i : ℕ) → counter ≡ counter_block tag file (s / 16)
    → i < 16 - s % 16 → get_or (aes256 key counter) (s % 16 + i) 0 ≡ pad_byte key tag file (s + i)
unfolding pad_byte
pad_in_block key counter tag file s i e lt =
    let block : s / 16 ≡ (s + i) / 16 = omega arith in
    let place : s % 16 + i ≡ (s + i) % 16 = omega arith in
    rw (e, block, place) refl

-- the pad at the place p, which is byte i of block m
pub pad_of_block : (key : List ℕ) (tag file m i p : ℕ) → i < 16 → p ≡ 16 * m + i
    → get_or (aes256 key (counter_block tag file m)) i 0 ≡ pad_byte key tag file p
unfolding pad_byte
pad_of_block key tag file m i p lt e =
    let block : m ≡ p / 16 = omega (arith, e) in
    let place : i ≡ p % 16 = omega (arith, e) in
    rw (block, place) refl

-- the counter block of a block whose number differs in the last byte alone
pub counter_with_last : (tag file n m : ℕ) → n % 256 + m < 256
    → with_last (counter_block tag file n) (n % 256 + m) ≡ counter_block tag file (n + m)
counter_with_last tag file n m lt =
    let one : byte_at 1 (n + m) ≡ byte_at 1 n = ap (λ t. t % 256) (let e : (n + m) / 256 ≡ n / 256 = omega arith in e) in
    let two : byte_at 2 (n + m) ≡ byte_at 2 n = ap (λ t. t % 256) (let e : (n + m) / 256 ^ 2 ≡ n / 256 ^ 2 = omega arith in e) in
    let three : byte_at 3 (n + m) ≡ byte_at 3 n = ap (λ t. t % 256) (let e : (n + m) / 256 ^ 3 ≡ n / 256 ^ 3 = omega arith in e) in
    let four : byte_at 4 (n + m) ≡ byte_at 4 n = ap (λ t. t % 256) (let e : (n + m) / 256 ^ 4 ≡ n / 256 ^ 4 = omega arith in e) in
    let five : byte_at 5 (n + m) ≡ byte_at 5 n = ap (λ t. t % 256) (let e : (n + m) / 256 ^ 5 ≡ n / 256 ^ 5 = omega arith in e) in
    let six : byte_at 6 (n + m) ≡ byte_at 6 n = ap (λ t. t % 256) (let e : (n + m) / 256 ^ 6 ≡ n / 256 ^ 6 = omega arith in e) in
    let seven : byte_at 7 (n + m) ≡ byte_at 7 n = ap (λ t. t % 256) (let e : (n + m) / 256 ^ 7 ≡ n / 256 ^ 7 = omega arith in e) in
    let low : (n + m) % 256 ≡ n % 256 + m = omega arith in
    λ i. tag ∷ 0 ∷ 0 ∷ 0 ∷ (to_be_bytes w32 file ++ sym seven i ∷ sym six i ∷ sym five i ∷ sym four i ∷ sym three i ∷ sym two i ∷ sym one i ∷ sym low i ∷ [])
