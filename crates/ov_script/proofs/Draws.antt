-- What is drawn from the words of a number.
use Rattle.std.proofs.Common.{◌≡◌, ℕ, zero, suc, ◌+◌, ◌*◌, ◌%◌, ◌^◌, ◌<◌, ◌≤◌, ◌∙◌, ap, arith}
use Rattle.rand_chacha.specs.ChaCha.{ChaCha, next_word}
use Rattle.ov_script.specs.WordPlace.{generator}
use Rattle.ov_script.specs.Workload.{word, kind_of, created, creations, drawn_at}
use Rattle.ov_script.specs.declared.drawn.Kind.{Kind}
use Rattle.ov_script.specs.declared.drawn.Kind.TheVariants.{Creates, Grants, Revokes, Reads, Lists}

-- one word, and the generator behind it
one_word : (number place : ℕ) (before after : ChaCha) (drawn : ℕ) → place + 1 < 2 ^ 68 → before ≡ generator number place
    → (drawn, after) ≡ next_word 10 before → (drawn ≡ word number place) × (after ≡ generator number (place + 1))
unfolding word
one_word number place before after drawn small at step =
    let next : (place + 1) % 2 ^ 68 ≡ place + 1 = omega arith in
    let both : (drawn, after) ≡ next_word 10 (generator number place) = step ∙ ap (next_word 10) at in
    (ap (λ (x : ℕ × ChaCha). x.0) both, ap (λ (x : ℕ × ChaCha). x.1) both ∙ ap (generator number) next)

-- the words of one command
pub three_words : (number i : ℕ) (a b c d : ChaCha) (first who what : ℕ) (kind : Kind) → i < 2 ^ 32 → a ≡ generator number (4 * i)
    → (first, b) ≡ next_word 10 a → (who, c) ≡ next_word 10 b → (what, d) ≡ next_word 10 c → kind ≡ kind_of first
    → record { kind = kind; who = who; what = what } ≡ drawn_at number i
three_words number i a b c d first who what kind small at one two three said =
    let x = one_word number (4 * i) a b first (omega arith) at one in
    let y = one_word number (4 * i + 1) b c who (omega arith) x.1 two in
    let next : 4 * i + 1 + 1 ≡ 4 * i + 2 = omega arith in
    let z = one_word number (4 * i + 2) c d what (omega arith) (y.1 ∙ ap (generator number) next) three in
    let k : kind ≡ kind_of (word number (4 * i)) = said ∙ ap kind_of x.0 in
    let u : who ≡ word number (4 * i + 1) = y.0 in
    let w : what ≡ word number (4 * i + 2) = z.0 in
    cc

created_le : (kind : Kind) → created kind ≤ 1
created_le Creates = omega arith
created_le Grants = omega arith
created_le Revokes = omega arith
created_le Reads = omega arith
created_le Lists = omega arith

-- no command creates two files
pub creations_le : (number n : ℕ) → creations number n ≤ n
creations_le number zero = omega arith
creations_le number (suc n) = omega (arith, creations_le number n, created_le (drawn_at number n).kind)
