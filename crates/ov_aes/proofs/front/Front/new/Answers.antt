-- A front, from the first two rounds of one of its blocks.
use Rattle.std.proofs.Common.{◌≡◌, ℕ, ◌+◌, ◌*◌, ◌<◌, ◌∙◌, [], ◌∷◌, ap, arith, bit_xor, get_or, refl}
use Rattle.ov_aes.specs.Cipher.{add_round_key, full_round, rounds}
use Rattle.ov_aes.specs.Fronts.{row_for, weighed, weight}
use Rattle.ov_aes.specs.Rows.{held_in}
use Rattle.ov_aes.specs.State.{byte_in}
use Rattle.ov_aes.specs.Tower.{from_tower}
use Rattle.ov_aes.proofs.Changes.{held_byte, round_one, round_two, round_zero}
use Rattle.ov_aes.proofs.RowLanes.{below_four, spell4}
use Rattle.ov_aes.proofs.front.Front.new.Goals as goal

pub returns : goal.returns
returns c w keys =
    let block = c.args.block.now in
    let before : (b : ℕ) → b < 4 → held_in c.first_key-before.result b ≡ rounds w block 0
    = λ b lb. c.first_key-before.ensures b w lb (ap (λ t. held_in t b) c.rows_at-key.ensures ∙ keys.first b lb)
    ∙ ap (λ s. add_round_key s w 0) (c.rows_of.ensures b lb ∙ below_four (λ n. get_or (block ∷ block ∷ block ∷ block ∷ []) n [] ≡ block) refl refl refl refl b lb)
    ∙ round_zero w block in
    let first : (b : ℕ) → b < 4 → held_in c.round.result b ≡ rounds w block 1
    = λ b lb. c.round.ensures b 1 w lb (ap (λ t. held_in t b) c.rows_at.ensures ∙ keys.middle 1 b (omega arith) (omega arith) lb)
    ∙ ap (λ s. full_round s w 1) (before b lb) ∙ round_one w block in
    let second : (b : ℕ) → b < 4 → held_in c.round-second.result b ≡ rounds w block 2
    = λ b lb. c.round-second.ensures b 2 w lb (ap (λ t. held_in t b) c.rows_at-2.ensures ∙ keys.middle 2 b (omega arith) (omega arith) lb)
    ∙ ap (λ s. full_round s w 2) (first b lb) ∙ round_two w block in
    let column : (b k : ℕ) → b < 4 → k < 4 → from_tower (get_or c.first_column-column.result (4 * b + k) 0) ≡ byte_in (rounds w block 1) (row_for k) 0
    = λ b k lb lk. ap from_tower (c.first_column-column.ensures b k lb lk)
    ∙ held_byte (get_or c.round.result 0 [] ∷ get_or c.round.result 1 [] ∷ get_or c.round.result 2 [] ∷ get_or c.round.result 3 [] ∷ []) b (row_for k) 0 (omega arith) (omega arith)
    ∙ ap (λ s. byte_in s (row_for k) 0) (first b lb) in
    record {
      last = λ b k lb lk. ap from_tower (c.last_byte.ensures b k lb lk)
          ∙ ap (λ t. get_or t 15 0) (ap (λ t. held_in t b) c.rows_at-key.ensures ∙ keys.first b lb);
      column = λ b k lb lk. c.added.ensures (4 * b + k) (omega arith)
          ∙ (λ i. bit_xor (column b k lb lk i) ((c.last_terms.ensures b k lb lk
          ∙ ap (weighed (weight (row_for k) 3)) (ap from_tower (c.last_byte-2.ensures b k lb lk) ∙ ap (λ t. get_or t 15 0) (before b lb))) i));
      rows = λ b r k lb lr lk. ap (λ t. from_tower (get_or t (4 * b + k) 0)) (spell4 c.added_rows.result r lr)
          ∙ c.added_rows.ensures b r k lb lr lk
          ∙ (λ i. bit_xor ((held_byte c.round-second.result b r k lr lk ∙ ap (λ s. byte_in s r k) (second b lb)) i)
          ((c.column_terms.ensures b r k lb lr lk ∙ ap (weighed (weight r (row_for k))) (column b k lb lk)) i));
    }
