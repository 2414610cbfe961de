-- Each round key, from its four rows.
use Rattle.std.proofs.Common.{◌≡◌, ℕ, ◌+◌, ◌*◌, ◌<◌, [], bit_xor, get_or, arith, slice_index}
use Rattle.ov_aes.specs.RowKeys.{IsKeyRow}
use Rattle.ov_aes.specs.Rows.{lane_in, rows_at}
use Rattle.ov_aes.specs.State.{word_in}
use Rattle.ov_aes.specs.Tower.{from_tower}
use Rattle.ov_aes.proofs.RowKeyBytes.{middle_byte}
use Rattle.ov_aes.proofs.RowRounds.{columns}
use Rattle.ov_aes.proofs.row_keys.row_keys.Goals as goal

pub returns : goal.returns
returns c =
    let w = c.args.w.now in
    let keys = c.loop-i.keys in
    let done : c.loop-i.i ≡ 60 = omega arith in
    let inv : (k : ℕ) → k < 60 → IsKeyRow (get_or keys k []) w k = λ k lt. c.loop-i.invariant.1 k (omega (arith, done)) in
    record {
      first = λ b lb. columns (λ r k. from_tower (lane_in (rows_at keys 0) b r k)) (λ r k. slice_index (word_in w (4 * 0 + k)) r)
          (record { first = (inv 0 (omega arith)).first b 0 (omega arith) lb (omega arith); second = (inv 1 (omega arith)).first b 0 (omega arith) lb (omega arith); third = (inv 2 (omega arith)).first b 0 (omega arith) lb (omega arith); fourth = (inv 3 (omega arith)).first b 0 (omega arith) lb (omega arith) })
          (record { first = (inv 0 (omega arith)).first b 1 (omega arith) lb (omega arith); second = (inv 1 (omega arith)).first b 1 (omega arith) lb (omega arith); third = (inv 2 (omega arith)).first b 1 (omega arith) lb (omega arith); fourth = (inv 3 (omega arith)).first b 1 (omega arith) lb (omega arith) })
          (record { first = (inv 0 (omega arith)).first b 2 (omega arith) lb (omega arith); second = (inv 1 (omega arith)).first b 2 (omega arith) lb (omega arith); third = (inv 2 (omega arith)).first b 2 (omega arith) lb (omega arith); fourth = (inv 3 (omega arith)).first b 2 (omega arith) lb (omega arith) })
          (record { first = (inv 0 (omega arith)).first b 3 (omega arith) lb (omega arith); second = (inv 1 (omega arith)).first b 3 (omega arith) lb (omega arith); third = (inv 2 (omega arith)).first b 3 (omega arith) lb (omega arith); fourth = (inv 3 (omega arith)).first b 3 (omega arith) lb (omega arith) });
      middle = λ n b ge lt lb. columns (λ r k. from_tower (lane_in (rows_at keys n) b r k)) (λ r k. bit_xor (slice_index (word_in w (4 * n + k)) r) 0x63)
          (record { first = middle_byte _ w (4 * n) n 0 b 0 (inv (4 * n) (omega arith)) (omega arith) (omega arith) ge lt lb (omega arith); second = middle_byte _ w (4 * n + 1) n 1 b 0 (inv (4 * n + 1) (omega arith)) (omega arith) (omega arith) ge lt lb (omega arith); third = middle_byte _ w (4 * n + 2) n 2 b 0 (inv (4 * n + 2) (omega arith)) (omega arith) (omega arith) ge lt lb (omega arith); fourth = middle_byte _ w (4 * n + 3) n 3 b 0 (inv (4 * n + 3) (omega arith)) (omega arith) (omega arith) ge lt lb (omega arith) })
          (record { first = middle_byte _ w (4 * n) n 0 b 1 (inv (4 * n) (omega arith)) (omega arith) (omega arith) ge lt lb (omega arith); second = middle_byte _ w (4 * n + 1) n 1 b 1 (inv (4 * n + 1) (omega arith)) (omega arith) (omega arith) ge lt lb (omega arith); third = middle_byte _ w (4 * n + 2) n 2 b 1 (inv (4 * n + 2) (omega arith)) (omega arith) (omega arith) ge lt lb (omega arith); fourth = middle_byte _ w (4 * n + 3) n 3 b 1 (inv (4 * n + 3) (omega arith)) (omega arith) (omega arith) ge lt lb (omega arith) })
          (record { first = middle_byte _ w (4 * n) n 0 b 2 (inv (4 * n) (omega arith)) (omega arith) (omega arith) ge lt lb (omega arith); second = middle_byte _ w (4 * n + 1) n 1 b 2 (inv (4 * n + 1) (omega arith)) (omega arith) (omega arith) ge lt lb (omega arith); third = middle_byte _ w (4 * n + 2) n 2 b 2 (inv (4 * n + 2) (omega arith)) (omega arith) (omega arith) ge lt lb (omega arith); fourth = middle_byte _ w (4 * n + 3) n 3 b 2 (inv (4 * n + 3) (omega arith)) (omega arith) (omega arith) ge lt lb (omega arith) })
          (record { first = middle_byte _ w (4 * n) n 0 b 3 (inv (4 * n) (omega arith)) (omega arith) (omega arith) ge lt lb (omega arith); second = middle_byte _ w (4 * n + 1) n 1 b 3 (inv (4 * n + 1) (omega arith)) (omega arith) (omega arith) ge lt lb (omega arith); third = middle_byte _ w (4 * n + 2) n 2 b 3 (inv (4 * n + 2) (omega arith)) (omega arith) (omega arith) ge lt lb (omega arith); fourth = middle_byte _ w (4 * n + 3) n 3 b 3 (inv (4 * n + 3) (omega arith)) (omega arith) (omega arith) ge lt lb (omega arith) });
      last = λ b lb. columns (λ r k. lane_in (rows_at keys 14) b r k) (λ r k. bit_xor (slice_index (word_in w (4 * 14 + k)) r) 0x63)
          (record { first = (inv 56 (omega arith)).last b 0 (omega arith) lb (omega arith); second = (inv 57 (omega arith)).last b 0 (omega arith) lb (omega arith); third = (inv 58 (omega arith)).last b 0 (omega arith) lb (omega arith); fourth = (inv 59 (omega arith)).last b 0 (omega arith) lb (omega arith) })
          (record { first = (inv 56 (omega arith)).last b 1 (omega arith) lb (omega arith); second = (inv 57 (omega arith)).last b 1 (omega arith) lb (omega arith); third = (inv 58 (omega arith)).last b 1 (omega arith) lb (omega arith); fourth = (inv 59 (omega arith)).last b 1 (omega arith) lb (omega arith) })
          (record { first = (inv 56 (omega arith)).last b 2 (omega arith) lb (omega arith); second = (inv 57 (omega arith)).last b 2 (omega arith) lb (omega arith); third = (inv 58 (omega arith)).last b 2 (omega arith) lb (omega arith); fourth = (inv 59 (omega arith)).last b 2 (omega arith) lb (omega arith) })
          (record { first = (inv 56 (omega arith)).last b 3 (omega arith) lb (omega arith); second = (inv 57 (omega arith)).last b 3 (omega arith) lb (omega arith); third = (inv 58 (omega arith)).last b 3 (omega arith) lb (omega arith); fourth = (inv 59 (omega arith)).last b 3 (omega arith) lb (omega arith) });
    }
