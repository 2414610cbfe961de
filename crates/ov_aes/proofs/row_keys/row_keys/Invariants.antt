-- The rows so far are those of the key schedule.
use Rattle.std.proofs.Common.{◌≡◌, ℕ, ◌<◌, [], length, get_or}
use Rattle.ov_aes.specs.RowKeys.{IsKeyRow}
use Rattle.ov_aes.proofs.row_keys.row_keys.Given as goal

abbrev pub invariant-loop-i : goal.invariant-loop-i
invariant-loop-i l = (length l.keys ≡ 60) × ((k : ℕ) → k < l.i → IsKeyRow (get_or l.keys k []) l.w k)
