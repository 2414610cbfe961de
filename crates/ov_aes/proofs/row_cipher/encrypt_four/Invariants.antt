-- The blocks after the rounds so far.
use Rattle.std.proofs.Common.{◌≡◌, ℕ, ◌+◌, ◌<◌, ◌-◌, List}
use Rattle.ov_aes.specs.Cipher.{rounds}
use Rattle.ov_aes.specs.Fronts.{IsFront, with_last}
use Rattle.ov_aes.specs.Rows.{held_in}
use Rattle.ov_aes.specs.RowKeys.{IsRowKeys}
use Rattle.ov_aes.proofs.row_cipher.encrypt_four.Given as goal

abbrev pub invariant-loop-n : goal.invariant-loop-n
invariant-loop-n l = (w : List (List ℕ)) (block : List ℕ) (b : ℕ) → IsRowKeys l.keys w → IsFront l.front w block → b < 4
    → held_in l.rows b ≡ rounds w (with_last block (l.last + b)) (l.n - 1)
