-- What an answer leaves of a value that accepts no more updates, or should.
use Rattle.std.proofs.Common.{◌≡◌, ◌∙◌, ◌||◌, ℕ, Bool, true, false, List, Result, Ok, Err, refl, sym, true≢false}
use Rattle.std.specs.Prelude.{OnOk}
use Rattle.ov_base.specs.declared.memory.Memory.{Memory}
use Rattle.ov_peer.specs.Spellings.{fails_update, says_accepted}
use Rattle.ov_peer.specs.Tells.{AnswererTells, Sticks, StaysStuck}
use Rattle.ov_turn.specs.Steps.{failed_after}

module _ {A : Type 0} (tells : AnswererTells A) (old new : A) (stuck : Bool)
    (request reply : List ℕ) (before : stuck ≡ true → tells.stuck old) where
  -- a value is stuck after a failed update, and where it was before
  pub left_stuck : (r : Result ℕ Memory) → StaysStuck tells old new request reply r
      → (failed_after r request reply || stuck) ≡ true → tells.stuck new
  left_stuck (Ok epoch) s is = by_test (fails_update request reply) refl is where
    by_test : (b : Bool) → fails_update request reply ≡ b → (b || stuck) ≡ true → tells.stuck new
    by_test true failed is = s.fails failed
    by_test false sound is = s.stays (before is)
  left_stuck (Err memory) s is = s (before is)

  -- a pass that was told of a failed update has none accepted
  pub refuses_all : (failed : Bool) → (failed ≡ true → stuck ≡ true) → (r : Result ℕ Memory)
      → StaysStuck tells old new request reply r
      → OnOk r (failed ≡ true → says_accepted reply ≡ false)
  refuses_all failed known (Ok epoch) s = λ is. s.refuses (before (known is))
  refuses_all failed known (Err memory) s = tt
