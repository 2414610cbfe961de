use Rattle.std.proofs.Common.{◌≡◌, ◌≤◌, ◌<◌, ◌-◌, ℕ, List, length, take}
use Rattle.std.specs.Io.KnownBytes.{Consumes}
use Rattle.ov_io.specs.Calls.{TakesPieces}
use Rattle.ov_io.proofs.filling.fill.Given as goal

abbrev pub invariant-pieces : goal.invariant-pieces
invariant-pieces g l = record {
  within : l.end ≤ length l.buffer;
  long : length l.buffer ≡ length l.fn.buffer;
  pieces : (seen : List ℕ) × (length seen ≡ l.end)
      × TakesPieces g.K.Source.tells (λ seen. length seen < length l.fn.buffer) l.fn.source l.source seen;
  taken : Consumes (g.K.Source.tells.left l.fn.source) (g.K.Source.tells.left l.source) (take l.end l.buffer);
  same : g.K.Source.tells.borrow l.source ≡ g.K.Source.tells.borrow l.fn.source;
  later : g.K.Source.tells.faults l.fn.source ≤ g.K.Source.tells.faults l.source;
}

abbrev pub decreases-pieces : goal.decreases-pieces
decreases-pieces g l = length l.buffer - l.end
