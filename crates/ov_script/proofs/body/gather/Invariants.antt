use Rattle.std.proofs.Common.{◌≤◌, ◌+◌, ◌-◌, length, vec_len}
use Rattle.ov_io.specs.Calls.{IsCallOf}
use Rattle.ov_script.specs.Finding.{UsesBelow}
use Rattle.ov_script.proofs.body.gather.Given as goal

abbrev pub invariant-pieces : goal.invariant-pieces
invariant-pieces g l = record {
  within : vec_len l.bytes ≤ l.fn.count;
  used : UsesBelow g.S.Source.tells l.fn.count l.fn.feed l.feed l.bytes.items;
  call : IsCallOf g.S.Source.tells ⊥ l.fn.feed.source l.feed.source;
}

abbrev pub decreases-pieces : goal.decreases-pieces
decreases-pieces g l = l.fn.count - (vec_len l.bytes + length l.feed.pending)
