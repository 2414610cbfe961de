use Rattle.std.proofs.Common.{◌≡◌, drop}
use Rattle.ov_chain.specs.Walk.{walked}
use Rattle.ov_chain.proofs.keys.walk.Given as goal

abbrev pub invariant-loop-step : goal.invariant-loop-step
invariant-loop-step l = walked l.key.bytes (drop l.step-index l.step-items) ≡ walked l.root_key.bytes l.step-items
