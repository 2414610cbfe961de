use Rattle.std.proofs.Common.{◌-◌, arith}
use Rattle.ov_script.proofs.Draws.{creations_le}
use Rattle.ov_script.proofs.stated.Workload.advance.Goals as goal

pub overflow_add-self-in-Creates : goal.overflow_add-self-in-Creates
overflow_add-self-in-Creates c = omega (arith, creations_le c.self.inside.number (c.self.inside.place - 8))
