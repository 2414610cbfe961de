use Rattle.std.proofs.Common.{length, ap, arith}
use Rattle.ov_state.specs.Entries.{FileList}
use Rattle.ov_state.proofs.FilesByNumber.{length-plain}
use Rattle.ov_state.proofs.files.Files.count.Goals as goal

pub overflow_cast-result : goal.overflow_cast-result
overflow_cast-result c = record { fits = omega (arith, c.self.invariant.0.1, length-plain c.self.inside.list.items) }

pub returns : goal.returns
returns c =
    omega (arith, c.len.ensures, length-plain c.self.inside.list.items, ap (λ (l : FileList). length l.files) c.self.view_is)
