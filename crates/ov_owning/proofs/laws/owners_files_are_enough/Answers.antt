use Rattle.std.proofs.Common.{refl}
use Rattle.ov_owning.proofs.laws.owners_files_are_enough.Goals as goal

pub returns : goal.returns
returns c = (
  λ k file masters. record { file = file; told = refl; masters = masters },
  λ act bytes few stores. (bytes, refl, few),
)
