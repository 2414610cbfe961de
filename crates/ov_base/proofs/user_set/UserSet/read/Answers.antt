use Rattle.std.proofs.Common.{◌*◌, ◌∙◌, ap, arith}
use Rattle.std.proofs.Math.Facts.{Fits-lt-pow}
use Rattle.ov_base.specs.Sets.{bytes_of}
use Rattle.ov_base.proofs.SetBytes.{bytes_of-set_of_bytes}
use Rattle.ov_base.proofs.user_set.UserSet.read.Goals as goal

pub returns-clause-bytes : goal.returns-clause-bytes
returns-clause-bytes g c =
    ap (λ set. bytes_of (8 * g.row.W) set) c.read.ensures
    ∙ bytes_of-set_of_bytes c.args.bytes.now (8 * g.row.W) (omega arith) (λ i. Fits-lt-pow (c.type_inv.bytes i))
