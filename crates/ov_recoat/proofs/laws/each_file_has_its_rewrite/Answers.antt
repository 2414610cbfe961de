use Rattle.ov_recoat.proofs.Bytes.{each_has}
use Rattle.ov_recoat.proofs.laws.each_file_has_its_rewrite.Goals as goal

pub returns : goal.returns
returns c = each_has
