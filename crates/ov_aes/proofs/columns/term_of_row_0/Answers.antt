use Rattle.std.proofs.Common.{arith}
use Rattle.ov_aes.proofs.Tables.{first_entry}
use Rattle.ov_aes.proofs.columns.term_of_row_0.Goals as goal

pub returns : goal.returns
returns c = first_entry c.args.b (omega arith)
