use Rattle.std.proofs.Common.{arith}
use Rattle.ov_aes.proofs.Tables.{third_entry}
use Rattle.ov_aes.proofs.columns.term_of_row_2.Goals as goal

pub returns : goal.returns
returns c = third_entry c.args.b (omega arith)
