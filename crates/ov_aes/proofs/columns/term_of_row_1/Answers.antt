use Rattle.std.proofs.Common.{arith}
use Rattle.ov_aes.proofs.Tables.{second_entry}
use Rattle.ov_aes.proofs.columns.term_of_row_1.Goals as goal

pub returns : goal.returns
returns c = second_entry c.args.b (omega arith)
