use Rattle.std.proofs.Common.{arith}
use Rattle.ov_aes.proofs.Tables.{fourth_entry}
use Rattle.ov_aes.proofs.columns.term_of_row_3.Goals as goal

pub returns : goal.returns
returns c = fourth_entry c.args.b (omega arith)
