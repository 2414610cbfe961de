use Rattle.std.proofs.Common.{arith}
use Rattle.ov_aes.proofs.Tables.{sbox_entry}
use Rattle.ov_aes.proofs.sbox.sub_byte.Goals as goal

pub returns : goal.returns
returns c = sbox_entry c.args.b (omega arith)
