use Rattle.std.proofs.Common.{arith}
use Rattle.ov_client.proofs.key_line.known_bytes.Goals as goal

pub returns : goal.returns
returns c = λ i. let byte = c.type_inv.bytes i in omega arith
