use Rattle.std.proofs.Common.{subst}
use Rattle.hex.specs.Hex.{IsBytes}
use Rattle.ov_client.proofs.KeyLines.{written_key}
use Rattle.ov_client.proofs.key_line.has_digits.Goals as goal

pub returns : goal.returns
returns c =
    written_key c.args.key.now c.told-key
    (subst IsBytes c.as_slice.ensures c.known_bytes.ensures)
