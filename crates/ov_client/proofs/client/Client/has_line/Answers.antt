use Rattle.std.proofs.Common.{subst}
use Rattle.ov_client.specs.KeyLines.{IsLineOf, key_line}
use Rattle.ov_client.specs.Readers.{Reader}
use Rattle.ov_client.proofs.KeyLines.{written_line}
use Rattle.ov_client.proofs.client.Client.has_line.Goals as goal

pub returns : goal.returns
returns c =
    subst (λ (r : Reader). IsLineOf (key_line r) r) c.self.view_is
    (written_line _ c.as_bytes-name.ensures.form c.self.invariant.0 c.has_digits.ensures
    c.self.invariant.1 c.has_digits-2.ensures)
