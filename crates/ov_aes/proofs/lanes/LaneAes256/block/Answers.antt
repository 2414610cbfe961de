use Rattle.std.proofs.Common.{ap, ◌∙◌}
use Rattle.ov_aes.specs.Aes.{aes256}
use Rattle.ov_aes.specs.Cipher.{cipher}
use Rattle.ov_aes.proofs.lanes.LaneAes256.block.Goals as goal

pub returns : goal.returns
unfolding aes256
returns c = rw (← c.self.view_is) (c.encrypt.ensures ∙ ap (λ w. cipher w c.args.input.now) c.self.invariant.0)
