-- The outer hasher takes the digest of the inner one, whatever message that holds.
use Rattle.std.proofs.Common.{◌++◌, ◌∙◌, ap}
use Rattle.sha2.specs.Sha256.{sha256}
use Rattle.ov_keyed.specs.Hmac.{hmac, pad}
use Rattle.ov_keyed.proofs.pieces.Pieces.finish.Goals as goal

pub returns : goal.returns
unfolding hmac
returns c = λ key message held lt.
    let inner = c.finalize.ensures (pad 0x36 key ++ message) held.0 in
    let outer = c.update.ensures (pad 0x5c key) held.1 in
    c.finalize-2.ensures _ outer ∙ ap (λ digest. sha256 (pad 0x5c key ++ digest)) inner
