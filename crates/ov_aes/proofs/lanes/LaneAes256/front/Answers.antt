use Rattle.std.proofs.Common.{◌≡◌, ◌∙◌, ap}
use Rattle.ov_aes.specs.KeyExpansion.{key_expansion}
use Rattle.ov_aes.specs.RowKeys.{IsRowKeys}
use Rattle.ov_aes.proofs.lanes.LaneAes256.front.Goals as goal

pub returns : goal.returns
returns c =
    let words : c.self.inside.words ≡ key_expansion c.args.self.now = c.self.invariant.0 ∙ ap key_expansion c.self.view_is in
    let keys : IsRowKeys c.self.inside.keys (key_expansion c.args.self.now) = rw words at c.self.invariant.1 in
    c.new.ensures (key_expansion c.args.self.now) keys
