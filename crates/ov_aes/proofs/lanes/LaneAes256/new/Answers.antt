use Rattle.std.proofs.Common.{◌≡◌, ap, ◌∙◌, arith}
use Rattle.ov_aes.specs.KeyExpansion.{key_of}
use Rattle.ov_aes.proofs.Schedule.{key_of_expansion}
use Rattle.ov_aes.proofs.lanes.LaneAes256.new.Goals as goal

pub invariant_of-result : goal.invariant_of-result
invariant_of-result c =
    let key : key_of c.expand_key-words.result ≡ c.args.key.now = ap key_of c.expand_key-words.ensures ∙ key_of_expansion _ (omega arith) in
    (rw key c.expand_key-words.ensures, c.row_keys-keys.ensures)

pub returns : goal.returns
returns c = ap key_of c.expand_key-words.ensures ∙ key_of_expansion _ (omega arith)
