use Rattle.std.proofs.Common.{◌≡◌, ◌≤◌, ◌∙◌, ap, arith, length, refl}
use Rattle.std.proofs.lemmas.List.{length-map}
use Rattle.ov_base.specs.declared.limits.TheConstants.{MAX_FILE_BYTES, MAX_USERS}
use Rattle.ov_ctr.proofs.Pad.{length-xor_pad}
use Rattle.ov_owner.proofs.sealing.seal_replacement.Goals as goal

pub returns-clause-limits : goal.returns-clause-limits
returns-clause-limits c =
    let tokens : length c.in_ok-tokens.tokens ≡ length c.args.plan.from = ap length c.in_ok-tokens.ensures ∙ length-map c.args.plan.from _ in
    let text : length c.in_ok-base_coated.field-0 ≡ length c.args.bytes.now =
    ap length c.in_ok-base_coated.ensures
    ∙ length-xor_pad c.access_key-access.result.bytes 0x42 c.args.plan.file 0 c.args.bytes.now in
    let few : length c.args.plan.from ≤ MAX_USERS = c.requires.edges in
    let small : length c.args.bytes.now ≤ MAX_FILE_BYTES = c.requires.bytes in
    (refl, omega arith, omega arith)
