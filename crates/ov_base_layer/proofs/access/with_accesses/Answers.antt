use Rattle.std.proofs.Common.{rules, []}
use Rattle.ov_base_layer.specs.declared.grant.Grant.{Grant}
use Rattle.ov_base_layer.proofs.HolderLaws.{access_at}
use Rattle.ov_base_layer.proofs.access.with_accesses.Goals as goal

pub with-holders-requires : goal.with-holders-requires
with-holders-requires g c =
    let none : Grant = record { user = 0; node = 0; token = record { bytes = [] } } in
    (search rules, c.requires _ (access_at c.args.grants.now c.loop-grant.grant-index none c.loop-grant-test.true))
