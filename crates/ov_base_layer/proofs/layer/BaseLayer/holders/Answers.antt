use Rattle.std.proofs.Common.{List, ap, rules, subst}
use Rattle.std.specs.Prelude.{Contains}
use Rattle.ov_base_layer.specs.declared.grant.Grant.{Grant}
use Rattle.ov_base_layer.specs.BaseContents.{BaseContents, holders_of}
use Rattle.ov_base_layer.specs.Holders.{accesses_of}
use Rattle.ov_base_layer.proofs.HolderLaws.{found_holders}
use Rattle.ov_base_layer.proofs.layer.BaseLayer.holders.Goals as goal

pub with_accesses-requires : goal.with_accesses-requires
with_accesses-requires g c = (
  search rules,
  λ access there. c.self.invariant.1.users access
      (subst (λ (grants : List Grant). Contains (accesses_of grants) access) c.deref.ensures.value there),
)

pub returns-clause-members : goal.returns-clause-members
returns-clause-members g c user =
    found_holders c.args.self.now _ c.self.inside.grants.items _ c.args.node _ _ user
    c.with_accesses.ensures c.deref.ensures.value c.set_of.ensures
    (ap (λ (b : BaseContents). holders_of b c.args.node) c.self.view_is)
