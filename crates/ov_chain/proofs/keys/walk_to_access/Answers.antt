use Rattle.std.proofs.Common.{◌∙◌, inl, inr, sym}
use Rattle.ov_tokens.specs.declared.label.Kind.TheVariants.{Access, Derive, Surface}
use Rattle.ov_chain.proofs.WalkLaws.{access_is}
use Rattle.ov_chain.proofs.keys.walk_to_access.Goals as goal

pub returns-in-Derive : goal.returns-in-Derive
returns-in-Derive c =
    c.access_key.ensures
    ∙ access_is c.args.root_key.now.bytes c.args.chain.now Derive c.walk-end.result.bytes c.in-Derive.ensures c.walk-end.ensures.walked

pub returns-in-Access : goal.returns-in-Access
returns-in-Access c = elim c.in-Access.is [
  | inl is ↦ access_is c.args.root_key.now.bytes c.args.chain.now Access c.walk-end.result.bytes (sym is ∙ c.last_kind.ensures) c.walk-end.ensures.walked
  | inr is ↦ access_is c.args.root_key.now.bytes c.args.chain.now Surface c.walk-end.result.bytes (sym is ∙ c.last_kind.ensures) c.walk-end.ensures.walked
]
