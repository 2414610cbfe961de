use Rattle.std.proofs.Common.{◌≡◌, ◌∙◌, ◌*◌, ◌<◌, ◌++◌, ◌∷◌, [], List, ap, length, rules, subst, sym}
use Rattle.std.proofs.lemmas.List.{map-append}
use Rattle.ov_base.specs.Sets.{Has}
use Rattle.ov_base_layer.specs.BaseContents.{BaseContents, holders_of}
use Rattle.ov_base_layer.specs.Holders.{Access, access_of, accesses_of, AreFirst}
use Rattle.ov_base_layer.proofs.HolderLaws.{first_more}
use Rattle.ov_base_layer.proofs.layer.BaseLayer.add_access.Goals as goal

pub invariant_of-self : goal.invariant_of-self
invariant_of-self g c =
    let grants = c.self.inside.grants.items in
    let grant = c.args.grant in
    let pushed : c.push.new.self.items ≡ grants ++ grant ∷ [] = search rules in
    let same = sym c.self.view_is in (
      c.self.invariant.0,
      subst (λ (accesses : List Access). AreFirst (64 * g.row.W) (g.G.Graph.contents c.self.inside.graph).sets accesses)
          (sym (map-append access_of grants (grant ∷ [])) ∙ ap accesses_of (sym pushed))
          (first_more _ _ (accesses_of grants) (access_of grant) c.self.invariant.1 c.requires.user
          (subst (λ (b : BaseContents). grant.node < length b.graph.sets) same c.requires.node)
          (subst (λ (b : BaseContents). ¬ Has (holders_of b grant.node) grant.user) same c.requires.holder)),
    )
