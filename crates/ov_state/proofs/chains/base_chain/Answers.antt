use Rattle.std.proofs.Common.{◌≡◌, ◌∙◌, ap, false, rules, subst, sym}
use Rattle.std.specs.Prelude.{slice_index}
use Rattle.ov_base.specs.Sets.{has}
use Rattle.ov_graph.specs.Contents.{Contents}
use Rattle.ov_state.proofs.ChainLaws.{given_outside}
use Rattle.ov_state.proofs.chains.base_chain.Goals as goal

pub access_chain-requires : goal.access_chain-requires
access_chain-requires g c =
    let layer = c.args.layer.now in
    let set : c.set_of.result ≡ slice_index layer.graph.sets c.args.node =
    subst (λ (graph : Contents). c.set_of.result ≡ slice_index graph.sets c.args.node) c.graph.ensures c.set_of.ensures in
    let asked : has c.set_of.result c.args.user ≡ false = sym c.contains.ensures.member ∙ c.if-contains.false in
    let outside : has (slice_index layer.graph.sets c.args.node) c.args.user ≡ false =
    ap (λ s. has s c.args.user) (sym set) ∙ asked in
    (search rules, (c.requires.user, (c.requires.rooted, given_outside layer c.args.node c.args.user c.requires.holder outside)))
