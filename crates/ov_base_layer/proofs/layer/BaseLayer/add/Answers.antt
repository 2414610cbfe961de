use Rattle.std.proofs.Common.{◌*◌, ◌+◌, List, ℕ, length, subst, sym}
use Rattle.ov_graph.specs.Contents.{HasRoom}
use Rattle.ov_base_layer.specs.BaseContents.{BaseContents}
use Rattle.ov_base_layer.specs.Holders.{accesses_of, AreFirst}
use Rattle.ov_base_layer.proofs.HolderLaws.{first_in_more_sets}
use Rattle.ov_base_layer.proofs.layer.BaseLayer.add.Goals as goal

pub invariant_of-self : goal.invariant_of-self
invariant_of-self g c =
    let accesses = accesses_of c.self.inside.grants.items in (
      c.self.invariant.0,
      subst (λ (sets : List ℕ). AreFirst (64 * g.row.W) sets accesses) (sym c.add.ensures.sets)
          (first_in_more_sets _ _ c.args.set.now accesses c.self.invariant.1),
    )

pub returns-clause-room : goal.returns-clause-room
returns-clause-room g c sets edges room =
    let tokens = length c.args.tokens in
    c.add.ensures.room sets edges
    (subst (λ (b : BaseContents). HasRoom b.graph (sets + 1) (edges + tokens)) (sym c.self.view_is) room)
