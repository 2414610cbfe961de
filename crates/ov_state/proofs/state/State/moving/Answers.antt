use Rattle.std.proofs.Common.{subst}
use Rattle.std.specs.Prelude.{Bool}
use Rattle.ov_state.specs.Relistings.{WantsStay}
use Rattle.ov_state.proofs.MovingFiles.{moving-all, moving-one}
use Rattle.ov_state.proofs.state.State.moving.Goals as goal

pub returns-then-others_stay : goal.returns-then-others_stay
returns-then-others_stay g c =
    let s = c.args.self.now.catalogue in
    let stay = subst (λ (b : Bool). WantsStay b s.mode c.args.relisting.now) c.if-others_stay.true c.others_stay.ensures in
    moving-one s c.args.relisting.now _ c.known.ensures c.files_of_node-numbers.result.now c.files_of_node-numbers.ensures c.requires stay
    c.only.result.now c.only.ensures

pub returns-else-others_stay : goal.returns-else-others_stay
returns-else-others_stay g c =
    moving-all c.args.self.now.catalogue c.args.relisting.now _ c.known.ensures c.files_of_node-numbers.result.now c.files_of_node-numbers.ensures
