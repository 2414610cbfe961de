use Rattle.ov_state.proofs.NewSets.{new-gone, new-stays}
use Rattle.ov_state.proofs.new_sets.NewSetsCollector.known.Goals as goal

pub returns-clause-few : goal.returns-clause-few
returns-clause-few g c start s wants done = done.few

pub returns-clause-stays : goal.returns-clause-stays
returns-clause-stays g c start s wants want f done here low same =
    new-stays s.surface.sets wants want f.surface c.args.self.now.sets.items done low same

pub returns-clause-gone : goal.returns-clause-gone
returns-clause-gone g c start s wants done none = new-gone s.surface.sets wants c.args.self.now.sets.items done
