use Rattle.std.proofs.Common.{◌*◌, sym, ◌∙◌, rules}
use Rattle.ov_state.proofs.Enrolling.{enrolment, users_left}
use Rattle.ov_state.proofs.state.State.plan_enrol.Goals as goal

pub enrolment-requires : goal.enrolment-requires
enrolment-requires g c =
    let few = users_left (64 * g.row.W) c.args.self.now.catalogue c.args.name c.known.ensures (sym c.refusal_enrol.ensures ∙ c.in_default.is) in
    search rules

pub returns : goal.returns
returns g c = λ master.
    enrolment (64 * g.row.W) c.args.self.now.catalogue c.args.name c.in_ok-enrolment.field-0 c.known.ensures
    c.in_ok-enrolment.ensures master (sym c.refusal_enrol.ensures ∙ c.in_default.is)
