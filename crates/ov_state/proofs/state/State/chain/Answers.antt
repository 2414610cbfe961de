use Rattle.std.proofs.Common.{rules}
use Rattle.ov_state.proofs.AnswerLaws.{may_read}
use Rattle.ov_state.proofs.Readers.{chained_leads}
use Rattle.ov_state.proofs.state.State.chain.Goals as goal

pub chained-requires : goal.chained-requires
chained-requires g c =
    let (user, file, listed) = may_read c.args.self.now.catalogue c.in_ok-user.user c.in_ok-user.file c.in_ok-user.ensures.0 in
    (search rules, (user, (file, listed)))

pub returns-clause-keys : goal.returns-clause-keys
returns-clause-keys g c k tokens =
    chained_leads k c.args.self.now.catalogue c.in_ok-user.user c.in_ok-user.file c.in_ok-chained.field-0 tokens c.in_ok-chained.ensures
