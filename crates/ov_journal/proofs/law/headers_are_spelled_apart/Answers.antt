use Rattle.ov_journal.proofs.Headers.{spelled_apart}
use Rattle.ov_journal.proofs.law.headers_are_spelled_apart.Goals as goal

pub returns : goal.returns
returns c = spelled_apart
