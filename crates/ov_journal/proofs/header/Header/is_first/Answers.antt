use Rattle.ov_journal.proofs.Headers.{digit}
use Rattle.ov_journal.proofs.header.Header.is_first.Goals as goal

pub returns : goal.returns
returns c = digit _
