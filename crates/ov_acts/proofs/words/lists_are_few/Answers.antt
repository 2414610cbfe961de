use Rattle.ov_acts.proofs.Listing.{line_limits}
use Rattle.ov_acts.proofs.words.lists_are_few.Goals as goal

pub returns : goal.returns
returns c = λ words job is. line_limits job.act job.address job.keys job.path words is
