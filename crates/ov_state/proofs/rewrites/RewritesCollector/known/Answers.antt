use Rattle.std.proofs.Common.{length, refl}
use Rattle.ov_state.proofs.SettledFiles.{settled-few, settled-gone_file, settled-same_file}
use Rattle.ov_state.proofs.rewrites.RewritesCollector.known.Goals as goal

pub returns-clause-few : goal.returns-clause-few
returns-clause-few g c start s wants done =
    settled-few c.args.self.now.master.now.bytes s wants c.args.self.now done.0

pub returns-clause-stays : goal.returns-clause-stays
returns-clause-stays g c start s wants want f done here low same =
    (settled-same_file c.args.self.now.master.now.bytes s wants want (length wants) f refl here c.args.self.now done.0 low same, done.1)

pub returns-clause-gone : goal.returns-clause-gone
returns-clause-gone g c start s wants done none =
    (settled-gone_file c.args.self.now.master.now.bytes s wants c.args.self.now none done.0, done.1)
