use Rattle.ov_images.proofs.Keeping.{is_born, is_sealed, records_are_kept}
use Rattle.ov_images.proofs.laws.records_keep_a_history.Goals as goal

pub returns-clause-born : goal.returns-clause-born
returns-clause-born c = is_born

pub returns-clause-sealed : goal.returns-clause-sealed
returns-clause-sealed c = is_sealed

pub returns-clause-any : goal.returns-clause-any
returns-clause-any c = records_are_kept
