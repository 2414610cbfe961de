use Rattle.ov_images.proofs.Keeping.{gone_files_are_free, keeps_once, keys_are_kept, places_once}
use Rattle.ov_images.proofs.laws.an_image_keeps_one_history.Goals as goal

pub returns-clause-history : goal.returns-clause-history
returns-clause-history c = keeps_once

pub returns-clause-gone : goal.returns-clause-gone
returns-clause-gone c = gone_files_are_free

pub returns-clause-places : goal.returns-clause-places
returns-clause-places c = places_once

pub returns-clause-keys : goal.returns-clause-keys
returns-clause-keys c = keys_are_kept
