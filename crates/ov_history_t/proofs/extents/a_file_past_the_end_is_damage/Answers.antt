use Rattle.ov_history_t.proofs.Damaged.{end_of_blobs_is_damage, last_block_counts}
use Rattle.ov_history_t.proofs.extents.a_file_past_the_end_is_damage.Goals as goal

pub returns-clause-short : goal.returns-clause-short
returns-clause-short c = end_of_blobs_is_damage

pub returns-clause-last : goal.returns-clause-last
returns-clause-last c = last_block_counts
