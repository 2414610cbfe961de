use Rattle.ov_images.proofs.Damage.{damaged_keeps_none, one_place}
use Rattle.ov_images.proofs.Masters.{damage_needs_no_master}
use Rattle.ov_images.proofs.laws.damaged_images_keep_no_history.Goals as goal

pub returns-clause-none : goal.returns-clause-none
returns-clause-none c = damaged_keeps_none

pub returns-clause-one_place : goal.returns-clause-one_place
returns-clause-one_place c = one_place

pub returns-clause-masters : goal.returns-clause-masters
returns-clause-masters c = damage_needs_no_master
