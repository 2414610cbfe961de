-- Rows of stores of both formats.
use Rattle.ov_images.proofs.Creations.{long_is_read, second_is_read, short_behind_step}
use Rattle.ov_images.proofs.Creations.{short_is_read, short_under_second}
use Rattle.ov_images.proofs.Rows.{first_with_bob, length-alice, length-bob, length-carol}
use Rattle.ov_images.proofs.Rows.{length-new, length-step, longer_step, new_store, removal_refused}
use Rattle.ov_images.proofs.Rows.{removal_under_first, replacement_refused}
use Rattle.ov_images.proofs.Rows.{replacement_under_first, second_step}
use Rattle.ov_images.proofs.Rows.{step_under_second, with_alice, with_bob, with_carol, with_step}
use Rattle.ov_history_t.specs.Formats.{FirstFormatIsKept, LongerBodyIsNoStep}
use Rattle.ov_history_t.specs.Formats.{NewStoresAreOfTheSecond, OneStepIsLeftOut}
use Rattle.ov_history_t.specs.Formats.{RecordsFollowTheStep, RemovalsAreOfTheSecond}
use Rattle.ov_history_t.specs.Formats.{ReplacementsAreOfTheSecond, ShortListsAreOfTheFirst}
use Rattle.ov_history_t.specs.Formats.{StepChangesNothing, StepChangesTheForm}

pub new_stores_are_of_the_second : NewStoresAreOfTheSecond
new_stores_are_of_the_second k long = (
  λ blobs. new_store k blobs long,
  length-new 2 k long,
  λ blobs. with_alice k blobs long,
  length-alice 2 k long,
  λ blobs. with_bob k blobs long,
  length-bob 2 k long,
)

pub first_format_is_kept : FirstFormatIsKept
first_format_is_kept k long = (λ blobs. first_with_bob k blobs long, length-bob 1 k long)

pub step_changes_nothing : StepChangesNothing
step_changes_nothing k long = (λ blobs. with_step k blobs long, length-step 1 k long)

pub records_follow_the_step : RecordsFollowTheStep
records_follow_the_step k long = (λ blobs. with_carol k blobs long, length-carol 1 k long)

pub one_step_is_left_out : OneStepIsLeftOut
one_step_is_left_out k long =
    (λ blobs. second_step k blobs long, λ blobs. step_under_second k blobs long)

pub longer_body_is_no_step : LongerBodyIsNoStep
longer_body_is_no_step k long blobs = longer_step k blobs long

pub removals_are_of_the_second : RemovalsAreOfTheSecond
removals_are_of_the_second k long =
    (λ blobs. removal_under_first k blobs long, λ blobs. removal_refused k blobs long)

pub replacements_are_of_the_second : ReplacementsAreOfTheSecond
replacements_are_of_the_second k long =
    (λ blobs. replacement_under_first k blobs long, λ blobs. replacement_refused k blobs long)

pub short_lists_are_of_the_first : ShortListsAreOfTheFirst
short_lists_are_of_the_first k long = (
  λ blobs block. short_is_read k blobs long block,
  λ blobs. short_under_second k blobs long,
)

pub step_changes_the_form : StepChangesTheForm
step_changes_the_form k long = (
  λ blobs block. (second_is_read k blobs long block, long_is_read k blobs long block),
  λ blobs. short_behind_step k blobs long,
)
