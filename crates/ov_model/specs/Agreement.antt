-- How the reader of a frame agrees with the reader of updates.
use Rattle.std.specs.Prelude.{ℕ, ◌≡◌, List}
use Rattle.ov_fields.specs.Reading.{spanned}
use Rattle.ov_record.specs.Reading.{update_at}
use Rattle.ov_record.specs.Updates.{SealedUpdate}
use Rattle.ov_record.specs.Spelling.{spelling, HasForm}
use Rattle.ov_record.specs.Forms.{second_form}
use Rattle.ov_wire.specs.RequestReading.{spelling_at}
use Rattle.ov_wire.specs.Updates.{IsSpelling}

-- a frame's reader takes just the bytes from which an update of the second form is read, or fails
-- at the same byte
abbrev pub FramesHoldSpellings : Type 0
FramesHoldSpellings = (bytes : List ℕ) → spelling_at bytes ≡ spanned (update_at second_form) bytes

-- a frame can have the spelling of each update that has the second form
abbrev pub FramesTakeUpdates : Type 0
FramesTakeUpdates = (u : SealedUpdate) → HasForm second_form u → IsSpelling (spelling second_form u)
