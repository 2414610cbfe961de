-- How a server relates to the one that it began as, and what it answers by that.
use Rattle.std.specs.Prelude.{◌≡◌, ◌⊎◌, ℕ, List, length, is_some}
use Rattle.ov_record.specs.Updates.{SealedUpdate}
use Rattle.ov_wire.specs.declared.answer.Answer.TheVariants.{DeviceFault}
use Rattle.ov_wire.specs.AnswerBytes.{answer_bytes}
use Rattle.ov_protocol.specs.Serving.{IsService, Service, Serving, later, served, told_as}
use Rattle.ov_protocol.specs.Updating.{updates_of}
use Rattle.ov_protocol.specs.Replies.{Replies}
use Rattle.ov_peer.specs.Disks.{NeedsDisk}

-- From the start the updates with these spellings lead to what is served now: there is a history
-- that was served at the start, and each, with these updates, is served now. Each spelling is that
-- of an update. The stored bytes are told now where they were told at the start.
pub record Reaches (start : Serving) (list : List (List ℕ)) (now : Serving) : Type 0 where
  pub some : (v : Service) × IsService start v
  pub goes_on : (v : Service) → IsService start v → IsService now (later v (updates_of list))
  pub each : length (updates_of list) ≡ length list
  pub told : is_some now.stored ≡ is_some start.stored

-- the reply is the one by what is served, or that the disk failed, where it is needed
abbrev pub RepliesAt : Serving → List ℕ → List ℕ → Type 0
RepliesAt s request reply =
    ((made : List SealedUpdate) × Replies s request reply made)
    ⊎ ((reply ≡ answer_bytes DeviceFault) × NeedsDisk s request)

-- The reply is right at each history that was served at the start, with the updates of these
-- spellings: it is the one by what is served, or says that the disk failed, where that is needed.
-- Where the stored bytes weren't told at the start, it is right in all but the bytes.
abbrev pub RepliesAfter : Serving → List (List ℕ) → List ℕ → List ℕ → Type 0
RepliesAfter start list request reply =
    (v : Service) → IsService start v
    → RepliesAt (told_as start.stored (served (later v (updates_of list)))) request reply
