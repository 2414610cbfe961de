-- Requests to which a server may reply that its disk failed.
use Rattle.std.specs.Prelude.{◌≡◌, ◌≤◌, ◌⊎◌, ◌-◌, ℕ, min, List, Some, Ok}
use Rattle.ov_record.specs.Reading.{update_of}
use Rattle.ov_record.specs.Updates.{SealedUpdate}
use Rattle.ov_record.specs.Forms.{second_form}
use Rattle.ov_history.specs.Catalogue.{Catalogue, Filed}
use Rattle.ov_history.specs.Places.{living_at}
use Rattle.ov_wire.specs.declared.request.Request.{Request}
use Rattle.ov_wire.specs.declared.request.Request.TheVariants as requests
use Rattle.ov_wire.specs.declared.answer.Answer.TheVariants.{DeviceFault}
use Rattle.ov_wire.specs.AnswerBytes.{answer_bytes}
use Rattle.ov_wire.specs.RequestReading.{request_of}
use Rattle.ov_protocol.specs.Serving.{Serving}
use Rattle.ov_protocol.specs.Updating.{owner_tag}
use Rattle.ov_protocol.specs.Replies.{MayMake}

-- the frame is an Update with the owner's tag that is made at the server's epoch, and spells this
pub record HasUpdate (s : Serving) (request : List ℕ) (u : SealedUpdate) : Type 0 where
  pub spelling : List ℕ
  pub tag : List ℕ
  pub is : request_of request ≡ Ok (requests.Update s.catalogue.epoch spelling tag)
  pub right : tag ≡ owner_tag s.surface s.catalogue.epoch spelling
  pub spells : update_of second_form spelling ≡ Ok u

-- the file of this number is there, with this generation, and has at least one byte among the
-- `count` bytes from `start` on
abbrev pub HasBytesAt : Catalogue → (file generation start count : ℕ) → Type 0
HasBytesAt c file generation start count =
    (f : Filed) × (living_at c.files file ≡ Some f) × (f.generation ≡ generation)
    × (1 ≤ min count (f.length - start))

-- the frame asks for stored bytes of a file that is there, with the file's generation, and there is
-- at least one of them
pub record AsksBytes (s : Serving) (request : List ℕ) : Type 0 where
  pub file : ℕ
  pub generation : ℕ
  pub start : ℕ
  pub count : ℕ
  pub is : request_of request ≡ Ok (requests.Chunk file generation start count)
  pub there : HasBytesAt s.catalogue file generation start count

-- the request is an update that is to be made, or asks for stored bytes that are there
abbrev pub NeedsDisk : Serving → List ℕ → Type 0
NeedsDisk s request = ((u : SealedUpdate) × HasUpdate s request u) ⊎ AsksBytes s request

-- the server's disk failed at a request that needs it, and made nothing, or what it was asked for
pub record IsDiskFault (s : Serving) (request reply : List ℕ) (made : List SealedUpdate) : Type 0
  where
    pub spelled : reply ≡ answer_bytes DeviceFault
    pub makes : MayMake request made
    pub needs : NeedsDisk s request

-- the kinds of request that may need the disk: an Update and a Chunk
abbrev pub MayNeedDisk : Request → Type 0
MayNeedDisk (requests.Update epoch spelling tag) = Unit {0}
MayNeedDisk (requests.Chunk file generation start count) = Unit {0}
MayNeedDisk request = ⊥
