-- What is answered by what a server shows is no fault of the disk, and an Accepted is an update's.
use Rattle.std.proofs.Common.{◌≡◌, ◌∙◌, ℕ, true, false, List, [], ◌∷◌, Result, Ok, Err, refl, ap, sym, true≢false}
use Rattle.ov_record.specs.Reading.{update_of}
use Rattle.ov_record.specs.Updates.{SealedUpdate}
use Rattle.ov_record.specs.Forms.{second_form}
use Rattle.ov_history.specs.Catalogue.{Catalogue}
use Rattle.ov_history.specs.Places.{living_at}
use Rattle.ov_wire.specs.declared.request.Request.{Request}
use Rattle.ov_wire.specs.declared.request.Request.TheVariants as requests
use Rattle.ov_wire.specs.declared.answer.Answer.{Answer}
use Rattle.ov_wire.specs.declared.answer.Answer.TheVariants as answers
use Rattle.ov_wire.specs.AnswerBytes.{answer_bytes}
use Rattle.std.specs.Prelude.{Option, Some, None, option_map, slice_index_or}
use Rattle.ov_history.specs.Catalogue.{Filed}
use Rattle.ov_protocol.specs.Serving.{Serving}
use Rattle.ov_protocol.specs.Reading.{AnswersChunk}
use Rattle.ov_protocol.specs.Updating.{AnswersSpelled, spelled_by}
use Rattle.ov_protocol.specs.Replies.{AnswersRead, made_of}
use Rattle.ov_peer.specs.Spellings.{says_accepted, says_failed}

-- ---- no fault of the disk

spelled_fault : (c : Catalogue) (read : Result SealedUpdate ℕ)
    → AnswersSpelled c read answers.DeviceFault → ⊥
spelled_fault c (Ok u) is = is
spelled_fault c (Err place) is = cc

chunk_fault : (o : Option Filed) (stored : Option (List ℕ)) (generation start count : ℕ)
    → AnswersChunk o stored generation start count answers.DeviceFault → ⊥
chunk_fault None stored generation start count is = cc
chunk_fault (Some f) stored generation start count is = is

no_fault : (s : Serving) (read : Result Request ℕ) → AnswersRead s read answers.DeviceFault → ⊥
no_fault s (Err place) is = cc
no_fault s (Ok requests.Hello) is = cc
no_fault s (Ok (requests.Ask question)) is = is
no_fault s (Ok (requests.Cover file len names)) is = is
no_fault s (Ok (requests.Replan file len)) is = is
no_fault s (Ok (requests.Update epoch spelling tag)) is =
    spelled_fault s.catalogue (update_of second_form spelling) is.2
no_fault s (Ok (requests.Chain user file)) is = is
no_fault s (Ok (requests.Chunk file generation start count)) is =
    chunk_fault (living_at s.catalogue.files file) (option_map (λ stored. slice_index_or stored file []) s.stored) generation
    start count is
no_fault s (Ok (requests.Page part number)) is = cc
no_fault s (Ok (requests.List file)) is = is

-- an answer by what is shown doesn't say that the disk failed
pub says_no_fault : (s : Serving) (read : Result Request ℕ) (a : Answer) → AnswersRead s read a
    → says_failed (answer_bytes a) ≡ false
says_no_fault s read (answers.Welcome welcome) is = refl
says_no_fault s read (answers.Known known) is = refl
says_no_fault s read (answers.Plan plan) is = refl
says_no_fault s read (answers.Accepted epoch) is = refl
says_no_fault s read (answers.Chained chained) is = refl
says_no_fault s read (answers.Bytes bytes) is = refl
says_no_fault s read (answers.PageOf entry) is = refl
says_no_fault s read (answers.Refused refusal) is = refl
says_no_fault s read (answers.Stale epoch) is = refl
says_no_fault s read answers.BadTag is = refl
says_no_fault s read (answers.BadRequest place) is = refl
says_no_fault s read (answers.Moved generation) is = refl
says_no_fault s read answers.DeviceFault is = absurd (no_fault s read is)
says_no_fault s read answers.NoMemory is = refl
says_no_fault s read (answers.Listed names) is = refl

-- the bytes of an answer by what is shown aren't those of a fault of the disk
pub other_bytes : (s : Serving) (read : Result Request ℕ) (a : Answer) → AnswersRead s read a
    → answer_bytes a ≡ answer_bytes answers.DeviceFault → ⊥
other_bytes s read a is same =
    true≢false (sym (ap says_failed same) ∙ says_no_fault s read a is)

-- the bytes of an Accepted aren't those of a fault of the disk
pub accepted_apart : (n : ℕ) → answer_bytes (answers.Accepted n) ≡ answer_bytes answers.DeviceFault
    → ⊥
accepted_apart n same = true≢false (sym (ap says_failed same))

-- ---- what is accepted

-- this is an Update, of which the one update that it spells is made
pub record IsMade (read : Result Request ℕ) (made : List SealedUpdate) : Type 0 where
  pub epoch : ℕ
  pub spelling : List ℕ
  pub tag : List ℕ
  pub update : SealedUpdate
  pub is : read ≡ Ok (requests.Update epoch spelling tag)
  pub spells : update_of second_form spelling ≡ Ok update
  pub makes : made ≡ update ∷ []

spelled_made : (c : Catalogue) (read : Result SealedUpdate ℕ) (n : ℕ)
    → AnswersSpelled c read (answers.Accepted n) → (u : SealedUpdate) × (read ≡ Ok u)
spelled_made c (Ok u) n is = (u, refl)
spelled_made c (Err place) n is = absurd (cc)

pub accepted_made : (s : Serving) (read : Result Request ℕ) (n : ℕ)
    → AnswersRead s read (answers.Accepted n) → IsMade read (made_of read (answers.Accepted n))
accepted_made s (Ok (requests.Update epoch spelling tag)) n is =
    let one = spelled_made s.catalogue (update_of second_form spelling) n is.2 in record {
      epoch = epoch;
      spelling = spelling;
      tag = tag;
      update = one.0;
      is = refl;
      spells = one.1;
      makes = ap spelled_by one.1;
    }
accepted_made s (Err place) n is = absurd (cc)
accepted_made s (Ok requests.Hello) n is = absurd (cc)
accepted_made s (Ok (requests.Ask question)) n is = absurd is
accepted_made s (Ok (requests.Cover file len names)) n is = absurd is
accepted_made s (Ok (requests.Replan file len)) n is = absurd is
accepted_made s (Ok (requests.Chain user file)) n is = absurd is
accepted_made s (Ok (requests.Chunk file generation start count)) n is =
    absurd (chunk_made (living_at s.catalogue.files file) is) where
      chunk_made : (o : Option Filed)
          → AnswersChunk o (option_map (λ stored. slice_index_or stored file []) s.stored) generation start count
          (answers.Accepted n)
          → ⊥
      chunk_made None is = cc
      chunk_made (Some f) is = is
accepted_made s (Ok (requests.Page part number)) n is = absurd (cc)
accepted_made s (Ok (requests.List file)) n is = absurd is

-- an answer whose kind byte says so is an Accepted
pub says_so : (a : Answer) → says_accepted (answer_bytes a) ≡ true
    → (n : ℕ) × (a ≡ answers.Accepted n)
says_so (answers.Accepted n) so = (n, refl)
says_so (answers.Welcome welcome) so = absurd (true≢false (sym so))
says_so (answers.Known known) so = absurd (true≢false (sym so))
says_so (answers.Plan plan) so = absurd (true≢false (sym so))
says_so (answers.Chained chained) so = absurd (true≢false (sym so))
says_so (answers.Bytes bytes) so = absurd (true≢false (sym so))
says_so (answers.PageOf entry) so = absurd (true≢false (sym so))
says_so (answers.Refused refusal) so = absurd (true≢false (sym so))
says_so (answers.Stale epoch) so = absurd (true≢false (sym so))
says_so answers.BadTag so = absurd (true≢false (sym so))
says_so (answers.BadRequest place) so = absurd (true≢false (sym so))
says_so (answers.Moved generation) so = absurd (true≢false (sym so))
says_so answers.DeviceFault so = absurd (true≢false (sym so))
says_so answers.NoMemory so = absurd (true≢false (sym so))
says_so (answers.Listed names) so = absurd (true≢false (sym so))

-- by an answer that isn't an Accepted nothing is made
pub nothing_made : (read : Result Request ℕ) (a : Answer)
    → says_accepted (answer_bytes a) ≡ false → made_of read a ≡ []
nothing_made (Ok (requests.Update epoch spelling tag)) (answers.Accepted n) so =
    absurd (true≢false so)
nothing_made (Ok request) a so = refl
nothing_made (Err place) a so = refl
