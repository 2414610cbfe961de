-- How a file is read: an automaton over the replies that the reader gets.
use Rattle.std.specs.Prelude.{◌≡◌, ◌⊎◌, ℕ, ◌==◌, nat_lt, List, [], ◌∷◌, ◌++◌, length}
use Rattle.std.specs.Prelude.{Option, Some, None, Result, Ok, Err, if◌then◌else◌}
use Rattle.ov_base.specs.declared.limits.TheConstants.{MAX_CHUNK_BYTES}
use Rattle.ov_fields.specs.Fronts.{AreAllBytes}
use Rattle.ov_wire.specs.declared.request.Request.{Request}
use Rattle.ov_wire.specs.declared.request.Request.TheVariants as requests
use Rattle.ov_wire.specs.declared.answer.Answer.{Answer}
use Rattle.ov_wire.specs.declared.answer.Chained.{Chained}
use Rattle.ov_wire.specs.AnswerReading.{answer_of}
use Rattle.ov_wire.specs.Requests.{HasRequestForm, request_bytes}
use Rattle.ov_peer.specs.Asks.{Ask}
use Rattle.ov_client.specs.Readers.{Reader, judged, keys_along, uncovered}
use Rattle.ov_client.specs.Telling.{chained_in, chunk_bytes, fetched_in}
use Rattle.ov_client.specs.declared.fault.ClientFault.{ClientFault}
use Rattle.ov_client.specs.declared.fault.ClientFault.TheVariants.{BadReply, Link, Memory}
use Rattle.ov_client.specs.declared.fault.ClientFault.TheVariants.{Unsettled}
use Rattle.ov_client.specs.declared.telling.Fetched.{Fetched}
use Rattle.ov_client.specs.declared.telling.Fetched.TheVariants.{Again, Bytes}
use Rattle.ov_client.specs.declared.reading.TheConstants.{TRIES}

-- The stages of a reader. It asks Chain, after tries at these generations, in each of which the
-- file moved or was gone, and of which the last told the least generation that may come; or it asks
-- the next Chunk of a file to which these chains lead, after these stored bytes came; or the read
-- is done.
pub data Stage : Type 0 where
  AsksChain : (tries : List ℕ) → (least : ℕ) → Stage
  AsksChunk : (tries : List ℕ) → (chained : Chained) → (stored : List ℕ) → Stage
  Ends : (result : Result (List ℕ) ClientFault) → Stage

-- what is asked at a stage
abbrev pub asked_at : Reader → List ℕ → Stage → Option Request
asked_at r file (AsksChain tries least) = Some (requests.Chain r.name file)
asked_at r file (AsksChunk tries c stored) =
    Some (requests.Chunk c.file c.generation (length stored) MAX_CHUNK_BYTES)
asked_at r file (Ends result) = None

-- ---- the stage after an answer

-- The next try, after those at these generations. There are nine and no more.
abbrev pub again : List ℕ → ℕ → Stage
again tries least =
    if length tries == TRIES then Ends (Err (Unsettled tries)) else AsksChain tries least

-- the next chunk; or all bytes came, and are given where the tag is theirs
abbrev pub goes_on : Reader → List ℕ → Chained → List ℕ → Stage
goes_on r tries c stored =
    if nat_lt (length stored) c.length then AsksChunk tries c stored
    else Ends (judged (keys_along r c) c (uncovered (keys_along r c) c.file 0 stored))

-- the stage after what was fetched: more bytes, or nothing, and then the read begins again
abbrev pub after_fetched : Reader → List ℕ → Chained → List ℕ → Fetched → Stage
after_fetched r tries c stored (Bytes bytes) = goes_on r tries c (stored ++ bytes)
after_fetched r tries c stored (Again least) = again (tries ++ c.generation ∷ []) least

-- the stage after what was told, or the read ends with the fault
abbrev pub then_or : {T : Type 0} → (T → Stage) → Result T ClientFault → Stage
then_or next (Ok told) = next told
then_or next (Err fault) = Ends (Err fault)

-- the stage after an answer, or after a reply that is none
abbrev pub after : Reader → Stage → Result Answer ℕ → Stage
after r (AsksChain tries least) (Ok answer) =
    then_or (λ (c : Chained). goes_on r tries c []) (chained_in r least answer)
after r (AsksChain tries least) (Err place) = Ends (Err (BadReply place))
after r (AsksChunk tries c stored) (Ok answer) =
    then_or (after_fetched r tries c stored)
    (fetched_in c.generation (chunk_bytes c.length (length stored)) answer)
after r (AsksChunk tries c stored) (Err place) = Ends (Err (BadReply place))
after r (Ends result) read = Ends result

-- ---- the asks of a read

-- this frame is the request of the stage
pub record IsAskedAt (r : Reader) (file : List ℕ) (stage : Stage) (frame : List ℕ) : Type 0 where
  pub request : Request
  pub is_asked : asked_at r file stage ≡ Some request
  pub form : HasRequestForm request
  pub spelled : frame ≡ request_bytes request

-- the reply was read, and the stage after it is that one
pub record IsAfter (r : Reader) (stage : Stage) (request : Request) (reply : List ℕ) (next : Stage)
    : Type 0 where
  pub bytes : AreAllBytes reply
  pub moves : next ≡ after r stage (answer_of request reply)

-- the stage's request was asked, and the next stage is that after its reply, or memory ran out
pub record Moves (r : Reader) (file : List ℕ) (stage : Stage) (a : Ask) (next : Stage)
    : Type 0 where
  pub asks : IsAskedAt r file stage a.request
  pub reads : IsAfter r stage asks.request a.reply next ⊎ (next ≡ Ends (Err Memory))

-- the asks lead from one stage to another
abbrev pub Goes : Reader → List ℕ → Stage → List Ask → Stage → Type 0
Goes r file stage [] last = stage ≡ last
Goes r file stage (a ∷ asks) last =
    (next : Stage) × Moves r file stage a next × Goes r file next asks last

-- The stage says how the read ends, or memory ran out; or the request of the stage was asked and
-- failed.
abbrev pub Closes : Reader → List ℕ → Stage → Option (List ℕ) → Result (List ℕ) ClientFault
    → Type 0
Closes r file stage None result = (stage ≡ Ends result) ⊎ (result ≡ Err Memory)
Closes r file stage (Some frame) result =
    IsAskedAt r file stage frame × ((result ≡ Err Link) ⊎ (result ≡ Err Memory))

-- from this stage these asks are those of a read, the last of which may have failed, and this is
-- its result
abbrev pub TalksFrom : Reader → List ℕ → Stage → List Ask → Option (List ℕ)
    → Result (List ℕ) ClientFault → Type 0
TalksFrom r file stage asks unanswered result =
    (last : Stage) × Goes r file stage asks last × Closes r file last unanswered result

-- these are the asks of a read, and this is its result
abbrev pub Talks : Reader → List ℕ → List Ask → Option (List ℕ) → Result (List ℕ) ClientFault
    → Type 0
Talks r file asks unanswered result = TalksFrom r file (AsksChain [] 0) asks unanswered result
