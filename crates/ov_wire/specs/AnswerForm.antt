-- Which answers can be sent, whatever they answer.
use Rattle.std.specs.Prelude.{ℕ, ◌≡◌, ◌≤◌, ◌<◌, ◌^◌, List, length, get_or, Ok, IfSome}
use Rattle.ov_base.specs.declared.limits.TheConstants.{MAX_USERS, MAX_FILES, MAX_LAYER_NODES, MAX_CHUNK_BYTES}
use Rattle.ov_wire.specs.declared.answer.Known.{Known}
use Rattle.ov_wire.specs.declared.answer.Chained.{Chained}
use Rattle.ov_wire.specs.declared.answer.Answer.{Answer}
use Rattle.ov_wire.specs.declared.answer.Answer.TheVariants as answers
use Rattle.ov_wire.specs.declared.request.Request.{Request}
use Rattle.ov_wire.specs.AnswerBytes.{answer_bytes}
use Rattle.ov_wire.specs.AnswerReading.{answer_of}
use Rattle.ov_wire.specs.AnswersTo.{IsWelcome, IsPlan, IsChained}
use Rattle.ov_wire.specs.Entries.{IsNode, IsEntry}
use Rattle.ov_wire.specs.Frames.{IsFrame}
use Rattle.ov_wire.specs.Requests.{AreNames}

-- the numbers of users, nodes and files that a store can have
abbrev pub HasKnownForm : Known → Type 0
HasKnownForm known =
    (known.epoch < 2 ^ 32) × (known.user < MAX_USERS) × IsNode known.base_root
    × IsNode known.surface_root × (known.file < MAX_FILES) × IsNode known.node

-- chains within layers, of which none has a step for each node of its layer
abbrev pub HasChainedForm : Chained → Type 0
HasChainedForm chained =
    IsChained chained × (length chained.base.steps < MAX_LAYER_NODES)
    × IfSome chained.surface (λ chain. length chain.steps < MAX_LAYER_NODES)

-- an entry of some part of the catalogue
abbrev pub IsSomeEntry : List ℕ → Type 0
IsSomeEntry bytes = (part : ℕ) × IsEntry part bytes

-- which answers can be sent: fields within the limits of a store
abbrev pub HasAnswerForm : Answer → Type 0
HasAnswerForm (answers.Welcome welcome) = IsWelcome welcome
HasAnswerForm (answers.Known known) = HasKnownForm known
HasAnswerForm (answers.Plan plan) = IsPlan plan
HasAnswerForm (answers.Accepted epoch) = epoch < 2 ^ 32
HasAnswerForm (answers.Chained chained) = HasChainedForm chained
HasAnswerForm (answers.Bytes bytes) = length bytes ≤ MAX_CHUNK_BYTES
HasAnswerForm (answers.PageOf entry) = IfSome entry IsSomeEntry
HasAnswerForm (answers.Refused refusal) = Unit {0}
HasAnswerForm (answers.Stale epoch) = epoch < 2 ^ 32
HasAnswerForm answers.BadTag = Unit {0}
HasAnswerForm (answers.BadRequest place) = place < 2 ^ 32
HasAnswerForm (answers.Moved generation) = generation < 2 ^ 32
HasAnswerForm answers.DeviceFault = Unit {0}
HasAnswerForm answers.NoMemory = Unit {0}
HasAnswerForm (answers.Listed names) = (length names ≤ MAX_USERS) × AreNames names

-- each answer with form fits a frame
abbrev pub AnswersFitFrames : Type 0
AnswersFitFrames = (answer : Answer) → HasAnswerForm answer → IsFrame (answer_bytes answer)

-- an answer with form is read as itself or not at all, whatever was asked
abbrev pub AnswersAreReadAlike : Type 0
AnswersAreReadAlike =
    (request : Request) (bytes : List ℕ) (sent read : Answer)
    → ((i : ℕ) → get_or bytes i 0 < 256) → HasAnswerForm sent → bytes ≡ answer_bytes sent
    → answer_of request bytes ≡ Ok read → sent ≡ read
