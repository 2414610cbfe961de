-- The laws of transcripts.
use Rattle.std.specs.Prelude.{◌≡◌, ℕ, ◌≤◌, List, [], ◌∷◌, ◌++◌, length, Option, Result}
use Rattle.ov_base.specs.declared.refusal.Refusal.{Refusal}
use Rattle.ov_script.specs.declared.command.Command.{Command}
use Rattle.ov_script.specs.declared.command.Command.TheVariants.{Read, Replace}
use Rattle.ov_history.specs.Masters.{Masters}
use Rattle.ov_history.specs.Plain.{PlainHistory, history_of}
use Rattle.ov_history.specs.Refusals.{IsLegal}
use Rattle.ov_wire.specs.declared.answer.Known.{Known}
use Rattle.ov_wire.specs.declared.answer.Answer.TheVariants as answers
use Rattle.ov_wire.specs.Requests.{HasRequestForm, request_bytes}
use Rattle.ov_protocol.specs.Serving.{Service}
use Rattle.ov_peer.specs.Asks.{Ask}
use Rattle.ov_client.specs.Readers.{Reader}
use Rattle.ov_client.specs.Talks.{Talks as ReadTalks}
use Rattle.ov_client.specs.declared.fault.ClientFault.{ClientFault}
use Rattle.ov_owner.specs.Alone.{AnsweredAlone}
use Rattle.ov_owner.specs.Errands.{Errand}
use Rattle.ov_owner.specs.Laws.{most_bytes}
use Rattle.ov_owner.specs.Steps.{IsErrandFor}
use Rattle.ov_owner.specs.Talks.{Talks}
use Rattle.ov_owner.specs.declared.fault.OwnerFault.{OwnerFault}
use Rattle.ov_transcript.specs.Bytes.{DifferInBytes, IsOfFile, IsOfUpdate, other_bytes}
use Rattle.ov_transcript.specs.Talking.{ArePut, IsAnswered, IsFirstAsk, IsOneQuestion, IsPut}
use Rattle.ov_transcript.specs.Talking.{IsReadAnswered, ReadsAs}
use Rattle.ov_transcript.specs.Transcripts.{IsTranscript, IsTranscriptFront, first_request, frames}
use Rattle.ov_transcript.specs.Transcripts.{Transcripts, service_of}

-- ---- updates

-- the asks of an owner's call that was answered are the transcript of its command
abbrev pub TalksAreTranscripts : Type 0
TalksAreTranscripts =
    (k : Masters) (p : PlainHistory) (command : Command) (e : Errand) (asks : List Ask)
    (unanswered : Option (List ℕ)) (result : Result ℕ OwnerFault) (m : Service)
    → IsErrandFor k.base command e → Talks k.surface e asks unanswered result
    → IsLegal (history_of p) → AnsweredAlone (service_of k p) asks m → IsAnswered result
    → IsTranscript k p command asks

-- what was put of an owner's call, however it ended, is a front of what is sent for its command
abbrev pub TalksAreFronts : Type 0
TalksAreFronts =
    (k : Masters) (p : PlainHistory) (command : Command) (e : Errand) (asks : List Ask)
    (unanswered : Option (List ℕ)) (result : Result ℕ OwnerFault) (m : Service) (put : List ℕ)
    → IsErrandFor k.base command e → Talks k.surface e asks unanswered result
    → IsLegal (history_of p) → AnsweredAlone (service_of k p) asks m → ArePut m unanswered put
    → IsTranscriptFront k p command (frames asks ++ put)

-- ---- questions

-- a question and its reply are the transcript of a command that is no more than that
abbrev pub QuestionsAreTranscripts : Type 0
QuestionsAreTranscripts =
    (k : Masters) (p : PlainHistory) (command : Command) (a : Ask)
    → IsOneQuestion command → IsFirstAsk k p command a → IsTranscript k p command (a ∷ [])

-- the first ask of a command is its transcript, where the reply to it is a refusal
abbrev pub RefusalsAreTranscripts : Type 0
RefusalsAreTranscripts =
    (k : Masters) (p : PlainHistory) (command : Command) (a : Ask) (why : Refusal)
    → IsFirstAsk k p command a → ReadsAs command a.reply (answers.Refused why)
    → IsTranscript k p command (a ∷ [])

-- what was put of the first ask of a command is a front, where that failed
abbrev pub FirstAsksAreFronts : Type 0
FirstAsksAreFronts =
    (k : Masters) (p : PlainHistory) (command : Command) (put : List ℕ)
    → HasRequestForm (first_request command)
    → IsPut (service_of k p) (request_bytes (first_request command)) put
    → IsTranscriptFront k p command put

-- the frames of the first ask of a command, where that was answered, are a front
abbrev pub FirstAnswersAreFronts : Type 0
FirstAnswersAreFronts =
    (k : Masters) (p : PlainHistory) (command : Command) (a : Ask)
    → IsFirstAsk k p command a → IsTranscriptFront k p command (frames (a ∷ []))

-- ---- reads

-- the question for a user's keys, and the asks of a read with them that was answered, are the
-- transcript of the read
abbrev pub ReadsAreTranscripts : Type 0
ReadsAreTranscripts =
    (k : Masters) (p : PlainHistory) (user file : List ℕ) (key : Ask) (known : Known) (r : Reader)
    (asks : List Ask) (unanswered : Option (List ℕ)) (result : Result (List ℕ) ClientFault)
    (m : Service)
    → IsFirstAsk k p (Read user file) key
    → ReadsAs (Read user file) key.reply (answers.Known known) → r.name ≡ user
    → ReadTalks r file asks unanswered result → IsLegal (history_of p)
    → AnsweredAlone (service_of k p) asks m → IsReadAnswered result
    → IsTranscript k p (Read user file) (key ∷ asks)

-- what was put of the question for a user's keys and of a read with them, however the read ended,
-- is a front of what is sent for the read
abbrev pub ReadsAreFronts : Type 0
ReadsAreFronts =
    (k : Masters) (p : PlainHistory) (user file : List ℕ) (key : Ask) (known : Known) (r : Reader)
    (asks : List Ask) (unanswered : Option (List ℕ)) (result : Result (List ℕ) ClientFault)
    (m : Service) (put : List ℕ)
    → IsFirstAsk k p (Read user file) key
    → ReadsAs (Read user file) key.reply (answers.Known known) → r.name ≡ user
    → ReadTalks r file asks unanswered result → IsLegal (history_of p)
    → AnsweredAlone (service_of k p) asks m → ArePut m unanswered put
    → IsTranscriptFront k p (Read user file) (frames (key ∷ asks) ++ put)

-- ---- of the transcripts alone

-- a command has one transcript at a history
abbrev pub TranscriptsAreUnique : Type 0
TranscriptsAreUnique =
    (k : Masters) (p : PlainHistory) (command : Command) (asks others : List Ask)
    → IsLegal (history_of p) → IsTranscript k p command asks → IsTranscript k p command others
    → asks ≡ others

-- some commands, one after the other, have one transcript at a history, as bytes
abbrev pub RunsHaveOneTranscript : Type 0
RunsHaveOneTranscript =
    (k : Masters) (p : PlainHistory) (commands : List Command) (one other : List ℕ)
    → IsLegal (history_of p) → Transcripts k p commands one → Transcripts k p commands other
    → one ≡ other

-- the transcript of a grant, a revocation or a removal is the same at histories that differ in
-- their files' bytes alone
abbrev pub GrantsSendNoBytes : Type 0
GrantsSendNoBytes =
    (k : Masters) (p q : PlainHistory) (command : Command) (asks : List Ask)
    → IsOfFile command → HasRequestForm (first_request command) → IsLegal (history_of p)
    → IsLegal (history_of q) → DifferInBytes p q → IsTranscript k p command asks
    → IsTranscript k q command asks

-- The transcript of a replacement is the same at histories that differ in their files' bytes alone,
-- and in which the files that it leaves have as many: it has the new bytes and no others.
abbrev pub ReplacementsSendNewBytes : Type 0
ReplacementsSendNewBytes =
    (k : Masters) (p q : PlainHistory) (file bytes : List ℕ) (asks : List Ask)
    → HasRequestForm (first_request (Replace file bytes)) → IsLegal (history_of p)
    → IsLegal (history_of q) → DifferInBytes p q → other_bytes p file ≡ other_bytes q file
    → IsTranscript k p (Replace file bytes) asks → IsTranscript k q (Replace file bytes) asks

-- the transcript of an update is short: only a creation's and a replacement's are as long as the
-- list and the new file
abbrev pub TranscriptsAreShort : Type 0
TranscriptsAreShort =
    (k : Masters) (p : PlainHistory) (command : Command) (asks : List Ask)
    → IsOfUpdate command → HasRequestForm (first_request command) → IsLegal (history_of p)
    → IsTranscript k p command asks → length (frames asks) ≤ most_bytes p command
