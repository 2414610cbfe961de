-- The first ask of a command.
use Rattle.std.proofs.Common.{◌≡◌, ◌∙◌, ℕ, List, [], ◌∷◌, Ok, refl, sym, ap, subst, inl, inr}
use Rattle.ov_script.specs.declared.command.Command.{Command}
use Rattle.ov_script.specs.declared.command.Command.TheVariants as commands
use Rattle.ov_history.specs.History.{matrix_of}
use Rattle.ov_history.specs.Masters.{Masters}
use Rattle.ov_history.specs.Plain.{PlainHistory, history_of}
use Rattle.ov_wire.specs.declared.answer.Answer.{Answer}
use Rattle.ov_wire.specs.declared.answer.Answer.TheVariants as answers
use Rattle.ov_wire.specs.AnswerBytes.{answer_bytes}
use Rattle.ov_wire.specs.Requests.{request_bytes}
use Rattle.ov_protocol.specs.Serving.{later, served}
use Rattle.ov_protocol.specs.Replies.{Replies, updates_asked}
use Rattle.ov_peer.specs.Asks.{Ask}
use Rattle.ov_peer.specs.Tells.{IsReplyAt}
use Rattle.ov_peer.specs.Disks.{MayNeedDisk}
use Rattle.ov_peer.proofs.Needing.{needs_disk}
use Rattle.ov_transcript.specs.Laws.{FirstAnswersAreFronts, FirstAsksAreFronts}
use Rattle.ov_transcript.specs.Laws.{QuestionsAreTranscripts, RefusalsAreTranscripts}
use Rattle.ov_transcript.specs.Talking.{IsFirstAsk, IsOneQuestion, ReadsAs}
use Rattle.ov_transcript.specs.Transcripts.{IsTranscript, first_request, later_requests}
use Rattle.ov_transcript.specs.Transcripts.{left_unless, says_refused, service_of}
use Rattle.ov_transcript.proofs.Fronts.{front_one, front_put}
use Rattle.ov_transcript.proofs.Refusing.{is_read, left_none, still_served}

-- the first ask of a command needs no disk, and is no update
no_disk : (command : Command) → MayNeedDisk (first_request command) → ⊥
no_disk (commands.Enrol user) needs = needs
no_disk (commands.Create file names bytes) needs = needs
no_disk (commands.Grant user file) needs = needs
no_disk (commands.Revoke user file) needs = needs
no_disk (commands.Remove file) needs = needs
no_disk (commands.Replace file bytes) needs = needs
no_disk (commands.Read user file) needs = needs
no_disk (commands.List file) needs = needs
no_disk commands.Epoch needs = needs

no_update : (command : Command) → updates_asked (Ok (first_request command)) ≡ []
no_update (commands.Enrol user) = refl
no_update (commands.Create file names bytes) = refl
no_update (commands.Grant user file) = refl
no_update (commands.Revoke user file) = refl
no_update (commands.Remove file) = refl
no_update (commands.Replace file bytes) = refl
no_update (commands.Read user file) = refl
no_update (commands.List file) = refl
no_update commands.Epoch = refl

module _ (k : Masters) (p : PlainHistory) (command : Command) (a : Ask)
    (f : IsFirstAsk k p command a) where
  -- the reply to the first ask is a server's
  pub first_replies : Replies (served (service_of k p))
      (request_bytes (first_request command)) a.reply f.made
  first_replies =
      by_case (subst (λ (x : List ℕ). IsReplyAt (service_of k p) x a.reply f.made) f.asked
      f.replied) where
        by_case : IsReplyAt (service_of k p) (request_bytes (first_request command)) a.reply f.made
            → Replies (served (service_of k p))
            (request_bytes (first_request command)) a.reply f.made
        by_case (inl replies) = replies
        by_case (inr failed) =
            absurd (no_disk command (needs_disk (served (service_of k p))
            (first_request command) f.form failed.needs))

  pub first_replied : Replies (served (service_of k p)) a.request a.reply f.made
  first_replied =
      subst (λ (x : List ℕ). Replies (served (service_of k p)) x a.reply f.made)
      (sym f.asked) first_replies

  -- what is served stays the same after the first ask
  pub first_stays : later (service_of k p) f.made ≡ service_of k p
  first_stays =
      still_served (service_of k p) (first_request command) a.reply f.made f.form
      (no_update command) first_replies

  pub first_read : (x : Answer) → ReadsAs command a.reply x → a.reply ≡ answer_bytes x
  first_read x r =
      is_read (served (service_of k p)) (first_request command) a.reply f.made x
      (request_bytes (first_request command)) first_replies r.bytes r.reads

  -- the transcript of a command that ends with its first ask
  ends_there : left_unless (says_refused a.reply)
      (later_requests k (history_of p) (matrix_of (history_of p)) command) ≡ []
      → IsTranscript k p command (a ∷ [])
  ends_there none = (f.made, f.asked, first_replied, none)

  pub refused_there : (why : _) → ReadsAs command a.reply (answers.Refused why)
      → IsTranscript k p command (a ∷ [])
  refused_there why r =
      ends_there
      (ap
      (λ (l : List ℕ). left_unless (says_refused l)
      (later_requests k (history_of p) (matrix_of (history_of p)) command))
      (first_read (answers.Refused why) r))

  pub answered_there : later_requests k (history_of p) (matrix_of (history_of p)) command ≡ []
      → IsTranscript k p command (a ∷ [])
  answered_there none =
      ends_there (ap (left_unless (says_refused a.reply)) none ∙ left_none (says_refused a.reply))

nothing_later : (k : Masters) (p : PlainHistory) (command : Command) → IsOneQuestion command
    → later_requests k (history_of p) (matrix_of (history_of p)) command ≡ []
nothing_later k p (commands.List file) one = refl
nothing_later k p commands.Epoch one = refl
nothing_later k p command one = absurd one

pub questions_are_transcripts : QuestionsAreTranscripts
questions_are_transcripts k p command a one f =
    answered_there k p command a f (nothing_later k p command one)

pub refusals_are_transcripts : RefusalsAreTranscripts
refusals_are_transcripts k p command a why f r = refused_there k p command a f why r

pub first_asks_are_fronts : FirstAsksAreFronts
first_asks_are_fronts k p command put form is =
    front_put (service_of k p) (first_request command)
    (later_requests k (history_of p) (matrix_of (history_of p)) command) put form is

pub first_answers_are_fronts : FirstAnswersAreFronts
first_answers_are_fronts k p command a f =
    front_one (service_of k p) (first_request command)
    (later_requests k (history_of p) (matrix_of (history_of p)) command) a f.made f.asked
    (first_replied k p command a f)
