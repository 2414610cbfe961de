-- One step of the access-matrix machine.
use Rattle.std.specs.Prelude.{ℕ, ◌+◌, List, [], ◌∷◌, Option, Some, None}
use Rattle.ov_base.specs.declared.refusal.Refusal.{Refusal}
use Rattle.ov_script.specs.declared.command.Command.{Command}
use Rattle.ov_script.specs.declared.command.Command.TheVariants.{Enrol, Create, Grant, Revoke, Remove, Replace, Read, List as ListNames, Epoch as AskEpoch}
use Rattle.ov_script.specs.declared.reply.Reply.{Reply}
use Rattle.ov_script.specs.declared.reply.Reply.TheVariants.{Accepted, Bytes, List as Listed, Epoch as EpochIs, Refused}
use Rattle.ov_history.specs.History.{Matrix, matrix_of, epoch_of}
use Rattle.ov_history.specs.Plain.{PlainUpdate, PlainEnrol, PlainCreate, PlainGrant, PlainRevoke, PlainRemove, PlainReplace, PlainHistory, bytes_of, history_of, measured, with_plain}
use Rattle.ov_history.specs.Lists.{user_number, file_number, file_at, names_in, set_named}
use Rattle.ov_history.specs.Refusals.{refusal_of, read_refusal, list_refusal}

-- An update that is refused leaves the history; one that isn't is appended, and answered with the
-- epoch that it made.
abbrev pub update_step : PlainHistory → PlainUpdate → Option Refusal → Reply × PlainHistory
update_step h u None = (Accepted (epoch_of (history_of h) + 1), with_plain h u)
update_step h u (Some why) = (Refused why, h)

-- the reply to an update, and the history after it
abbrev pub update : PlainHistory → PlainUpdate → Reply × PlainHistory
update h u = update_step h u (refusal_of (history_of h) (measured u))

-- what a question is answered with
abbrev pub reply_or : Reply → Option Refusal → Reply
reply_or reply None = reply
reply_or reply (Some why) = Refused why

-- the bytes of the file of this number, for a user
abbrev pub bytes_reply : PlainHistory → List ℕ → List ℕ → ℕ → Reply
bytes_reply h user file number = Bytes user file (bytes_of h number)

-- the names in the list of the file of this number, in the order of the users
abbrev pub names_reply : Matrix → List ℕ → ℕ → Reply
names_reply m file number = Listed file (names_in (file_at m number).list m.users)

-- the reply to a command at a history that makes this matrix, and the history after it
abbrev pub step_at : Matrix → PlainHistory → Command → Reply × PlainHistory
step_at m h (Enrol user) = update h (PlainEnrol user)
step_at m h (Create file list bytes) = update h (PlainCreate file (set_named m.users list) bytes)
step_at m h (Grant user file) = update h (PlainGrant (user_number m user) (file_number m file))
step_at m h (Revoke user file) = update h (PlainRevoke (user_number m user) (file_number m file))
step_at m h (Remove file) = update h (PlainRemove (file_number m file))
step_at m h (Replace file bytes) = update h (PlainReplace (file_number m file) bytes)
step_at m h (Read user file) = (
  reply_or (bytes_reply h user file (file_number m file))
      (read_refusal m (user_number m user) (file_number m file)),
  h,
)
step_at m h (ListNames file) = (
  reply_or (names_reply m file (file_number m file)) (list_refusal m (file_number m file)),
  h,
)
step_at m h AskEpoch = (EpochIs (epoch_of (history_of h)), h)

-- the reply to a command, and the history after it
abbrev pub step : PlainHistory → Command → Reply × PlainHistory
step h command = step_at (matrix_of (history_of h)) h command

-- the reply to a command
abbrev pub reply_to : PlainHistory → Command → Reply
reply_to h command = (step h command).0

-- the history after a command
abbrev pub after : PlainHistory → Command → PlainHistory
after h command = (step h command).1

-- the history after all these commands
abbrev pub after_all : PlainHistory → List Command → PlainHistory
after_all h [] = h
after_all h (command ∷ commands) = after_all (after h command) commands
