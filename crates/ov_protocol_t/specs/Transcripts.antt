-- Rows of transcripts and of servers.
use Rattle.std.specs.Prelude.{◌≡◌, ℕ, true, List, [], ◌∷◌, ◌++◌, length, replicate}
use Rattle.ov_base.specs.declared.refusal.Refusal.TheVariants.{NoFile}
use Rattle.ov_script.specs.declared.command.Command.TheVariants as commands
use Rattle.ov_history.specs.History.{History}
use Rattle.ov_history.specs.Masters.{Masters}
use Rattle.ov_wire.specs.declared.answer.Plan.{Plan}
use Rattle.ov_wire.specs.declared.answer.Answer.TheVariants as answers
use Rattle.ov_wire.specs.declared.request.Question.TheVariants as questions
use Rattle.ov_wire.specs.declared.request.Request.TheVariants as requests
use Rattle.ov_wire.specs.AnswerBytes.{answer_bytes}
use Rattle.ov_wire.specs.Frames.{framed}
use Rattle.ov_wire.specs.Requests.{request_bytes}
use Rattle.ov_transcript.specs.Transcripts.{chunk_count, left_unless, requests_at, says_refused}
use Rattle.ov_store.specs.Opened.{Opened}
use Rattle.ov_server.specs.Answering.{serving_of}

-- A request that is left isn't sent where the reply says refused, and is where it doesn't. If a
-- refusal ended nothing, it would be sent in both cases.
pub record RefusalsEnd : Type 0 where
  pub refused : left_unless (says_refused (answer_bytes (answers.Refused NoFile)))
      (requests.Hello ∷ []) ≡ []
  pub accepted : left_unless (says_refused (answer_bytes (answers.Accepted 1)))
      (requests.Hello ∷ []) ≡ requests.Hello ∷ []

-- A revocation is two requests at any history. With the file's chunks between them it would be
-- more, as soon as the file has bytes.
abbrev pub RevocationsAreTwoRequests : Type 0
RevocationsAreTwoRequests =
    (k : Masters) (h : History) (user file : List ℕ)
    → length (requests_at k h (commands.Revoke user file)) ≡ 2

-- A removal is two requests at any history. With a Cover between them, as a creation has one, it
-- would be three.
abbrev pub RemovalsAreTwoRequests : Type 0
RemovalsAreTwoRequests =
    (k : Masters) (h : History) (file : List ℕ)
    → length (requests_at k h (commands.Remove file)) ≡ 2

-- The frames that an owner sends for the removal of a file with a name of one byte: the question
-- has seven bytes beside the name, and the update, at epoch 5, has 46. With the number of a user
-- behind that of the file it would have four more.
pub record RemovalsAreShort : Type 0 where
  pub asks : length (framed (request_bytes (requests.Ask (questions.Remove (102 ∷ []))))) ≡ 8
  pub sends : length (framed (request_bytes
      (requests.Update 5 (6 ∷ 0 ∷ 0 ∷ 0 ∷ 0 ∷ []) (replicate 32 0)))) ≡ 46

-- A replacement is two requests at any history, whatever the bytes. With a removal and a creation
-- in its place it would be four.
abbrev pub ReplacementsAreTwoRequests : Type 0
ReplacementsAreTwoRequests =
    (k : Masters) (h : History) (file bytes : List ℕ)
    → length (requests_at k h (commands.Replace file bytes)) ≡ 2

-- The spelling of a replacement of a file with a name of one byte by three bytes, with two tokens.
-- The tokens and the tag are zeros.
abbrev pub spelled_replacement : List ℕ
spelled_replacement =
    (7 ∷ 1 ∷ 102 ∷ 0 ∷ 2 ∷ []) ++ replicate 64 0 ++ replicate 32 0
    ++ (0 ∷ 0 ∷ 0 ∷ 3 ∷ 97 ∷ 98 ∷ 99 ∷ [])

-- The plan that is told for it: file 1, at the new base node 2 of the users 0 and 1.
abbrev pub plan_of_two : Plan
plan_of_two = record {
  epoch = 4;
  file = 1;
  list = 3;
  node = 2;
  fresh = true;
  from = 0 ∷ 1 ∷ [];
}

-- Its frames, which are 325 bytes together: the question has ten bytes beside the name, and the
-- update, at epoch 4, has 81 beside name, tokens and bytes. With the list, as a creation has it,
-- the update would have 128 more.
pub record ReplacementsAreShort : Type 0 where
  pub asks : length (framed (request_bytes (requests.Replan (102 ∷ []) 3))) ≡ 11
  pub told : length (framed (answer_bytes (answers.Plan plan_of_two))) ≡ 156
  pub sends : length (framed (request_bytes
      (requests.Update 4 spelled_replacement (replicate 32 0)))) ≡ 149
  pub made : length (framed (answer_bytes (answers.Accepted 5))) ≡ 9

-- A chunk has 65,536 bytes at most. If the last chunk had to be whole, a file of one byte would be
-- asked for in none, and one of 65,537 in one.
pub record ChunksReachTheEnd : Type 0 where
  pub empty : chunk_count 0 ≡ 0
  pub shortest : chunk_count 1 ≡ 1
  pub whole : chunk_count 65536 ≡ 1
  pub longer : chunk_count 65537 ≡ 2

-- The check value that a server shows is the one with which its store was opened, whatever its disk
-- is, here a number. It must not be the surface master, which lies beside it.
abbrev pub AnswersByCheckValue : Type 0
AnswersByCheckValue = (s : Opened ℕ) → (serving_of s).base_check ≡ s.keys.base_check
