-- Servings whose stored bytes aren't told.
use Rattle.std.proofs.Common.{◌≡◌, ℕ, List, [], Result, Ok, Err, refl, ap}
use Rattle.std.specs.Prelude.{Option, Some, None, IsSome, option_map}
use Rattle.ov_history.specs.Catalogue.{Filed}
use Rattle.ov_wire.specs.declared.request.Request.{Request}
use Rattle.ov_wire.specs.declared.request.Request.TheVariants as requests
use Rattle.ov_wire.specs.declared.answer.Answer.{Answer}
use Rattle.ov_wire.specs.declared.answer.Answer.TheVariants as answers
use Rattle.ov_wire.specs.RequestReading.{request_of}
use Rattle.ov_history.specs.Places.{living_at}
use Rattle.std.specs.Prelude.{slice_index_or}
use Rattle.ov_protocol.specs.Serving.{Serving, hidden, serving_after}
use Rattle.ov_protocol.specs.Reading.{AnswersChunk}
use Rattle.ov_protocol.specs.Replies.{AnswersRead}
use Rattle.ov_protocol.specs.Laws.{HiddenAnswers, HiddenReplies}

-- ---- options

mapped_same : {A : Type 0} (told : Option A) → option_map (λ a. a) told ≡ told
mapped_same None = refl
mapped_same (Some a) = refl

-- what is told is told after a change too
pub told_still : {A B : Type 0} (f : A → B) (told : Option A)
    → IsSome told → IsSome (option_map f told)
told_still f None is = is
told_still f (Some a) is = refl

-- ---- servings that go on

-- a server that makes nothing shows what it showed
pub nothing_follows : (s : Serving) → serving_after s [] ≡ s
nothing_follows s =
    ap (λ (told : Option (List (List ℕ))). record s { stored = told }) (mapped_same s.stored)

-- ---- answers

chunk_hidden : (f : Option Filed) (stored : Option (List ℕ)) (generation start count : ℕ)
    (a : Answer)
    → AnswersChunk f stored generation start count a
    → AnswersChunk f None generation start count a
chunk_hidden None stored generation start count a is = is
chunk_hidden (Some f) stored generation start count (answers.Bytes bytes) (same, many, are) =
    (same, many, tt)
chunk_hidden (Some f) stored generation start count (answers.Moved now) is = is
chunk_hidden (Some f) stored generation start count a is = absurd is

pub hidden_answers : HiddenAnswers
hidden_answers s (requests.Chunk file generation start count) a is =
    chunk_hidden (living_at s.catalogue.files file)
    (option_map (λ stored. slice_index_or stored file []) s.stored) generation start count a is
hidden_answers s request a is = is

read_hidden : (s : Serving) (read : Result Request ℕ) (a : Answer)
    → AnswersRead s read a → AnswersRead (hidden s) read a
read_hidden s (Ok request) a is = hidden_answers s request a is
read_hidden s (Err place) a is = is

pub hidden_replies : HiddenReplies
hidden_replies s request reply made replies = record {
  answer = replies.answer;
  answers = read_hidden s (request_of request) replies.answer replies.answers;
  form = replies.form;
  spelled = replies.spelled;
  makes = replies.makes;
}
