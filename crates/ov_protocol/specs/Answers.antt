-- What a server answers to each request, and the updates that it makes by that.
use Rattle.std.specs.Prelude.{◌≡◌, List, [], slice_index_or, option_map}
use Rattle.ov_record.specs.Updates.{SealedUpdate}
use Rattle.ov_history.specs.Lists.{set_named}
use Rattle.ov_wire.specs.declared.request.Request.{Request}
use Rattle.ov_wire.specs.declared.request.Request.TheVariants as requests
use Rattle.ov_wire.specs.declared.answer.Answer.{Answer}
use Rattle.ov_wire.specs.declared.answer.Answer.TheVariants as answers
use Rattle.ov_wire.specs.declared.answer.Welcome.{Welcome}
use Rattle.ov_protocol.specs.Serving.{Serving}
use Rattle.ov_protocol.specs.Asking.{AnswersAsk, AnswersCover, AnswersReplan}
use Rattle.ov_history.specs.Asking.{file_named, user_named}
use Rattle.ov_history.specs.Places.{living_at}
use Rattle.ov_protocol.specs.Updating.{AnswersUpdate, updates_in}
use Rattle.ov_protocol.specs.Reading.{AnswersChain, AnswersChunk, AnswersList}
use Rattle.ov_protocol.specs.Pages.{entry_of, page_of}

-- mode, epoch and check value of a server
abbrev pub welcome_of : Serving → Welcome
welcome_of s = record {
  mode = s.catalogue.mode;
  epoch = s.catalogue.epoch;
  base_check = s.base_check;
}

-- The answer of a server to a request. Refused memory and a fault of its disk are apart from this:
-- they are no answers by what it shows.
abbrev pub Answers : Serving → Request → Answer → Type 0
Answers s requests.Hello answer = answer ≡ answers.Welcome (welcome_of s)
Answers s (requests.Ask question) answer = AnswersAsk s.catalogue question answer
Answers s (requests.Cover file len names) answer =
    AnswersCover s.catalogue file len (set_named s.catalogue.users names) answer
Answers s (requests.Update epoch spelling tag) answer =
    AnswersUpdate s.surface s.catalogue epoch spelling tag answer
Answers s (requests.Chain user file) answer =
    AnswersChain s.catalogue (user_named s.catalogue user) (file_named s.catalogue file) answer
Answers s (requests.Chunk file generation start count) answer =
    AnswersChunk (living_at s.catalogue.files file)
    (option_map (λ stored. slice_index_or stored file []) s.stored) generation start count answer
Answers s (requests.Page part number) answer =
    answer ≡ answers.PageOf (page_of (entry_of s.catalogue part number))
Answers s (requests.List file) answer = AnswersList s.catalogue (file_named s.catalogue file) answer
Answers s (requests.Replan file len) answer =
    AnswersReplan s.catalogue (file_named s.catalogue file) len answer

-- the updates that are made by this answer: the one that is accepted, or none
abbrev pub made_by : Request → Answer → List SealedUpdate
made_by (requests.Update epoch spelling tag) (answers.Accepted now) = updates_in spelling
made_by request answer = []
