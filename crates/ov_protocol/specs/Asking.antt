-- What an owner is told before an update: the numbers that it needs, or why it would be refused.
use Rattle.std.specs.Prelude.{◌≡◌, ℕ, List, length, Option, Some, None}
use Rattle.ov_base.specs.declared.refusal.Refusal.{Refusal}
use Rattle.ov_graph.specs.Contents.{plan_of}
use Rattle.ov_history.specs.Asking.{Numbers, file_named, key_refusal, newcomer, of_both, of_grant}
use Rattle.ov_history.specs.Asking.{of_file, of_user, refusal_at, user_named}
use Rattle.ov_history.specs.Catalogue.{Catalogue, outline}
use Rattle.ov_history.specs.History.{Enrolled, Created, Granted, Removed, Replaced, Revoked}
use Rattle.ov_history.specs.Layers.{list_in}
use Rattle.ov_wire.specs.declared.request.Question.{Question}
use Rattle.ov_wire.specs.declared.request.Question.TheVariants as questions
use Rattle.ov_wire.specs.declared.answer.Known.{Known}
use Rattle.ov_wire.specs.declared.answer.Plan.{Plan}
use Rattle.ov_wire.specs.declared.answer.Answer.{Answer}
use Rattle.ov_wire.specs.declared.answer.Answer.TheVariants as answers

-- ---- Ask

-- these numbers, told at the epoch of a catalogue
abbrev pub known_at : Catalogue → Numbers → Known
known_at c n = record {
  epoch = c.epoch;
  user = n.user;
  base_root = n.base_root;
  surface_root = n.surface_root;
  file = n.file;
  node = n.node;
  wants = n.wants;
}

-- the numbers that are told of a command
abbrev pub numbers_for : Catalogue → Question → Numbers
numbers_for c (questions.Enrol user) = newcomer c
numbers_for c (questions.Grant user file) = of_grant c (user_named c user) (file_named c file)
numbers_for c (questions.Revoke user file) = of_both c (user_named c user) (file_named c file)
numbers_for c (questions.Key user) = of_user c (user_named c user)
numbers_for c (questions.Remove file) = of_file c (file_named c file)

-- why a command would be refused
abbrev pub refusal_to : Catalogue → Question → Option Refusal
refusal_to c (questions.Enrol user) = refusal_at c (Enrolled user)
refusal_to c (questions.Grant user file) =
    refusal_at c (Granted (user_named c user) (file_named c file))
refusal_to c (questions.Revoke user file) =
    refusal_at c (Revoked (user_named c user) (file_named c file))
refusal_to c (questions.Key user) = key_refusal c (user_named c user)
refusal_to c (questions.Remove file) = refusal_at c (Removed (file_named c file))

-- a Known with just these numbers, or a Refused with the refusal
abbrev pub AnswersAsk : Catalogue → Question → Answer → Type 0
AnswersAsk c question (answers.Known known) =
    (refusal_to c question ≡ None) × (known ≡ known_at c (numbers_for c question))
AnswersAsk c question (answers.Refused why) = refusal_to c question ≡ Some why
AnswersAsk c question answer = ⊥

-- ---- Cover and Replan

-- where a list is in the base layer, or would be: its node, and where the edges into a new one
-- start
abbrev pub plan_for : Catalogue → ℕ → Plan
plan_for c list = record {
  epoch = c.epoch;
  file = length c.files;
  list = list;
  node = (plan_of c.base.sets list).node;
  fresh = (plan_of c.base.sets list).fresh;
  from = (plan_of c.base.sets list).from;
}

-- the plan of a file of this name, length and list, or why its creation would be refused
abbrev pub AnswersCover : Catalogue → List ℕ → ℕ → ℕ → Answer → Type 0
AnswersCover c name len list (answers.Plan plan) =
    (refusal_at c (Created name list len) ≡ None) × (plan ≡ plan_for c list)
AnswersCover c name len list (answers.Refused why) =
    refusal_at c (Created name list len) ≡ Some why
AnswersCover c name len list answer = ⊥

-- the plan of a new file of this length with the list of the file of this number, which it
-- replaces, or why the replacement would be refused
abbrev pub AnswersReplan : Catalogue → ℕ → ℕ → Answer → Type 0
AnswersReplan c file len (answers.Plan plan) =
    (refusal_at c (Replaced file len) ≡ None) × (plan ≡ plan_for c (list_in (outline c) file))
AnswersReplan c file len (answers.Refused why) = refusal_at c (Replaced file len) ≡ Some why
AnswersReplan c file len answer = ⊥
