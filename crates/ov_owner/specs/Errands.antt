-- What an owner asks before an update, and what it seals of the answer.
use Rattle.std.specs.Prelude.{ℕ, ◌≤◌, not, List, length, Result, Ok, Err}
use Rattle.std.specs.List.{flat_map}
use Rattle.ov_base.specs.declared.limits.TheConstants.{MAX_FILE_BYTES}
use Rattle.ov_tokens.specs.declared.label.Kind.TheVariants.{Derive}
use Rattle.ov_graph.specs.declared.cover.Cover.{Cover}
use Rattle.ov_base_layer.specs.Seals.{access_token, cover_tokens}
use Rattle.ov_surface.specs.Coats.{base_text}
use Rattle.ov_surface.specs.Tags.{tag_of_file}
use Rattle.ov_fields.specs.Spelling.{name_field}
use Rattle.ov_record.specs.Updates.{SealedUpdate, SealedEnrol, SealedCreate, SealedGrant}
use Rattle.ov_record.specs.Updates.{SealedRevoke, SealedRemove, SealedReplace}
use Rattle.ov_history.specs.Masters.{access_key}
use Rattle.ov_history.specs.Sealing.{token_unless}
use Rattle.ov_wire.specs.declared.request.Question.TheVariants as questions
use Rattle.ov_wire.specs.declared.request.Request.{Request}
use Rattle.ov_wire.specs.declared.request.Request.TheVariants as requests
use Rattle.ov_wire.specs.declared.answer.Known.{Known}
use Rattle.ov_wire.specs.declared.answer.Plan.{Plan}
use Rattle.ov_wire.specs.declared.answer.Answer.{Answer}
use Rattle.ov_wire.specs.declared.answer.Answer.TheVariants as answers
use Rattle.ov_owner.specs.declared.limits.TheConstants.{MAX_LIST_BYTES, MAX_LIST_NAMES}
use Rattle.ov_owner.specs.declared.fault.OwnerFault.{OwnerFault}
use Rattle.ov_owner.specs.declared.fault.OwnerFault.TheVariants as faults

-- What a command asks first, and what is sealed of the answer: the epoch at which the update is
-- made, and the update, or the fault with which the call ends.
pub record Errand : Type 0 where
  pub first : Request
  pub sealed : Answer → Result (ℕ × SealedUpdate) OwnerFault

-- ---- what an answer tells

-- the numbers that are told, or why the call ends: a kind of answer that isn't allowed is wrong at
-- its first byte
abbrev pub known_of : Answer → Result Known OwnerFault
known_of (answers.Known known) = Ok known
known_of (answers.Refused why) = Err (faults.Refused why)
known_of answers.NoMemory = Err faults.Memory
known_of answer = Err (faults.BadReply 0)

-- the plan of a list that is told, or why the call ends: a kind of answer that isn't allowed is
-- wrong at its first byte
abbrev pub plan_of : Answer → Result Plan OwnerFault
plan_of (answers.Plan plan) = Ok plan
plan_of (answers.Refused why) = Err (faults.Refused why)
plan_of answers.NoMemory = Err faults.Memory
plan_of answer = Err (faults.BadReply 0)

-- what is sealed of what was told, where something was
abbrev pub sealed_by : {T : Type 0} → (T → ℕ × SealedUpdate) → Result T OwnerFault
    → Result (ℕ × SealedUpdate) OwnerFault
sealed_by seal (Ok told) = Ok (seal told)
sealed_by seal (Err fault) = Err fault

-- ---- the six commands

-- the errand that enrols a user
abbrev pub enrolling : List ℕ → Errand
enrolling user = record {
  first = requests.Ask (questions.Enrol user);
  sealed = λ answer. sealed_by (λ (k : Known). (k.epoch, SealedEnrol user)) (known_of answer);
}

-- where a list is in the base layer, or would be
abbrev pub cover_in : Plan → Cover
cover_in plan = record { node = plan.node; fresh = plan.fresh; from = plan.from }

-- a creation under the base master, by the plan of its list
abbrev pub created : List ℕ → List ℕ → List ℕ → Plan → SealedUpdate
created base file bytes plan =
    SealedCreate file plan.list (cover_tokens Derive base (cover_in plan))
    (tag_of_file (access_key base plan.node) plan.file bytes)
    (base_text (access_key base plan.node) plan.file bytes)

-- the errand that creates a file of these bytes for the users of these names
abbrev pub creating : List ℕ → List ℕ → List (List ℕ) → List ℕ → Errand
creating base file names bytes = record {
  first = requests.Cover file (length bytes) names;
  sealed = λ answer.
      sealed_by (λ (p : Plan). (p.epoch, created base file bytes p)) (plan_of answer);
}

-- a grant under the base master, by the numbers that were told
abbrev pub granted : List ℕ → Known → SealedUpdate
granted base known =
    SealedGrant known.user known.file
    (token_unless (not known.wants) (access_token base known.base_root known.node))

-- the errand that grants a file to a user
abbrev pub granting : List ℕ → List ℕ → List ℕ → Errand
granting base user file = record {
  first = requests.Ask (questions.Grant user file);
  sealed = λ answer. sealed_by (λ (k : Known). (k.epoch, granted base k)) (known_of answer);
}

-- the errand that revokes a file from a user
abbrev pub revoking : List ℕ → List ℕ → Errand
revoking user file = record {
  first = requests.Ask (questions.Revoke user file);
  sealed = λ answer.
      sealed_by (λ (k : Known). (k.epoch, SealedRevoke k.user k.file)) (known_of answer);
}

-- the errand that removes a file
abbrev pub removing : List ℕ → Errand
removing file = record {
  first = requests.Ask (questions.Remove file);
  sealed = λ answer. sealed_by (λ (k : Known). (k.epoch, SealedRemove k.file)) (known_of answer);
}

-- a replacement under the base master, by the plan of the list that its file has
abbrev pub replaced : List ℕ → List ℕ → List ℕ → Plan → SealedUpdate
replaced base file bytes plan =
    SealedReplace file (cover_tokens Derive base (cover_in plan))
    (tag_of_file (access_key base plan.node) plan.file bytes)
    (base_text (access_key base plan.node) plan.file bytes)

-- the errand that replaces a file by one of these bytes
abbrev pub replacing : List ℕ → List ℕ → List ℕ → Errand
replacing base file bytes = record {
  first = requests.Replan file (length bytes);
  sealed = λ answer.
      sealed_by (λ (p : Plan). (p.epoch, replaced base file bytes p)) (plan_of answer);
}

-- what a caller sees to before a creation: the bytes are a file's, and the names are few and have
-- few bytes in all, with the length byte of each
pub record IsCreation (names : List (List ℕ)) (bytes : List ℕ) : Type 0 where
  pub file : length bytes ≤ MAX_FILE_BYTES
  pub few : length names ≤ MAX_LIST_NAMES
  pub short : length (flat_map name_field names) ≤ MAX_LIST_BYTES
