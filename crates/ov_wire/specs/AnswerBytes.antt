-- The one spelling of each answer, without its length field.
use Rattle.std.specs.Prelude.{ℕ, ◌≤◌, List, [], ◌∷◌, ◌++◌, length, Some, IfSome}
use Rattle.ov_base.specs.Modes.{mode_byte}
use Rattle.ov_base.specs.Refusals.{refusal_number}
use Rattle.ov_base.specs.Sets.{bytes_of}
use Rattle.ov_base.specs.declared.limits.TheConstants.{SET_BYTES}
use Rattle.ov_fields.specs.Spelling.{u8, u32, flag, name_field, optional, counted}
use Rattle.ov_wire.specs.declared.answer.Welcome.{Welcome}
use Rattle.ov_wire.specs.declared.answer.Known.{Known}
use Rattle.ov_wire.specs.declared.answer.Plan.{Plan}
use Rattle.ov_wire.specs.declared.answer.Chained.{Chained}
use Rattle.ov_wire.specs.declared.answer.Answer.{Answer}
use Rattle.ov_wire.specs.declared.answer.Answer.TheVariants as answers
use Rattle.ov_wire.specs.Updates.{plain}
use Rattle.ov_wire.specs.Chains.{chain_field}

-- mode, epoch and check value
abbrev pub welcome_bytes : Welcome → List ℕ
welcome_bytes welcome = u8 (mode_byte welcome.mode) ++ u32 welcome.epoch ++ welcome.base_check

-- the numbers, and whether an access token is wanted
abbrev pub known_bytes : Known → List ℕ
known_bytes known =
    u32 known.epoch ++ u32 known.user ++ u32 known.base_root ++ u32 known.surface_root
    ++ u32 known.file ++ u32 known.node ++ u8 (flag known.wants)

-- the set in SET_BYTES bytes, between numbers, and the starts of edges
abbrev pub plan_bytes : Plan → List ℕ
plan_bytes plan =
    u32 plan.epoch ++ u32 plan.file ++ bytes_of SET_BYTES plan.list ++ u32 plan.node
    ++ u8 (flag plan.fresh) ++ counted u32 plan.from

-- the numbers, the tag, and the chains
abbrev pub chained_bytes : Chained → List ℕ
chained_bytes chained =
    u32 chained.epoch ++ u32 chained.file ++ u32 chained.length ++ u32 chained.generation
    ++ chained.tag ++ chain_field chained.base ++ optional chain_field chained.surface

-- a kind byte, and the answer's fields in order
abbrev pub answer_bytes : Answer → List ℕ
answer_bytes (answers.Welcome welcome) = 0x81 ∷ welcome_bytes welcome
answer_bytes (answers.Known known) = 0x82 ∷ known_bytes known
answer_bytes (answers.Plan plan) = 0x83 ∷ plan_bytes plan
answer_bytes (answers.Accepted epoch) = 0x84 ∷ u32 epoch
answer_bytes (answers.Chained chained) = 0x85 ∷ chained_bytes chained
answer_bytes (answers.Bytes bytes) = 0x86 ∷ bytes
answer_bytes (answers.PageOf entry) = 0x87 ∷ optional plain entry
answer_bytes (answers.Refused refusal) = 0x88 ∷ u8 (refusal_number refusal)
answer_bytes (answers.Stale epoch) = 0x89 ∷ u32 epoch
answer_bytes answers.BadTag = 0x8a ∷ []
answer_bytes (answers.BadRequest place) = 0x8b ∷ u32 place
answer_bytes (answers.Moved generation) = 0x8c ∷ u32 generation
answer_bytes answers.DeviceFault = 0x8d ∷ []
answer_bytes answers.NoMemory = 0x8e ∷ []
answer_bytes (answers.Listed names) = 0x8f ∷ counted name_field names

-- what a caller sees to before it writes an answer: each number of values fits its field
abbrev pub HasAnswerCounts : Answer → Type 0
HasAnswerCounts (answers.Plan plan) = length plan.from ≤ 65535
HasAnswerCounts (answers.Chained chained) =
    (length chained.base.steps ≤ 65535)
    × IfSome chained.surface (λ chain. length chain.steps ≤ 65535)
HasAnswerCounts (answers.Listed names) = length names ≤ 65535
HasAnswerCounts answer = Unit {0}

-- the bytes with which an answer ends, as they are
abbrev pub answer_body : Answer → List ℕ
answer_body (answers.Bytes bytes) = bytes
answer_body (answers.PageOf (Some entry)) = entry
answer_body answer = []
