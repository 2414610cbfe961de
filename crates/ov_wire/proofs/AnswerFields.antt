-- The readers of the fields of answers read exactly their spellings.
use Rattle.std.proofs.Common.{ℕ, ◌+◌, ◌*◌, ◌^◌, ◌<◌, ◌≤◌, Bool, true, false, cond, List, [], ◌∷◌, ◌++◌, length, Option, inl, inr, refl, arith}
use Rattle.std.specs.Prelude.{IfSome}
use Rattle.std.specs.List.{AllByRecursion}
use Rattle.ov_base.specs.declared.limits.TheConstants.{MAX_USERS, MAX_FILES, MAX_FILE_BYTES, MAX_LAYER_NODES, SET_BYTES}
use Rattle.ov_base.specs.declared.mode.Mode.{Mode}
use Rattle.ov_base.specs.declared.mode.Mode.TheVariants.{Full, Delta}
use Rattle.ov_base.specs.Modes.{mode_byte}
use Rattle.ov_base.specs.Sets.{IsBelow, bytes_of}
use Rattle.ov_tokens.specs.declared.chain.Chain.{Chain}
use Rattle.ov_fields.specs.Spelling.{u8, u32, flag, optional, counted, IsOneOf}
use Rattle.ov_fields.proofs.ReadingLaws.{Reads, then_reads}
use Rattle.ov_fields.proofs.FieldLaws.{bytes_reads, number_reads, wide32}
use Rattle.ov_fields.proofs.ListLaws.{counted_reads, optional_reads}
use Rattle.ov_fields.proofs.SetFields.{set_reads}
use Rattle.ov_fields.proofs.TagLaws.{flag_reads}
use Rattle.ov_fields.proofs.TestLaws.{IsCount}
use Rattle.ov_wire.specs.declared.request.Question.{Question}
use Rattle.ov_wire.specs.AnswerReading.{welcome_at, known_at, plan_at, chained_at}
use Rattle.ov_wire.specs.AnswersTo.{users_of, roots_of, files_of, nodes_of, names_user, names_file, wants_of}
use Rattle.ov_wire.specs.Chains.{chain_field, IsChain, base_kinds, surface_kinds}
use Rattle.ov_wire.specs.Entries.{IsNode}
use Rattle.ov_wire.specs.Updates.{Has32}
use Rattle.ov_wire.proofs.ChainLaws.{chain_reads}
use Rattle.ov_wire.proofs.NumberLaws.{at_most_reads, below_reads, node_reads, mode_reads}

pub welcome_reads : Reads welcome_at (λ f. u8 (mode_byte f.0.0) ++ u32 f.0.1 ++ f.1) (λ f. (IsOneOf f.0.0 (Full ∷ Delta ∷ []) × (f.0.1 < 2 ^ 32)) × Has32 f.1) (1 + 4 + 32)
welcome_reads = then_reads (then_reads (mode_reads (Full ∷ Delta ∷ [])) (number_reads wide32)) (bytes_reads 32)

pub each_mode : (m : Mode) → IsOneOf m (Full ∷ Delta ∷ [])
each_mode Full = inl refl
each_mode Delta = inr (inl refl)

pub either_small : (b : Bool) (n : ℕ) → n ≤ 2 ^ 32 → cond b n 1 ≤ 2 ^ 32
either_small true n h = h
either_small false n h = omega arith

abbrev pub KnownFields : Type 0
KnownFields = (((((ℕ × ℕ) × ℕ) × ℕ) × ℕ) × ℕ) × Bool

abbrev pub known_fields : KnownFields → List ℕ
known_fields f = u32 f.0.0.0.0.0.0 ++ u32 f.0.0.0.0.0.1 ++ u32 f.0.0.0.0.1 ++ u32 f.0.0.0.1 ++ u32 f.0.0.1 ++ u32 f.0.1 ++ u8 (flag f.1)

abbrev pub KnownFits : Question → KnownFields → Type 0
KnownFits question f =
    ((((((f.0.0.0.0.0.0 < 2 ^ 32) × (f.0.0.0.0.0.1 < users_of question)) × (f.0.0.0.0.1 < roots_of question)) × (f.0.0.0.1 < roots_of question)) × (f.0.0.1 < files_of question)) × (f.0.1 < nodes_of question))
    × IsOneOf f.1 (wants_of question)

pub known_reads : (question : Question) → Reads (known_at question) known_fields (KnownFits question) (4 + 4 + 4 + 4 + 4 + 4 + 1)
known_reads question =
    let user = below_reads (users_of question) (either_small (names_user question) MAX_USERS (omega arith)) in
    let root = below_reads (roots_of question) (either_small (names_user question) MAX_LAYER_NODES (omega arith)) in
    let file = below_reads (files_of question) (either_small (names_file question) MAX_FILES (omega arith)) in
    let node = below_reads (nodes_of question) (either_small (names_file question) MAX_LAYER_NODES (omega arith)) in
    then_reads (then_reads (then_reads (then_reads (then_reads (then_reads (number_reads wide32) user) root) root) file) node) (flag_reads (wants_of question))

abbrev pub PlanFields : Type 0
PlanFields = ((((ℕ × ℕ) × ℕ) × ℕ) × Bool) × List ℕ

abbrev pub plan_fields : PlanFields → List ℕ
plan_fields f = u32 f.0.0.0.0.0 ++ u32 f.0.0.0.0.1 ++ bytes_of SET_BYTES f.0.0.0.1 ++ u32 f.0.0.1 ++ u8 (flag f.0.1) ++ counted u32 f.1

abbrev pub PlanFits : PlanFields → Type 0
PlanFits f =
    (((((f.0.0.0.0.0 < 2 ^ 32) × (f.0.0.0.0.1 < MAX_FILES)) × IsBelow MAX_USERS f.0.0.0.1) × IsNode f.0.0.1) × IsOneOf f.0.1 (false ∷ true ∷ []))
    × (IsCount (2 ^ 16) MAX_USERS (length f.1) × AllByRecursion IsNode f.1)

pub plan_reads : Reads plan_at plan_fields PlanFits (4 + 4 + SET_BYTES + 4 + 1 + (2 + MAX_USERS * 4))
plan_reads =
    then_reads (then_reads (then_reads (then_reads (then_reads (number_reads wide32) (below_reads MAX_FILES (omega arith))) (set_reads SET_BYTES)) node_reads) (flag_reads (false ∷ true ∷ []))) (counted_reads MAX_USERS node_reads)

abbrev pub ChainedFields : Type 0
ChainedFields = (((((ℕ × ℕ) × ℕ) × ℕ) × List ℕ) × Chain) × Option Chain

abbrev pub chained_fields : ChainedFields → List ℕ
chained_fields f =
    u32 f.0.0.0.0.0.0 ++ u32 f.0.0.0.0.0.1 ++ u32 f.0.0.0.0.1 ++ u32 f.0.0.0.1 ++ f.0.0.1 ++ chain_field f.0.1 ++ optional chain_field f.1

abbrev pub ChainedFits : ChainedFields → Type 0
ChainedFits f =
    ((((((f.0.0.0.0.0.0 < 2 ^ 32) × (f.0.0.0.0.0.1 < MAX_FILES)) × (f.0.0.0.0.1 ≤ MAX_FILE_BYTES)) × (f.0.0.0.1 < 2 ^ 32)) × Has32 f.0.0.1) × IsChain base_kinds f.0.1)
    × IfSome f.1 (IsChain surface_kinds)

-- no chain has more bytes
abbrev pub longest_chain : ℕ
longest_chain = 4 + (2 + 65535 * 37)

pub chained_reads : Reads chained_at chained_fields ChainedFits (4 + 4 + 4 + 4 + 32 + longest_chain + (1 + longest_chain))
chained_reads =
    then_reads (then_reads (then_reads (then_reads (then_reads (then_reads (number_reads wide32) (below_reads MAX_FILES (omega arith))) (at_most_reads MAX_FILE_BYTES (omega arith)))
    (number_reads wide32)) (bytes_reads 32)) (chain_reads base_kinds)) (optional_reads (chain_reads surface_kinds))
