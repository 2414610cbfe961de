-- Numbers within limits, and values that a byte tells.
use Rattle.std.proofs.Common.{◌≡◌, ℕ, ◌+◌, ◌^◌, ◌<◌, ◌≤◌, cond, eqb, List, refl, sym, ap, ◌∙◌, arith}
use Rattle.std.specs.Int.{w32}
use Rattle.ov_base.specs.declared.limits.TheConstants.{MAX_LAYER_NODES}
use Rattle.ov_base.specs.declared.mode.Mode.{Mode}
use Rattle.ov_base.specs.declared.mode.Mode.TheVariants.{Full, Delta}
use Rattle.ov_base.specs.declared.refusal.Refusal.{Refusal}
use Rattle.ov_base.specs.declared.refusal.Refusal.TheVariants.{Taken, NoUser, NoFile, NoPath, Listed, NotListed, UsersFull, FilesFull, BytesFull, NodesFull, Spent}
use Rattle.ov_base.specs.Modes.{mode_byte}
use Rattle.ov_base.specs.Refusals.{refusal_number}
use Rattle.ov_tokens.specs.declared.label.Kind.{Kind}
use Rattle.ov_tokens.specs.declared.label.Kind.TheVariants.{Derive, Access, Surface}
use Rattle.ov_tokens.specs.Labels.{tag_of}
use Rattle.ov_fields.specs.Spelling.{u8, u32, IsOneOf}
use Rattle.ov_fields.specs.Reading.{at_most, below, between, number_that, one_of_at}
use Rattle.ov_fields.proofs.ReadingLaws.{Reads, refit}
use Rattle.ov_fields.proofs.FieldLaws.{that_reads, wide32}
use Rattle.ov_fields.proofs.TagLaws.{one_of_reads}
use Rattle.ov_fields.proofs.TestLaws.{le_of, of_le, lt_of, of_lt, between_of, of_between}
use Rattle.ov_wire.specs.Entries.{IsNode, node_at}
use Rattle.ov_wire.specs.AnswerReading.{greater_at, next_at}

pub at_most_reads : (most : ℕ) → most < 2 ^ 32 → Reads (number_that w32 (at_most most)) u32 (λ n. n ≤ most) 4
at_most_reads most small = refit (λ n. n ≤ most) (that_reads wide32 (at_most most)) (λ n h. le_of most n h.1) (λ n le. (omega (arith, le), of_le most n le))

pub below_reads : (limit : ℕ) → limit ≤ 2 ^ 32 → Reads (number_that w32 (below limit)) u32 (λ n. n < limit) 4
below_reads limit small = refit (λ n. n < limit) (that_reads wide32 (below limit)) (λ n h. lt_of limit n h.1) (λ n lt. (omega (arith, lt), of_lt limit n lt))

pub node_reads : Reads node_at u32 IsNode 4
node_reads = below_reads MAX_LAYER_NODES (omega arith)

pub greater_reads : (n : ℕ) → Reads (greater_at n) u32 (λ k. (n < k) × (k < 2 ^ 32)) 4
greater_reads n =
    refit (λ k. (n < k) × (k < 2 ^ 32)) (that_reads wide32 (between (n + 1) 4294967295))
    (λ k h. let b = between_of (n + 1) 4294967295 k h.1 in (omega (arith, b.0), h.0))
    (λ k h. (h.1, of_between (n + 1) 4294967295 k (omega (arith, h.0)) (omega (arith, h.1))))

pub next_reads : (n : ℕ) → Reads (next_at n) u32 (λ k. (k ≡ n + 1) × (k < 2 ^ 32)) 4
next_reads n =
    refit (λ k. (k ≡ n + 1) × (k < 2 ^ 32)) (that_reads wide32 (between (n + 1) (n + 1)))
    (λ k h. let b = between_of (n + 1) (n + 1) k h.1 in (omega (arith, b.0, b.1), h.0))
    (λ k h. (h.1, of_between (n + 1) (n + 1) k (omega (arith, h.0)) (omega (arith, h.0))))

-- ---- bytes that tell a value

mode_back : ℕ → Mode
mode_back n = cond (eqb n 0) Full Delta

back-mode : (m : Mode) → mode_back (mode_byte m) ≡ m
unfolding mode_back
back-mode Full = refl
back-mode Delta = refl

pub mode_reads : (values : List Mode) → Reads (one_of_at mode_byte values) (λ m. u8 (mode_byte m)) (λ m. IsOneOf m values) 1
mode_reads values = one_of_reads mode_byte values (λ a b e. sym (back-mode a) ∙ ap mode_back e ∙ back-mode b)

kind_back : ℕ → Kind
kind_back n = cond (eqb n 0x42) Derive (cond (eqb n 0x41) Access Surface)

back-kind : (k : Kind) → kind_back (tag_of k) ≡ k
unfolding kind_back
back-kind Derive = refl
back-kind Access = refl
back-kind Surface = refl

pub kind_reads : (values : List Kind) → Reads (one_of_at tag_of values) (λ k. u8 (tag_of k)) (λ k. IsOneOf k values) 1
kind_reads values = one_of_reads tag_of values (λ a b e. sym (back-kind a) ∙ ap kind_back e ∙ back-kind b)

refusal_back : ℕ → Refusal
refusal_back n =
    cond (eqb n 1) Taken (cond (eqb n 2) NoUser (cond (eqb n 3) NoFile (cond (eqb n 4) NoPath (cond (eqb n 5) Listed (cond (eqb n 6) NotListed
    (cond (eqb n 7) UsersFull (cond (eqb n 8) FilesFull (cond (eqb n 9) BytesFull (cond (eqb n 10) NodesFull Spent)))))))))

back-refusal : (r : Refusal) → refusal_back (refusal_number r) ≡ r
unfolding refusal_back
back-refusal Taken = refl
back-refusal NoUser = refl
back-refusal NoFile = refl
back-refusal NoPath = refl
back-refusal Listed = refl
back-refusal NotListed = refl
back-refusal UsersFull = refl
back-refusal FilesFull = refl
back-refusal BytesFull = refl
back-refusal NodesFull = refl
back-refusal Spent = refl

pub refusal_reads : (values : List Refusal) → Reads (one_of_at refusal_number values) (λ r. u8 (refusal_number r)) (λ r. IsOneOf r values) 1
refusal_reads values = one_of_reads refusal_number values (λ a b e. sym (back-refusal a) ∙ ap refusal_back e ∙ back-refusal b)
