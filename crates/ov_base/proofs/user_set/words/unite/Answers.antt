use Rattle.std.proofs.Common.{arith, inl, inr, get_or, ◌≡◌, ℕ, bit_or, ◌∙◌}
use Rattle.std.proofs.lemmas.Bool.{cases_lt}
use Rattle.ov_base.proofs.WordBits.{union_words, past_or}
use Rattle.ov_base.proofs.user_set.words.unite.Goals as goal

pub returns : goal.returns
returns c =
    let each : (k : ℕ) → get_or c.loop-i.words k 0 ≡ bit_or (get_or c.args.words.now k 0) (get_or c.args.other.now k 0) = λ k. elim (cases_lt k c.loop-i.i) [
      | inl below ↦ c.loop-i.invariant.0 k below
      | inr above ↦ c.loop-i.invariant.1 k above ∙ past_or c.args.words.now c.args.other.now k (omega arith) (omega arith)
    ] in
    union_words c.args.words.now c.args.other.now c.loop-i.words c.fit.ensures c.fit-2.ensures each
