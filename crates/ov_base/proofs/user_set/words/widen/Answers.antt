use Rattle.std.proofs.Common.{arith, inl, inr, get_or, get_or-set_same, get_or-set_other, sym, ◌≡◌, ℕ, ◌∙◌}
use Rattle.std.proofs.lemmas.Bool.{cases_eq, cases_lt}
use Rattle.std.proofs.lemmas.List.{get_or_past, length-replicate, length-set}
use Rattle.ov_base.proofs.WordBits.{same_words, zero_at}
use Rattle.ov_base.proofs.user_set.words.widen.Goals as goal

pub loop-i-init : goal.loop-i-init
loop-i-init g c =
    (length-replicate {A = ℕ} g.row.V 0, (λ k below. absurd (omega arith)), (λ k above. zero_at g.row.V k))

pub loop-i-preserved : goal.loop-i-preserved
loop-i-preserved g c =
    let word : ℕ = get_or c.args.words.now c.loop-i.i 0 in
    let long = c.loop-i.invariant.0 in (
      length-set c.loop-i.wide c.loop-i.i word ∙ long,
      (λ k below. elim (cases_eq k c.loop-i.i) [
        | inl same ↦ rw same (get_or-set_same c.loop-i.wide c.loop-i.i word 0 (omega (arith, long, c.requires)))
        | inr other ↦ get_or-set_other c.loop-i.wide c.loop-i.i k word 0 other ∙ c.loop-i.invariant.1 k (omega arith)
      ]),
      (λ k above. get_or-set_other c.loop-i.wide c.loop-i.i k word 0 (omega arith) ∙ c.loop-i.invariant.2 k (omega arith)),
    )

pub returns : goal.returns
returns g c =
    let each : (k : ℕ) → get_or c.loop-i.wide k 0 ≡ get_or c.args.words.now k 0 = λ k. elim (cases_lt k c.loop-i.i) [
      | inl below ↦ c.loop-i.invariant.1 k below
      | inr above ↦ c.loop-i.invariant.2 k above ∙ sym (get_or_past c.args.words.now k 0 (omega arith))
    ] in
    same_words c.args.words.now c.loop-i.wide c.fit.ensures each
