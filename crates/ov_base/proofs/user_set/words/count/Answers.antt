use Rattle.std.proofs.Common.{arith, ap, sym, ◌∙◌}
use Rattle.std.proofs.lemmas.Nat.{ones-le, ones_le_self}
use Rattle.std.proofs.Math.Facts.{Fits-lt-pow}
use Rattle.std.specs.Int.Count.{ones}
use Rattle.std.proofs.lemmas.List.Sums.{sum_by_more}
use Rattle.std.specs.List.{sum_by}
use Rattle.std.specs.Prelude.{get_or}
use Rattle.std.proofs.lemmas.List.{take_all}
use Rattle.ov_base.proofs.WordBits.{ones_of_words}
use Rattle.ov_base.proofs.user_set.words.count.Goals as goal

pub loop-word-preserved : goal.loop-word-preserved
loop-word-preserved c = record {
  total = omega (
    arith,
    sum_by_more ones c.args.words.now c.loop-word.word-index 0 (omega arith),
    ones_le_self (get_or c.args.words.now c.loop-word.word-index 0),
  );
  bound = omega (arith, ones-le 64 _ (Fits-lt-pow (c.type_inv.words c.loop-word.word-index)));
}

pub returns-clause-size : goal.returns-clause-size
returns-clause-size c = let e = ones_of_words c.args.words.now (λ i. Fits-lt-pow (c.type_inv.words i)) in let t = take_all c.loop-word.word-index c.args.words.now c.loop-word-test.false in c.loop-word.invariant.total ∙ ap (sum_by ones) t ∙ sym e
