use Rattle.std.proofs.Common.{arith, inl, inr, sym}
use Rattle.std.proofs.lemmas.Bool.{cases_lt, false_from_ne_true}
use Rattle.std.proofs.Math.Facts.{Fits-lt-pow}
use Rattle.ov_base.specs.Sets.{within}
use Rattle.ov_base.specs.Words.{set_of_words}
use Rattle.ov_base.proofs.SetLaws.{within-Within, Within-within}
use Rattle.ov_base.proofs.WordBits.{within_words, words_within, past_and, AllFit}
use Rattle.ov_base.proofs.user_set.words.are_within.Goals as goal

pub returns-then-words-i : goal.returns-then-words-i
returns-then-words-i c =
    let ws = c.args.words.now in let vs = c.args.other.now in
    let fw : AllFit ws = λ i. Fits-lt-pow (c.type_inv.words i) in
    let fv : AllFit vs = λ i. Fits-lt-pow (c.type_inv.other i) in
    sym (false_from_ne_true (within (set_of_words ws) (set_of_words vs)) (λ h. c.if-words-i.true (words_within ws vs fw fv (within-Within _ _ h) c.loop-i.i)))

pub returns : goal.returns
returns c =
    let ws = c.args.words.now in let vs = c.args.other.now in
    let fw : AllFit ws = λ i. Fits-lt-pow (c.type_inv.words i) in
    let fv : AllFit vs = λ i. Fits-lt-pow (c.type_inv.other i) in
    sym (Within-within _ _ (within_words ws vs fw fv
    (λ k. elim (cases_lt k c.loop-i.i) [ inl below ↦ c.loop-i.invariant k below | inr above ↦ past_and ws vs k (omega arith) ])))
