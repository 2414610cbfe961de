use Rattle.std.proofs.Common.{arith, inl, inr, sym}
use Rattle.std.proofs.lemmas.Bool.{cases_lt}
use Rattle.std.proofs.Math.Facts.{Fits-lt-pow}
use Rattle.ov_base.specs.Words.{set_of_words}
use Rattle.ov_base.proofs.SetMeets.{apart-meets, some-meets}
use Rattle.ov_base.proofs.WordBits.{AllFit, apart_words, past_both, words_apart}
use Rattle.ov_base.proofs.user_set.words.do_meet.Goals as goal

pub returns-then-words-i-ne0 : goal.returns-then-words-i-ne0
returns-then-words-i-ne0 c =
    let ws = c.args.words.now in let vs = c.args.other.now in
    let fw : AllFit ws = λ i. Fits-lt-pow (c.type_inv.words i) in
    let fv : AllFit vs = λ i. Fits-lt-pow (c.type_inv.other i) in
    sym (some-meets (set_of_words ws) (set_of_words vs) (λ none. c.if-words-i-ne0.true (apart_words ws vs fw fv none c.loop-i.i)))

pub returns : goal.returns
returns c =
    let ws = c.args.words.now in let vs = c.args.other.now in
    let fw : AllFit ws = λ i. Fits-lt-pow (c.type_inv.words i) in
    let fv : AllFit vs = λ i. Fits-lt-pow (c.type_inv.other i) in
    sym (apart-meets (set_of_words ws) (set_of_words vs) (words_apart ws vs fw fv
    (λ k. elim (cases_lt k c.loop-i.i) [ inl below ↦ c.loop-i.invariant k below | inr above ↦ past_both ws vs k (omega arith) ])))
