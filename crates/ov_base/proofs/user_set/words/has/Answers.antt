use Rattle.std.proofs.Common.{◌≡◌, ◌/◌, ◌%◌, ◌≤◌, ◌==◌, false, nat_lt, length, get_or, arith, ap, sym, ◌∙◌}
use Rattle.std.proofs.Math.Facts.{Fits-lt-pow}
use Rattle.std.proofs.lemmas.Bool.Decides.{nat_tests}
use Rattle.std.proofs.lemmas.Nat.Bits.{shr_and_one}
use Rattle.ov_base.proofs.SetLaws.{none-has}
use Rattle.ov_base.proofs.WordBits.{bit_of_word, past_words, words-IsBelow}
use Rattle.ov_base.proofs.user_set.words.has.Goals as goal

pub returns-then-place-words-clause-member : goal.returns-then-place-words-clause-member
returns-then-place-words-clause-member c =
    let bit = bit_of_word c.args.words.now (λ i. Fits-lt-pow (c.type_inv.words i)) c.args.user in
    ap (λ b. b == 1) (shr_and_one (get_or c.args.words.now (c.args.user / 64) 0) (c.args.user % 64) ∙ sym bit)

pub returns-else-place-words-clause-member : goal.returns-else-place-words-clause-member
returns-else-place-words-clause-member c =
    let past : length c.args.words.now ≤ c.args.user / 64 = omega arith in
    let test : nat_lt (c.args.user / 64) (length c.args.words.now) ≡ false = grind (arith, nat_tests) in
    test ∙ sym (none-has _ c.args.user (past_words c.args.words.now (λ i. Fits-lt-pow (c.type_inv.words i)) c.args.user past))

pub returns-then-place-words-clause-limit : goal.returns-then-place-words-clause-limit
returns-then-place-words-clause-limit c = words-IsBelow c.args.words.now (λ i. Fits-lt-pow (c.type_inv.words i))

pub returns-else-place-words-clause-limit : goal.returns-else-place-words-clause-limit
returns-else-place-words-clause-limit c = words-IsBelow c.args.words.now (λ i. Fits-lt-pow (c.type_inv.words i))
