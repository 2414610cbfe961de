use Rattle.std.proofs.Common.{◌≡◌, ◌∙◌, arith, take, sym, rules}
use Rattle.std.proofs.lemmas.List.{take_all}
use Rattle.ov_aes.specs.KeyExpansion.{key_expansion, words_to}
use Rattle.ov_aes.proofs.Schedule.{word_step}
use Rattle.ov_aes.proofs.key_schedule.expand_key.Goals as goal

pub loop-i-init : goal.loop-i-init
unfolding words_to
loop-i-init c = (search rules, c.unexpanded-words.ensures)

pub loop-i-preserved : goal.loop-i-preserved
loop-i-preserved c =
    let held = c.loop-i.invariant in
    (search rules, word_step c.loop-i.words _ c.loop-i.i c.add_words.result (omega arith) (omega arith) held.1 (search rules))

pub returns : goal.returns
unfolding key_expansion
returns c =
    let done : c.loop-i.i ≡ 60 = omega arith in
    let all : take 60 c.loop-i.words ≡ words_to _ 52 = rw done at c.loop-i.invariant.1 in
    sym (take_all 60 c.loop-i.words (omega arith)) ∙ all
