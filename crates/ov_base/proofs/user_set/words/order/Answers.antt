use Rattle.std.proofs.Common.{◌≡◌, ◌∙◌, ap, sym, arith, get_or, length, ◌*◌}
use Rattle.std.proofs.Math.Facts.{Fits-lt-pow}
use Rattle.std.specs.Ordering.{nat_cmp}
use Rattle.std.specs.Cmp.Lexicographic.{slice_cmp}
use Rattle.ov_base.specs.Sets.{bytes_of, bytes_cmp}
use Rattle.ov_base.specs.Words.{set_of_words}
use Rattle.ov_base.proofs.WordBits.{AllFit}
use Rattle.ov_base.proofs.WordBytes.{word_bytes}
use Rattle.ov_base.proofs.WordOrder.{first_word, same_words, words_cmp}
use Rattle.ov_base.proofs.user_set.words.order.Goals as goal

pub returns-then-words-i : goal.returns-then-words-i
returns-then-words-i c =
    let ws = c.args.words.now in let vs = c.args.other.now in let i = c.loop-i.i in
    let fw : AllFit ws = λ k. Fits-lt-pow (c.type_inv.words k) in
    let fv : AllFit vs = λ k. Fits-lt-pow (c.type_inv.other k) in
    let bytes : c.cmp.result ≡ bytes_cmp (8 * length ws) (set_of_words ws) (set_of_words vs) =
    c.cmp.ensures
    ∙ ap (λ bytes. slice_cmp nat_cmp bytes c.to_le_bytes-then-words-i.result) (c.to_le_bytes.ensures ∙ word_bytes (get_or ws i 0))
    ∙ ap (slice_cmp nat_cmp (bytes_of 8 (get_or ws i 0))) (c.to_le_bytes-then-words-i.ensures ∙ word_bytes (get_or vs i 0))
    ∙ sym (first_word ws vs fw fv c.requires i (omega arith) c.loop-i.invariant c.if-words-i.true) in
    record { bytes = bytes; order = bytes ∙ sym (words_cmp ws vs fw fv c.requires) }

pub returns : goal.returns
returns c =
    let ws = c.args.words.now in let vs = c.args.other.now in
    let fw : AllFit ws = λ k. Fits-lt-pow (c.type_inv.words k) in
    let fv : AllFit vs = λ k. Fits-lt-pow (c.type_inv.other k) in
    let bytes = sym (same_words ws vs (8 * length ws) c.requires (λ k less. c.loop-i.invariant k (omega arith))) in
    record { bytes = bytes; order = bytes ∙ sym (words_cmp ws vs fw fv c.requires) }
