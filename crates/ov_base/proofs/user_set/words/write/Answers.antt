use Rattle.std.proofs.Common.{ℕ, ◌≡◌, ◌≢◌, ◌<◌, ◌*◌, ◌%◌, ◌∙◌, ap, sym, arith, length, get_or, get_or-set_other, get_or-set_same, below_more}
use Rattle.std.proofs.lemmas.List.{ext_get_or}
use Rattle.std.proofs.Math.Facts.{Fits-lt-pow}
use Rattle.ov_base.specs.Sets.{bytes_of, set_of_bytes}
use Rattle.ov_base.specs.Words.{set_of_words}
use Rattle.ov_base.proofs.SetBytes.{length-bytes_of, set_of_bytes-bytes_of}
use Rattle.ov_base.proofs.WordBits.{AllFit}
use Rattle.ov_base.proofs.WordBytes.{byte_of_words, words_below}
use Rattle.ov_base.proofs.user_set.words.write.Goals as goal

pub loop-i-preserved : goal.loop-i-preserved
loop-i-preserved c =
    let fit : AllFit c.args.words.now = λ i. Fits-lt-pow (c.type_inv.words i) in
    let inside : c.loop-i.i < length c.loop-i.out = omega arith in
    below_more _ _
    (λ k h. let other : k ≢ c.loop-i.i = omega arith in rw get_or-set_other (c.loop-i.invariant k h))
    (rw get_or-set_same (ap (λ bytes. get_or bytes (c.loop-i.i % 8) 0) c.to_le_bytes.ensures ∙ sym (byte_of_words c.args.words.now fit c.loop-i.i (omega arith))))

pub returns : goal.returns
returns c =
    let fit : AllFit c.args.words.now = λ i. Fits-lt-pow (c.type_inv.words i) in
    let count : ℕ = 8 * length c.args.words.now in
    let set : ℕ = set_of_words c.args.words.now in
    let long : length (bytes_of count set) ≡ count = length-bytes_of count set in
    let bytes : c.loop-i.out ≡ bytes_of count set = ext_get_or 0 _ _ (omega arith) (λ k h. c.loop-i.invariant k (omega arith)) in
    record { bytes = bytes; whole = ap set_of_bytes bytes ∙ set_of_bytes-bytes_of count set (words_below c.args.words.now fit) }
