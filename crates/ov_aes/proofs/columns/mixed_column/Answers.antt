use Rattle.std.proofs.Common.{◌∙◌, rules}
use Rattle.std.proofs.lemmas.Nat.{le_bytes_4}
use Rattle.ov_aes.proofs.Words.{sum_of_words}
use Rattle.ov_aes.proofs.columns.mixed_column.Goals as goal

pub returns : goal.returns
returns c =
    let key = le_bytes_4 c.args.key _ (search rules) (search rules) c.from_le_bytes.ensures in
    let two = sum_of_words _ _ _ _ c.term_of_row_0.ensures c.term_of_row_1.ensures in
    let three = sum_of_words _ _ _ _ two c.term_of_row_2.ensures in
    let four = sum_of_words _ _ _ _ three c.term_of_row_3.ensures in
    c.to_le_bytes.ensures ∙ sum_of_words _ _ _ _ four key
