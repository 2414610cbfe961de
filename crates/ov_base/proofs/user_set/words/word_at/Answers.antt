use Rattle.std.proofs.Common.{arith, ap, ◌∙◌}
use Rattle.ov_base.specs.Sets.{set_of_bytes}
use Rattle.std.specs.Prelude.{take}
use Rattle.ov_base.proofs.WordBytes.{eight_bytes}
use Rattle.ov_base.proofs.user_set.words.word_at.Goals as goal

pub returns : goal.returns
returns c =
    c.from_le_bytes.ensures ∙ eight_bytes c.split_at.result.1.now (omega (arith, c.split_at.ensures.back_len))
    ∙ ap (λ bs. set_of_bytes (take 8 bs)) c.split_at.ensures.back
