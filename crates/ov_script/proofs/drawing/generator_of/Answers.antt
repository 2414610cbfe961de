use Rattle.std.proofs.Common.{◌∙◌, ◌++◌, ℕ, List, ap}
use Rattle.std.specs.Prelude.{replicate}
use Rattle.rand_chacha.specs.ChaCha.{of_seed}
use Rattle.ov_script.specs.Workload.{key}
use Rattle.ov_script.proofs.drawing.generator_of.Goals as goal

pub returns : goal.returns
unfolding key
returns c = c.from_seed.ensures ∙ ap (λ (bytes : List ℕ). of_seed (bytes ++ replicate 24 0)) (c.copy_from_slice.ensures.after ∙ c.to_le_bytes.ensures)
