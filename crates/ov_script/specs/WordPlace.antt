-- Inner: how far the drawing of a number's words is.
use Rattle.std.specs.Prelude.{ℕ}
use Rattle.rand_chacha.specs.ChaCha.{ChaCha}
use Rattle.ov_script.specs.Workload.{key}

-- A number, and how many times four of its words were drawn.
pub record WordPlace : Type 0 where
  pub number : ℕ
  pub drawn : ℕ

-- The generator of a number whose next word is at this place.
abbrev pub generator : ℕ → ℕ → ChaCha
generator number place = record { key = key number; stream = 0; word_pos = place }
