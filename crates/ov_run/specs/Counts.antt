-- Counts of faults, two at a time.
use Rattle.std.specs.Prelude.{ℕ, ◌⊎◌}
use Rattle.ov_base.specs.Causes.{Rose}

-- one of two counts rose: the first from `a` to `b`, or the second from `c` to `d`
abbrev pub OneRose : ℕ → ℕ → ℕ → ℕ → Type 0
OneRose a b c d = Rose a b ⊎ Rose c d
