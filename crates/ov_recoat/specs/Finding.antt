-- Inner: no public contract needs this. The rewrite of a file, and where it stands.
use Rattle.std.specs.Prelude.{ℕ, ◌≤◌, ◌<◌, ◌==◌, cond, List, [], ◌∷◌, length, Option, Some, None, slice_index_or}
use Rattle.ov_history.specs.Rewrites.{Rewrite as PlainRewrite}
use Rattle.ov_state.specs.declared.change.Rewrite.{Rewrite}

-- the first of these rewrites that is of the file
abbrev pub first_of : List PlainRewrite → ℕ → Option PlainRewrite
first_of [] file = None
first_of (r ∷ rewrites) file = cond (r.file == file) (Some r) (first_of rewrites file)

-- the first `place` of the rewrites, and no others, are of files before this one
pub record IsCountBefore (file place : ℕ) (rewrites : List Rewrite) : Type 0 where
  pub inside : place ≤ length rewrites
  pub before : (k : ℕ) (d : Rewrite) → k < place → (slice_index_or rewrites k d).file < file
  pub behind : (k : ℕ) (d : Rewrite) → place ≤ k → k < length rewrites
      → file ≤ (slice_index_or rewrites k d).file
