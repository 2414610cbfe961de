-- Rewrites that are made one after the other.
use Rattle.std.proofs.Common.{◌≡◌, ℕ, suc, ◌+◌, ◌<◌, List, ◌∷◌, length, sym, ◌∙◌, ap, subst, arith}
use Rattle.std.specs.Prelude.{Option, option_map}
use Rattle.ov_history.specs.Places.{change_at}
use Rattle.ov_history.specs.Catalogue.{Filed}
use Rattle.ov_history.proofs.ChangeLaws.{length-change_at}
use Rattle.ov_state.specs.Changes.{all_rewritten, rewritten, AreOfFiles}
use Rattle.ov_state.specs.declared.change.Rewrite.{Rewrite}

-- what holds while rewrites are made: what is left turns the files into what all of it made of the first ones,
-- and is for files that are there
pub record AreLeft (epoch : ℕ) (first now : List (Option Filed)) (all left : List Rewrite) (many : ℕ) : Type 0 where
  pub files : all_rewritten epoch left now ≡ all_rewritten epoch all first
  pub there : AreOfFiles (length now) left
  pub len : many ≡ length left

-- the first of those that are left is for a file that is there
pub first_there : (epoch : ℕ) (first now : List (Option Filed)) (all left : List Rewrite) (r : Rewrite) (rest : List Rewrite) (len : ℕ)
    → left ≡ r ∷ rest → AreLeft epoch first now all left len → r.file < length now
first_there epoch first now all left r rest len is was = (subst (λ (l : List Rewrite). AreOfFiles (length now) l) is was.there).0

-- one of them was made
pub rewritten_rest : (epoch : ℕ) (first before now : List (Option Filed)) (all left : List Rewrite) (r : Rewrite) (rest : List Rewrite) (len after : ℕ)
    → left ≡ r ∷ rest → AreLeft epoch first before all left len → after + 1 ≡ len
    → now ≡ change_at (option_map (rewritten epoch r)) r.file before → AreLeft epoch first now all rest after
rewritten_rest epoch first before now all left r rest len after is was one made =
    let h : AreLeft epoch first before all (r ∷ rest) len = subst (λ (l : List Rewrite). AreLeft epoch first before all l len) is was in
    let sum : len ≡ suc (length rest) = h.len in
    let many : length now ≡ length before = ap length made ∙ length-change_at (option_map (rewritten epoch r)) r.file before in
    record {
      files = ap (all_rewritten epoch rest) made ∙ h.files;
      there = subst (λ n. AreOfFiles n rest) (sym many) h.there.1;
      len = omega arith;
    }
