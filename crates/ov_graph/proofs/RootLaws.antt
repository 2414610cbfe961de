-- The node of a user alone.
use Rattle.std.proofs.Common.{◌≡◌, ◌∙◌, ℕ, Bool, true, false, None, Some, List, ap, sym, true≢false}
use Rattle.std.specs.Prelude.{Contains, Option, is_some, not}
use Rattle.ov_base.specs.Sets.{single}
use Rattle.ov_graph.specs.Contents.{node_of, planned, root_of}
use Rattle.ov_graph.proofs.ListLaws.{Contains-place, node_none, node_some, place-Contains}

-- where a set has no node, it isn't in the list
pub none_has : (sets : List ℕ) (set : ℕ) → node_of sets set ≡ None → ¬ Contains sets set
none_has sets set none there =
    let (n, below, same) = Contains-place sets set there in
    node_none sets set none n below same

-- a node that was found is the root
pub root_is : (sets : List ℕ) (user node : ℕ) → node_of sets (single user) ≡ Some node → root_of sets user ≡ node
root_is sets user node found = ap (λ o. (planned o sets (single user)).node) found

-- what a look-up tells that found none, and one that found a node
pub no_node : (sets : List ℕ) (set : ℕ) (found : Option ℕ) (none : Bool) → found ≡ node_of sets set
    → is_some found ≡ not none → none ≡ true → ¬ Contains sets set
no_node sets set None none same is e = none_has sets set (sym same)
no_node sets set (Some node) none same is e = absurd (true≢false (is ∙ ap not e))

pub some_node : (sets : List ℕ) (set : ℕ) (found : Option ℕ) (none : Bool) → found ≡ node_of sets set
    → is_some found ≡ not none → none ≡ false → Contains sets set
some_node sets set None none same is e = absurd (true≢false (sym (is ∙ ap not e)))
some_node sets set (Some node) none same is e =
    let (below, has) = node_some sets set node (sym same) in
    place-Contains sets node set below has
