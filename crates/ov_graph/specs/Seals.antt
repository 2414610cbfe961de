-- The tokens that the owner of a layer makes for edges, and a graph with one set more.
use Rattle.std.specs.Prelude.{ℕ, ◌≡◌, true, false, List, [], ◌∷◌, ◌++◌, map}
use Rattle.ov_tokens.specs.declared.label.Kind.{Kind}
use Rattle.ov_tokens.specs.declared.token.Token.{Token}
use Rattle.ov_tokens.specs.Keys.{node_key, token_of}
use Rattle.ov_tokens.specs.Labels.{label_of}
use Rattle.ov_graph.specs.declared.cover.Cover.{Cover}
use Rattle.ov_graph.specs.Contents.{Contents, joined, plan_of}

-- the token of the edge from one node of a layer to another, under the layer's master
abbrev pub edge_token : Kind → List ℕ → ℕ → ℕ → Token
edge_token kind master from to = record {
  bytes = token_of (node_key kind master from) (label_of kind to) (node_key kind master to);
}

-- the tokens of a cover's edges, in order
abbrev pub cover_tokens : Kind → List ℕ → Cover → List Token
cover_tokens kind master cover =
    map (λ from. edge_token kind master from cover.node) cover.from

-- The new graph has the set too. A set that was there changes nothing; one that wasn't is at the
-- end, with the edges of its cover and their tokens.
pub record HasSetBesides (kind : Kind) (master : List ℕ) (set : ℕ) (old new : Contents)
    : Type 0 where
  pub there : (plan_of old.sets set).fresh ≡ false
      → (new.sets ≡ old.sets) × (new.edges ≡ old.edges)
  pub sets : (plan_of old.sets set).fresh ≡ true → new.sets ≡ old.sets ++ set ∷ []
  pub edges : (plan_of old.sets set).fresh ≡ true → let cover = plan_of old.sets set in
      new.edges ≡ old.edges ++ joined cover.from (cover_tokens kind master cover) ∷ []
