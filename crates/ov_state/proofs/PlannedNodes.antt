-- Surface nodes that are planned, one after the other.
use Rattle.std.proofs.Common.{◌≡◌, ℕ, suc, ◌+◌, ◌<◌, ◌≤◌, Bool, true, false, List, [], ◌∷◌, ◌++◌, length, refl, sym, ◌∙◌, ap, subst, arith, length-append, append-nil, append_assoc}
use Rattle.std.specs.Prelude.{Some}
use Rattle.std.proofs.lemmas.List.{length-map}
use Rattle.std.proofs.lemmas.List.Elements.{Contains-append_left}
use Rattle.ov_base.specs.Sets.{single}
use Rattle.ov_tokens.specs.declared.label.Kind.TheVariants.{Surface as SurfaceLabels}
use Rattle.ov_graph.specs.Contents.{joined, plan_of}
use Rattle.ov_graph.specs.Reach.{IsRooted}
use Rattle.ov_graph.specs.declared.cover.Cover.{Cover}
use Rattle.ov_graph.specs.declared.cover.GraphRefusal.{GraphRefusal}
use Rattle.ov_graph.specs.declared.cover.GraphRefusal.TheVariants.{NodesFull, Memory as GraphMemory}
use Rattle.ov_base_layer.specs.Seals.{cover_tokens, edge_token}
use Rattle.ov_history.specs.Layers.{node_for}
use Rattle.ov_history.specs.Catalogue.{Nodes, added_if}
use Rattle.ov_state.proofs.StayingNodes.{node_for-own}
use Rattle.ov_state.specs.declared.change.NewNode.{NewNode}
use Rattle.ov_state.specs.declared.new_nodes.NewNodes.{NewNodes}
use Rattle.ov_state.specs.Changes.{node_added, nodes_added, IsNewNode, AreNewNodes}
use Rattle.ov_state.specs.Relistings.{sets_in, ArePlanned, nodes_planned, with_want, IsFull, IsSurfaceFor}
use Rattle.ov_base.specs.declared.limits.TheConstants.{MAX_LAYER_NODES}

-- ---- one node more

pub sets_in-append : {W : ℕ} (fresh : List (NewNode W)) (one : NewNode W) → sets_in (fresh ++ one ∷ []) ≡ sets_in fresh ++ one.set ∷ []
sets_in-append [] one = refl
sets_in-append (first ∷ fresh) one = ap (λ sets. first.set ∷ sets) (sets_in-append fresh one)

pub nodes_added-append : {W : ℕ} (nodes : Nodes) (fresh : List (NewNode W)) (one : NewNode W)
    → nodes_added nodes (fresh ++ one ∷ []) ≡ node_added (nodes_added nodes fresh) one
nodes_added-append nodes [] one = refl
nodes_added-append nodes (first ∷ fresh) one = nodes_added-append (node_added nodes first) fresh one

-- the sets with those of the planned nodes
pub nodes_added-sets : {W : ℕ} (nodes : Nodes) (fresh : List (NewNode W)) → (nodes_added nodes fresh).sets ≡ nodes.sets ++ sets_in fresh
nodes_added-sets nodes [] = sym (append-nil nodes.sets)
nodes_added-sets nodes (first ∷ fresh) =
    nodes_added-sets (node_added nodes first) fresh ∙ append_assoc nodes.sets (first.set ∷ []) (sets_in fresh)

pub AreNewNodes-append : {W : ℕ} (sets : List ℕ) (fresh : List (NewNode W)) (one : NewNode W) → AreNewNodes sets fresh
    → IsNewNode (sets ++ sets_in fresh) one → AreNewNodes sets (fresh ++ one ∷ [])
AreNewNodes-append sets [] one before new = (subst (λ s. IsNewNode s one) (append-nil sets) new, tt)
AreNewNodes-append sets (first ∷ fresh) one (is, before) new = (
  is,
  AreNewNodes-append (sets ++ first.set ∷ []) fresh one before
      (subst (λ s. IsNewNode s one) (sym (append_assoc sets (first.set ∷ []) (sets_in fresh))) new),
)

pub length-sets_in : {W : ℕ} (fresh : List (NewNode W)) → length (sets_in fresh) ≡ length fresh
length-sets_in [] = refl
length-sets_in (first ∷ fresh) = ap suc (length-sets_in fresh)

-- no nodes are planned at first
pub none-planned : {W : ℕ} (sets : List ℕ) (surfaces : NewNodes W) → length sets ≤ MAX_LAYER_NODES → surfaces.nodes.items ≡ []
    → surfaces.sets.items ≡ [] → ArePlanned sets surfaces
none-planned {W} sets surfaces few fresh listed = record {
  listed = listed ∙ sym (ap sets_in fresh);
  planned = subst (λ (f : List (NewNode W)). AreNewNodes sets f) (sym fresh) tt;
  few = omega (arith, ap length fresh);
}

-- ---- a set that is wanted

module _ {W : ℕ} (master : List ℕ) (layer : Nodes) (old : NewNodes W) (set : ℕ) (planned : ArePlanned layer.sets old) where
  -- the sets that the wanted set comes after
  abbrev pub before : List ℕ
  before = layer.sets ++ old.sets.items

  pub few_before : length layer.sets + length old.sets.items ≤ MAX_LAYER_NODES
  few_before = omega (arith, planned.few, ap length planned.listed, length-sets_in old.nodes.items)

  sets_are : (nodes_planned layer old).sets ≡ before
  sets_are = nodes_added-sets layer old.nodes.items ∙ ap (λ sets. layer.sets ++ sets) (sym planned.listed)

  -- what a wanted set makes of the nodes, by its plan
  abbrev want_by : (b : Bool) → Cover → Nodes
  want_by b cover = added_if b (nodes_planned layer old) set (joined cover.from (cover_tokens SurfaceLabels master cover))

  wanted : (cover : Cover) → cover ≡ plan_of before set → with_want master (nodes_planned layer old) (Some set) ≡ want_by cover.fresh cover
  wanted cover is =
      ap (λ (c : Cover). want_by c.fresh c) (ap (λ sets. plan_of sets set) sets_are ∙ sym is)

  -- the wanted set has a node already
  pub found_target : (cover : Cover) → cover ≡ plan_of before set → cover.fresh ≡ false
      → IsSurfaceFor master layer (Some set) old old (Some cover.node)
  found_target cover is there = record {
    planned = planned;
    nodes = sym (wanted cover is ∙ ap (λ b. want_by b cover) there);
    surface = ap (λ (c : Cover). Some c.node) (is ∙ ap (λ sets. plan_of sets set) (sym sets_are));
  }

  -- the wanted set has no node yet, and gets one
  pub new_target : (new : NewNodes W) (cover : Cover) → cover ≡ plan_of before set → cover.fresh ≡ true
      → length before < MAX_LAYER_NODES → IsRooted layer.sets set
      → new.nodes.items ≡ old.nodes.items ++ record { set = set; cover = cover; tokens = cover_tokens SurfaceLabels master cover } ∷ []
      → new.sets.items ≡ old.sets.items ++ set ∷ []
      → IsSurfaceFor master layer (Some set) old new (Some cover.node)
  new_target new cover is fresh few rooted pushed listed = record {
    planned = record {
      listed = listed ∙ ap (λ sets. sets ++ set ∷ []) planned.listed ∙ sym (sets_in-append old.nodes.items one) ∙ ap sets_in (sym pushed);
      planned = subst (λ (f : List (NewNode W)). AreNewNodes layer.sets f) (sym pushed)
          (AreNewNodes-append layer.sets old.nodes.items one planned.planned
          (subst (λ sets. IsNewNode (layer.sets ++ sets) one) planned.listed one_fresh));
      few = omega (arith, ap length pushed, length-append old.nodes.items (one ∷ []), length-append layer.sets old.sets.items, ap length planned.listed, length-sets_in old.nodes.items, few);
    };
    nodes = added ∙ sym (wanted cover is ∙ ap (λ b. want_by b cover) fresh);
    surface = ap (λ (c : Cover). Some c.node) is ∙ ap Some (sym (node_for-own before set plan_fresh))
        ∙ ap (λ sets. Some (node_for (sets ++ set ∷ []) set)) (sym sets_are) ∙ ap (λ (n : Nodes). Some (node_for n.sets set)) (sym added);
  } where
    one : NewNode W
    one = record { set = set; cover = cover; tokens = cover_tokens SurfaceLabels master cover }

    plan_fresh : (plan_of before set).fresh ≡ true
    plan_fresh = ap (λ (c : Cover). c.fresh) (sym is) ∙ fresh

    one_fresh : IsNewNode before one
    one_fresh = record {
      cover = is;
      fresh = fresh;
      rooted = λ large user has. Contains-append_left layer.sets old.sets.items (single user) (rooted large user has);
      tokens = length-map cover.from (λ from. edge_token SurfaceLabels master from cover.node);
      few = few;
    }

    added : nodes_planned layer new ≡ node_added (nodes_planned layer old) one
    added = ap (λ (f : List (NewNode W)). nodes_added layer f) pushed ∙ nodes_added-append layer old.nodes.items one

  -- there is no room for a node of the wanted set
  pub too_many : (cover : Cover) → cover ≡ plan_of before set → cover.fresh ≡ true → length before ≡ MAX_LAYER_NODES
      → MAX_LAYER_NODES < length (with_want master (nodes_planned layer old) (Some set)).sets
  too_many cover is fresh full =
      let sets : (with_want master (nodes_planned layer old) (Some set)).sets ≡ (nodes_planned layer old).sets ++ set ∷ [] =
      ap (λ (n : Nodes). n.sets) (wanted cover is ∙ ap (λ b. want_by b cover) fresh) in
      omega (arith, ap length sets, length-append (nodes_planned layer old).sets (set ∷ []), ap length sets_are)

-- ---- why a set isn't planned

pub plan_fault : (why : GraphRefusal) (sets : List ℕ) → (why ≡ NodesFull → MAX_LAYER_NODES < length sets) → IsFull sets why
plan_fault NodesFull sets full = full refl
plan_fault GraphMemory sets full = tt
