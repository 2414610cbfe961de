-- Nodes that are added one after the other.
use Rattle.std.proofs.Common.{◌≡◌, ℕ, suc, take, get_or, ◌<◌, ◌+◌, ◌≤◌, List, [], ◌∷◌, ◌++◌, length, sym, ◌∙◌, ap, subst, arith}
use Rattle.std.proofs.Math.Seq.{take-suc}
use Rattle.ov_graph.specs.Contents.{Contents, HasRoom, joined}
use Rattle.ov_state.specs.Contents.{nodes_of}
use Rattle.ov_state.specs.Changes.{nodes_added, edges_in, AreNewNodes}
use Rattle.ov_state.specs.declared.change.NewNode.{NewNode}

-- what holds while nodes are added: what is left turns the graph into what all of it made of the first one, is
-- planned for it, and has room in it
pub record IsLeft {W : ℕ} (first now : Contents) (all left : List (NewNode W)) (many : ℕ) : Type 0 where
  pub nodes : nodes_added (nodes_of now) left ≡ nodes_added (nodes_of first) all
  pub planned : AreNewNodes now.sets left
  pub room : HasRoom now (length left) (edges_in left)
  pub len : many ≡ length left

-- one of them was added
pub added_rest : {W : ℕ} (first before now : Contents) (all left : List (NewNode W)) (fresh : NewNode W) (rest : List (NewNode W)) (len after : ℕ)
    → left ≡ fresh ∷ rest → IsLeft first before all left len → after + 1 ≡ len
    → now.sets ≡ before.sets ++ fresh.set ∷ [] → now.edges ≡ before.edges ++ joined fresh.cover.from fresh.tokens ∷ []
    → ((sets edges : ℕ) → HasRoom before (sets + 1) (edges + length fresh.tokens) → HasRoom now sets edges)
    → IsLeft first now all rest after
added_rest {W} first before now all left fresh rest len after is was one sets edges room =
    let h : IsLeft first before all (fresh ∷ rest) len = subst (λ (l : List (NewNode W)). IsLeft first before all l len) is was in
    let sum : len ≡ suc (length rest) = h.len in
    record {
      nodes = ap (λ n. nodes_added n rest) (λ i. record { sets = sets i; edges = edges i }) ∙ h.nodes;
      planned = subst (λ s. AreNewNodes s rest) (sym sets) h.planned.1;
      room = room (length rest) (edges_in rest) ((let few : suc (length rest) ≤ before.spare_sets = h.room.0 in omega arith), (let e : length fresh.tokens + edges_in rest ≤ before.spare_edges = h.room.1 in omega arith));
      len = omega arith;
    }

-- ---- the edges of several nodes

edges_in-push : {W : ℕ} (fresh : List (NewNode W)) (one : NewNode W) → edges_in (fresh ++ one ∷ []) ≡ edges_in fresh + length one.tokens
edges_in-push [] one = omega arith
edges_in-push (first ∷ fresh) one = let rest = edges_in-push fresh one in omega arith

pub edges_in-take : {W : ℕ} (fresh : List (NewNode W)) (n : ℕ) (one : NewNode W) → one ≡ get_or fresh n one → n < length fresh
    → edges_in (take (n + 1) fresh) ≡ edges_in (take n fresh) + length one.tokens
edges_in-take {W} fresh n one is low =
    let next : n + 1 ≡ suc n = omega arith in
    ap (λ k. edges_in (take k fresh)) next ∙ ap edges_in (take-suc fresh n one low) ∙ edges_in-push (take n fresh) (get_or fresh n one)
    ∙ ap (λ (x : NewNode W). edges_in (take n fresh) + length x.tokens) (sym is)
