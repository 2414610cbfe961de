-- Graphs that agree have the same answers.
use Rattle.std.proofs.Common.{ℕ, zero, suc, List, [], ◌++◌, length, get_or, sym, ap, subst}
use Rattle.std.specs.Prelude.{slice_index_or}
use Rattle.ov_tokens.specs.declared.label.Kind.{Kind}
use Rattle.ov_tokens.specs.declared.chain.Step.{Step}
use Rattle.ov_graph.specs.Chain.{IsChain, IsChosen, IsDistance, IsFirst}
use Rattle.ov_graph.specs.Contents.{Contents, edges_to, node_of, plan_of}
use Rattle.ov_graph.specs.Reach.{Leads}
use Rattle.ov_chain.proofs.ShortestPaths.{one_chain}
use Rattle.ov_index.specs.Agreement.{Agree, AnswerAlike}

pub agree-sym : (one other : Contents) → Agree one other → Agree other one
agree-sym one other same = record { sets = sym same.sets; edges = sym same.edges }

-- ---- chains

-- a chosen chain of the one graph is one of the other
chosen_in_other : (kind : Kind) (one other : Contents) → Agree one other → (root node distance : ℕ) (steps : List Step)
    → IsChosen kind one root node distance steps → IsChosen kind other root node distance steps
chosen_in_other kind one other same root node zero steps at = at
chosen_in_other kind one other same root node (suc distance) steps (edge, before, first, rest, is) =
    let there = subst (λ sets. IsFirst sets root distance (edges_to one node) edge) same.sets first in (
      edge,
      before,
      subst (λ edges. IsFirst other.sets root distance (slice_index_or edges node []) edge) same.edges there,
      chosen_in_other kind one other same root edge.from distance before rest,
      is,
    )

chain_in_other : (kind : Kind) (one other : Contents) → Agree one other → (root node : ℕ) (steps : List Step)
    → IsChain kind one root node steps → IsChain kind other root node steps
chain_in_other kind one other same root node steps chain = record {
  edges = chain.edges;
  distance = subst (λ sets. IsDistance sets root node chain.edges) same.sets chain.distance;
  chosen = chosen_in_other kind one other same root node chain.edges steps chain.chosen;
}

pub answers_alike : (kind : Kind) (one other : Contents) → Agree one other → AnswerAlike kind one other
answers_alike kind one other same = record {
  count = ap length same.sets;
  sets = λ node. ap (λ sets. get_or sets node 0) same.sets;
  nodes = λ set. ap (λ sets. node_of sets set) same.sets;
  plans = λ before set. ap (λ sets. plan_of (sets ++ before) set) same.sets;
  edges = λ node. ap (λ edges. slice_index_or edges node []) same.edges;
  leads = λ root node. (
    λ leads. subst (λ sets. Leads sets root node) same.sets leads,
    λ leads. subst (λ sets. Leads sets root node) (sym same.sets) leads,
  );
  chains = λ root node steps. (
    chain_in_other kind one other same root node steps,
    chain_in_other kind other one (agree-sym one other same) root node steps,
  );
  chain = λ root node steps others. one_chain kind one other root node steps others same.sets same.edges;
}
