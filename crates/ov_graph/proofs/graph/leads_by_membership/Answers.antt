use Rattle.ov_graph.proofs.ReachLaws.{leads_by_membership, IsEdge-upward}
use Rattle.ov_graph.proofs.GraphLaws.{edges-few, edges-none}
use Rattle.ov_graph.proofs.graph.leads_by_membership.Goals as goal

pub returns-clause-reach : goal.returns-clause-reach
returns-clause-reach g c = leads_by_membership _ c.known.ensures.graph.grown

pub returns-clause-upward : goal.returns-clause-upward
returns-clause-upward g c = IsEdge-upward _

pub returns-clause-few : goal.returns-clause-few
returns-clause-few g c = edges-few _ _ c.known.ensures.graph

pub returns-clause-none : goal.returns-clause-none
returns-clause-none g c = edges-none _ _ c.known.ensures.graph

pub returns-clause-edges : goal.returns-clause-edges
returns-clause-edges g c = c.known.ensures.graph.covers
