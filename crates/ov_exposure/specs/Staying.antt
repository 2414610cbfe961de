-- What a store has published stays published.
use Rattle.std.specs.Prelude.{◌≡◌, ℕ, List, ◌++◌}
use Rattle.ov_history.specs.Sent.{SealedUpdate}
use Rattle.ov_history.specs.Catalogue.{Catalogue, Nodes}
use Rattle.ov_history.specs.Sealed.{SealedHistory, catalogue_of}
use Rattle.ov_exposure.specs.Exposure.{IsMoment, as_of}

-- the items of the one list are the first of the other
abbrev pub AreFirstOf : {A : Type 0} → List A → List A → Type 0
AreFirstOf items all = (rest : List _) × (all ≡ items ++ rest)

-- each node of a layer keeps its number, its set, and its edges with their tokens
pub record NodesStay (nodes next : Nodes) : Type 0 where
  pub sets : AreFirstOf nodes.sets next.sets
  pub edges : AreFirstOf nodes.edges next.edges

-- the nodes, edges and access tokens of the one catalogue are in the other as they were
pub record StaysPublished (c next : Catalogue) : Type 0 where
  pub base : NodesStay c.base next.base
  pub surface : NodesStay c.surface next.surface
  pub grants : AreFirstOf c.grants next.grants

-- what was published at a moment stays published, whatever updates follow, removals included
abbrev pub PublishedStays : Type 0
PublishedStays =
    (master : List ℕ) (g : SealedHistory) (before : List SealedUpdate) → IsMoment g before
    → StaysPublished (catalogue_of master (as_of g before)) (catalogue_of master g)
