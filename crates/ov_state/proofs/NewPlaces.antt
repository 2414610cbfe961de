-- Where a new file goes in the layers.
use Rattle.std.proofs.Common.{◌≡◌, ℕ, ◌<◌, ◌≤◌, ◌==◌, Bool, true, false, List, [], ◌∷◌, length, refl, ◌∙◌, ap, arith, eqb-true}
use Rattle.std.specs.Prelude.{Contains}
use Rattle.ov_graph.specs.Contents.{plan_of}
use Rattle.ov_graph.proofs.GraphLaws.{last_item}
use Rattle.ov_graph.proofs.ListLaws.{Contains-first, Contains-later}
use Rattle.ov_base_layer.specs.Holders.{Access, accesses_of, holders_in, with_accesses, with_if}
use Rattle.ov_history.specs.Layers.{appended, node_for}
use Rattle.ov_history.specs.Catalogue.{Catalogue}
use Rattle.ov_history.proofs.PlanLaws.{plan-fresh}
use Rattle.ov_state.specs.Contents.{IsWell}
use Rattle.ov_state.specs.NewFiles.{holders_then}

-- no access token is for a node that isn't there
no_access : (accesses : List Access) (nodes node set : ℕ) → nodes ≤ node
    → ((access : Access) → Contains accesses access → access.node < nodes)
    → with_accesses accesses node set ≡ set
no_access [] nodes node set past there = refl
no_access (access ∷ accesses) nodes node set past there =
    ap (λ b. with_accesses accesses node (with_if b set access.user)) (other (access.node == node) refl)
    ∙ no_access accesses nodes node set past (λ later has. there later (Contains-later access accesses later has)) where
      other : (b : Bool) → (access.node == node) ≡ b → b ≡ false
      other false e = refl
      other true e =
          let same : access.node ≡ node = eqb-true access.node node e in
          let low : access.node < nodes = there access (Contains-first access accesses) in
          absurd (omega arith)

-- the holders of a fresh node are its users
pub fresh_holders : (limit : ℕ) (s : Catalogue) (list : ℕ) → IsWell limit s → (plan_of s.base.sets list).fresh ≡ true
    → holders_then s list ≡ list
fresh_holders limit s list well fresh =
    let next : node_for s.base.sets list ≡ length s.base.sets = (plan-fresh s.base.sets list fresh).0 in
    ap (λ b. holders_in (appended b s.base.sets list) (accesses_of s.grants) (node_for s.base.sets list)) fresh
    ∙ ap (λ set. with_accesses (accesses_of s.grants) (node_for s.base.sets list) set)
    (last_item s.base.sets list (node_for s.base.sets list) 0 next)
    ∙ no_access (accesses_of s.grants) (length s.base.sets) (node_for s.base.sets list) list (omega arith)
    well.sound.accesses.nodes
