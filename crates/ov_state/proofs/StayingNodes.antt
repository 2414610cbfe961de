-- The node of a set stays when more sets come after it.
use Rattle.std.proofs.Common.{◌≡◌, ℕ, ◌<◌, ◌==◌, Bool, true, false, List, [], ◌∷◌, ◌++◌, length, get_or}
use Rattle.std.proofs.Common.{refl, sym, ◌∙◌, ap, arith, eq-eqb, length-append, true≢false}
use Rattle.std.specs.Prelude.{Contains, Option, Some, None}
use Rattle.std.proofs.lemmas.List.{get_or_append_left}
use Rattle.std.proofs.lemmas.List.Quantifiers.{position-Some}
use Rattle.ov_graph.specs.Contents.{node_of, planned, plan_of}
use Rattle.ov_graph.proofs.GraphLaws.{last_item}
use Rattle.ov_graph.proofs.ListLaws.{first_is, node_some, place-Contains}
use Rattle.ov_history.specs.Layers.{node_for, appended, with_set, with_wants}
use Rattle.ov_history.proofs.PlanLaws.{plan-fresh, plan-held, plan-there, with_set-still}

-- ---- a set that is there

node_of-append : (sets more : List ℕ) (set : ℕ) (o : Option ℕ) → node_of sets set ≡ o → Contains sets set
    → node_of (sets ++ more) set ≡ o
node_of-append sets more set None is there =
    absurd (true≢false (sym (ap (λ (o : Option ℕ). (planned o sets set).fresh) is) ∙ plan-there sets set there))
node_of-append sets more set (Some node) is there =
    let found = position-Some (λ s. s == set) sets node 0 is in
    let own = node_some sets set node is in
    first_is (sets ++ more) set node (omega (arith, own.0, length-append sets more))
    (get_or_append_left sets more 0 node own.0 ∙ own.1)
    (λ k low same. true≢false
    (sym (eq-eqb (get_or sets k 0) set (sym (get_or_append_left sets more 0 k (omega (arith, low, own.0))) ∙ same)) ∙ found.2 k low))

-- a set that is there keeps its node as more sets come
pub node_for-append : (sets more : List ℕ) (set : ℕ) → Contains sets set → node_for (sets ++ more) set ≡ node_for sets set
node_for-append sets more set there = by_node (node_of sets set) refl where
  by_node : (o : Option ℕ) → node_of sets set ≡ o → node_for (sets ++ more) set ≡ node_for sets set
  by_node None is =
      absurd (true≢false (sym (ap (λ (o : Option ℕ). (planned o sets set).fresh) is) ∙ plan-there sets set there))
  by_node (Some node) is =
      ap (λ (o : Option ℕ). (planned o (sets ++ more) set).node) (node_of-append sets more set (Some node) is there)
      ∙ sym (ap (λ (o : Option ℕ). (planned o sets set).node) is)

pub node_for-with_set : (sets : List ℕ) (other set : ℕ) → Contains sets set → node_for (with_set sets other) set ≡ node_for sets set
node_for-with_set sets other set there = by_test (plan_of sets other).fresh where
  by_test : (b : Bool) → node_for (appended b sets other) set ≡ node_for sets set
  by_test true = node_for-append sets (other ∷ []) set there
  by_test false = refl

pub node_for-with_wants : (wants : List (Option ℕ)) (sets : List ℕ) (set : ℕ) → Contains sets set
    → node_for (with_wants sets wants) set ≡ node_for sets set
node_for-with_wants [] sets set there = refl
node_for-with_wants (None ∷ wants) sets set there = node_for-with_wants wants sets set there
node_for-with_wants (Some other ∷ wants) sets set there =
    node_for-with_wants wants (with_set sets other) set (with_set-still sets other set there)
    ∙ node_for-with_set sets other set there

-- a set that was new has the node that it was given
pub node_for-own : (sets : List ℕ) (set : ℕ) → (plan_of sets set).fresh ≡ true
    → node_for (sets ++ set ∷ []) set ≡ node_for sets set
node_for-own sets set fresh =
    let new = plan-fresh sets set fresh in
    ap (λ o. (planned o (sets ++ set ∷ []) set).node)
    (first_is (sets ++ set ∷ []) set (length sets) (omega (arith, length-append sets (set ∷ []))) (last_item sets set (length sets) 0 refl)
    (λ k low is. new.1 k low (sym (get_or_append_left sets (set ∷ []) 0 k low) ∙ is)))
    ∙ sym new.0

-- a set whose node is there is among the sets
pub low_there : (sets : List ℕ) (set : ℕ) → node_for sets set < length sets → Contains sets set
low_there sets set low = by_fresh (plan_of sets set).fresh refl where
  by_fresh : (b : Bool) → (plan_of sets set).fresh ≡ b → Contains sets set
  by_fresh true fresh = absurd (omega (arith, low, (plan-fresh sets set fresh).0))
  by_fresh false held = place-Contains sets (node_for sets set) set low (plan-held sets set held).1
