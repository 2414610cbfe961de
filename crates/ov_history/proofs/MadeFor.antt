-- A user in the set of a base node is alone in it, or was listed by an update that made a file of
-- the node.
use Rattle.std.proofs.Common.{◌≡◌, ◌⊎◌, ℕ, Bool, true, false, List, [], ◌∷◌, ◌++◌, length, refl}
use Rattle.std.proofs.Common.{sym, ◌∙◌, ap, subst, arith, inl, inr, append_assoc, length-append}
use Rattle.std.specs.Prelude.{Some, slice_index}
use Rattle.std.proofs.lemmas.Bool.{cases_lt}
use Rattle.std.proofs.lemmas.List.{get_or_append_left, get_or_past}
use Rattle.ov_base.specs.Sets.{Has, single}
use Rattle.ov_base.proofs.SetLaws.{Has-single, empty-Has}
use Rattle.ov_graph.specs.Contents.{plan_of}
use Rattle.ov_graph.proofs.GraphLaws.{last_item}
use Rattle.ov_history.specs.History.{Created, Enrolled, Granted, History, Removed, Replaced, Revoked}
use Rattle.ov_history.specs.History.{Update, with_update}
use Rattle.ov_history.specs.Layers.{Layers, appended, layers_after, layers_of, list_in}
use Rattle.ov_history.specs.Words.{WasListed, made_for}
use Rattle.ov_history.specs.WordLaws.{SetsAreOfLists}
use Rattle.ov_history.proofs.PlanLaws.{plan-fresh}
use Rattle.ov_history.proofs.Pushing.{each_history, layers_of-push}
use Rattle.ov_history.proofs.Staying.{list_of-file}

listed_longer : (h : History) (u : Update) (node user : ℕ) → WasListed h node user
    → WasListed (with_update h u) node user
listed_longer h u node user (before, made, after, list, is, of, has, at) = (
  before,
  made,
  after ++ u ∷ [],
  list,
  ap (λ us. us ++ u ∷ []) is ∙ append_assoc before (made ∷ after) (u ∷ []),
  of,
  has,
  at,
)

-- the user is alone in the set of this node among these, or was listed
abbrev IsOfList : History → List ℕ → ℕ → ℕ → Type 0
IsOfList h sets node user = (slice_index sets node ≡ single user) ⊎ WasListed h node user

still_listed : (h : History) (u : Update) (sets : List ℕ) (node user : ℕ)
    → IsOfList h sets node user → IsOfList (with_update h u) sets node user
still_listed h u sets node user (inl alone) = inl alone
still_listed h u sets node user (inr listed) = inr (listed_longer h u node user listed)

-- what holds with one set more
more : (h : History) (u : Update) (sets : List ℕ) (set node user : ℕ)
    → (Has (slice_index sets node) user → IsOfList h sets node user)
    → (node ≡ length sets → Has set user
    → (set ≡ single user) ⊎ WasListed (with_update h u) node user)
    → Has (slice_index (sets ++ set ∷ []) node) user
    → IsOfList (with_update h u) (sets ++ set ∷ []) node user
more h u sets set node user before new held = elim (cases_lt node (length sets)) [
  | inl low ↦
      let same : slice_index (sets ++ set ∷ []) node ≡ slice_index sets node =
      get_or_append_left sets (set ∷ []) 0 node low in
      elim (before (subst (λ s. Has s user) same held)) [
        | inl alone ↦ inl (same ∙ alone)
        | inr listed ↦ inr (listed_longer h u node user listed)
      ]
  | inr past ↦ elim (cases_lt (length sets) node) [
    | inl beyond ↦
        absurd
        (empty-Has user
        (subst (λ s. Has s user)
        (get_or_past (sets ++ set ∷ []) node 0 (omega (arith, beyond, length-append sets (set ∷ []))))
        held))
    | inr upto ↦
        let here : node ≡ length sets = omega (arith, past, upto) in
        let is : slice_index (sets ++ set ∷ []) node ≡ set = last_item sets set node 0 here in
        elim (new here (subst (λ s. Has s user) is held)) [
          | inl alone ↦ inl (is ∙ alone)
          | inr listed ↦ inr listed
        ]
  ]
]

-- the set of a list for which an update makes a file
made : (h : History) (u : Update) (list node user : ℕ)
    → (Has (slice_index (layers_of h).base node) user → IsOfList h (layers_of h).base node user)
    → made_for h u ≡ Some list
    → (fresh : Bool) → (plan_of (layers_of h).base list).fresh ≡ fresh
    → Has (slice_index (appended fresh (layers_of h).base list) node) user
    → IsOfList (with_update h u) (appended fresh (layers_of h).base list) node user
made h u list node user before of true fresh held =
    more h u (layers_of h).base list node user before
    (λ here has.
    inr
    (h.updates, u, [], list, refl, of, has, (plan-fresh (layers_of h).base list fresh).0 ∙ sym here))
    held
made h u list node user before of false fresh held =
    still_listed h u (layers_of h).base node user (before held)

listed_after : (h : History) (u : Update) (node user : ℕ)
    → (Has (slice_index (layers_of h).base node) user → IsOfList h (layers_of h).base node user)
    → Has (slice_index (layers_after (layers_of h) u).base node) user
    → IsOfList (with_update h u) (layers_after (layers_of h) u).base node user
listed_after h (Enrolled name) node user before held =
    let y : Layers = layers_of h in
    more h (Enrolled name) y.base (single y.users) node user before
    (λ here alone. inl (ap (λ n. single n) (sym (Has-single y.users user alone)))) held
listed_after h (Created name list size) node user before held =
    made h (Created name list size) list node user before refl
    (plan_of (layers_of h).base list).fresh refl held
listed_after h (Granted other file) node user before held =
    still_listed h (Granted other file) (layers_of h).base node user (before held)
listed_after h (Revoked other file) node user before held =
    still_listed h (Revoked other file) (layers_of h).base node user (before held)
listed_after h (Removed file) node user before held =
    still_listed h (Removed file) (layers_of h).base node user (before held)
listed_after h (Replaced file size) node user before held =
    let list : ℕ = list_in (layers_of h) file in
    made h (Replaced file size) list node user before (ap Some (sym (list_of-file h file)))
    (plan_of (layers_of h).base list).fresh refl held

pub sets_are_of_lists : SetsAreOfLists
sets_are_of_lists h node user =
    each_history
    (λ (h : History). Has (slice_index (layers_of h).base node) user
    → IsOfList h (layers_of h).base node user)
    (λ h held. absurd (empty-Has user held))
    (λ h u before held.
    subst (λ (y : Layers). IsOfList (with_update h u) y.base node user) (sym (layers_of-push h u))
    (listed_after h u node user before
    (subst (λ (y : Layers). Has (slice_index y.base node) user) (layers_of-push h u) held))) h
