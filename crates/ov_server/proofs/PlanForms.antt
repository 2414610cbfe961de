-- A plan that is told is within the limits of a store.
use Rattle.std.proofs.Common.{◌≡◌, ◌∙◌, ℕ, ◌<◌, ◌≤◌, List, [], ◌∷◌, length, refl, sym, ap, subst}
use Rattle.std.proofs.Common.{arith, true}
use Rattle.std.specs.Prelude.{None, Option, Some, Contains, is_some, option_map, unwrap_or}
use Rattle.std.specs.List.{AllByRecursion}
use Rattle.std.proofs.lemmas.Nat.{ones-le}
use Rattle.ov_base.specs.declared.limits.TheConstants.{MAX_USERS, MAX_FILES, MAX_LAYER_NODES}
use Rattle.ov_base.specs.Sets.{empty as nobody, IsBelow, size}
use Rattle.ov_base.proofs.SetLaws.{IsBelow-small}
use Rattle.ov_base.proofs.Tests.{gt_of_false}
use Rattle.ov_graph.specs.Contents.{node_of, plan_of, planned}
use Rattle.ov_graph.proofs.CoverLaws.{cover-Contains}
use Rattle.ov_graph.proofs.GraphLaws.{plan-few}
use Rattle.ov_graph.proofs.ListLaws.{Contains-first, Contains-later, Contains-none}
use Rattle.ov_history.specs.History.{Created, Replaced}
use Rattle.ov_history.specs.Asking.{refusal_at}
use Rattle.ov_history.specs.Briefs.{BriefCreate, BriefReplace}
use Rattle.ov_history.specs.Catalogue.{Catalogue, Filed, filed_at, matrix_shown, outline}
use Rattle.ov_history.specs.Catalogue.{place_of_file}
use Rattle.ov_history.specs.Layers.{list_at, list_in, with_set}
use Rattle.ov_history.specs.Places.{living_at}
use Rattle.ov_history.specs.Refusals.{tests_of}
use Rattle.ov_history.proofs.Outlining.{lists-at}
use Rattle.ov_history.proofs.PlanLaws.{with_set-has}
use Rattle.ov_history.proofs.SoundTests.{accepted, files_shown-length, none_applies}
use Rattle.ov_state.specs.Contents.{IsWell}
use Rattle.ov_state.specs.declared.covering.Planned.{Planned}
use Rattle.ov_state.proofs.WantedSets.{list_below}
use Rattle.ov_wire.specs.declared.answer.Answer.{Answer}
use Rattle.ov_wire.specs.declared.answer.Answer.TheVariants as answers
use Rattle.ov_wire.specs.declared.answer.Plan.{Plan}
use Rattle.ov_wire.specs.AnswerForm.{HasAnswerForm}
use Rattle.ov_wire.specs.AnswersTo.{IsPlan}
use Rattle.ov_wire.specs.Entries.{IsNode}
use Rattle.ov_protocol.specs.Asking.{AnswersCover, AnswersReplan, plan_for}
use Rattle.ov_server.specs.Telling.{PlansIn, plan_answer}
use Rattle.ov_server.proofs.AskForms.{filed_there}

-- nodes of which each is among these sets
pub all_nodes : (from : List ℕ) (count : ℕ) → count ≤ MAX_LAYER_NODES
    → ((n : ℕ) → Contains from n → n < count) → AllByRecursion IsNode from
all_nodes [] count few below = tt
all_nodes (n ∷ from) count few below = (
  omega (arith, below n (Contains-first n from), few),
  all_nodes from count few (λ m there. below m (Contains-later n from m there)),
)

-- an edge of a plan starts at a node that is there
starts_there : (o : Option ℕ) (sets : List ℕ) (set n : ℕ) → Contains (planned o sets set).from n
    → n < length sets
starts_there (Some node) sets set n there = absurd (Contains-none n there)
starts_there None sets set n there = (cover-Contains sets set n there).0

-- a plan for users who are there is within the limits, where there is room for it
roomy_form : (limit : ℕ) (c : Catalogue) (list : ℕ) → IsWell limit c → length c.files < MAX_FILES
    → IsBelow (length c.users) list → length (with_set c.base.sets list) ≤ MAX_LAYER_NODES
    → IsPlan (plan_for c list)
roomy_form limit c list well room inside nodes =
    let below : IsBelow MAX_USERS list = λ user one. omega (arith, inside user one, well.users) in
    let few : size list ≤ MAX_USERS = ones-le MAX_USERS list (IsBelow-small MAX_USERS list below) in (
      omega (arith, well.epoch),
      room,
      below,
      omega (arith, (with_set-has c.base.sets list).0, nodes),
      omega (arith, plan-few c.base.sets list, few),
      all_nodes (plan_of c.base.sets list).from (length c.base.sets) well.sound.base.few
          (λ n there. starts_there (node_of c.base.sets list) c.base.sets list n there),
    )

-- what is planned for a creation that isn't refused
pub plan_form : (limit : ℕ) (c : Catalogue) (name : List ℕ) (list len : ℕ) → IsWell limit c
    → refusal_at c (Created name list len) ≡ None → IsPlan (plan_for c list)
plan_form limit c name list len well none =
    let fine = accepted c (BriefCreate name list [] [] len) none in
    let tests = none_applies (tests_of (matrix_shown c) (outline c) c.epoch (Created name list len))
    none in
    let full = gt_of_false MAX_FILES (length (matrix_shown c).files) tests.1.1.0 in
    roomy_form limit c list well (omega (arith, full, files_shown-length (outline c) c.files)) fine.0
    fine.1.base

-- the list of a file that is there is read off its place in the layers
list_is : (c : Catalogue) (file : ℕ) (f : Filed) → living_at c.files file ≡ Some f
    → list_in (outline c) file ≡ list_at (outline c) (place_of_file f)
list_is c file f there =
    let list : Filed → ℕ = λ g. list_at (outline c) (place_of_file g) in
    ap (λ (o : Option ℕ). unwrap_or o nobody)
    (lists-at c file ∙ ap (λ (o : Option Filed). option_map list o) there)

-- the users in it are there
listed_below : (limit : ℕ) (c : Catalogue) (file : ℕ) → IsWell limit c
    → is_some (living_at c.files file) ≡ true → IsBelow (length c.users) (list_in (outline c) file)
listed_below limit c file well there =
    let f : Filed = filed_at c file in
    let found : living_at c.files file ≡ Some f = filed_there c file there in
    subst (λ (list : ℕ). IsBelow (length c.users) list) (sym (list_is c file f found))
    (list_below c f well.sound (well.sound.files file f found))

-- what is planned for a replacement that isn't refused
pub replan_form : (limit : ℕ) (c : Catalogue) (file len : ℕ) → IsWell limit c
    → refusal_at c (Replaced file len) ≡ None → IsPlan (plan_for c (list_in (outline c) file))
replan_form limit c file len well none =
    let fine = accepted c (BriefReplace file [] [] len) none in
    let tests = none_applies (tests_of (matrix_shown c) (outline c) c.epoch (Replaced file len)) none
    in
    let full = gt_of_false MAX_FILES (length (matrix_shown c).files) tests.1.0 in
    roomy_form limit c (list_in (outline c) file) well
    (omega (arith, full, files_shown-length (outline c) c.files))
    (listed_below limit c file well fine.0) fine.1.base

-- the answer that tells a plan within the limits has form
pub planned_form : {W : ℕ} (c : Catalogue) (list epoch : ℕ) (planned : Planned W)
    → IsPlan (plan_for c list) → epoch ≡ c.epoch → planned.file ≡ length c.files
    → planned.list ≡ list → planned.cover ≡ plan_of c.base.sets list
    → HasAnswerForm (plan_answer epoch planned)
planned_form c list epoch planned form now file set cover =
    let same : answers.Plan (plan_for c list) ≡ plan_answer epoch planned =
    λ i. answers.Plan (record {
      epoch = sym now i;
      file = sym file i;
      list = sym set i;
      node = (sym cover i).node;
      fresh = (sym cover i).fresh;
      from = (sym cover i).from;
    }) in
    subst HasAnswerForm same form

-- ---- plans that are told

plans_in : (c : Catalogue) (list : ℕ) (plan : Plan) → plan ≡ plan_for c list
    → PlansIn c.base.sets (answers.Plan plan)
plans_in c list plan is =
    subst (λ (p : Plan). PlansIn c.base.sets (answers.Plan p)) (sym is) refl

-- the plan that is told for a creation is that of the list in the base layer
pub cover_plans : (c : Catalogue) (name : List ℕ) (len list : ℕ) (a : Answer)
    → AnswersCover c name len list a → PlansIn c.base.sets a
cover_plans c name len list (answers.Plan plan) (none, is) = plans_in c list plan is
cover_plans c name len list a is = tt

-- the plan that is told for a replacement is that of the file's list in the base layer
pub replan_plans : (c : Catalogue) (file len : ℕ) (a : Answer) → AnswersReplan c file len a
    → PlansIn c.base.sets a
replan_plans c file len (answers.Plan plan) (none, is) =
    plans_in c (list_in (outline c) file) plan is
replan_plans c file len a is = tt
