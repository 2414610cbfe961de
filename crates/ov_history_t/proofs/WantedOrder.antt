-- Wanted sets are added in the order of their files, each that isn't there yet.
use Rattle.std.proofs.Common.{◌≡◌, ◌≢◌, ℕ, zero, suc, ◌<◌, ◌≤◌, Bool, true, false, List, []}
use Rattle.std.proofs.Common.{◌∷◌, length, refl, sym, ◌∙◌, ap, subst, arith, inl, inr, length-append}
use Rattle.std.specs.Prelude.{Option, Some, None, is_some, option_map, slice_get, slice_index}
use Rattle.std.proofs.lemmas.Bool.{cases_lt}
use Rattle.std.proofs.lemmas.Option.{get_or_from_slice_get, slice_get_within}
use Rattle.ov_base.specs.Sets.{single}
use Rattle.ov_graph.specs.Contents.{plan_of}
use Rattle.ov_graph.proofs.GraphLaws.{last_item}
use Rattle.ov_surface.specs.Wanted.{wanted_surface}
use Rattle.ov_history.specs.History.{Update, Enrolled, Created, Granted, Revoked, History}
use Rattle.ov_history.specs.History.{File, Removed, Replaced, matrix_of, with_update}
use Rattle.ov_history.specs.Layers.{Layers, Place, appended, grown, holders, layers_after, layers_of}
use Rattle.ov_history.specs.Layers.{lists_after, lists_of, node_for, wants_at, wants_of, with_set}
use Rattle.ov_history.specs.Layers.{settled_all, settled_at, want_at, with_wants}
use Rattle.ov_history.specs.Places.{living_at}
use Rattle.ov_history.specs.Words.{HasFile, place_in, want_of, wanted_of}
use Rattle.ov_history.proofs.Listing.{length-lists_after, lists_of-layers_after, settled_at-node}
use Rattle.ov_history.proofs.PlanLaws.{plan-fresh, with_set-has, with_wants-keeps}
use Rattle.ov_history.proofs.Pushing.{layers_of-push}
use Rattle.ov_history.proofs.Wanting.{file_below, length-after, wanted_at, wanted_in, wanted_of-is}
use Rattle.ov_history_t.specs.Ordering.{NewSetsAreInOrder, NewSetsAreNew, NewSetsAreWanted, HasSet}
use Rattle.ov_history_t.specs.Ordering.{Wants, first_new}

-- ---- sets

-- the node of this number has the set
abbrev IsAt : List ℕ → ℕ → ℕ → Type 0
IsAt sets node set = (node < length sets) × (slice_index sets node ≡ set)

-- what is at a node past these sets, where a set comes after them
record IsAdded (sets : List ℕ) (set node : ℕ) : Type 0 where
  next : node ≡ length sets
  one : length (with_set sets set) ≡ suc (length sets)
  here : slice_index (with_set sets set) node ≡ set
  new : (n : ℕ) → n < length sets → slice_index sets n ≢ set

added_if : (b : Bool) (sets : List ℕ) (set node : ℕ) → (plan_of sets set).fresh ≡ b
    → length sets ≤ node → node < length (appended b sets set)
    → (node ≡ length sets) × (length (appended b sets set) ≡ suc (length sets))
    × (slice_index (appended b sets set) node ≡ set)
    × ((n : ℕ) → n < length sets → slice_index sets n ≢ set)
added_if true sets set node is past below =
    let many = length-append sets (set ∷ []) in
    let next : node ≡ length sets = omega (arith, many) in
    (next, omega (arith, many), last_item sets set node 0 next, (plan-fresh sets set is).1)
added_if false sets set node is past below = absurd (omega arith)

added : (sets : List ℕ) (set node : ℕ) → length sets ≤ node → node < length (with_set sets set)
    → IsAdded sets set node
added sets set node past below =
    let all = added_if (plan_of sets set).fresh sets set node refl past below in record {
      next = all.0;
      one = all.1;
      here = all.2;
      new = all.3;
    }

-- no node before a node that is added has its set
no_repeat : (wants : List (Option ℕ)) (sets : List ℕ) (node other set : ℕ) → length sets ≤ node
    → IsAt (with_wants sets wants) node set → other < node
    → slice_index (with_wants sets wants) other ≢ set
no_repeat [] sets node other set past at before = absurd (omega (arith, at.0))
no_repeat (None ∷ wants) sets node other set past at before =
    no_repeat wants sets node other set past at before
no_repeat (Some one ∷ wants) sets node other set past at before =
    elim (cases_lt node (length (with_set sets one))) [
      | inl below ↦
          let new = added sets one node past below in
          let same : set ≡ one =
          sym at.1 ∙ (with_wants-keeps wants (with_set sets one) node below).1 ∙ new.here in
          let low : other < length sets = omega (arith, new.next) in
          let kept = with_wants-keeps (Some one ∷ wants) sets other low in
          λ is. new.new other low (sym kept.1 ∙ is ∙ same)
      | inr later ↦ no_repeat wants (with_set sets one) node other set later at before
    ]

-- a set that is added is one of those wanted
is_wanted : (wants : List (Option ℕ)) (sets : List ℕ) (node set : ℕ) → length sets ≤ node
    → IsAt (with_wants sets wants) node set → (i : ℕ) × (slice_get wants i ≡ Some (Some set))
is_wanted [] sets node set past at = absurd (omega (arith, at.0))
is_wanted (None ∷ wants) sets node set past at =
    let r = is_wanted wants sets node set past at in (suc r.0, r.1)
is_wanted (Some one ∷ wants) sets node set past at =
    elim (cases_lt node (length (with_set sets one))) [
      | inl below ↦
          let new = added sets one node past below in
          let same : one ≡ set =
          sym new.here ∙ sym (with_wants-keeps wants (with_set sets one) node below).1 ∙ at.1 in
          (0, ap (λ s. Some (Some s)) same)
      | inr later ↦
          let r = is_wanted wants (with_set sets one) node set later at in (suc r.0, r.1)
    ]

-- where a set is wanted first, a node that is added later has another
first_is_other : (wants : List (Option ℕ)) (sets : List ℕ) (one next later : ℕ)
    → length (with_set sets one) ≤ next → IsAt (with_wants (with_set sets one) wants) next later
    → one ≢ later
first_is_other wants sets one next later past at same =
    let has = with_set-has sets one in
    let kept = with_wants-keeps wants (with_set sets one) (node_for sets one) has.0 in
    no_repeat wants (with_set sets one) next (node_for sets one) later past at
    (omega (arith, has.0)) (kept.1 ∙ has.1 ∙ same)

-- the wanted sets are in such an order
abbrev IsBefore : List (Option ℕ) → ℕ → ℕ → Type 0
IsBefore wants set later =
    (i : ℕ) × (slice_get wants i ≡ Some (Some set))
    × ((j : ℕ) → slice_get wants j ≡ Some (Some later) → i < j)

-- a wanted set comes before another one behind one more wanted set too
behind : (want : Option ℕ) (wants : List (Option ℕ)) (set later : ℕ) → want ≢ Some later
    → IsBefore wants set later → IsBefore (want ∷ wants) set later
behind want wants set later other (i, is, least) = (suc i, is, after) where
  after : (j : ℕ) → slice_get (want ∷ wants) j ≡ Some (Some later) → suc i < j
  after zero e = let same : want ≡ Some later = cc in absurd (other same)
  after (suc j) e = omega (arith, least j e)

in_order : (wants : List (Option ℕ)) (sets : List ℕ) (node next set later : ℕ)
    → length sets ≤ node → node < next
    → IsAt (with_wants sets wants) node set → IsAt (with_wants sets wants) next later
    → IsBefore wants set later
in_order [] sets node next set later past before at then = absurd (omega (arith, at.0))
in_order (None ∷ wants) sets node next set later past before at then =
    behind None wants set later (λ e. absurd (cc))
    (in_order wants sets node next set later past before at then)
in_order (Some one ∷ wants) sets node next set later past before at then =
    elim (cases_lt node (length (with_set sets one))) [
      | inl below ↦ here below (added sets one node past below)
      | inr above ↦
          let other : one ≢ later =
          first_is_other wants sets one next later (omega (arith)) then in
          behind (Some one) wants set later (λ e. other (cc))
          (in_order wants (with_set sets one) node next set later above before at then)
    ]
  where
    here : node < length (with_set sets one) → IsAdded sets one node
        → IsBefore (Some one ∷ wants) set later
    here below new = (0, ap (λ s. Some (Some s)) same, after) where
      same : one ≡ set
      same =
          sym new.here ∙ sym (with_wants-keeps wants (with_set sets one) node below).1 ∙ at.1

      other : one ≢ later
      other = first_is_other wants sets one next later (omega (arith, new.one, new.next)) then

      after : (j : ℕ) → slice_get (Some one ∷ wants) j ≡ Some (Some later) → 0 < j
      after zero e = let is : one ≡ later = cc in absurd (other is)
      after (suc j) e = omega arith

-- ---- files

got : (y : Layers) (lists : List (Option ℕ)) (places : List (Option Place)) (file : ℕ)
    → length lists ≡ length places → file < length places
    → slice_get (wants_at y lists places) file ≡ Some (wanted_at y lists places file)
got y lists [] file many below = absurd (omega arith)
got y [] (p ∷ places) file many below = absurd (omega arith)
got y (list ∷ lists) (p ∷ places) zero many below = refl
got y (list ∷ lists) (p ∷ places) (suc file) many below =
    got y lists places file (omega arith) (omega arith)

length-wants : (y : Layers) (lists : List (Option ℕ)) (places : List (Option Place))
    → length lists ≡ length places
    → length (wants_at y lists places) ≡ length places
length-wants y [] [] many = refl
length-wants y [] (p ∷ places) many = absurd (omega arith)
length-wants y (list ∷ lists) [] many = absurd (omega arith)
length-wants y (list ∷ lists) (p ∷ places) many =
    ap suc (length-wants y lists places (omega arith))

-- a file that is settled wants the set that it wanted, since it keeps its node
kept_one : (y : Layers) (epoch : ℕ) (sets : List ℕ) (want list : Option ℕ) (p : Option Place)
    → want_at y list (option_map (settled_at epoch sets want) p) ≡ want_at y list p
kept_one y epoch sets want None p = refl
kept_one y epoch sets want (Some list) None = refl
kept_one y epoch sets want (Some list) (Some p) =
    ap (λ n. wanted_surface y.mode list (holders y n)) (settled_at-node epoch sets want p)

want_kept : (y : Layers) (epoch : ℕ) (sets : List ℕ) (lists : List (Option ℕ))
    (places : List (Option Place)) (file : ℕ) → length lists ≡ length places
    → want_at y (living_at lists file)
    (living_at (settled_all epoch sets (wants_at y lists places) places) file)
    ≡ wanted_at y lists places file
want_kept y epoch sets [] [] file many = refl
want_kept y epoch sets [] (p ∷ places) file many = absurd (omega arith)
want_kept y epoch sets (list ∷ lists) [] file many = absurd (omega arith)
want_kept y epoch sets (list ∷ lists) (p ∷ places) zero many =
    kept_one y epoch sets (want_at y list p) list p
want_kept y epoch sets (list ∷ lists) (p ∷ places) (suc file) many =
    want_kept y epoch sets lists places file (omega arith)

-- a set is wanted of a file that is there alone
wanted_here : (h : History) (file set : ℕ) → wanted_of h file ≡ Some set → HasFile h file
wanted_here h file set is = by_file (living_at (matrix_of h).files file) is where
  by_file : (f : Option File) → want_of h (place_in h file) f ≡ Some set → is_some f ≡ true
  by_file None e = absurd (cc e)
  by_file (Some f) e = refl

module _ (h : History) (u : Update) where
  abbrev y : Layers
  y = layers_of h

  abbrev lists : List (Option ℕ)
  lists = lists_after (lists_of y) u

  abbrev wants : List (Option ℕ)
  wants = wants_of (grown y u) lists

  abbrev next : History
  next = with_update h u

  files_are : length (layers_of next).files ≡ length (grown y u).files
  files_are = ap (λ (z : Layers). length z.files) (layers_of-push h u) ∙ length-after y u

  many : length lists ≡ length (grown y u).files
  many = length-lists_after y u

  want-is : (file : ℕ) → wanted_at (grown y u) lists (grown y u).files file ≡ wanted_of next file
  want-is file =
      let after : Option Place = living_at (layers_after y u).files file in
      sym
      (want_kept (grown y u) (grown y u).epoch (layers_after y u).surface lists (grown y u).files
      file many)
      ∙ ap (λ (ls : List (Option ℕ)). want_at (grown y u) (living_at ls file) after)
      (sym (lists_of-layers_after y u))
      ∙ ap (λ (z : Layers). wanted_in z file) (sym (layers_of-push h u))
      ∙ sym (wanted_of-is next file)

  -- a wanted set that is in the list is that of its file
  to_file : (i set : ℕ) → slice_get wants i ≡ Some (Some set) → Wants h u i set
  to_file i set is =
      let below : i < length (grown y u).files =
      omega (
        arith,
        slice_get_within wants i (Some set) is,
        length-wants (grown y u) lists (grown y u).files many,
      ) in
      let want : wanted_at (grown y u) lists (grown y u).files i ≡ Some set =
      same_want (sym (got (grown y u) lists (grown y u).files i many below) ∙ is) in
      let wants_it : wanted_of next i ≡ Some set = sym (want-is i) ∙ want in
      (wanted_here next i set wants_it, wants_it)
    where
      same_want : {a b : Option ℕ} → Some a ≡ Some b → a ≡ b
      same_want e = cc

  of_file : (i set : ℕ) → Wants h u i set → slice_get wants i ≡ Some (Some set)
  of_file i set (there, is) =
      let below : i < length (grown y u).files =
      subst (λ n. i < n) files_are (file_below next i there) in
      got (grown y u) lists (grown y u).files i many below ∙ ap Some (want-is i ∙ is)

  at_node : (node set : ℕ) → HasSet h u node set
      → IsAt (with_wants (grown y u).surface wants) node set
  at_node node set has =
      let sets = with_wants (grown y u).surface wants in
      let is : slice_get sets node ≡ Some set =
      ap (λ (z : Layers). slice_get z.surface node) (sym (layers_of-push h u)) ∙ has in
      (slice_get_within sets node set is, get_or_from_slice_get sets node set 0 is)

first_is : (y : Layers) (u : Update) (h : History) → y ≡ layers_of h
    → length (grown (layers_of h) u).surface ≡ first_new h u
first_is y (Enrolled user) h is =
    omega (arith, length-append (layers_of h).surface (single (layers_of h).users ∷ []))
first_is y (Created file list size) h is = omega arith
first_is y (Granted user file) h is = omega arith
first_is y (Revoked user file) h is = omega arith
first_is y (Removed file) h is = omega arith
first_is y (Replaced file size) h is = omega arith

past : (h : History) (u : Update) (node : ℕ) → first_new h u ≤ node
    → length (grown (layers_of h) u).surface ≤ node
past h u node from = omega (arith, from, first_is (layers_of h) u h refl)

pub new_sets_are_wanted : NewSetsAreWanted
new_sets_are_wanted h u node set from has =
    let r = is_wanted (wants h u) (grown (layers_of h) u).surface node set (past h u node from)
    (at_node h u node set has) in
    (r.0, to_file h u r.0 set r.1)

pub new_sets_are_new : NewSetsAreNew
new_sets_are_new h u node other set old from has before there same =
    no_repeat (wants h u) (grown (layers_of h) u).surface node other set (past h u node from)
    (at_node h u node set has) before ((at_node h u other old there).1 ∙ same)

pub new_sets_are_in_order : NewSetsAreInOrder
new_sets_are_in_order h u node next_node set later from before has then =
    let r = in_order (wants h u) (grown (layers_of h) u).surface node next_node set later
    (past h u node from) before (at_node h u node set has) (at_node h u next_node later then) in
    (r.0, to_file h u r.0 set r.1, λ other wanting. r.2 other (of_file h u other later wanting))
