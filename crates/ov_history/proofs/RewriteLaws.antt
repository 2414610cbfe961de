-- The rewrites of an update are those of the files that have another surface and of a new one, in
-- order.
use Rattle.std.proofs.Common.{◌≡◌, ◌≢◌, ◌⊎◌, ◌<◌, ◌+◌, ℕ, zero, suc, Bool, true, false, List}
use Rattle.std.proofs.Common.{[], ◌∷◌, ◌++◌, refl, sym, ◌∙◌, ap, subst, arith, inl, inr}
use Rattle.std.specs.Prelude.{Contains, Option, Some, None, slice_get}
use Rattle.std.proofs.lemmas.List.Elements.{Contains-append_cases, Contains-append_left}
use Rattle.std.proofs.lemmas.List.Elements.{Contains-append_right}
use Rattle.std.proofs.lemmas.Option.{get_or_from_slice_get, slice_get_within}
use Rattle.ov_graph.proofs.ListLaws.{Contains-cases, Contains-first, Contains-none}
use Rattle.ov_history.specs.Layers.{same_surface}
use Rattle.ov_history.specs.Places.{living_at}
use Rattle.ov_history.specs.Briefs.{Brief}
use Rattle.ov_history.specs.Catalogue.{Catalogue, Filed}
use Rattle.ov_history.specs.Rewrites.{Rewrite, files_after, rewrite_of, rewrite_unless}
use Rattle.ov_history.specs.Rewrites.{rewrites_from}
use Rattle.ov_history.specs.Laws.{FilesAreThoseAfter, IsNewFile, RewritesAreExact}
use Rattle.ov_history.specs.Laws.{RewritesAreInOrder}
use Rattle.ov_history.proofs.Listing.{same_surface-is, same_surface-not}
use Rattle.ov_history.proofs.Living.{never_given}

pub files_are_those_after : FilesAreThoseAfter
files_are_those_after master c b = refl

-- ---- what a rewrite is of

-- the rewrite of a file that has another surface afterwards
abbrev moved_to : ℕ → Filed → Filed → Rewrite
moved_to number f now =
    record { file = number; length = now.length; old = f.surface; new = now.surface }

-- the rewrite of a new file
abbrev new_at : ℕ → Filed → Rewrite
new_at number now = record { file = number; length = now.length; old = None; new = now.surface }

-- the rewrite is of the file at this place, which has another surface afterwards
abbrev IsMoved : List (Option Filed) → List (Option Filed) → ℕ → Rewrite → Type 0
IsMoved files after place r =
    (f now : Filed) × (living_at files place ≡ Some f) × (living_at after place ≡ Some now)
    × (f.surface ≢ now.surface) × (r ≡ moved_to r.file f now)

-- the rewrite is of the new file at this place
abbrev IsAdded : List (Option Filed) → List (Option Filed) → ℕ → Rewrite → Type 0
IsAdded files after place r =
    (now : Filed) × (living_at files place ≡ None) × (living_at after place ≡ Some now)
    × (r ≡ new_at r.file now)

-- the rewrite is of some file of these, of which the first has this number
abbrev IsOfSome : ℕ → List (Option Filed) → List (Option Filed) → Rewrite → Type 0
IsOfSome first files after r =
    (place : ℕ) × (r.file ≡ first + place)
    × (IsMoved files after place r ⊎ IsAdded files after place r)

-- ---- each rewrite is of some file

further : (first : ℕ) (f now : Option Filed) (files after : List (Option Filed)) (r : Rewrite)
    → IsOfSome (first + 1) files after r
    → IsOfSome first (f ∷ files) (now ∷ after) r
further first f now files after r (place, is, inl (old, new, was, then_is, other, same)) =
    (suc place, omega arith, inl (old, new, was, then_is, other, same))
further first f now files after r (place, is, inr (new, past, then_is, same)) =
    (suc place, omega arith, inr (new, past, then_is, same))

further_new : (first : ℕ) (now : Option Filed) (after : List (Option Filed)) (r : Rewrite)
    → IsOfSome (first + 1) [] after r
    → IsOfSome first [] (now ∷ after) r
further_new first now after r (place, is, inl (old, new, was, then_is, other, same)) = absurd (cc)
further_new first now after r (place, is, inr (new, past, then_is, same)) =
    (suc place, omega arith, inr (new, refl, then_is, same))

-- the rewrite of one file
of_moved : (first : ℕ) (f now : Filed) (r : Rewrite) (b : Bool)
    → same_surface f.surface now.surface ≡ b → Contains (rewrite_unless b first f now) r
    → (f.surface ≢ now.surface) × (r ≡ moved_to first f now)
of_moved first f now r true e there = absurd (Contains-none r there)
of_moved first f now r false e there =
    elim (Contains-cases (moved_to first f now) [] r there) [
      | inl is ↦ (same_surface-not f.surface now.surface e, sym is)
      | inr none ↦ absurd (Contains-none r none)
    ]

of_one : (first : ℕ) (f now : Option Filed) (files after : List (Option Filed)) (r : Rewrite)
    → Contains (rewrite_of first f now) r
    → (r.file ≡ first) × (IsMoved (f ∷ files) (now ∷ after) 0 r
    ⊎ IsAdded (f ∷ files) (now ∷ after) 0 r)
of_one first f None files after r there = absurd (Contains-none r there)
of_one first None (Some now) files after r there =
    elim (Contains-cases (new_at first now) [] r there) [
      | inl is ↦
          let at : r.file ≡ first = ap (λ (s : Rewrite). s.file) (sym is) in
          (at, inr (now, refl, refl, sym is ∙ ap (λ n. new_at n now) (sym at)))
      | inr none ↦ absurd (Contains-none r none)
    ]
of_one first (Some f) (Some now) files after r there =
    let both = of_moved first f now r (same_surface f.surface now.surface) refl there in
    let at : r.file ≡ first = ap (λ (s : Rewrite). s.file) both.1 in
    (at, inl (f, now, refl, refl, both.0, both.1 ∙ ap (λ n. moved_to n f now) (sym at)))

-- the rewrite of one file, where none were there
of_new : (first : ℕ) (now : Option Filed) (after : List (Option Filed)) (r : Rewrite)
    → Contains (rewrite_of first None now) r → IsOfSome first [] (now ∷ after) r
of_new first now after r there =
    let (at, how) = of_one first None now [] after r there in
    elim how [
      | inl moved ↦ absurd (by_moved moved)
      | inr added ↦ (0, omega (arith, at), inr (added.0, refl, added.2, added.3))
    ] where
      by_moved : IsMoved (None ∷ []) (now ∷ after) 0 r → ⊥
      by_moved (f, new, was, then_is, other, same) = cc

of_some : (first : ℕ) (files after : List (Option Filed)) (r : Rewrite)
    → Contains (rewrites_from first files after) r
    → IsOfSome first files after r
of_some first files [] r there = absurd (Contains-none r there)
of_some first [] (now ∷ after) r there =
    elim (Contains-append_cases (rewrite_of first None now) (rewrites_from (first + 1) [] after) r there) [
      | inl here ↦ of_new first now after r here
      | inr later ↦ further_new first now after r (of_some (first + 1) [] after r later)
    ]
of_some first (f ∷ files) (now ∷ after) r there =
    elim (Contains-append_cases (rewrite_of first f now) (rewrites_from (first + 1) files after) r there) [
      | inl here ↦
          let (at, how) = of_one first f now files after r here in
          (0, omega (arith, at), how)
      | inr later ↦ further first f now files after r (of_some (first + 1) files after r later)
    ]

-- ---- each such file has its rewrite

-- of one file
moved_one : (first : ℕ) (old new : Option Filed) (f now : Filed) (r : Rewrite) → r.file ≡ first
    → old ≡ Some f → new ≡ Some now → f.surface ≢ now.surface → r ≡ moved_to r.file f now
    → Contains (rewrite_of first old new) r
moved_one first old new f now r at was then_is other is =
    subst (λ (o : Option Filed). Contains (rewrite_of first o new) r) (sym was)
    (subst (λ (o : Option Filed). Contains (rewrite_of first (Some f) o) r) (sym then_is)
    (by_test (same_surface f.surface now.surface) refl)) where
      by_test : (b : Bool) → same_surface f.surface now.surface ≡ b
          → Contains (rewrite_unless b first f now) r
      by_test true e = absurd (other (same_surface-is f.surface now.surface e))
      by_test false e =
          subst (λ (s : Rewrite). Contains (moved_to first f now ∷ []) s)
          (sym (is ∙ ap (λ n. moved_to n f now) at))
          (Contains-first (moved_to first f now) [])

added_one : (first : ℕ) (old new : Option Filed) (now : Filed) (r : Rewrite) → r.file ≡ first
    → old ≡ None → new ≡ Some now → r ≡ new_at r.file now
    → Contains (rewrite_of first old new) r
added_one first old new now r at was then_is is =
    subst (λ (o : Option Filed). Contains (rewrite_of first o new) r) (sym was)
    (subst (λ (o : Option Filed). Contains (rewrite_of first None o) r) (sym then_is)
    (subst (λ (s : Rewrite). Contains (new_at first now ∷ []) s)
    (sym (is ∙ ap (λ n. new_at n now) at))
    (Contains-first (new_at first now) [])))

moved_there : (first : ℕ) (files after : List (Option Filed)) (place : ℕ) (r : Rewrite)
    → r.file ≡ first + place
    → IsMoved files after place r → Contains (rewrites_from first files after) r
moved_there first files [] place r at_place (f, now, was, then_is, other, is) = absurd (cc)
moved_there first [] (new ∷ after) place r at_place (f, now, was, then_is, other, is) = absurd (cc)
moved_there first (old ∷ files) (new ∷ after) zero r at_place (f, now, was, then_is, other, is) =
    Contains-append_left (rewrite_of first old new) (rewrites_from (first + 1) files after) r
    (moved_one first old new f now r (omega arith) was then_is other is)
moved_there first (old ∷ files) (new ∷ after) (suc place) r at_place moved =
    Contains-append_right (rewrite_of first old new) (rewrites_from (first + 1) files after) r
    (moved_there (first + 1) files after place r (omega arith) moved)

added_there : (first : ℕ) (files after : List (Option Filed)) (place : ℕ) (r : Rewrite)
    → r.file ≡ first + place
    → IsAdded files after place r → Contains (rewrites_from first files after) r
added_there first files [] place r at_place (now, past, then_is, is) = absurd (cc)
added_there first [] (new ∷ after) zero r at_place (now, past, then_is, is) =
    Contains-append_left (rewrite_of first None new) (rewrites_from (first + 1) [] after) r
    (added_one first None new now r (omega arith) refl then_is is)
added_there first [] (new ∷ after) (suc place) r at_place (now, past, then_is, is) =
    Contains-append_right (rewrite_of first None new) (rewrites_from (first + 1) [] after) r
    (added_there (first + 1) [] after place r (omega arith) (now, refl, then_is, is))
added_there first (old ∷ files) (new ∷ after) zero r at_place (now, past, then_is, is) =
    Contains-append_left (rewrite_of first old new) (rewrites_from (first + 1) files after) r
    (added_one first old new now r (omega arith) past then_is is)
added_there first (old ∷ files) (new ∷ after) (suc place) r at_place (now, past, then_is, is) =
    Contains-append_right (rewrite_of first old new) (rewrites_from (first + 1) files after) r
    (added_there (first + 1) files after place r (omega arith) (now, past, then_is, is))

new_file : (c : Catalogue) (b : Brief) (r : Rewrite)
    → IsAdded c.files (files_after c b) r.file r → IsNewFile c b r
new_file c b r (now, gone, there, is) =
    (now, never_given c b r.file now gone there, gone, there, is)

at_file : (r : Rewrite) (place : ℕ) (P : ℕ → Type 0) → r.file ≡ 0 + place → P place → P r.file
at_file r place P is p = subst P (omega arith) p

pub rewrites_are_exact : RewritesAreExact
rewrites_are_exact c b r =
    let after : List (Option Filed) = files_after c b in (
      λ there.
          let (place, is, how) = of_some 0 c.files after r there in
          elim (at_file r place (λ n. IsMoved c.files after n r ⊎ IsAdded c.files after n r) is how) [
            | inl moved ↦ inl moved
            | inr added ↦ inr (new_file c b r added)
          ],
      elim [
        | inl moved ↦ moved_there 0 c.files after r.file r (omega arith) moved
        | inr (now, past, gone, there, is) ↦
            added_there 0 c.files after r.file r (omega arith) (now, gone, there, is)
      ],
    )

-- ---- their order

-- each rewrite comes before those of higher numbers
abbrev AreOrdered : List Rewrite → Type 0
AreOrdered rewrites =
    (m n : ℕ) (r other : Rewrite)
    → m < n → slice_get rewrites m ≡ Some r → slice_get rewrites n ≡ Some other
    → r.file < other.file

got : (rewrites : List Rewrite) (n : ℕ) (r : Rewrite) → slice_get rewrites n ≡ Some r
    → Contains rewrites r
got rewrites n r is = (n, slice_get_within rewrites n r is, get_or_from_slice_get rewrites n r r is)

ordered_first : (first : Rewrite) (rewrites : List Rewrite) → AreOrdered rewrites
    → ((r : Rewrite) → Contains rewrites r → first.file < r.file)
    → AreOrdered (first ∷ rewrites)
ordered_first first rewrites ordered before m zero r other low one two = absurd (omega arith)
ordered_first first rewrites ordered before zero (suc n) r other low one two =
    let is : first ≡ r = cc in
    subst (λ (s : Rewrite). s.file < other.file) is (before other (got rewrites n other two))
ordered_first first rewrites ordered before (suc m) (suc n) r other low one two =
    ordered m n r other (omega arith) one two

-- all that begin with a number are of files from there on
from_first : (first : ℕ) (files after : List (Option Filed)) (number : ℕ) → number < first
    → (r : Rewrite) → Contains (rewrites_from first files after) r → number < r.file
from_first first files after number low r there =
    let found = of_some first files after r there in
    omega (arith, low, found.1)

ordered_unless : (b : Bool) (first : ℕ) (f now : Filed) (files after : List (Option Filed))
    → AreOrdered (rewrites_from (first + 1) files after)
    → AreOrdered (rewrite_unless b first f now ++ rewrites_from (first + 1) files after)
ordered_unless true first f now files after behind = behind
ordered_unless false first f now files after behind =
    ordered_first (moved_to first f now) (rewrites_from (first + 1) files after) behind
    (from_first (first + 1) files after first (omega arith))

ordered_one : (first : ℕ) (f now : Option Filed) (files after : List (Option Filed))
    → AreOrdered (rewrites_from (first + 1) files after)
    → AreOrdered (rewrite_of first f now ++ rewrites_from (first + 1) files after)
ordered_one first f None files after behind = behind
ordered_one first None (Some now) files after behind =
    ordered_first (new_at first now) (rewrites_from (first + 1) files after) behind
    (from_first (first + 1) files after first (omega arith))
ordered_one first (Some f) (Some now) files after behind =
    ordered_unless (same_surface f.surface now.surface) first f now files after behind

ordered : (first : ℕ) (files after : List (Option Filed))
    → AreOrdered (rewrites_from first files after)
ordered first files [] = λ m n r other low one two. absurd (cc)
ordered first [] (now ∷ after) =
    ordered_one first None now [] after (ordered (first + 1) [] after)
ordered first (f ∷ files) (now ∷ after) =
    ordered_one first f now files after (ordered (first + 1) files after)

pub rewrites_are_in_order : RewritesAreInOrder
rewrites_are_in_order c b = ordered 0 c.files (files_after c b)
