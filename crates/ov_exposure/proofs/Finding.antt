-- The findings of an audit are the files that are exposed.
use Rattle.std.proofs.Common.{◌≡◌, ◌⊎◌, ◌<◌, ◌+◌, ℕ, zero, suc, Bool, List, [], ◌∷◌, length, refl, sym}
use Rattle.std.proofs.Common.{◌∙◌, ap, subst, inl, inr, arith}
use Rattle.std.specs.Prelude.{Contains, Option, Some, None, slice_get, unwrap_or}
use Rattle.std.proofs.lemmas.Option.{slice_get_cases}
use Rattle.ov_graph.proofs.ListLaws.{Contains-cases, Contains-first, Contains-later, Contains-none}
use Rattle.ov_history.specs.History.{History, matrix_of}
use Rattle.ov_history.specs.Sealed.{outer_all, outer_of}
use Rattle.ov_exposure.specs.Exposure.{Cause, known_at}
use Rattle.ov_exposure.specs.Auditing.{Finding, FindingsAreInOrder, FindingsAreThose, Note}
use Rattle.ov_exposure.specs.Auditing.{cause_of, findings_from, found_as}
use Rattle.ov_history.proofs.ChangeLaws.{below_some}
use Rattle.ov_exposure.proofs.Moments.{known_later}
use Rattle.ov_exposure.proofs.Noting.{findings_are_exact}
use Rattle.ov_history.proofs.Staying.{numbers_stay}

-- ---- one finding more or none

-- the finding is that of this file, by this cause
abbrev IsOf : ℕ → List ℕ → Option (Cause × ℕ) → Finding → Type 0
IsOf file name o x = (x.file ≡ file) × (x.name ≡ name) × (o ≡ Some (x.cause, x.epoch))

in_found : (file : ℕ) (name : List ℕ) (o : Option (Cause × ℕ)) (rest : List Finding) (x : Finding)
    → Contains (found_as file name o rest) x → IsOf file name o x ⊎ Contains rest x
in_found file name None rest x there = inr there
in_found file name (Some (cause, epoch)) rest x there =
    elim
    (Contains-cases (record { file = file; name = name; cause = cause; epoch = epoch }) rest x there) [
      | inl is ↦ inl (
        sym (ap (λ (f : Finding). f.file) is),
        sym (ap (λ (f : Finding). f.name) is),
        ap (λ (f : Finding). Some (f.cause, f.epoch)) is,
      )
      | inr later ↦ inr later
    ]

found_first : (file : ℕ) (name : List ℕ) (o : Option (Cause × ℕ)) (rest : List Finding)
    (x : Finding)
    → IsOf file name o x → Contains (found_as file name o rest) x
found_first file name o rest x (numbered, named, is) =
    subst (λ (p : Option (Cause × ℕ)). Contains (found_as file name p rest) x) (sym is)
    (subst (λ n. Contains (found_as n name (Some (x.cause, x.epoch)) rest) x) numbered
    (subst (λ n. Contains (found_as x.file n (Some (x.cause, x.epoch)) rest) x) named
    (Contains-first x rest)))

found_later : (file : ℕ) (name : List ℕ) (o : Option (Cause × ℕ)) (rest : List Finding)
    (x : Finding)
    → Contains rest x → Contains (found_as file name o rest) x
found_later file name None rest x there = there
found_later file name (Some (cause, epoch)) rest x there =
    Contains-later (record { file = file; name = name; cause = cause; epoch = epoch }) rest x there

-- ---- all findings

-- the finding is that of some note
abbrev IsOfNote : Bool → ℕ → List Note → Finding → Type 0
IsOfNote server n notes x =
    (k : ℕ) × (note : Note) × (slice_get notes k ≡ Some note)
    × IsOf (n + k) note.name (cause_of server note) x

of_note : (server : Bool) (n : ℕ) (notes : List Note) (x : Finding)
    → Contains (findings_from server n notes) x → IsOfNote server n notes x
of_note server n [] x there = absurd (Contains-none x there)
of_note server n (note ∷ notes) x there =
    elim
    (in_found n note.name (cause_of server note) (findings_from server (n + 1) notes) x there) [
      | inl is ↦ (0, note, refl, (omega (arith, is.0), is.1, is.2))
      | inr later ↦
          let (k, other, at, is) = of_note server (n + 1) notes x later in
          (suc k, other, at, (omega (arith, is.0), is.1, is.2))
    ]

by_note : (server : Bool) (n : ℕ) (notes : List Note) (k : ℕ) (note : Note) (x : Finding)
    → slice_get notes k ≡ Some note → IsOf (n + k) note.name (cause_of server note) x
    → Contains (findings_from server n notes) x
by_note server n [] k note x at is = absurd (cc)
by_note server n (first ∷ notes) zero note x at is =
    let same : first ≡ note = ap (λ (o : Option Note). unwrap_or o first) at in
    found_first n first.name (cause_of server first) (findings_from server (n + 1) notes) x
    (subst (λ (it : Note). IsOf n it.name (cause_of server it) x) (sym same)
    (omega (arith, is.0), is.1, is.2))
by_note server n (first ∷ notes) (suc k) note x at is =
    found_later n first.name (cause_of server first) (findings_from server (n + 1) notes) x
    (by_note server (n + 1) notes k note x at (omega (arith, is.0), is.1, is.2))

-- ---- the laws

pub findings_are_those : FindingsAreThose
findings_are_those server g users notes x seen = (
  λ there.
      let (k, note, at, is) = of_note server 0 notes x there in
      let same : x.file ≡ k = omega (arith, is.0) in
      let here : slice_get notes x.file ≡ Some note =
      subst (λ n. slice_get notes n ≡ Some note) (sym same) at in
      let tells = seen.1 x.file note here in
      let made = tells.made in (
        (findings_are_exact server g users x.file note x.cause x.epoch tells).0 is.2,
        (
          made.0.0,
          made.0.1,
          made.0.2,
          tells.name made.0.0 made.0.1 made.0.2 ∙ sym is.1,
        ),
      ),
  λ (exposed, (before, (after, is), there, named)).
      let low : x.file < length (matrix_of (outer_of g)).files =
      subst (λ (h : History). x.file < length (matrix_of h).files) (known_later g before after is)
      (numbers_stay (known_at g before) (outer_all after) x.file
      (below_some (matrix_of (known_at g before)).files x.file there)) in
      elim (slice_get_cases notes x.file).1 [
        | inl some ↦
            let tells = seen.1 x.file some.0 some.2 in
            by_note server 0 notes x.file some.0 x some.2 (
              omega arith,
              sym named ∙ tells.name before (after, is) there,
              (findings_are_exact server g users x.file some.0 x.cause x.epoch tells).1 exposed,
            )
        | inr none ↦ absurd (omega (arith, none.0, seen.0, low))
      ],
)

item_in : (xs : List Finding) (n : ℕ) (x : Finding) → slice_get xs n ≡ Some x → Contains xs x
item_in [] n x at = absurd (cc)
item_in (first ∷ xs) zero x at =
    subst (λ (y : Finding). Contains (first ∷ xs) y)
    (ap (λ (o : Option Finding). unwrap_or o first) at) (Contains-first first xs)
item_in (first ∷ xs) (suc n) x at = Contains-later first xs x (item_in xs n x at)

-- later ones have greater numbers
rise_as : (file : ℕ) (name : List ℕ) (o : Option (Cause × ℕ)) (rest : List Finding) (m n : ℕ)
    (one other : Finding)
    → ((x : Finding) → Contains rest x → file < x.file)
    → ((i j : ℕ) → i < j → slice_get rest i ≡ Some one → slice_get rest j ≡ Some other
    → one.file < other.file)
    → m < n → slice_get (found_as file name o rest) m ≡ Some one
    → slice_get (found_as file name o rest) n ≡ Some other
    → one.file < other.file
rise_as file name None rest m n one other past rise before at then_at = rise m n before at then_at
rise_as file name (Some (cause, epoch)) rest m zero one other past rise before at then_at =
    absurd (omega (arith, before))
rise_as file name (Some (cause, epoch)) rest zero (suc n) one other past rise before at then_at =
    let first : Finding = record { file = file; name = name; cause = cause; epoch = epoch } in
    let same : file ≡ one.file = ap (λ (o : Option Finding). (unwrap_or o first).file) at in
    omega (arith, same, past other (item_in rest n other then_at))
rise_as file name (Some (cause, epoch)) rest (suc m) (suc n) one other past rise before at then_at =
    rise m n (omega (arith, before)) at then_at

rise_from : (server : Bool) (file : ℕ) (notes : List Note) (m n : ℕ) (one other : Finding)
    → m < n → slice_get (findings_from server file notes) m ≡ Some one
    → slice_get (findings_from server file notes) n ≡ Some other
    → one.file < other.file
rise_from server file [] m n one other before at then_at = absurd (cc)
rise_from server file (note ∷ notes) m n one other before at then_at =
    rise_as file note.name (cause_of server note) (findings_from server (file + 1) notes) m n one
    other
    (λ x there.
    let found = of_note server (file + 1) notes x there in
    omega (arith, found.3.0))
    (λ i j. rise_from server (file + 1) notes i j one other)
    before at then_at

pub findings_are_in_order : FindingsAreInOrder
findings_are_in_order server notes m n one other before at then_at =
    rise_from server 0 notes m n one other before at then_at
