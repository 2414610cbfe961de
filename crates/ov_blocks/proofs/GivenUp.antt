-- Extents that are given up at once.
use Rattle.std.proofs.Common.{◌≡◌, ◌⊎◌, inl, inr, ℕ, zero, suc, ◌+◌, ◌≤◌, ◌<◌, List, [], ◌∷◌, length, get_or, Bool, true, false, cond, eqb, if◌then◌else◌, is_err, Result, Ok, Err, refl, sym, ◌∙◌, ap, subst, arith}
use Rattle.std.specs.Prelude.{All, Contains, MatchResult}
use Rattle.std.specs.List.{filter}
use Rattle.std.specs.List.Sorted.{IsBinarySearchResult, IsStrictlyIncreasing}
use Rattle.std.specs.Ordering.{nat_cmp}
use Rattle.std.proofs.lemmas.Bool.{cases_lt}
use Rattle.std.proofs.lemmas.Bool.Decides.{eqb_tells}
use Rattle.std.proofs.lemmas.List.{get_or_default}
use Rattle.std.proofs.lemmas.List.Sorted.{searched}
use Rattle.ov_blocks.specs.declared.extents.Extent.{Extent}
use Rattle.ov_blocks.specs.Extents.{AreApart, AreGivenUp, BeginsOne}
use Rattle.ov_blocks.specs.Places.{TellsNone}
use Rattle.ov_blocks.proofs.Places.{from_less, one}

-- ---- members of a list with one more in front

pub behind : {X : Type 0} (x y : X) (xs : List X) → Contains xs y → Contains (x ∷ xs) y
behind x y xs (k, lt, is) = (suc k, omega (arith, lt), is)

pub in_rest : {X : Type 0} (x y : X) (xs : List X) → Contains (x ∷ xs) y → (x ≡ y → ⊥) → Contains xs y
in_rest x y xs (zero, lt, is) differ = absurd (differ is)
in_rest x y xs (suc k, lt, is) differ = (k, omega (arith, lt), is)

-- ---- what a test keeps

passed : (test : Extent → Bool) (x : Extent) (xs : List Extent) → test x ≡ true → filter test (x ∷ xs) ≡ x ∷ filter test xs
passed test x xs is = ap (λ (b : Bool). cond b (x ∷ filter test xs) (filter test xs)) is

left_out : (test : Extent → Bool) (x : Extent) (xs : List Extent) → test x ≡ false → filter test (x ∷ xs) ≡ filter test xs
left_out test x xs is = ap (λ (b : Bool). cond b (x ∷ filter test xs) (filter test xs)) is

true_or_false : (b : Bool) → (b ≡ true) ⊎ (b ≡ false)
true_or_false true = inl refl
true_or_false false = inr refl

kept : (test : Extent → Bool) (xs : List Extent) (e : Extent) → Contains xs e → test e ≡ true → Contains (filter test xs) e
kept test [] e (k, lt, is) stays = absurd (omega (arith, lt))
kept test (x ∷ xs) e (zero, lt, is) stays =
    subst (λ (l : List Extent). Contains l e) (sym (passed test x xs (ap test is ∙ stays))) (0, omega arith, is)
kept test (x ∷ xs) e (suc k, lt, is) stays =
    let more = kept test xs e (k, omega (arith, lt), is) stays in
    elim (true_or_false (test x)) [
      | inl passes ↦ subst (λ (l : List Extent). Contains l e) (sym (passed test x xs passes)) (behind x e (filter test xs) more)
      | inr fails ↦ subst (λ (l : List Extent). Contains l e) (sym (left_out test x xs fails)) more
    ]

was_first : (test : Extent → Bool) (x : Extent) (xs : List Extent) (e : Extent) → (Contains (filter test xs) e → Contains xs e × (test e ≡ true))
    → test x ≡ true → Contains (x ∷ filter test xs) e → Contains (x ∷ xs) e × (test e ≡ true)
was_first test x xs e rest passes (zero, lt, is) = ((0, omega arith, is), ap test (sym is) ∙ passes)
was_first test x xs e rest passes (suc k, lt, is) = let more = rest (k, omega (arith, lt), is) in (behind x e xs more.0, more.1)

was : (test : Extent → Bool) (xs : List Extent) (e : Extent) → Contains (filter test xs) e → Contains xs e × (test e ≡ true)
was test [] e (k, lt, is) = absurd (omega (arith, lt))
was test (x ∷ xs) e there = elim (true_or_false (test x)) [
  | inl passes ↦ was_first test x xs e (was test xs e) passes (subst (λ (l : List Extent). Contains l e) (passed test x xs passes) there)
  | inr fails ↦ let more = was test xs e (subst (λ (l : List Extent). Contains l e) (left_out test x xs fails) there) in (behind x e xs more.0, more.1)
]

pub still_apart : (test : Extent → Bool) (from : ℕ) (held : List Extent) → AreApart from held → AreApart from (filter test held)
still_apart test from [] apart = apart
still_apart test from (x ∷ held) apart =
    let more = still_apart test (x.first + x.length) held apart.2 in
    elim (true_or_false (test x)) [
      | inl passes ↦ subst (AreApart from) (sym (passed test x held passes)) (apart.0, apart.1, more)
      | inr fails ↦ subst (AreApart from) (sym (left_out test x held fails)) (from_less (x.first + x.length) from (filter test held) more (omega (arith, apart.0)))
    ]

-- ---- blocks that rise

pub rest_rises : (n : ℕ) (gone : List ℕ) → IsStrictlyIncreasing (n ∷ gone) → IsStrictlyIncreasing gone
rest_rises n gone rises k lt =
    let next : suc k + 1 ≡ suc (k + 1) = omega arith in
    subst (λ (j : ℕ). get_or gone k 0 < get_or (n ∷ gone) j 0) next (rises (suc k) (omega (arith, lt)))

pub above_at : (n : ℕ) (gone : List ℕ) (k : ℕ) → IsStrictlyIncreasing (n ∷ gone) → k < length gone → n < get_or gone k 0
above_at n [] k rises lt = absurd (omega (arith, lt))
above_at n (m ∷ gone) zero rises lt = rises 0 (omega (arith, lt))
above_at n (m ∷ gone) (suc k) rises lt =
    omega (arith, rises 0 (omega arith), above_at m gone k (rest_rises n (m ∷ gone) rises) (omega (arith, lt)))

above : (n m : ℕ) (gone : List ℕ) → IsStrictlyIncreasing (n ∷ gone) → Contains gone m → n < m
above n m gone rises (k, lt, is) = omega (arith, above_at n gone k rises lt, get_or_default gone k 0 m lt, is)

-- ---- how many they are

-- the others begin behind the first one
pub others_behind : (from : ℕ) (x e : Extent) (held : List Extent) → AreApart from (x ∷ held) → Contains held e → x.first < e.first
others_behind from x e held apart (k, lt, is) =
    let here = one (x.first + x.length) held k e apart.2 lt in
    omega (arith, here.begins, apart.1, ap (λ (y : Extent). y.first) is)

begins_in_rest : (x : Extent) (held : List Extent) (n : ℕ) → BeginsOne (x ∷ held) n → (x.first ≡ n → ⊥) → BeginsOne held n
begins_in_rest x held n (e, there, is) differ = (e, in_rest x e held there (λ same. differ (ap (λ (y : Extent). y.first) same ∙ is)), is)

-- the lowest of the blocks is where the first extent begins, if that is one of them
lowest_is_first : (from : ℕ) (x : Extent) (held : List Extent) (n : ℕ) (gone : List ℕ) → AreApart from (x ∷ held) → IsStrictlyIncreasing (n ∷ gone)
    → BeginsOne (x ∷ held) n → Contains (n ∷ gone) x.first → n ≡ x.first
lowest_is_first from x held n gone apart rises begins (zero, lt, is) = is
lowest_is_first from x held n gone apart rises (e, (zero, below, same), is_n) (suc k, lt, is) = sym is_n ∙ ap (λ (y : Extent). y.first) (sym same)
lowest_is_first from x held n gone apart rises (e, (suc j, below, same), is_n) (suc k, lt, is) = absurd (
    let later = others_behind from x e held apart (j, omega (arith, below), same) in
    let lower = above n x.first gone rises (k, omega (arith, lt), is) in
    omega (arith, later, lower, is_n))

tells_rest : (n : ℕ) (gone : List ℕ) (block : ℕ) (b : Bool) → (n ≡ block → ⊥) → TellsNone block (n ∷ gone) b → TellsNone block gone b
tells_rest n gone block true differ none = λ there. none (behind n block gone there)
tells_rest n gone block false differ there = in_rest n block gone there differ

-- so many fewer they are, whichever blocks the test tells
abbrev IsCounted : (Extent → Bool) → List Extent → Type 0
IsCounted test held =
    (gone : List ℕ) → IsStrictlyIncreasing gone → All (BeginsOne held) gone → ((e : Extent) → Contains held e → TellsNone e.first gone (test e)) → length (filter test held) + length gone ≡ length held

module _ (test : Extent → Bool) (from : ℕ) (x : Extent) (held : List Extent) (apart : AreApart from (x ∷ held)) (rest : IsCounted test held) where
  -- the first one stays
  count_stays : (gone : List ℕ) → IsStrictlyIncreasing gone → All (BeginsOne (x ∷ held)) gone → ((e : Extent) → Contains (x ∷ held) e → TellsNone e.first gone (test e))
      → test x ≡ true → (Contains gone x.first → ⊥) → length (filter test (x ∷ held)) + length gone ≡ length (x ∷ held)
  count_stays gone rises begins tells stays none =
      let more = rest gone rises
      (λ k d lt. begins_in_rest x held (get_or gone k d) (begins k d lt) (λ same. none (k, lt, get_or_default gone k x.first d lt ∙ sym same)))
      (λ e is. tells e (behind x e held is)) in
      omega (arith, ap (length {A = Extent}) (passed test x held stays), more)

  -- the first one goes
  count_goes : (gone : List ℕ) → IsStrictlyIncreasing gone → All (BeginsOne (x ∷ held)) gone → ((e : Extent) → Contains (x ∷ held) e → TellsNone e.first gone (test e))
      → test x ≡ false → Contains gone x.first → length (filter test (x ∷ held)) + length gone ≡ length (x ∷ held)
  count_goes [] rises begins tells goes (k, lt, is) = absurd (omega (arith, lt))
  count_goes (n ∷ gone) rises begins tells goes there =
      let same = lowest_is_first from x held n gone apart rises (begins 0 n (omega arith)) there in
      let more = rest gone (rest_rises n gone rises)
      (λ k d lt. begins_in_rest x held (get_or gone k d) (begins (suc k) d (omega (arith, lt)))
      (λ is. omega (arith, is, same, above_at n gone k rises lt, get_or_default gone k 0 d lt)))
      (λ e is. tells_rest n gone e.first (test e) (λ at. omega (arith, at, same, others_behind from x e held apart is)) (tells e (behind x e held is))) in
      omega (arith, ap (length {A = Extent}) (left_out test x held goes), more)

count : (test : Extent → Bool) (from : ℕ) (held : List Extent) → AreApart from held → IsCounted test held
count test from [] apart [] rises begins tells = refl
count test from [] apart (n ∷ gone) rises begins tells = let none = begins 0 n (omega arith) in absurd (omega (arith, none.1.1))
count test from (x ∷ held) apart gone rises begins tells =
    let rest = count test (x.first + x.length) held apart.2 in
    let here = tells x (0, omega arith, refl) in
    elim (true_or_false (test x)) [
      | inl stays ↦ count_stays test from x held apart rest gone rises begins tells stays (subst (TellsNone x.first gone) stays here)
      | inr goes ↦ count_goes test from x held apart rest gone rises begins tells goes (subst (TellsNone x.first gone) goes here)
    ]

-- ---- all of it

pub given_up : (test : Extent → Bool) (held : List Extent) (gone : List ℕ) → AreApart 0 held → IsStrictlyIncreasing gone → All (BeginsOne held) gone
    → ((e : Extent) → TellsNone e.first gone (test e)) → AreGivenUp gone held (filter test held)
given_up test held gone apart rises begins tells = record {
  kept = λ e is stays. elim (true_or_false (test e)) [
    | inl passes ↦ kept test held e is passes
    | inr fails ↦ absurd (stays (subst (TellsNone e.first gone) fails (tells e)))
  ];
  less = λ e is. (was test held e is).0;
  none = λ e is. subst (TellsNone e.first gone) (was test held e is).1 (tells e);
  many = count test 0 held apart gone rises begins (λ e is. tells e);
}

-- ---- the test

-- whether the block is none of these
abbrev pub none_of : List ℕ → ℕ → Bool
none_of [] block = true
none_of (n ∷ gone) block = if eqb n block then false else none_of gone block

tells_more : (n : ℕ) (gone : List ℕ) (block : ℕ) → TellsNone block gone (none_of gone block) → TellsNone block (n ∷ gone) (none_of (n ∷ gone) block)
tells_more n gone block rest = elim (eqb_tells n block) [
  | inl same ↦ subst (TellsNone block (n ∷ gone)) (sym (ap (λ (b : Bool). if b then false else none_of gone block) same.0)) (0, omega arith, same.1)
  | inr not ↦ subst (TellsNone block (n ∷ gone)) (sym (ap (λ (b : Bool). if b then false else none_of gone block) not.0)) (more (none_of gone block) not.1 rest)
] where
  more : (b : Bool) → (n ≡ block → ⊥) → TellsNone block gone b → TellsNone block (n ∷ gone) b
  more true differ none = λ there. none (in_rest n block gone there differ)
  more false differ there = behind n block gone there

pub tells : (gone : List ℕ) (block : ℕ) → TellsNone block gone (none_of gone block)
tells [] block = λ there. omega (arith, there.1)
tells (n ∷ gone) block = tells_more n gone block (tells gone block)

-- there is one answer
pub one_answer : (gone : List ℕ) (block : ℕ) (b : Bool) → TellsNone block gone b → b ≡ none_of gone block
one_answer gone block b is = by_both b (none_of gone block) is (tells gone block) where
  by_both : (a b : Bool) → TellsNone block gone a → TellsNone block gone b → a ≡ b
  by_both true true x y = refl
  by_both false false x y = refl
  by_both true false x y = absurd (x y)
  by_both false true x y = absurd (y x)

in_order : (gone : List ℕ) (i j : ℕ) → IsStrictlyIncreasing gone → i ≤ j → j < length gone → get_or gone i 0 ≤ get_or gone j 0
in_order [] i j rises le lt = absurd (omega (arith, lt))
in_order (n ∷ gone) zero zero rises le lt = omega arith
in_order (n ∷ gone) zero (suc j) rises le lt = omega (arith, above_at n gone j rises (omega (arith, lt)))
in_order (n ∷ gone) (suc i) zero rises le lt = absurd (omega (arith, le))
in_order (n ∷ gone) (suc i) (suc j) rises le lt = in_order gone i j (rest_rises n gone rises) (omega (arith, le)) (omega (arith, lt))

-- what a search by halves finds
pub found : (gone : List ℕ) (block : ℕ) (r : Result ℕ ℕ) → IsStrictlyIncreasing gone → IsBinarySearchResult (λ y. nat_cmp y block) gone r → TellsNone block gone (is_err r)
found gone block r rises is = by_result r (searched gone block r is (λ i j le lt. in_order gone i j rises le lt)) where
  by_result : (r : Result ℕ ℕ) → MatchResult r (λ i. (i < length gone) × (get_or gone i 0 ≡ block))
      (λ i. (i ≤ length gone) × ((k : ℕ) → k < i → get_or gone k 0 < block) × ((k : ℕ) → i ≤ k → k < length gone → block < get_or gone k 0))
      → TellsNone block gone (is_err r)
  by_result (Ok i) here = (i, here.0, get_or_default gone i block 0 here.0 ∙ here.1)
  by_result (Err i) none = λ there.
      let at = get_or_default gone there.0 0 block there.1 ∙ there.2 in
      elim (cases_lt there.0 i) [
        | inl low ↦ omega (arith, none.1 there.0 low, at)
        | inr high ↦ omega (arith, none.2 there.0 high there.1, at)
      ]
