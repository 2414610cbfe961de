-- What is held with one extent more, or with one less.
use Rattle.std.proofs.Common.{◌≡◌, ◌⊎◌, inl, inr, ℕ, zero, suc, ◌+◌, ◌<◌, List, [], ◌∷◌, ◌++◌, length, get_or, take, refl, sym, ◌∙◌, ap, subst, arith}
use Rattle.std.specs.Prelude.{All, Contains}
use Rattle.std.specs.List.Sorted.{IsStrictlyIncreasing}
use Rattle.std.proofs.lemmas.List.{get_or-take, get_or_default, length-append, length-take-le}
use Rattle.std.proofs.lemmas.List.Elements.{Contains-append_cases, Contains-append_left, Contains-append_right}
use Rattle.ov_blocks.specs.declared.extents.Extent.{Extent}
use Rattle.ov_blocks.specs.Extents.{AreApart, AreGivenUp, BeginsOne, IsWith}
use Rattle.ov_blocks.proofs.GivenUp.{above_at, others_behind, rest_rises}

-- ---- one extent more

contains_more : (front back : List Extent) (e x : Extent) → Contains (front ++ back) x → Contains (front ++ e ∷ back) x
contains_more [] back e x (k, lt, is) = (suc k, omega (arith, lt), is)
contains_more (f ∷ front) back e x (zero, lt, is) = (0, omega arith, is)
contains_more (f ∷ front) back e x (suc k, lt, is) =
    let more = contains_more front back e x (k, omega (arith, lt), is) in (suc more.0, omega (arith, more.1), more.2)

contains_new : (front back : List Extent) (e : Extent) → Contains (front ++ e ∷ back) e
contains_new [] back e = (0, omega arith, refl)
contains_new (f ∷ front) back e = let more = contains_new front back e in (suc more.0, omega (arith, more.1), more.2)

-- the new one, or one of the others
pub contains_split : (front back : List Extent) (e x : Extent) → Contains (front ++ e ∷ back) x → (e ≡ x) ⊎ Contains (front ++ back) x
contains_split [] back e x (zero, lt, is) = inl is
contains_split [] back e x (suc k, lt, is) = inr (k, omega (arith, lt), is)
contains_split (f ∷ front) back e x (zero, lt, is) = inr (0, omega arith, is)
contains_split (f ∷ front) back e x (suc k, lt, is) = elim (contains_split front back e x (k, omega (arith, lt), is)) [
  | inl same ↦ inl same
  | inr less ↦ inr (suc less.0, omega (arith, less.1), less.2)
]

pub was_held : (e x : Extent) (old new : List Extent) → IsWith e old new → Contains old x → Contains new x
was_held e x old new with is =
    subst (λ (l : List Extent). Contains l x) (sym with.after) (contains_more with.front with.back e x (subst (λ (l : List Extent). Contains l x) with.before is))

pub is_held : (e : Extent) (old new : List Extent) → IsWith e old new → Contains new e
is_held e old new with = subst (λ (l : List Extent). Contains l e) (sym with.after) (contains_new with.front with.back e)

-- ---- one extent less

-- none of the others begins where this one begins
gone_from : (from : ℕ) (front back : List Extent) (e x : Extent) → AreApart from (front ++ e ∷ back) → Contains (front ++ back) x → e.first ≡ x.first → ⊥
gone_from from [] back e x apart is same = omega (arith, others_behind from e x back apart is, same)
gone_from from (f ∷ front) back e x apart (zero, lt, is) same =
    omega (arith, others_behind from f e (front ++ e ∷ back) apart (contains_new front back e), same, ap (λ (y : Extent). y.first) is)
gone_from from (f ∷ front) back e x apart (suc k, lt, is) same = gone_from (f.first + f.length) front back e x apart.2 (k, omega (arith, lt), is) same

pub gone : (e x : Extent) (old new : List Extent) → AreApart 0 old → IsWith e new old → Contains new x → e.first ≡ x.first → ⊥
gone e x old new apart with is same =
    gone_from 0 with.front with.back e x (subst (AreApart 0) with.after apart) (subst (λ (l : List Extent). Contains l x) with.before is) same

pub still_held : (e x : Extent) (old new : List Extent) → IsWith e new old → Contains old x → (e.first ≡ x.first → ⊥) → Contains new x
still_held e x old new with is differ = elim (contains_split with.front with.back e x (subst (λ (l : List Extent). Contains l x) with.after is)) [
  | inl same ↦ absurd (differ (ap (λ (y : Extent). y.first) same))
  | inr less ↦ subst (λ (l : List Extent). Contains l x) (sym with.before) less
]

-- ---- given up one by one

only_one : (n m : ℕ) → Contains (n ∷ []) m → n ≡ m
only_one n m (zero, lt, is) = is
only_one n m (suc k, lt, is) = absurd (omega (arith, lt))

pub one_given_up : (first : ℕ) (e : Extent) (old new : List Extent) → AreApart 0 old → e.first ≡ first → IsWith e new old → AreGivenUp (first ∷ []) old new
one_given_up first e old new apart begins with = record {
  kept = λ x is stays. still_held e x old new with is (λ same. stays (0, omega arith, sym begins ∙ same));
  less = λ x is. was_held e x new old with is;
  none = λ x is there. gone e x old new apart with is (begins ∙ only_one first x.first there);
  many = omega (arith, ap (length {A = Extent}) with.before, ap (length {A = Extent}) with.after, length-append with.front with.back, length-append with.front (e ∷ with.back));
}

pub none_given_up : (held : List Extent) → AreGivenUp [] held held
none_given_up held = record {
  kept = λ e is stays. is;
  less = λ e is. is;
  none = λ e is there. omega (arith, there.1);
  many = omega arith;
}

-- these, and then those
pub more_given_up : (gone more : List ℕ) (old mid new : List Extent) → AreGivenUp gone old mid → AreGivenUp more mid new → AreGivenUp (gone ++ more) old new
more_given_up gone more old mid new was now = record {
  kept = λ e is stays. now.kept e (was.kept e is (λ there. stays (Contains-append_left gone more e.first there))) (λ there. stays (Contains-append_right gone more e.first there));
  less = λ e is. was.less e (now.less e is);
  none = λ e is there. elim (Contains-append_cases gone more e.first there) [
    | inl before ↦ was.none e (now.less e is) before
    | inr last ↦ now.none e is last
  ];
  many = omega (arith, was.many, now.many, length-append gone more);
}

higher : (gone : List ℕ) (i j : ℕ) → IsStrictlyIncreasing gone → i < j → j < length gone → get_or gone i 0 < get_or gone j 0
higher [] i j rises lt below = absurd (omega (arith, below))
higher (n ∷ gone) i zero rises lt below = absurd (omega (arith, lt))
higher (n ∷ gone) zero (suc j) rises lt below = above_at n gone j rises (omega (arith, below))
higher (n ∷ gone) (suc i) (suc j) rises lt below = higher gone i j (rest_rises n gone rises) (omega (arith, lt)) (omega (arith, below))

-- the first of these blocks don't have the next one
not_before : (gone : List ℕ) (k n : ℕ) → IsStrictlyIncreasing gone → k < length gone → n ≡ get_or gone k 0 → Contains (take k gone) n → ⊥
not_before gone k n rises lt next (j, below, is) =
    let low : j < k = omega (arith, below, length-take-le k gone (omega (arith, lt))) in
    omega (arith, higher gone j k rises low lt, get_or_default gone j n 0 (omega (arith, low, lt)), get_or-take k gone j n low, is, next)

-- so the extent at the next one is still held
pub next_begins : (gone : List ℕ) (k : ℕ) (old mid : List Extent) → IsStrictlyIncreasing gone → All (BeginsOne old) gone → k < length gone → AreGivenUp (take k gone) old mid
    → BeginsOne mid (get_or gone k 0)
next_begins gone k old mid rises begins lt was =
    let here = begins k 0 lt in
    (here.0, was.kept here.0 here.1 (not_before gone k here.0.first rises lt here.2), here.2)
