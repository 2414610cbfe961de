-- Lists with one item changed.
use Rattle.std.proofs.Common.{◌≡◌, ◌≢◌, ◌<◌, arith, ℕ, zero, suc, List, [], ◌∷◌, length, map, refl, ap, sym}
use Rattle.std.specs.Prelude.{slice_index_or}
use Rattle.ov_history.specs.Places.{change_at}
use Rattle.std.specs.Prelude.{option_map}
use Rattle.std.specs.Prelude.{Option}
use Rattle.std.specs.Prelude.{Some}
use Rattle.std.specs.Prelude.{None}
use Rattle.std.specs.Prelude.{is_some}
use Rattle.std.specs.Prelude.{◌++◌}
use Rattle.std.specs.Prelude.{true}
use Rattle.ov_history.specs.Places.{living_at}
use Rattle.ov_history.specs.Places.{gone}

pub length-change_at : {A : Type 0} (f : A → A) (place : ℕ) (xs : List A)
    → length (change_at f place xs) ≡ length xs
length-change_at f place [] = refl
length-change_at f zero (x ∷ xs) = refl
length-change_at f (suc place) (x ∷ xs) = ap suc (length-change_at f place xs)

-- what is seen of each item, where the change of an item is seen as another
pub map-change_at : {A B : Type 0} (g : A → B) (f : A → A) (h : B → B)
    → ((x : A) → g (f x) ≡ h (g x))
    → (place : ℕ) (xs : List A) → map g (change_at f place xs) ≡ change_at h place (map g xs)
map-change_at g f h same place [] = refl
map-change_at g f h same zero (x ∷ xs) = ap (λ y. y ∷ map g xs) (same x)
map-change_at g f h same (suc place) (x ∷ xs) =
    ap (λ ys. g x ∷ ys) (map-change_at g f h same place xs)

-- what isn't gone is there still, and nothing else
pub is_some-change : {A : Type 0} (f : A → A) (place : ℕ) (xs : List (Option A)) (n : ℕ)
    → is_some (living_at (change_at (option_map f) place xs) n) ≡ is_some (living_at xs n)
is_some-change f place [] n = refl
is_some-change f zero (None ∷ xs) zero = refl
is_some-change f zero (Some x ∷ xs) zero = refl
is_some-change f zero (x ∷ xs) (suc n) = refl
is_some-change f (suc place) (x ∷ xs) zero = refl
is_some-change f (suc place) (x ∷ xs) (suc n) = is_some-change f place xs n

-- what is there after something else is gone was there before
pub gone_other : {A : Type 0} (place : ℕ) (xs : List (Option A)) (n : ℕ)
    → is_some (living_at (change_at gone place xs) n) ≡ true
    → living_at (change_at gone place xs) n ≡ living_at xs n
gone_other place [] n there = refl
gone_other zero (x ∷ xs) zero there = absurd (cc)
gone_other zero (x ∷ xs) (suc n) there = refl
gone_other (suc place) (x ∷ xs) zero there = refl
gone_other (suc place) (x ∷ xs) (suc n) there = gone_other place xs n there

-- what is there after something else is gone has another number
pub gone_not : {A : Type 0} (place : ℕ) (xs : List (Option A)) (n : ℕ)
    → is_some (living_at (change_at gone place xs) n) ≡ true → n ≢ place
gone_not place [] n there same = absurd (cc)
gone_not zero (x ∷ xs) zero there same = absurd (cc)
gone_not zero (x ∷ xs) (suc n) there same = absurd (cc)
gone_not (suc place) (x ∷ xs) zero there same = absurd (cc)
gone_not (suc place) (x ∷ xs) (suc n) there same = gone_not place xs n there (cc)

pub some-there : {A : Type 0} (o : Option A) (x : A) → o ≡ Some x → is_some o ≡ true
some-there None x is = absurd (cc)
some-there (Some y) x is = refl

-- there is a number for each that isn't gone
pub below_some : {A : Type 0} (xs : List (Option A)) (n : ℕ) → is_some (living_at xs n) ≡ true
    → n < length xs
below_some [] n there = absurd (cc)
below_some (x ∷ xs) zero there = omega arith
below_some (x ∷ xs) (suc n) there = omega (arith, below_some xs n there)

-- an item that isn't gone has its number with more behind it
pub is_some-append : {A : Type 0} (xs more : List (Option A)) (n : ℕ)
    → is_some (living_at xs n) ≡ true → is_some (living_at (xs ++ more) n) ≡ true
is_some-append [] more n there = absurd (cc)
is_some-append (x ∷ xs) more zero there = there
is_some-append (x ∷ xs) more (suc n) there = is_some-append xs more n there

-- the item at the place is changed, as is what stands for an item that isn't there
pub change_at-here : {A : Type 0} (f : A → A) (place : ℕ) (xs : List A) (d : A) → f d ≡ d
    → slice_index_or (change_at f place xs) place d ≡ f (slice_index_or xs place d)
change_at-here f place [] d same = sym same
change_at-here f zero (x ∷ xs) d same = refl
change_at-here f (suc place) (x ∷ xs) d same = change_at-here f place xs d same

-- an item at another place isn't changed
pub change_at-other : {A : Type 0} (f : A → A) (place n : ℕ) (xs : List A) (d : A) → n ≢ place
    → slice_index_or (change_at f place xs) n d ≡ slice_index_or xs n d
change_at-other f place n [] d other = refl
change_at-other f zero zero (x ∷ xs) d other = absurd (other refl)
change_at-other f zero (suc n) (x ∷ xs) d other = refl
change_at-other f (suc place) zero (x ∷ xs) d other = refl
change_at-other f (suc place) (suc n) (x ∷ xs) d other =
    change_at-other f place n xs d (λ same. other (ap suc same))
