-- What a stop leaves of a disk in memory is one of the images that a crash may leave.
use Rattle.std.proofs.Common.{◌≡◌, ℕ, zero, suc, ◌+◌, ◌≤◌, ◌<◌, List, [], ◌∷◌, length, take, drop, replicate, get_or, Some, None, Bool, true, false, if◌then◌else◌, leb, ltb, refl, sym, ◌∙◌, ap, subst, arith, length-drop}
use Rattle.std.proofs.lemmas.List.{drop_all, drop_more}
use Rattle.std.proofs.lemmas.Bool.{leb-true}
use Rattle.ov_disk.specs.declared.area.Area.{Area}
use Rattle.ov_disk.specs.declared.area.Area.TheVariants.{Book, Blobs}
use Rattle.ov_disk.specs.declared.change.Change.{Change}
use Rattle.ov_disk.specs.declared.change.Change.TheVariants.{Write, Sync}
use Rattle.ov_disk.specs.declared.change.Tear.{Tear}
use Rattle.ov_disk.specs.declared.change.Tear.TheVariants.{Old, New, Fill}
use Rattle.ov_disk.specs.Disk.{Image, bytes_of, overwritten, written, Torn, TornIn}
use Rattle.ov_disk.specs.Tape.{replayed, LeftBy, Leaves, LeftSince, number_of, kept_if, before, Stop, stop, torn_write, stepped_all, torn}
use Rattle.ov_disk.specs.TapeLaws.{length-overwritten, torn_in_done, guarded}

-- the end of the list
pub at_end : (tear : Tear) (call : ℕ) (xs : List Change) (n : ℕ) (s t : Stop) → length xs ≤ n → stepped_all tear (before call (drop n xs)) s ≡ t → s ≡ t
at_end tear call xs n s t le is = ap (λ (l : List Change). stepped_all tear (before call l) s) (sym (drop_all n xs le)) ∙ is

kept_none : (x : Change) (call : ℕ) (xs : List Change) → ltb (number_of x) call ≡ false → before call (x ∷ xs) ≡ []
kept_none x call xs test = ap (λ (b : Bool). kept_if b x (before call xs)) test

-- the first change of a later call
pub at_call : (tear : Tear) (call : ℕ) (xs : List Change) (n : ℕ) (x : Change) (s t : Stop) → n < length xs → get_or xs n x ≡ x → ltb (number_of x) call ≡ false
    → stepped_all tear (before call (drop n xs)) s ≡ t → s ≡ t
at_call tear call xs n x s t lt item test is =
    let here : drop n xs ≡ x ∷ drop (n + 1) xs = drop_more xs n x lt ∙ ap (λ (y : Change). y ∷ drop (n + 1) xs) item in
    ap (λ (l : List Change). stepped_all tear l s) (sym (ap (before call) here ∙ kept_none x call (drop (n + 1) xs) test)) ∙ is

torn_same : (at n : ℕ) (old : List ℕ) → Torn at n old old
torn_same at n old = record { before = refl; after = refl; no_shorter = omega arith; no_longer = omega arith }

-- a write that wasn't made is one of those that a crash cuts short
pub torn_in_same : (area : Area) (at n : ℕ) (i : Image) → TornIn area at n i i
torn_in_same Book at n i = (torn_same at n i.book, refl)
torn_in_same Blobs at n i = (torn_same at n i.blobs, refl)

-- both areas have the same lengths
record IsSized (i j : Image) : Type 0 where
  book : length i.book ≡ length j.book
  blobs : length i.blobs ≡ length j.blobs

sized_at : (area : Area) (i j : Image) → IsSized i j → length (bytes_of area i) ≡ length (bytes_of area j)
sized_at Book i j sized = sized.book
sized_at Blobs i j sized = sized.blobs

sized_bytes : (at : ℕ) (b c old new : List ℕ) → at ≤ length old → length old ≡ length new → length b ≡ length c → length (overwritten at b old) ≡ length (overwritten at c new)
sized_bytes at b c old new le same long =
    omega (arith, length-overwritten at b old le, length-overwritten at c new (omega (arith, le, same)), length-drop (at + length b) old, length-drop (at + length c) new, same, long)

sized_written : (area : Area) (at : ℕ) (b c : List ℕ) (i j : Image) → at ≤ length (bytes_of area i) → IsSized i j → length b ≡ length c → IsSized (written area at b i) (written area at c j)
sized_written Book at b c i j le sized long = record { book = sized_bytes at b c i.book j.book le sized.book long; blobs = sized.blobs }
sized_written Blobs at b c i j le sized long = record { book = sized.book; blobs = sized_bytes at b c i.blobs j.blobs le sized.blobs long }

-- where writes are made, what is left has the lengths of what is read
Keeps : Tear → Image → Image → Type 0
Keeps Old now left = Unit {0}
Keeps New now left = IsSized now left
Keeps (Fill byte) now left = IsSized now left

length-replicate : (n b : ℕ) → length (replicate n b) ≡ n
length-replicate zero b = refl
length-replicate (suc n) b = ap suc (length-replicate n b)

torn_one : (tear : Tear) (area : Area) (at : ℕ) (bytes : List ℕ) (now left : Image) → at ≤ length (bytes_of area now) → Keeps tear now left
    → TornIn area at (length bytes) left (torn_write tear area at bytes left)
unfolding Keeps
torn_one Old area at bytes now left le keeps = torn_in_same area at (length bytes) left
torn_one New area at bytes now left le keeps = torn_in_done area at bytes left (omega (arith, le, sized_at area now left keeps))
torn_one (Fill byte) area at bytes now left le keeps =
    subst (λ (n : ℕ). TornIn area at n left (written area at (replicate (length bytes) byte) left)) (length-replicate (length bytes) byte)
    (torn_in_done area at (replicate (length bytes) byte) left (omega (arith, le, sized_at area now left keeps)))

keeps_one : (tear : Tear) (area : Area) (at : ℕ) (bytes : List ℕ) (now left : Image) → at ≤ length (bytes_of area now) → Keeps tear now left
    → Keeps tear (written area at bytes now) (torn_write tear area at bytes left)
unfolding Keeps
keeps_one Old area at bytes now left le keeps = tt
keeps_one New area at bytes now left le keeps = sized_written area at bytes bytes now left le keeps refl
keeps_one (Fill byte) area at bytes now left le keeps = sized_written area at bytes (replicate (length bytes) byte) now left le keeps (sym (length-replicate (length bytes) byte))

keeps_same : (tear : Tear) (i : Image) → Keeps tear i i
unfolding Keeps
keeps_same Old i = tt
keeps_same New i = record { book = refl; blobs = refl }
keeps_same (Fill byte) i = record { book = refl; blobs = refl }

torn_left : (tear : Tear) (P : Image → Type 0) (now left : Image) (xs : List Change) (s : Image) → replayed now xs ≡ Some s → P left → Keeps tear now left
    → LeftBy P now xs (stepped_all tear xs (stop now left)).left
torn_left tear P now left [] s is p keeps = p
torn_left tear P now left (Write call area at bytes ∷ xs) s is p keeps =
    let both = guarded (leb at (length (bytes_of area now))) (replayed (written area at bytes now) xs) s is in
    let le : at ≤ length (bytes_of area now) = leb-true _ _ both.0 in
    torn_left tear (λ c. (d : Image) × P d × TornIn area at (length bytes) d c) (written area at bytes now) (torn_write tear area at bytes left) xs s both.1
    (left, p, torn_one tear area at bytes now left le keeps) (keeps_one tear area at bytes now left le keeps)
torn_left tear P now left (Sync call ∷ xs) s is p keeps = torn_left tear (λ c. c ≡ now) now now xs s is refl (keeps_same tear now)

-- the changes of the calls before one are a front of all
before_front : (call : ℕ) (xs : List Change) → (k : ℕ) × (k ≤ length xs) × (before call xs ≡ take k xs)
before_front call [] = (0, omega arith, refl)
before_front call (x ∷ xs) =
    elim (ltb (number_of x) call) as (λ b. (k : ℕ) × (k ≤ length (x ∷ xs)) × (kept_if b x (before call xs) ≡ take k (x ∷ xs))) [
      | false ↦ (0, omega arith, refl)
      | true ↦ let rest = before_front call xs in (suc rest.0, omega (arith, rest.1), ap (λ (l : List Change). x ∷ l) rest.2)
    ]

front_replays : (i : Image) (xs : List Change) (s : Image) (k : ℕ) → replayed i xs ≡ Some s → (r : Image) × (replayed i (take k xs) ≡ Some r)
front_replays i xs s zero is = (i, refl)
front_replays i [] s (suc k) is = (i, refl)
front_replays i (Write call area at bytes ∷ xs) s (suc k) is =
    let both = guarded (leb at (length (bytes_of area i))) (replayed (written area at bytes i) xs) s is in
    let rest = front_replays (written area at bytes i) xs s k both.1 in
    (rest.0, ap (λ (b : Bool). if b then replayed (written area at bytes i) (take k xs) else None) both.0 ∙ rest.1)
front_replays i (Sync call ∷ xs) s (suc k) is = front_replays i xs s k is

-- what a stop leaves after this many calls, a crash after them may leave
pub torn_after : (tear : Tear) (i : Image) (xs : List Change) (s : Image) (call : ℕ) → replayed i xs ≡ Some s → Leaves i (before call xs) (torn tear i (before call xs))
torn_after tear i xs s call is =
    let front = before_front call xs in
    let read = front_replays i xs s front.0 is in
    let left : Leaves i (take front.0 xs) (torn tear i (take front.0 xs)) = torn_left tear (λ c. c ≡ i) i i (take front.0 xs) read.0 read.1 refl (keeps_same tear i) in
    subst (λ (l : List Change). Leaves i l (torn tear i l)) (sym front.2) left

-- a crash at some moment may leave what a stop leaves
pub torn_possible : (tear : Tear) (i : Image) (xs : List Change) (s : Image) (call : ℕ) → replayed i xs ≡ Some s → LeftSince i xs 0 (torn tear i (before call xs))
torn_possible tear i xs s call is =
    let front = before_front call xs in
    let left = torn_after tear i xs s call is in
    (front.0, omega arith, front.1, subst (λ (l : List Change). Leaves i l (torn tear i (before call xs))) front.2 left)
