-- Two areas of bytes, what a call does to them, and what a crash may leave of a write.
use Rattle.std.specs.Prelude.{◌≡◌, ℕ, ◌+◌, ◌≤◌, max, List, ◌++◌, length, take, drop, Option, Some, None}
use Rattle.ov_disk.specs.declared.area.Area.{Area}
use Rattle.ov_disk.specs.declared.area.Area.TheVariants.{Book, Blobs}

-- the bytes of both areas
pub record Image : Type 0 where
  pub book : List ℕ
  pub blobs : List ℕ

-- the image with these bytes in Book and in Blobs
abbrev pub image : List ℕ → List ℕ → Image
image book blobs = record { book = book; blobs = blobs }

-- one area's bytes
abbrev pub bytes_of : Area → Image → List ℕ
bytes_of Book i = i.book
bytes_of Blobs i = i.blobs

-- these bytes at this place, over what is there and past the end
abbrev pub overwritten : ℕ → List ℕ → List ℕ → List ℕ
overwritten at bytes old = take at old ++ bytes ++ drop (at + length bytes) old

-- these bytes written at this place in one area, while the other area stays
abbrev pub written : Area → ℕ → List ℕ → Image → Image
written Book at bytes i = record { book = overwritten at bytes i.book; blobs = i.blobs }
written Blobs at bytes i = record { book = i.book; blobs = overwritten at bytes i.blobs }

-- After a write of n bytes that a crash cut short: any bytes in the range and past the old end, any
-- length from the old one to that of the whole write, and the same bytes elsewhere.
pub record Torn (at n : ℕ) (old new : List ℕ) : Type 0 where
  pub before : take at new ≡ take at old
  pub after : drop (at + n) new ≡ drop (at + n) old
  pub no_shorter : length old ≤ length new
  pub no_longer : length new ≤ max (length old) (at + n)

-- after a write of n bytes in one area that a crash cut short; the other area stays
abbrev pub TornIn : Area → ℕ → ℕ → Image → Image → Type 0
TornIn Book at n old new = Torn at n old.book new.book × (new.blobs ≡ old.blobs)
TornIn Blobs at n old new = Torn at n old.blobs new.blobs × (new.book ≡ old.book)

-- each outcome of a crash now is one of before, after this step
abbrev pub Follows : (Image → Image → Type 0) → (Image → Type 0) → (Image → Type 0) → Type 0
Follows step old new = (c : Image) → new c → (d : Image) × old d × step d c

-- each outcome of a crash now is one of before
abbrev pub Narrows : (Image → Type 0) → (Image → Type 0) → Type 0
Narrows old new = (c : Image) → new c → old c

-- a crash leaves this and nothing else: nothing is pending
abbrev pub Only : Image → (Image → Type 0) → Type 0
Only i outcomes = (c : Image) → outcomes c → c ≡ i

-- a crash leaves these bytes of Book and no others: nothing is pending in it
abbrev pub OnlyBook : List ℕ → (Image → Type 0) → Type 0
OnlyBook book outcomes = (c : Image) → outcomes c → c.book ≡ book

-- this holds of what a disk reads, where it tells that
abbrev pub Told : Option Image → (Image → Type 0) → Type 0
Told reads P = (i : Image) → reads ≡ Some i → P i

-- a disk that told nothing still tells nothing
abbrev pub StaysUntold : Option Image → Option Image → Type 0
StaysUntold old new = old ≡ None → new ≡ None

-- a disk that told its bytes still tells them
abbrev pub StaysTold : Option Image → Option Image → Type 0
StaysTold old new = Told old (λ _. (k : Image) × (new ≡ Some k))
