-- Sets of users. A set is the number whose bit n is one exactly where user n is in it. So every
-- number is a set, two sets with the same members are equal, and nothing here knows how many users
-- there can be.
use Rattle.std.specs.Prelude.{ℕ, zero, suc, ◌+◌, ◌*◌, ◌/◌, ◌%◌, ◌<◌, ◌^◌, ◌==◌}
use Rattle.std.specs.Prelude.{Bool, IsTrue, not, List, [], ◌∷◌, bit_and, bit_or, bit_xor, count_ones, max}
use Rattle.std.specs.Int.{bit_at}
use Rattle.std.specs.Ordering.{nat_cmp}
use Rattle.std.specs.Cmp.Lexicographic.{slice_cmp}
use Rattle.std.specs.declared.cmp.Ordering.{Ordering}

-- the set without members
abbrev pub empty : ℕ
empty = 0

-- the set of this user alone
abbrev pub single : ℕ → ℕ
single user = 2 ^ user

-- whether the user is in the set
abbrev pub has : ℕ → ℕ → Bool
has set user = bit_at set user == 1

-- the user is in the set
abbrev pub Has : ℕ → ℕ → Type 0
Has set user = IsTrue (has set user)

-- the users of the one set and of the other
abbrev pub union : ℕ → ℕ → ℕ
union a b = bit_or a b

-- the set with this user added
abbrev pub with : ℕ → ℕ → ℕ
with set user = union set (single user)

-- the set without this user
abbrev pub without : ℕ → ℕ → ℕ
without set user = bit_xor set (bit_and set (single user))

-- whether each user of the one set is in the other
abbrev pub within : ℕ → ℕ → Bool
within a b = bit_and a b == a

-- each user of the one set is in the other, told user by user
abbrev pub Within : ℕ → ℕ → Type 0
Within a b = (user : ℕ) → Has a user → Has b user

-- whether some user is in both sets
abbrev pub meets : ℕ → ℕ → Bool
meets a b = not (bit_and a b == empty)

-- how many users are in the set
abbrev pub size : ℕ → ℕ
size set = count_ones set

-- each user of the set has a number below the limit
abbrev pub IsBelow : ℕ → ℕ → Type 0
IsBelow limit set = (user : ℕ) → Has set user → user < limit

-- the set as this many bytes, each with eight users and the lowest of them in its lowest bit
unfoldable pub bytes_of : ℕ → ℕ → List ℕ
bytes_of zero set = []
bytes_of (suc count) set = set % 256 ∷ bytes_of count (set / 256)

-- the set with these bytes
unfoldable pub set_of_bytes : List ℕ → ℕ
set_of_bytes [] = empty
set_of_bytes (byte ∷ bytes) = set_of_bytes bytes * 256 + byte

-- how two sets compare as this many bytes, from the first on
abbrev pub bytes_cmp : ℕ → ℕ → ℕ → Ordering
bytes_cmp count a b = slice_cmp nat_cmp (bytes_of count a) (bytes_of count b)

-- how two sets compare: as their bytes, of which there are enough that neither has a user in a
-- later one
unfoldable pub set_cmp : ℕ → ℕ → Ordering
set_cmp a b = bytes_cmp (max a b) a b
