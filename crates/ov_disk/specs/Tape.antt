-- A disk in memory is known by its calls: what a read gives after them, and what a crash may leave.
use Rattle.std.specs.Prelude.{◌≡◌, ℕ, ◌+◌, ◌-◌, ◌^◌, ◌≤◌, ◌⊎◌, min, List, [], ◌∷◌, ◌++◌, length, take, replicate, Option, Some, None, Bool, true, false, if◌then◌else◌, leb, ltb, ◌==◌, find, option_map, IsSome, MatchOption}
use Rattle.ov_disk.specs.declared.area.Area.{Area}
use Rattle.ov_disk.specs.declared.change.Change.{Change}
use Rattle.ov_disk.specs.declared.change.Change.TheVariants.{Write, Sync}
use Rattle.ov_disk.specs.declared.change.Tear.{Tear}
use Rattle.ov_disk.specs.declared.change.Tear.TheVariants.{Old, New, Fill}
use Rattle.ov_disk.specs.declared.failure.Failure.{Failure}
use Rattle.ov_disk.specs.Disk.{Image, bytes_of, written, TornIn}

-- A disk in memory: what it held at first, with nothing pending; the changes since, in order; how
-- many calls there were; the calls that fail, by their numbers from 0; and how many calls failed.
pub record Tape : Type 0 where
  pub first : Image
  pub changes : List Change
  pub calls : ℕ
  pub fails : List Failure
  pub faults : ℕ

-- a disk in memory that holds this, of which there was no call yet
abbrev pub fresh : Image → Tape
fresh i = record { first = i; changes = []; calls = 0; fails = []; faults = 0 }

-- a count after one more, or the last number of 64 bits
abbrev pub risen : ℕ → ℕ
risen n = min (n + 1) (2 ^ 64 - 1)

-- how many bytes a write puts at this call before it fails, where the call fails; of two failures
-- of one call the first counts
abbrev pub keep_at : List Failure → ℕ → Option ℕ
keep_at fails call = option_map (λ f. f.keep) (find (λ f. f.call == call) fails)

-- the next call is one that fails
abbrev pub FailsNext : Tape → Type 0
FailsNext t = IsSome (keep_at t.fails t.calls)

-- the disk with one call more that will fail, and put this many bytes where it is a write
abbrev pub failing : ℕ → ℕ → Tape → Tape
failing call keep t = record {
  first = t.first;
  changes = t.changes;
  calls = t.calls;
  fails = t.fails ++ record { call = call; keep = keep } ∷ [];
  faults = t.faults;
}

-- a call that was done, and changed nothing
abbrev pub answered : Tape → Tape
answered t = record {
  first = t.first;
  changes = t.changes;
  calls = risen t.calls;
  fails = t.fails;
  faults = t.faults;
}

-- a call that failed
abbrev pub failed : Tape → Tape
failed t = record {
  first = t.first;
  changes = t.changes;
  calls = risen t.calls;
  fails = t.fails;
  faults = risen t.faults;
}

-- a call that failed, after this change
abbrev pub failed_with : Change → Tape → Tape
failed_with x t = record {
  first = t.first;
  changes = t.changes ++ x ∷ [];
  calls = risen t.calls;
  fails = t.fails;
  faults = risen t.faults;
}

-- a call that was done, with this change
abbrev pub changed : Change → Tape → Tape
changed x t = record {
  first = t.first;
  changes = t.changes ++ x ∷ [];
  calls = risen t.calls;
  fails = t.fails;
  faults = t.faults;
}

-- A write of these bytes failed: it put them all, or none. Where there are none, nothing changed.
abbrev pub PutsFront : Area → ℕ → List ℕ → Tape → Tape → Type 0
PutsFront area at bytes old new =
    (new ≡ failed old)
    ⊎ ((1 ≤ length bytes) × (new ≡ failed_with (Write old.calls area at bytes) old))

-- A write failed. Where the call was to fail, it put the bytes that are kept, or none as where
-- memory is refused; where only memory was refused, it put none.
abbrev pub CutsShort : Area → ℕ → List ℕ → Tape → Tape → Type 0
CutsShort area at bytes old new =
    MatchOption (keep_at old.fails old.calls)
    (new ≡ failed old)
    (λ keep. PutsFront area at (take keep bytes) old new)

-- what a read gives after these changes, if each write began inside its area or at its end
abbrev pub replayed : Image → List Change → Option Image
replayed i [] = Some i
replayed i (Write call area at bytes ∷ xs) =
    if leb at (length (bytes_of area i)) then replayed (written area at bytes i) xs else None
replayed i (Sync call ∷ xs) = replayed i xs

-- what a crash after these changes may leave, where before them it might leave what has P
abbrev pub LeftBy : (Image → Type 0) → Image → List Change → Image → Type 0
LeftBy P i [] c = P c
LeftBy P i (Write call area at bytes ∷ xs) c =
    LeftBy (λ c. (d : Image) × P d × TornIn area at (length bytes) d c)
    (written area at bytes i) xs c
LeftBy P i (Sync call ∷ xs) c = LeftBy (λ c. c ≡ i) i xs c

-- what a crash after these changes may leave, where nothing was pending before them
abbrev pub Leaves : Image → List Change → Image → Type 0
Leaves i xs c = LeftBy (λ c. c ≡ i) i xs c

-- what a crash after at least t of these changes may leave, where nothing was pending before them
abbrev pub LeftSince : Image → List Change → ℕ → Image → Type 0
LeftSince i xs t c = (k : ℕ) × (t ≤ k) × (k ≤ length xs) × Leaves i (take k xs) c

-- what a read of this disk gives in both areas
abbrev pub reads_of : Tape → Option Image
reads_of t = replayed t.first t.changes

-- what a crash of this disk now may leave
abbrev pub may_leave_of : Tape → Image → Type 0
may_leave_of t = Leaves t.first t.changes

-- the clock of a disk in memory: how many changes there were
abbrev pub moment_of : Tape → ℕ
moment_of t = length t.changes

-- what a crash of this disk at this moment or a later one might have left
abbrev pub left_since_of : Tape → ℕ → Image → Type 0
left_since_of t = LeftSince t.first t.changes

-- the number of the call that made the change
abbrev pub number_of : Change → ℕ
number_of (Write call area at bytes) = call
number_of (Sync call) = call

-- a change and those behind it, or none of them where the change doesn't count
abbrev pub kept_if : Bool → Change → List Change → List Change
kept_if false x xs = []
kept_if true x xs = x ∷ xs

-- the changes of the calls before this one
abbrev pub before : ℕ → List Change → List Change
before call [] = []
before call (x ∷ xs) = kept_if (ltb (number_of x) call) x (before call xs)

-- A stop in one way: what a read gave, and what is left where each write since the last sync was
-- torn in that way.
pub record Stop : Type 0 where
  pub now : Image
  pub left : Image

-- the stop with these two images
abbrev pub stop : Image → Image → Stop
stop now left = record { now = now; left = left }

-- a write that wasn't made, that was done, or that left one byte over and over
abbrev pub torn_write : Tear → Area → ℕ → List ℕ → Image → Image
torn_write Old area at bytes i = i
torn_write New area at bytes i = written area at bytes i
torn_write (Fill byte) area at bytes i = written area at (replicate (length bytes) byte) i

-- the stop after one change more: a write is read whole and left torn, and a sync leaves what is
-- read
abbrev pub stepped : Tear → Change → Stop → Stop
stepped tear (Write call area at bytes) s =
    stop (written area at bytes s.now) (torn_write tear area at bytes s.left)
stepped tear (Sync call) s = stop s.now s.now

-- the stop after these changes more
abbrev pub stepped_all : Tear → List Change → Stop → Stop
stepped_all tear [] s = s
stepped_all tear (x ∷ xs) s = stepped_all tear xs (stepped tear x s)

-- what a stop after these changes leaves
abbrev pub torn : Tear → Image → List Change → Image
torn tear i xs = (stepped_all tear xs (stop i i)).left
