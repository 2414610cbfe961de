-- Inner: no public contract needs this. The laws of a disk in memory, which are here since an impl
-- cites its laws from specs alone, and specs cite no proofs.
use Rattle.std.proofs.Common.{◌≡◌, ℕ, ◌+◌, ◌≤◌, List, [], ◌∷◌, ◌++◌, length, take, drop, Option, Some, None, Bool, true, false, if◌then◌else◌, leb, refl, sym, ◌∙◌, ap, subst, arith, append_assoc, length-append, length-drop}
use Rattle.std.proofs.lemmas.List.{take_at, drop_at, take_all, length-take-le}
use Rattle.std.proofs.lemmas.Bool.{leb-true}
use Rattle.ov_disk.specs.declared.area.Area.{Area}
use Rattle.ov_disk.specs.declared.area.Area.TheVariants.{Book, Blobs}
use Rattle.ov_disk.specs.declared.change.Change.{Change}
use Rattle.ov_disk.specs.declared.change.Change.TheVariants.{Write, Sync}
use Rattle.ov_disk.specs.Disk.{Image, bytes_of, overwritten, written, Torn, TornIn}
use Rattle.ov_disk.specs.Tells.{DiskTells}
use Rattle.ov_disk.specs.Tape.{Tape, replayed, LeftBy, Leaves, reads_of, may_leave_of, moment_of, left_since_of}

-- how long an area is after a write
pub length-overwritten : (at : ℕ) (bytes old : List ℕ) → at ≤ length old
    → length (overwritten at bytes old)
    ≡ at + (length bytes + length (drop (at + length bytes) old))
length-overwritten at bytes old le =
    let rest = drop (at + length bytes) old in
    let front = length-append (take at old) bytes in
    omega (arith, length-take-le at old le, length-append (take at old ++ bytes) rest, front)

-- a write that is done is one of those that a crash cuts short
pub torn_done : (at : ℕ) (bytes old : List ℕ) → at ≤ length old
    → Torn at (length bytes) old (overwritten at bytes old)
torn_done at bytes old le =
    let front : length (take at old) ≡ at = length-take-le at old le in
    let rest = drop (at + length bytes) old in
    let all = length-overwritten at bytes old le in
    record {
      before = ap (λ (l : List ℕ). take at l) (append_assoc (take at old) bytes rest)
          ∙ take_at (take at old) (bytes ++ rest) at front;
      after = drop_at (take at old ++ bytes) rest (at + length bytes)
          (omega (arith, front, length-append (take at old) bytes));
      no_shorter = omega (arith, all, length-drop (at + length bytes) old);
      no_longer = omega (arith, all, length-drop (at + length bytes) old);
    }

-- a crash may leave the whole of a write in one area
pub torn_in_done : (area : Area) (at : ℕ) (bytes : List ℕ) (i : Image)
    → at ≤ length (bytes_of area i) → TornIn area at (length bytes) i (written area at bytes i)
torn_in_done Book at bytes i le = (torn_done at bytes i.book le, refl)
torn_in_done Blobs at bytes i le = (torn_done at bytes i.blobs le, refl)

-- an image behind a test that must hold: it holds
pub guarded : (b : Bool) (o : Option Image) (s : Image) → (if b then o else None) ≡ Some s
    → (b ≡ true) × (o ≡ Some s)
guarded true o s is = (refl, is)
guarded false o s is = absurd (cc is)

-- what reads after some changes is one of the images that they may leave
pub one_of : (P : Image → Type 0) (i : Image) (xs : List Change) (s : Image) → P i
    → replayed i xs ≡ Some s → LeftBy P i xs s
one_of P i [] s p is = let same : i ≡ s = cc is in subst P same p
one_of P i (Write call area at bytes ∷ xs) s p is =
    let next = written area at bytes i in
    let both = guarded (leb at (length (bytes_of area i))) (replayed next xs) s is in
    let done = torn_in_done area at bytes i (leb-true _ _ both.0) in
    one_of (λ c. (d : Image) × P d × TornIn area at (length bytes) d c) next xs s
    (i, p, done) both.1
one_of P i (Sync call ∷ xs) s p is = one_of (λ c. c ≡ i) i xs s refl is

pub reads_is_one : (t : Tape) (i : Image) → reads_of t ≡ Some i → may_leave_of t i
reads_is_one t i is = one_of (λ c. c ≡ t.first) t.first t.changes i refl is

-- what a crash now may leave counts since an earlier moment
pub now_counts : (t : Tape) (m : ℕ) (c : Image) → m ≤ moment_of t → may_leave_of t c
    → left_since_of t m c
now_counts t m c le left =
    let all = sym (take_all (length t.changes) t.changes (omega arith)) in
    (length t.changes, le, omega arith, subst (λ (l : List Change). Leaves t.first l c) all left)

-- what counts since the present moment is only what a crash now may leave
pub only_last : (t : Tape) (c : Image) → left_since_of t (moment_of t) c → may_leave_of t c
only_last t c left =
    subst (λ (l : List Change). Leaves t.first l c) (take_all left.0 t.changes left.1) left.3

-- what a disk in memory tells
abbrev pub tape_tells : DiskTells Tape
tape_tells = record {
  reads = reads_of;
  may_leave = may_leave_of;
  moment = moment_of;
  left_since = left_since_of;
  faults = λ t. t.faults;
  borrow = λ _. 0;
  counts_now = now_counts;
  only_now = only_last;
  reads_one = reads_is_one;
}
