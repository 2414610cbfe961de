-- Changes of Blobs in a range, one after the other, and what a crash leaves of a write to an extent.
use Rattle.std.proofs.Common.{inl, inr, ℕ, refl, ◌∙◌, arith}
use Rattle.ov_disk.specs.Disk.{Image, TornIn, Follows}
use Rattle.ov_disk.specs.Moments.{Elapses, LeavesOnly}
use Rattle.ov_disk.specs.Tells.{DiskTells}
use Rattle.ov_disk.specs.declared.area.Area.TheVariants.{Blobs}
use Rattle.ov_disk.proofs.Runs.{started, goes_on, then_on}
use Rattle.ov_disk.proofs.Unordered.{torn_get}
use Rattle.ov_blocks.specs.Writes.{IsChangedIn, IsLeftBy}
use Rattle.ov_blocks.specs.Laws.{AreWithin, ChangesGoOn}

-- ---- one write

-- torn there, it is changed there
pub torn_changes : (at n : ℕ) (old new : Image) → TornIn Blobs at n old new → IsChangedIn at n old new
torn_changes at n old new torn = record { book = torn.1; no_shorter = torn.0.no_shorter; outside = λ p lt out. torn_get at n old.blobs new.blobs torn.0 p out }

-- ---- changes one after the other

pub unchanged : (at n : ℕ) (i : Image) → IsChangedIn at n i i
unchanged at n i = record { book = refl; no_shorter = omega arith; outside = λ p lt out. refl }

pub wider : (at n first count : ℕ) (i k : Image) → AreWithin at n first count → IsChangedIn at n i k → IsChangedIn first count i k
wider at n first count i k within c = record {
  book = c.book;
  no_shorter = c.no_shorter;
  outside = λ p lt out. c.outside p lt (elim out [ inl low ↦ inl (omega (arith, low, within.begins)) | inr high ↦ inr (omega (arith, high, within.ends)) ]);
}

pub changed_then : (at n : ℕ) (i j k : Image) → IsChangedIn at n i j → IsChangedIn at n j k → IsChangedIn at n i k
changed_then at n i j k a b = record {
  book = b.book ∙ a.book;
  no_shorter = omega (arith, a.no_shorter, b.no_shorter);
  outside = λ p lt out. b.outside p (omega (arith, lt, a.no_shorter)) out ∙ a.outside p lt out;
}

pub changes_go_on : ChangesGoOn
changes_go_on at n next m first count i j k one two a b =
    changed_then first count i j k (wider at n first count i j one a) (wider next m first count j k two b)

-- ---- what a crash leaves

-- one call that makes such a step, at any moment
pub left_by : {D : Type 0} (tells : DiskTells D) (step : Image → Image → Type 0) (old new : D) → ((i : Image) → step i i)
    → Elapses tells old new → Follows step (tells.may_leave old) (tells.may_leave new) → LeavesOnly tells old new (IsLeftBy step (tells.may_leave old))
left_by tells step old new same time crash =
    goes_on tells old old new (IsLeftBy step (tells.may_leave old))
    (started tells old (IsLeftBy step (tells.may_leave old)) (λ c now. (c, now, same c)))
    time crash

-- one run of such steps after another, at any moment, where two steps one after the other are one
pub left_then : {D : Type 0} (tells : DiskTells D) (step : Image → Image → Type 0) (d0 d1 d2 : D) → ((i j k : Image) → step i j → step j k → step i k)
    → LeavesOnly tells d0 d1 (IsLeftBy step (tells.may_leave d0)) → Follows step (tells.may_leave d0) (tells.may_leave d1)
    → LeavesOnly tells d1 d2 (IsLeftBy step (tells.may_leave d1)) → LeavesOnly tells d0 d2 (IsLeftBy step (tells.may_leave d0))
left_then tells step d0 d1 d2 then past crash next =
    then_on tells d0 d1 d2 (IsLeftBy step (tells.may_leave d0)) (IsLeftBy step (tells.may_leave d1)) past next
    (λ c left. let from = crash left.0 left.1 in (from.0, from.1, then from.0 left.0 c from.2 left.2))
