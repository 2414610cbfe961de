-- A gate for a Book that has none, call by call.
use Rattle.std.proofs.Common.{inl, inr, ℕ, ◌≤◌, ◌<◌, List, [], ◌∷◌, length, drop, refl, sym, ap, subst, arith}
use Rattle.std.proofs.lemmas.List.{drop_all}
use Rattle.ov_disk.specs.Disk.{Image, overwritten, TornIn, Follows, Narrows, OnlyBook}
use Rattle.ov_disk.specs.Moments.{Elapses, LeavesOnly}
use Rattle.ov_disk.specs.Tells.{DiskTells}
use Rattle.ov_disk.specs.declared.area.Area.TheVariants.{Book}
use Rattle.ov_disk.proofs.Runs.{started, goes_on}
use Rattle.ov_journal.specs.declared.header.Header.{Header}
use Rattle.ov_journal.specs.Birth.{IsCleared}
use Rattle.ov_journal.specs.Log.{IsUnbornOrEmpty}
use Rattle.ov_journal.specs.Standing.{IsUnborn}

pub is_clear : (book : List ℕ) → length book ≤ 1 → IsCleared (overwritten 0 (0 ∷ []) book)
is_clear book short = record { gate = 0; rest = drop 1 book; parts = refl; short = omega (arith, ap length (drop_all 1 book short)); closed = omega arith }

pub was_clear : (book : List ℕ) → 1 < length book → IsUnborn book → IsCleared book
was_clear [] long un = absurd (omega (arith, long))
was_clear (g ∷ rest) long (inl short) = absurd (omega (arith, long, short))
was_clear (g ∷ rest) long (inr un) = record { gate = g; rest = rest; parts = refl; short = omega (arith, un.0); closed = un.1 }

-- what a clearing needs before its first call, where a crash may leave what has `outcomes`
pub record Clears (outcomes : Image → Type 0) (i : Image) : Type 0 where
  pub unborn : IsUnborn i.book × OnlyBook i.book outcomes

module _ {D : Type 0} (tells : DiskTells D) (d0 : D) {i : Image} (b : Clears (tells.may_leave d0) i)
    (d1 : D) (time1 : Elapses tells d0 d1) (crash1 : Narrows (tells.may_leave d0) (tells.may_leave d1)) where
  abbrev P : Image → Type 0
  P c = IsUnborn c.book

  here : (c : Image) → tells.may_leave d0 c → P c
  here c left = subst IsUnborn (sym (b.unborn.1 c left)) b.unborn.0

  pub looked : LeavesOnly tells d0 d1 P
  looked = goes_on tells d0 d0 d1 P (started tells d0 P here) time1 (λ c left. here c (crash1 c left))

  module _ (short : length i.book ≤ 1) (d2 : D) (time2 : Elapses tells d1 d2) (crash2 : Follows (TornIn Book 0 1) (tells.may_leave d1) (tells.may_leave d2)) where
    gone : (c : Image) → tells.may_leave d2 c → P c
    gone c left =
        let from = crash2 c left in
        let was = ap length (b.unborn.1 from.0 (crash1 from.0 from.1)) in
        inl (omega (arith, from.2.0.no_longer, was, short))

    pub wrote : LeavesOnly tells d0 d2 P
    wrote = goes_on tells d0 d1 d2 P looked time2 gone

    pub synced : (d3 : D) → Elapses tells d2 d3 → Narrows (tells.may_leave d2) (tells.may_leave d3) → LeavesOnly tells d0 d3 P
    synced d3 time3 crash3 = goes_on tells d0 d2 d3 P wrote time3 (λ c left. gone c (crash3 c left))

-- before the first call, where a Book is unborn
pub not_begun : {D : Type 0} (tells : DiskTells D) (d0 : D) → (i : Image) (h : Header) → IsUnborn i.book × OnlyBook i.book (tells.may_leave d0) → LeavesOnly tells d0 d0 (IsUnbornOrEmpty h)
not_begun tells d0 i h un = started tells d0 (IsUnbornOrEmpty h) (λ c left. inl (subst IsUnborn (sym (un.1 c left)) un.0))
