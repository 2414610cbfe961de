-- The append of a record, call by call.
use Rattle.std.proofs.Common.{◌≡◌, inl, inr, ⊎_elim, ℕ, ◌+◌, ◌≤◌, List, [], ◌∷◌, length, Some, refl, ◌∙◌, ap, subst, arith}
use Rattle.ov_disk.specs.Disk.{Image, overwritten, written, Torn, TornIn, Follows, Narrows, Only, OnlyBook}
use Rattle.ov_disk.specs.Moments.{Elapses, LeavesOnly}
use Rattle.ov_disk.specs.Tells.{DiskTells}
use Rattle.ov_disk.specs.declared.area.Area.TheVariants.{Book}
use Rattle.ov_disk.proofs.Runs.{started, goes_on}
use Rattle.ov_journal.specs.Frames.{framed, EndsAt, IsLaidOut, IsWithoutOrWith, layout_of, with_record}
use Rattle.ov_journal.specs.Taking.{IsBody}
use Rattle.ov_journal.proofs.Ends.{torn_same, torn_either, staged, opened, is_staged, is_opened, opened_reads, staged_long}

-- the gate at the end lies inside Book once the record is behind it
pub gate_inside : (i k : Image) (end : ℕ) (ends : EndsAt end i.book) (body frame : List ℕ) → frame ≡ framed body → k ≡ written Book (end + 1) frame i → end ≤ length k.book
gate_inside i k end ends body frame is_frame is =
    let book : k.book ≡ staged end i.book ends body = ap (λ (j : Image). j.book) is ∙ ap (λ (l : List ℕ). overwritten (end + 1) l i.book) is_frame ∙ is_staged end i.book ends body in
    omega (arith, staged_long end i.book ends body, ap length book)

-- what an append needs before its first call, where a crash may leave what has `outcomes`
pub record Appends (outcomes : Image → Type 0) (i : Image) (end : ℕ) (body frame : List ℕ) : Type 0 where
  pub mine : outcomes i
  pub stands : EndsAt end i.book × OnlyBook i.book outcomes
  pub size : IsBody body
  pub is_frame : frame ≡ framed body

module _ {D : Type 0} (tells : DiskTells D) (d0 : D) {i : Image} {end : ℕ} {body frame : List ℕ} (b : Appends (tells.may_leave d0) i end body frame) where
  abbrev P : Image → Type 0
  P = IsWithoutOrWith (tells.may_leave d0) i body

  -- with the record behind the gate
  abbrev pub i1 : Image
  i1 = written Book (end + 1) frame i

  book1 : i1.book ≡ staged end i.book b.stands.0 body
  book1 = ap (λ (l : List ℕ). overwritten (end + 1) l i.book) b.is_frame ∙ is_staged end i.book b.stands.0 body

  stage_crash : (new : Image → Type 0) → Follows (TornIn Book (end + 1) (length frame)) (tells.may_leave d0) new → (c : Image) → new c → P c
  stage_crash new follows c left =
      let from = follows c left in
      inl (torn_same end i.book b.stands.0 (length frame) c.book (subst (λ (l : List ℕ). Torn (end + 1) (length frame) l c.book) (b.stands.1 from.0 from.1) from.2.0), from.0, from.1, from.2.1)

  gate_crash : (old new : Image → Type 0) → Only i1 old → Follows (TornIn Book end 1) old new → (c : Image) → new c → P c
  gate_crash old new only follows c left =
      let from = follows c left in
      let was = only from.0 from.1 in
      let torn : Torn end 1 (staged end i.book b.stands.0 body) c.book = subst (λ (l : List ℕ). Torn end 1 l c.book) (ap (λ (j : Image). j.book) was ∙ book1) from.2.0 in
      let blobs : c.blobs ≡ i.blobs = from.2.1 ∙ ap (λ (j : Image). j.blobs) was in
      ⊎_elim (λ same. inl (same, i, b.mine, blobs)) (λ more. inr (more, blobs)) (torn_either end i.book b.stands.0 body b.size.some b.size.most c.book torn)

  at_start : LeavesOnly tells d0 d0 P
  at_start = started tells d0 P (λ c now. inl (ap layout_of (b.stands.1 c now), c, now, refl))

  module _ (d1 : D) (time1 : Elapses tells d0 d1) (crash1 : Follows (TornIn Book (end + 1) (length frame)) (tells.may_leave d0) (tells.may_leave d1)) where
    pub first : LeavesOnly tells d0 d1 P
    first = goes_on tells d0 d0 d1 P at_start time1 (stage_crash (tells.may_leave d1) crash1)

    module _ (d2 : D) (time2 : Elapses tells d1 d2) (crash2 : Narrows (tells.may_leave d1) (tells.may_leave d2)) where
      pub second : LeavesOnly tells d0 d2 P
      second = goes_on tells d0 d1 d2 P first time2 (λ c left. stage_crash (tells.may_leave d1) crash1 c (crash2 c left))

      module _ (durable : Only i1 (tells.may_leave d2)) (d3 : D) (time3 : Elapses tells d2 d3) (crash3 : Follows (TornIn Book end 1) (tells.may_leave d2) (tells.may_leave d3)) where
        pub third : LeavesOnly tells d0 d3 P
        third = goes_on tells d0 d2 d3 P second time3 (gate_crash (tells.may_leave d2) (tells.may_leave d3) durable crash3)

        pub fourth : (d4 : D) → Elapses tells d3 d4 → Narrows (tells.may_leave d3) (tells.may_leave d4) → LeavesOnly tells d0 d4 P
        fourth d4 time4 crash4 = goes_on tells d0 d3 d4 P third time4 (λ c left. gate_crash (tells.may_leave d2) (tells.may_leave d3) durable crash3 c (crash4 c left))

-- after the last call
pub is_kept : {D : Type 0} (tells : DiskTells D) (disk : D) (i : Image) (end : ℕ) (ends : EndsAt end i.book) (body frame : List ℕ) → IsBody body
    → frame ≡ framed body → tells.reads disk ≡ Some (written Book end (1 ∷ []) (written Book (end + 1) frame i))
    → Only (written Book end (1 ∷ []) (written Book (end + 1) frame i)) (tells.may_leave disk) → IsLaidOut tells disk (with_record body (layout_of i.book)) i.blobs
is_kept tells disk i end ends body frame size is_frame is only =
    let book : overwritten end (1 ∷ []) (overwritten (end + 1) frame i.book) ≡ opened end i.book ends body =
    ap (λ (l : List ℕ). overwritten end (1 ∷ []) (overwritten (end + 1) l i.book)) is_frame ∙ ap (overwritten end (1 ∷ [])) (is_staged end i.book ends body) ∙ is_opened end i.book ends body in
    record {
      now = written Book end (1 ∷ []) (written Book (end + 1) frame i);
      is_read = is;
      book = ap layout_of book ∙ opened_reads end i.book ends body size.some size.most;
      blobs_same = refl;
      only = only;
    }
