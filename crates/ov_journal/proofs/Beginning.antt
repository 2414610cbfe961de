-- A birth, call by call.
use Rattle.std.proofs.Common.{◌≡◌, ◌≢◌, ◌⊎◌, inl, inr, ℕ, ◌+◌, ◌≤◌, List, [], ◌∷◌, ◌++◌, length, take, drop, get_or, ◌==◌, Some, None, false, refl, sym, ◌∙◌, ap, subst, arith, length-append, length-drop, take-append-drop}
use Rattle.std.proofs.lemmas.List.{drop_more, drop_all, drop_at, take_at, append-nil}
use Rattle.std.proofs.lemmas.Bool.{cases_eq}
use Rattle.ov_disk.specs.Disk.{Image, overwritten, written, Torn, TornIn, Follows, Narrows, Only, OnlyBook}
use Rattle.ov_disk.specs.Moments.{Elapses, LeavesOnly}
use Rattle.ov_disk.specs.Tells.{DiskTells}
use Rattle.ov_disk.specs.declared.area.Area.TheVariants.{Book}
use Rattle.ov_disk.proofs.Runs.{started, goes_on}
use Rattle.ov_journal.specs.declared.header.Header.{Header}
use Rattle.ov_journal.specs.Birth.{IsCleared, IsHeaderFrame}
use Rattle.ov_journal.specs.Book.{header_bytes, spelled, is_first, records_in, contents_of, born}
use Rattle.ov_journal.specs.Log.{IsUnbornOrEmpty, IsKept}
use Rattle.ov_journal.specs.Runs.{run_after}
use Rattle.ov_journal.specs.Standing.{IsUnborn}
use Rattle.ov_journal.proofs.Reading.{run_after-drop}

unborn : (gate : ℕ) (rest : List ℕ) → length rest ≤ 78 → gate ≢ 1 → IsUnborn (gate ∷ rest)
unborn gate rest short shut = inr (omega (arith, short), shut)

module _ (book : List ℕ) (r : IsCleared book) (h : Header) (frame : List ℕ) (long : length frame ≡ 78) (ends : frame ≡ header_bytes h ++ 0 ∷ []) (format : h.format ≡ 2) where
  pub now_unborn : IsUnborn book
  now_unborn = subst IsUnborn (sym r.parts) (unborn r.gate r.rest r.short r.closed)

  pub torn_head : (c : List ℕ) → Torn 1 78 book c → IsUnborn c
  torn_head c torn =
      let first : take 1 c ≡ r.gate ∷ [] = torn.before ∙ ap (λ (l : List ℕ). take 1 l) r.parts in
      let whole : c ≡ r.gate ∷ drop 1 c = sym (take-append-drop 1 c) ∙ ap (λ (l : List ℕ). l ++ drop 1 c) first in
      subst IsUnborn (sym whole) (unborn r.gate (drop 1 c) (omega (arith, length-drop 1 c, torn.no_longer, ap length r.parts, r.short)) r.closed)

  is_headed : overwritten 1 frame book ≡ r.gate ∷ frame
  is_headed =
      ap (overwritten 1 frame) r.parts
      ∙ ap (λ (l : List ℕ). (r.gate ∷ []) ++ frame ++ l) (drop_all (1 + length frame) (r.gate ∷ r.rest) (omega (arith, long, r.short)))
      ∙ append-nil (r.gate ∷ frame)

  pub is_open : overwritten 0 (1 ∷ []) (overwritten 1 frame book) ≡ 1 ∷ frame
  is_open = ap (overwritten 0 (1 ∷ [])) is_headed

  pub reads_empty : contents_of (1 ∷ frame) ≡ born h None []
  reads_empty =
      let whole : 1 ∷ frame ≡ spelled h ++ 0 ∷ [] = ap (λ (l : List ℕ). 1 ∷ l) ends in
      let size : length (spelled h) ≡ 78 = omega (arith, long, ap length ends, length-append (header_bytes h) (0 ∷ [])) in
      let tail : drop 78 (1 ∷ frame) ≡ 0 ∷ [] = ap (λ (l : List ℕ). drop 78 l) whole ∙ drop_at (spelled h) (0 ∷ []) 78 size in
      let head : take 78 (1 ∷ frame) ≡ spelled h = ap (λ (l : List ℕ). take 78 l) whole ∙ take_at (spelled h) (0 ∷ []) 78 size in
      let run : run_after 78 (1 ∷ frame) ≡ record { bodies = []; bad = false } = run_after-drop 78 (1 ∷ frame) ∙ ap (run_after 0) tail in
      let second : is_first (take 78 (1 ∷ frame)) ≡ false = ap is_first head ∙ ap (λ (f : ℕ). (48 + f) == 49) format in
      λ i. record { head = head i; records = records_in (second i) (run i) }

  pub torn_gate : (c : List ℕ) → Torn 0 1 (overwritten 1 frame book) c → IsUnborn c ⊎ (contents_of c ≡ born h None [])
  torn_gate c torn =
      let headed = ap length is_headed in
      let after : drop 1 c ≡ frame = torn.after ∙ ap (λ (l : List ℕ). drop 1 l) is_headed in
      let is : c ≡ get_or c 0 0 ∷ frame = drop_more c 0 0 (omega (arith, torn.no_shorter, headed)) ∙ ap (λ (l : List ℕ). get_or c 0 0 ∷ l) after in
      elim (cases_eq (get_or c 0 0) 1) [
        | inl open_gate ↦ inr (ap contents_of (is ∙ ap (λ (g : ℕ). g ∷ frame) open_gate) ∙ reads_empty)
        | inr shut ↦ inl (subst IsUnborn (sym is) (unborn (get_or c 0 0) frame (omega (arith, long)) shut))
      ]

-- what a header needs before its first call, where a crash may leave what has `outcomes`
pub record Heads (outcomes : Image → Type 0) (i : Image) (h : Header) (frame : List ℕ) : Type 0 where
  pub cleared : IsCleared i.book × OnlyBook i.book outcomes
  pub is_frame : IsHeaderFrame h frame

module _ {D : Type 0} (tells : DiskTells D) (d0 : D) {i : Image} {h : Header} {frame : List ℕ} (b : Heads (tells.may_leave d0) i h frame) where
  abbrev P : Image → Type 0
  P = IsUnbornOrEmpty h

  head_crash : (new : Image → Type 0) → Follows (TornIn Book 1 (length frame)) (tells.may_leave d0) new → (c : Image) → new c → P c
  head_crash new follows c left =
      let from = follows c left in
      let torn : Torn 1 (length frame) i.book c.book = subst (λ (l : List ℕ). Torn 1 (length frame) l c.book) (b.cleared.1 from.0 from.1) from.2.0 in
      inl (torn_head i.book b.cleared.0 h frame b.is_frame.long b.is_frame.bytes b.is_frame.format c.book (subst (λ (n : ℕ). Torn 1 n i.book c.book) b.is_frame.long torn))

  gate_crash : (old new : Image → Type 0) → Only (written Book 1 frame i) old → Follows (TornIn Book 0 1) old new → (c : Image) → new c → P c
  gate_crash old new only follows c left =
      let from = follows c left in
      torn_gate i.book b.cleared.0 h frame b.is_frame.long b.is_frame.bytes b.is_frame.format c.book (subst (λ (l : List ℕ). Torn 0 1 l c.book) (ap (λ (j : Image). j.book) (only from.0 from.1)) from.2.0)

  at_start : LeavesOnly tells d0 d0 P
  at_start = started tells d0 P (λ c now. inl (subst IsUnborn (sym (b.cleared.1 c now)) (now_unborn i.book b.cleared.0 h frame b.is_frame.long b.is_frame.bytes b.is_frame.format)))

  module _ (d1 : D) (time1 : Elapses tells d0 d1) (crash1 : Follows (TornIn Book 1 (length frame)) (tells.may_leave d0) (tells.may_leave d1)) where
    pub first : LeavesOnly tells d0 d1 P
    first = goes_on tells d0 d0 d1 P at_start time1 (head_crash (tells.may_leave d1) crash1)

    module _ (d2 : D) (time2 : Elapses tells d1 d2) (crash2 : Narrows (tells.may_leave d1) (tells.may_leave d2)) where
      pub second : LeavesOnly tells d0 d2 P
      second = goes_on tells d0 d1 d2 P first time2 (λ c left. head_crash (tells.may_leave d1) crash1 c (crash2 c left))

      module _ (durable : Only (written Book 1 frame i) (tells.may_leave d2)) (d3 : D) (time3 : Elapses tells d2 d3) (crash3 : Follows (TornIn Book 0 1) (tells.may_leave d2) (tells.may_leave d3)) where
        pub third : LeavesOnly tells d0 d3 P
        third = goes_on tells d0 d2 d3 P second time3 (gate_crash (tells.may_leave d2) (tells.may_leave d3) durable crash3)

        pub fourth : (d4 : D) → Elapses tells d3 d4 → Narrows (tells.may_leave d3) (tells.may_leave d4) → LeavesOnly tells d0 d4 P
        fourth d4 time4 crash4 = goes_on tells d0 d3 d4 P third time4 (λ c left. gate_crash (tells.may_leave d2) (tells.may_leave d3) durable crash3 c (crash4 c left))

-- after the last call
pub is_born : {D : Type 0} (tells : DiskTells D) (disk : D) (i : Image) (r : IsCleared i.book) (h : Header) (frame : List ℕ) → IsHeaderFrame h frame
    → tells.reads disk ≡ Some (written Book 0 (1 ∷ []) (written Book 1 frame i)) → Only (written Book 0 (1 ∷ []) (written Book 1 frame i)) (tells.may_leave disk)
    → IsKept tells disk (born h None []) i.blobs
is_born tells disk i r h frame is_frame is only = record {
  now = written Book 0 (1 ∷ []) (written Book 1 frame i);
  is_read = is;
  book = ap contents_of (is_open i.book r h frame is_frame.long is_frame.bytes is_frame.format) ∙ reads_empty i.book r h frame is_frame.long is_frame.bytes is_frame.format;
  blobs_same = refl;
  only = only;
}
