-- How the parts of a question make all of it.
use Rattle.std.proofs.Common.{◌≡◌, ◌∙◌, ℕ, ◌<◌, ◌≤◌, Bool, true, false, List, length, Option, Some, None, inl, inr, refl, sym, subst, arith}
use Rattle.std.specs.Prelude.{◌↔◌, slice_index}
use Rattle.ov_base.specs.declared.mode.Mode.{Mode}
use Rattle.ov_book.specs.Beginning.{FindsBook, IsBegun}
use Rattle.ov_book.specs.Opened.{Holds, Opened}
use Rattle.ov_books.specs.Books.{Booked}
use Rattle.ov_books.specs.Images.{IsImageOf, Keeps}
use Rattle.ov_disk.specs.Disk.{Image, Told}
use Rattle.ov_disk.specs.Moments.{IsUntouched}
use Rattle.ov_disk.specs.Tells.{DiskTells}
use Rattle.ov_disk.proofs.Runs.{then_on}
use Rattle.ov_history.specs.Masters.{Masters}
use Rattle.ov_journal.specs.Standing.{IsUnborn}
use Rattle.ov_consulting.specs.Answers.{answer_by}
use Rattle.ov_consulting.specs.Consulting.{ConsultsUnder, Ends}
use Rattle.ov_consulting.specs.Endings.{End}
use Rattle.ov_consulting.specs.Saying.{Says}
use Rattle.ov_consulting.specs.declared.job.Question.{Question}
use Rattle.ov_consulting.proofs.Endings.{ends_by}
use Rattle.ov_consulting.proofs.Shown.{mode_is}

-- ---- whether a book was begun

-- a Book of so few bytes
pub short_is_unborn : (book : List ℕ) (n : ℕ) → n ≡ length book → n ≤ 1
    → (true ≡ true) ↔ IsUnborn book
short_is_unborn book n is low = (λ same. inl (omega (arith, is, low)), λ unborn. refl)

-- a Book of so many bytes
pub long_is_begun : (book : List ℕ) (n : ℕ) → n ≡ length book → 79 < n
    → (false ≡ true) ↔ IsUnborn book
long_is_begun book n is long = (λ same. absurd (cc same), λ unborn. absurd (begun unborn)) where
  begun : IsUnborn book → ⊥
  begun (inl short) = omega (arith, is, long, short)
  begun (inr shut) = omega (arith, is, long, shut.0)

-- a Book between them, by its first gate
pub gate_says : (book : List ℕ) (n : ℕ) (is_open : Bool) → n ≡ length book → 1 < n → n ≤ 79
    → (is_open ≡ true) ↔ (slice_index book 0 ≡ 1) → (is_open ≡ false) ↔ IsUnborn book
gate_says book n true is low high says =
    (λ same. absurd (cc same), λ unborn. absurd (begun unborn)) where
      begun : IsUnborn book → ⊥
      begun (inl short) = omega (arith, is, low, short)
      begun (inr shut) = shut.1 (says.0 refl)
gate_says book n false is low high says = (
  λ same. inr (omega (arith, is, high), λ one. absurd (cc (says.1 one))),
  λ unborn. refl,
)

-- ---- the book that was opened

-- A book for which the open one stands, in this mode. Where the disk told its bytes it is the one that
-- they keep.
pub record FoundBook {D : Type 0} (tells : DiskTells D) (k : Masters) (mode : Mode)
    (told : Option Image) (s : Opened D) : Type 0 where
  pub book : Booked
  pub holds : Holds tells book s
  pub mode_is : book.mode ≡ mode
  pub kept : Told told (Keeps k book)

module _ {D : Type 0} (tells : DiskTells D) (k : Masters) (mode : Mode) where
  kept_by : (b : Booked) (i : Image) → IsImageOf k b i → (IsUnborn i.book → ⊥) → Keeps k b i
  kept_by b i (inl unborn) begun = absurd (begun unborn.0)
  kept_by b i (inr keeps) begun = keeps

  pub finds : (told : Option Image) (s : Opened D) → IsBegun tells k mode told s
      → Told told (λ i. IsUnborn i.book → ⊥) → (b : Booked) × Holds tells b s → FoundBook tells k mode told s
  finds None s is begun (b, holds) = record {
    book = b;
    holds = holds;
    mode_is = sym (mode_is tells s b holds) ∙ is.new.2;
    kept = λ i at. absurd (cc at);
  }
  finds (Some i) s is begun some =
      let found : FindsBook tells k mode i s = is.found i refl in
      let b : Booked = found.some.0 in
      record {
        book = b;
        holds = found.each b found.some.1 found.some.2;
        mode_is = found.some.1;
        kept = λ j at.
            let same : i ≡ j = cc in
            kept_by b j (subst (λ (x : Image). IsImageOf k b x) same found.some.2) (begun j at);
      }

  -- ---- all of a call

  module _ (q : Question) where
    -- what the open book says
    pub by_answer : (d : D) (s : Opened D) (end : End) → IsBegun tells k mode (tells.reads d) s
        → Told (tells.reads d) (λ i. IsUnborn i.book → ⊥) → (b : Booked) × Holds tells b s
        → ((b : Booked) → Holds tells b s → Says (answer_by s.masters b q) end)
        → Ends k mode (tells.reads d) q end
    by_answer d s end is begun some says =
        let found = finds (tells.reads d) s is begun some in
        ends_by k mode (tells.reads d) q found.book end found.holds.is_book found.mode_is found.kept
        (subst (λ (m : Masters). Says (answer_by m found.book q) end) is.new.0
        (says found.book found.holds))

    -- the disk was only looked at before
    pub looked_before : (d m e : D) (end : End) → IsUntouched tells d m
        → ConsultsUnder tells k mode q m e end → ConsultsUnder tells k mode q d e end
    looked_before d m e end quiet then = record {
      unwritten = λ i at.
          then_on tells d m e (tells.may_leave d) (tells.may_leave m) quiet.any_moment
          (then.unwritten i (quiet.reads_same ∙ at)) quiet.no_more;
      ends = subst (λ (told : Option Image). Ends k mode told q end) quiet.reads_same then.ends;
    }

    -- the disk was only looked at
    pub looked_alone : (d e : D) (end : End) → IsUntouched tells d e
        → Ends k mode (tells.reads d) q end → ConsultsUnder tells k mode q d e end
    looked_alone d e end quiet ends = record {
      unwritten = λ i at. quiet.any_moment;
      ends = ends;
    }
