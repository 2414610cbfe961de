-- A list that is filled from the reading half of a stream.
use Rattle.std.proofs.Common.{◌≡◌, ◌∙◌, ℕ, ◌<◌, ◌≤◌, List, [], Ok, Err, inl, inr, refl, sym, subst, length, take, append-nil, arith}
use Rattle.std.specs.Prelude.{◌⊎◌, ⊤, IfOk, IsErr, Result}
use Rattle.std.specs.Io.KnownBytes.{Consumes, IsAtEnd}
use Rattle.std.proofs.KnownBytes.{Consumes-trans}
use Rattle.ov_base.specs.Causes.{HasCause}
use Rattle.ov_io.specs.Calls.{TakesPieces, no_piece, one_more, TakesWhile, each_gave, last_gave_none}
use Rattle.ov_io.specs.Streams.{LeavesSink}
use Rattle.ov_io.specs.Tells.{SourceTells, SinkTells}
use Rattle.ov_io.proofs.Pieces.{pieces_consumed}
use Rattle.ov_session.specs.Links.{IsSameLoan, link}
use Rattle.ov_session.specs.Reading.{FillsUp, Reads}

-- a stream, of which each take leaves the sink
module _ {L : Type 0} (source : SourceTells L) (sink : SinkTells L)
    (leaves : (old new : L) → source.takes old new → LeavesSink sink old new) where
  pieces_leave : (P : List ℕ → Type 0) (old new : L) (seen : List ℕ)
      → TakesPieces source P old new seen → LeavesSink sink old new
  pieces_leave P old _ _ (no_piece new e) =
      subst (λ s. LeavesSink sink old s) (sym e)
      (record { bytes = refl; faults = refl; borrow = refl })
  pieces_leave P old _ _ (one_more mid new seen piece before u t c some) =
      let first = pieces_leave P old mid seen before in
      let last = leaves mid new t in
      record {
        bytes = last.bytes ∙ first.bytes;
        faults = last.faults ∙ first.faults;
        borrow = last.borrow ∙ first.borrow;
      }

  while_leaves : (P : List ℕ → Type 0) (E F : Type 0) (old new : L)
      → TakesWhile source P E F old new → LeavesSink sink old new
  while_leaves P E F old new (each_gave seen t ok) = pieces_leave P old new seen t
  while_leaves P E F old new (last_gave_none mid seen t u step c end) =
      let first = pieces_leave P old mid seen t in
      let last = leaves mid new step in
      record {
        bytes = last.bytes ∙ first.bytes;
        faults = last.faults ∙ first.faults;
        borrow = last.borrow ∙ first.borrow;
      }

  while_consumed : (P : List ℕ → Type 0) (E F : Type 0) (old new : L)
      → TakesWhile source P E F old new
      → (seen : List ℕ) × Consumes (source.left old) (source.left new) seen
  while_consumed P E F old new (each_gave seen t ok) =
      (seen, pieces_consumed source P old new seen t)
  while_consumed P E F old new (last_gave_none mid seen t u step c end) = (
    seen,
    subst (Consumes (source.left old) (source.left new)) (append-nil seen)
        (Consumes-trans (source.left old) (source.left mid) (source.left new) seen []
        (pieces_consumed source P old mid seen t) c),
  )

  -- these bytes were taken, and the sink was left
  reads_of : (P : List ℕ → Type 0) (E F : Type 0) (old new : L) (bytes : List ℕ)
      → TakesWhile source P E F old new → Consumes (source.left old) (source.left new) bytes
      → source.faults old ≤ source.faults new
      → Reads (link source sink old) (link source sink new) bytes
  reads_of P E F old new bytes takes read later =
      let left = while_leaves P E F old new takes in
      record { read = read; written = left.bytes; writes = left.faults; later = later }

  pub fills_up : {E : Type 0} (old new : L) (buf : List ℕ) (size : ℕ) (result : Result ℕ E)
      → length buf ≡ size
      → IfOk result (λ n. (n ≤ size)
      × Consumes (source.left old) (source.left new) (take n buf))
      → IfOk result (λ n. (n ≡ size) ⊎ IsAtEnd (source.left new))
      → TakesWhile source (λ seen. length seen < size) ⊤ (IsErr result) old new
      → HasCause (source.faults old) (source.faults new) result
      → FillsUp (link source sink old) (link source sink new) buf result
  fills_up old new buf size (Ok n) long taken all needed cause = record {
    reads = reads_of _ _ _ old new (take n buf) needed taken.1 cause.later;
    within = omega (arith, long, taken.0);
    ends = λ short. elim all [
      | inl full ↦ absurd (omega (arith, long, full, short))
      | inr at_end ↦ at_end
    ];
  }
  fills_up old new buf size (Err fault) long taken all needed cause =
      let (seen, read) = while_consumed _ _ _ old new needed in
      record {
        taken = seen;
        reads = reads_of _ _ _ old new seen needed read cause.later;
        rose = cause.failed;
      }

  pub same_loan : (P : List ℕ → Type 0) (E F : Type 0) (old new : L)
      → TakesWhile source P E F old new → source.borrow new ≡ source.borrow old
      → IsSameLoan source sink old new
  same_loan P E F old new takes same =
      record { reads = same; writes = (while_leaves P E F old new takes).borrow }
