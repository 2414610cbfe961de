-- Statuses of last lines.
use Rattle.std.proofs.Common.{◌≡◌, ◌⊎◌, inl, inr, ℕ, ◌∙◌, ap, arith, List, take, Option, Bool, true, false}
use Rattle.std.specs.Io.KnownBytes.{Appends}
use Rattle.ov_session.specs.Doors.{Doorway}
use Rattle.ov_session.specs.Serving.{OneSession}
use Rattle.ov_store.specs.declared.fault.BeginFault.{BeginFault}
use Rattle.ov_store.specs.declared.fault.BeginFault.TheVariants.{Disk, Memory}
use Rattle.ov_report.specs.Ends.{EndsIn, EndsOr}
use Rattle.ov_report.specs.Faults.{fault_line, fault_status, memory_line}
use Rattle.ov_io.specs.Tells.{SinkTells, SourceTells}
use Rattle.ov_peer.specs.Tells.{AnswererTells}
use Rattle.ov_turn.specs.Passes.{PassState}
use Rattle.ov_serving.specs.Sessions.{serves_by_pass}
use Rattle.ov_serving.specs.Spawning.{SpawnerState}
use Rattle.ov_host.specs.Hosting.{IsOpenStatus}
use Rattle.ov_host.specs.Serving.{EndsServing, Serves, door_line, listening_line, served_line}
use Rattle.ov_host.specs.Sharing.{ServesValue}

-- the status of a line that was put, or couldn't be
ended_in : (last : List ℕ) (code : ℕ) (old new : Option (List ℕ)) (status : ℕ) → EndsIn last code old new status → (status ≡ code) ⊎ (status ≡ 6)
ended_in last code old new status (inl (is, put)) = inl is
ended_in last code old new status (inr (is, put)) = inr is

-- the status of a line that was put, or couldn't be, or for which memory may have been refused
ended_or : (last : List ℕ) (code : ℕ) (old new : Option (List ℕ)) (status : ℕ) → EndsOr last code old new status
    → (status ≡ code) ⊎ ((status ≡ 6) ⊎ (status ≡ 7))
ended_or last code old new status (inl (inl (is, put))) = inl is
ended_or last code old new status (inl (inr (is, put))) = inr (inl is)
ended_or last code old new status (inr (inl (is, put))) = inr (inr is)
ended_or last code old new status (inr (inr (is, put))) = inr (inl is)

-- ---- the status of a server at its door

-- the statuses with which serving ends
Ended : ℕ → Type 0
Ended status = (status ≡ 0) ⊎ ((status ≡ 6) ⊎ ((status ≡ 7) ⊎ (status ≡ 13)))

served_ends : (failed : Bool) (served : ℕ) (old new : Option (List ℕ)) (status : ℕ) → EndsServing failed served old new status → Ended status
unfolding Ended
served_ends true served old new status ends = by_line (ended_in door_line 13 old new status ends) where
  by_line : (status ≡ 13) ⊎ (status ≡ 6) → (status ≡ 0) ⊎ ((status ≡ 6) ⊎ ((status ≡ 7) ⊎ (status ≡ 13)))
  by_line (inl is) = inr (inr (inr is))
  by_line (inr is) = inr (inl is)
served_ends false served old new status ends = by_line (ended_or (served_line served) 0 old new status ends) where
  by_line : (status ≡ 0) ⊎ ((status ≡ 6) ⊎ (status ≡ 7)) → (status ≡ 0) ⊎ ((status ≡ 6) ⊎ ((status ≡ 7) ⊎ (status ≡ 13)))
  by_line (inl is) = inl is
  by_line (inr (inl is)) = inr (inl is)
  by_line (inr (inr is)) = inr (inr (inl is))

module _ {V S G : Type 0} (one : OneSession (PassState V) S) (first last : List (PassState V)) (old new : Doorway S) (idle done : SpawnerState S V G)
    (wanted : ℕ) (before after : Option (List ℕ)) (status : ℕ) where
  serves_ends : Serves one first last old new idle done wanted before after status → Ended status
  unfolding Ended
  serves_ends (inl fails) = by_line (ended_in door_line 13 before after status fails.ends) where
    by_line : (status ≡ 13) ⊎ (status ≡ 6) → (status ≡ 0) ⊎ ((status ≡ 6) ⊎ ((status ≡ 7) ⊎ (status ≡ 13)))
    by_line (inl is) = inr (inr (inr is))
    by_line (inr is) = inr (inl is)
  serves_ends (inr (address, here, inl fails)) = by_end fails.ends where
    by_end : ((status ≡ 6) × ((n : ℕ) × Appends before after (take n (listening_line address)))) ⊎ EndsIn memory_line 7 before after status
        → (status ≡ 0) ⊎ ((status ≡ 6) ⊎ ((status ≡ 7) ⊎ (status ≡ 13)))
    by_end (inl (is, put)) = inr (inl is)
    by_end (inr (inl (is, put))) = inr (inr (inl is))
    by_end (inr (inr (is, put))) = inr (inl is)
  serves_ends (inr (address, here, inr tells)) =
      served_ends tells.serves.failed tells.serves.served tells.between after status tells.serves.ends

-- memory was refused, and the line was put or couldn't be
memory_ends : (before after : Option (List ℕ)) (status : ℕ) → EndsIn memory_line 7 before after status → Ended status
unfolding Ended
memory_ends before after status (inl (is, put)) = inr (inr (inl is))
memory_ends before after status (inr (is, put)) = inr (inl is)

module _ {V S G : Type 0} (answerer : AnswererTells V) (source : SourceTells S) (sink : SinkTells S) (value left : V) (workers : ℕ)
    (old new : Doorway S) (idle done : SpawnerState S V G) (wanted : ℕ) (before after : Option (List ℕ)) (status : ℕ) where
  value_ends : ServesValue answerer source sink value left workers old new idle done wanted before after status → Ended status
  value_ends (inl fails) = memory_ends before after status fails.ends
  value_ends (inr shares) =
      serves_ends (serves_by_pass answerer source sink) shares.first shares.last old new idle done wanted before after status shares.serves

  -- the status isn't 4
  pub serves_not_4 : ServesValue answerer source sink value left workers old new idle done wanted before after status → status ≡ 4 → ⊥
  unfolding Ended
  serves_not_4 serves four = not_4 status (value_ends serves) four where
    not_4 : (n : ℕ) → (n ≡ 0) ⊎ ((n ≡ 6) ⊎ ((n ≡ 7) ⊎ (n ≡ 13))) → n ≡ 4 → ⊥
    not_4 n (inl is) four = omega (arith, is, four)
    not_4 n (inr (inl is)) four = omega (arith, is, four)
    not_4 n (inr (inr (inl is))) four = omega (arith, is, four)
    not_4 n (inr (inr (inr is))) four = omega (arith, is, four)

  -- the status is one of a server whose disk has its store
  pub serves_open : ServesValue answerer source sink value left workers old new idle done wanted before after status → IsOpenStatus status
  unfolding Ended
  serves_open serves = as_open (value_ends serves) where
    as_open : (status ≡ 0) ⊎ ((status ≡ 6) ⊎ ((status ≡ 7) ⊎ (status ≡ 13))) → IsOpenStatus status
    as_open (inl is) = inl is
    as_open (inr (inl is)) = inr (inr (inl is))
    as_open (inr (inr (inl is))) = inr (inr (inr (inl is)))
    as_open (inr (inr (inr is))) = inr (inr (inr (inr is)))

-- ---- the status where no store was begun

module _ (f : BeginFault) (old new : Option (List ℕ)) (status : ℕ) (ends : EndsOr (fault_line f) (fault_status f) old new status) where
  -- the status after a fault of the disk or refused memory is one of a disk that may have its store
  pub faulted_open : (f ≡ Disk) ⊎ (f ≡ Memory) → IsOpenStatus status
  faulted_open why = by_line (ended_or (fault_line f) (fault_status f) old new status ends) why where
    by_line : (status ≡ fault_status f) ⊎ ((status ≡ 6) ⊎ (status ≡ 7)) → (f ≡ Disk) ⊎ (f ≡ Memory) → IsOpenStatus status
    by_line (inl is) (inl disk) = inr (inl (is ∙ ap fault_status disk))
    by_line (inl is) (inr memory) = inr (inr (inr (inl (is ∙ ap fault_status memory))))
    by_line (inr (inl is)) why = inr (inr (inl is))
    by_line (inr (inr is)) why = inr (inr (inr (inl is)))
