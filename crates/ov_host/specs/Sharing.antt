-- A value that sessions share while a door is served, and what it is left with.
use Rattle.std.specs.Prelude.{◌≡◌, ◌⊎◌, ℕ, List, [], length, Option}
use Rattle.std.specs.List.Sorted.{IsPermutation}
use Rattle.std.proofs.Common.{inl, inr}
use Rattle.ov_io.specs.Tells.{SinkTells, SourceTells}
use Rattle.ov_peer.specs.Tells.{AnswererTells}
use Rattle.ov_session.specs.Doors.{Doorway}
use Rattle.ov_turn.specs.declared.view.Entry.{Entry}
use Rattle.ov_turn.specs.Logs.{own, spellings}
use Rattle.ov_turn.specs.Passes.{AreFirst, IsLeft, PassState, SharedState}
use Rattle.ov_serving.specs.Accepted.{accepted_in_sessions}
use Rattle.ov_serving.specs.Sessions.{serves_by_pass}
use Rattle.ov_serving.specs.Spawning.{SpawnerState}
use Rattle.ov_serving.specs.Told.{SessionsAreTold}
use Rattle.ov_report.specs.Ends.{EndsIn}
use Rattle.ov_report.specs.Faults.{memory_line}
use Rattle.ov_host.specs.Serving.{Serves}

module _ {V S G : Type 0} (answerer : AnswererTells V) (source : SourceTells S) (sink : SinkTells S)
  where
    -- the updates that the sessions accepted, in the order of the sessions
    abbrev pub accepted : (first last : List (PassState V)) (old new : Doorway S)
        (idle done : SpawnerState S V G) (wanted : ℕ) (before after : Option (List ℕ)) (status : ℕ)
        → Serves (serves_by_pass answerer source sink) first last old new idle done wanted before
        after status → List Entry
    accepted first last old new idle done wanted before after status (inl fails) = []
    accepted first last old new idle done wanted before after status
        (inr (address, here, inl fails)) = []
    accepted first last old new idle done wanted before after status
        (inr (address, here, inr tells)) =
        accepted_in_sessions answerer source sink first tells.serves.sessions.sessions last
        tells.serves.sessions.passes

    -- Each reply in the sessions is the value's after a first part of this list, which goes on by the
    -- request's own update where the reply accepts it. Where the reply says that the disk failed in an
    -- update, that part is the whole list: no session's update is accepted any more.
    abbrev pub AreToldOf : V → List Entry → (first last : List (PassState V)) (old new : Doorway S)
        (idle done : SpawnerState S V G) (wanted : ℕ) (before after : Option (List ℕ)) (status : ℕ)
        → Serves (serves_by_pass answerer source sink) first last old new idle done wanted before
        after status → Type 0
    AreToldOf value log first last old new idle done wanted before after status (inl fails) =
        Unit {0}
    AreToldOf value log first last old new idle done wanted before after status
        (inr (address, here, inl fails)) = Unit {0}
    AreToldOf value log first last old new idle done wanted before after status
        (inr (address, here, inr tells)) =
        SessionsAreTold answerer value log source sink first tells.serves.sessions.sessions last
        tells.serves.sessions.passes

module _ {V S G : Type 0} (answerer : AnswererTells V) (source : SourceTells S) (sink : SinkTells S)
    (value left : V) (workers : ℕ) (old new : Doorway S) (idle done : SpawnerState S V G)
    (wanted : ℕ) (before after : Option (List ℕ)) (status : ℕ) where
  -- The value was shared by so many passes, by which the door was served. It is left with one list
  -- of accepted updates: each that a session accepted is there once, and those of a pass are in the
  -- order of its sessions; what the sessions were told is that list's, which ends where the disk
  -- failed in an update of theirs.
  pub record Shares : Type 0 where
    pub shared : SharedState V
    pub start : shared.start ≡ value
    pub number : shared.passes ≡ workers
    pub first : List (PassState V)
    pub all : length first ≡ workers
    pub are_first : AreFirst answerer shared first
    pub last : List (PassState V)
    pub serves : Serves (serves_by_pass answerer source sink) first last old new idle done wanted
        before after status
    pub is_left : IsLeft answerer shared last left
    pub accepts : IsPermutation is_left.0
        (accepted answerer source sink first last old new idle done wanted before after status serves)
    pub in_order : (pass : ℕ) → own pass is_left.0
        ≡ own pass (accepted answerer source sink first last old new idle done wanted before after
        status serves)
    pub told : AreToldOf answerer source sink value is_left.0 first last old new idle done wanted
        before after status serves

  -- Memory was refused for the passes: nothing was served, and the line says so.
  pub record FailsToShare : Type 0 where
    pub same : answerer.reached value [] left
    pub door : new ≡ old
    pub spawner : done ≡ idle
    pub ends : EndsIn memory_line 7 before after status

  -- the door was served with this value, or memory was refused for that
  abbrev pub ServesValue : Type 0
  ServesValue = FailsToShare ⊎ Shares

  -- the spellings of the updates that were accepted, in order
  abbrev pub made : ServesValue → List (List ℕ)
  made (inl fails) = []
  made (inr shares) = spellings shares.is_left.0
