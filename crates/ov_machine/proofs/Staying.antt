-- Steps that change nothing.
use Rattle.std.proofs.Common.{◌≡◌, ℕ, List, Result, Ok, Err, sym, subst}
use Rattle.std.specs.Prelude.{IfOk, OnOk}
use Rattle.ov_base.specs.Causes.{Rose}
use Rattle.ov_disk.specs.Tells.{DiskTells}
use Rattle.ov_script.specs.declared.command.Command.{Command}
use Rattle.ov_script.specs.declared.reply.Reply.{Reply}
use Rattle.ov_history.specs.Plain.{PlainHistory}
use Rattle.ov_model.specs.Step.{after, reply_to}
use Rattle.ov_machine.specs.Machine.{AreOtherTags, IsStep, Kept, KeptOn, StandsAsTold, StandsFor, StepsAt, opened_of}
use Rattle.ov_machine.specs.Seats.{Stays}
use Rattle.ov_machine.specs.Steps.{AnswersAsTold, IsReadOf}
use Rattle.ov_machine.specs.declared.fault.BadTag.{BadTag}
use Rattle.ov_machine.specs.declared.fault.StepFault.{StepFault}
use Rattle.ov_machine.specs.declared.fault.StepFault.TheVariants.{Disk, Memory, Tag, Trace}
use Rattle.ov_machine.proofs.Stays.{fails_same}
use Rattle.ov_machine.proofs.Updating.{stays, stays_left}

-- the machine's reply, or a fault that isn't of a tag
abbrev pub EndsThere : PlainHistory → Command → Result Reply StepFault → Type 0
EndsThere p command (Ok reply) = reply ≡ reply_to p command
EndsThere p command (Err (Tag bad)) = ⊥
EndsThere p command (Err fault) = Unit {0}

-- the causes of a fault, where nothing changed but the disk
abbrev pub HasOwnCause : ℕ → ℕ → Result Reply StepFault → Type 0
HasOwnCause before now (Err Disk) = Rose before now
HasOwnCause before now (Err (Tag bad)) = AreOtherTags bad
HasOwnCause before now r = Unit {0}

module _ {D : Type 0} (tells : DiskTells D) (old new : KeptOn D)
    (masters : new.kept.masters ≡ old.kept.masters)
    (still : Stays tells (opened_of old) (opened_of new)) where
  -- what is kept is the same
  pub same_kept : new.kept ≡ old.kept
  same_kept = λ i. record {
    masters = masters i;
    catalogue = (still.writes.same i).catalogue;
    stored = (still.writes.same i).stored;
  }

  module _ (p : PlainHistory) (stands : StandsFor old.kept p) (command : Command)
      (stay : after p command ≡ p) where
    pub still_steps : (r : Result Reply StepFault) → EndsThere p command r
        → StepsAt tells old.kept.masters p command old new r
    still_steps (Ok reply) is =
        stays tells old new still.writes.disk old.kept.masters p command reply
        (subst (λ (kept : Kept). StandsFor kept p) (sym same_kept) stands) is stay
    still_steps (Err Disk) is = stays_left tells old new still.writes.disk old.kept.masters p command
    still_steps (Err Trace) is = stays_left tells old new still.writes.disk old.kept.masters p command
    still_steps (Err Memory) is =
        stays_left tells old new still.writes.disk old.kept.masters p command
    still_steps (Err (Tag bad)) is = absurd is

  -- as far as the disk tells, what is kept stands for the history still
  module _ (p : PlainHistory) (stands : StandsAsTold old.kept p) (command : Command)
      (stay : after p command ≡ p) where
    pub still_as_told : (r : Result Reply StepFault)
        → (((file : List ℕ) → IsReadOf file command → ⊥) → EndsThere p command r)
        → IfOk r (AnswersAsTold p command new.kept)
    still_as_told (Ok reply) is = (
      is,
      subst (StandsAsTold new.kept) (sym stay)
          (subst (λ (kept : Kept). StandsAsTold kept p) (sym same_kept) stands),
    )
    still_as_told (Err fault) is = tt

  pub still_call : (r : Result Reply StepFault)
      → HasOwnCause (tells.faults old.disk) (tells.faults new.disk) r → IsStep tells old new r
  still_call r cause = record {
    masters = masters;
    call = record { same = still.lent; later = still.later; rose = by_disk r cause };
    sound = by_sound r;
    tag = λ bad is. by_tag r bad cause is;
  } where
    by_disk : (x : Result Reply StepFault)
        → HasOwnCause (tells.faults old.disk) (tells.faults new.disk) x → x ≡ Err Disk
        → Rose (tells.faults old.disk) (tells.faults new.disk)
    by_disk x has is = subst (HasOwnCause (tells.faults old.disk) (tells.faults new.disk)) is has

    by_sound : (x : Result Reply StepFault) → OnOk x (new.failed ≡ old.failed)
    by_sound (Ok reply) = fails_same tells (opened_of old) (opened_of new) still
    by_sound (Err fault) = tt

    by_tag : (x : Result Reply StepFault) (bad : BadTag)
        → HasOwnCause (tells.faults old.disk) (tells.faults new.disk) x
        → x ≡ Err (Tag bad) → AreOtherTags bad
    by_tag x bad has is = subst (HasOwnCause (tells.faults old.disk) (tells.faults new.disk)) is has
