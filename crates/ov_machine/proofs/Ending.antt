-- How a change by the owner ends: its reply, and what is true of it at any store.
use Rattle.std.proofs.Common.{◌≡◌, ◌∙◌, ℕ, ◌+◌, List, false, Result, Ok, Err, refl, sym, subst, inl, inr, arith}
use Rattle.std.specs.Prelude.{◌⊎◌, OnOk}
use Rattle.ov_base.specs.Causes.{Rose}
use Rattle.ov_disk.specs.Tells.{DiskTells}
use Rattle.ov_script.specs.declared.reply.Reply.{Reply}
use Rattle.ov_store.specs.Opened.{Opened}
use Rattle.ov_owner.specs.Errands.{Errand}
use Rattle.ov_owner.specs.Talks.{IsAskFault}
use Rattle.ov_owner.specs.declared.fault.OwnerFault.{OwnerFault}
use Rattle.ov_owner.specs.declared.fault.OwnerFault.TheVariants as faults
use Rattle.ov_machine.specs.Machine.{IsStep, KeptOn, opened_of}
use Rattle.ov_machine.specs.Replying.{HasOwnFault, change_reply}
use Rattle.ov_machine.specs.declared.fault.BadTag.{BadTag}
use Rattle.ov_machine.specs.declared.fault.StepFault.{StepFault}
use Rattle.ov_machine.specs.declared.fault.StepFault.TheVariants.{Disk, Tag, Trace}
use Rattle.ov_machine.proofs.Changed.{Changes, IsFailed, IsMade, IsSentTo, cut, refused, sent}
use Rattle.ov_machine.specs.Seats.{Stays}
use Rattle.ov_machine.proofs.Errands.{IsHonest}
use Rattle.ov_machine.proofs.Stays.{fails_same, rose_since}

-- a fault of the trace comes of a fault of the link alone
pub is_link : (made : Result ℕ OwnerFault) → HasOwnFault made → change_reply made ≡ Err Trace
    → made ≡ Err faults.Link
is_link (Ok n) proper is = absurd cc
is_link (Err (faults.Refused why)) proper is = absurd cc
is_link (Err faults.Link) proper is = refl
is_link (Err (faults.BadReply place)) proper is = absurd cc
is_link (Err faults.BadTag) proper is = absurd cc
is_link (Err faults.Device) proper is = absurd cc
is_link (Err (faults.Unsettled epochs)) proper is = absurd cc
is_link (Err faults.Memory) proper is = absurd cc

-- what a cut-off call is replied
cut_proper : (made : Result ℕ OwnerFault) → IsAskFault made → HasOwnFault made
cut_proper made (inl is) = subst HasOwnFault (sym is) tt
cut_proper made (inr is) = subst HasOwnFault (sym is) tt

module _ {D : Type 0} (tells : DiskTells D) (surface : List ℕ) (e : Errand)
    (is_honest : IsHonest e) where
  abbrev Changed : Opened D → Opened D → Result ℕ OwnerFault → Type 0
  Changed s t made = Changes tells surface e is_honest s t made

  -- no call gets a fault that says that the server is wrong
  pub changes_proper : (s t : Opened D) (made : Result ℕ OwnerFault) → Changed s t made
      → HasOwnFault made
  changes_proper s t made (refused told why same answered is so) = subst HasOwnFault (sym so) tt
  changes_proper s t made (cut same why) = cut_proper made why
  changes_proper s t made (sent x) = by x.comes where
    by_made : (made ≡ Ok (x.epoch + 1)) ⊎ IsAskFault made → HasOwnFault made
    by_made (inl is) = subst HasOwnFault (sym is) tt
    by_made (inr why) = cut_proper made why

    by_failed : (made ≡ Err faults.Device) ⊎ IsAskFault made → HasOwnFault made
    by_failed (inl is) = subst HasOwnFault (sym is) tt
    by_failed (inr why) = cut_proper made why

    by : IsMade tells surface e is_honest x.mid t x.epoch x.update x.reply made
        ⊎ IsFailed tells surface e is_honest x.mid t x.epoch x.update x.reply made
        → HasOwnFault made
    by (inl m) = by_made m.ends
    by (inr f) = by_failed f.ends

  -- a reply that is no fault of the disk, and none on a tag
  IsQuiet : Result Reply StepFault → Type 0
  IsQuiet r = (r ≡ Err Disk → ⊥) × ((bad : BadTag) → r ≡ Err (Tag bad) → ⊥)

  cut_quiet : (made : Result ℕ OwnerFault) → IsAskFault made → IsQuiet (change_reply made)
  unfolding IsQuiet
  cut_quiet made (inl is) =
      subst (λ (r : Result ℕ OwnerFault). IsQuiet (change_reply r)) (sym is)
      ((λ x. absurd cc), λ bad x. absurd cc)
  cut_quiet made (inr is) =
      subst (λ (r : Result ℕ OwnerFault). IsQuiet (change_reply r)) (sym is)
      ((λ x. absurd cc), λ bad x. absurd cc)

  module _ (old new : KeptOn D) (sound : old.failed ≡ false)
      (masters : new.kept.masters ≡ old.kept.masters) where
    -- nothing changed
    still_step : (r : Result Reply StepFault) → Stays tells (opened_of old) (opened_of new)
        → IsQuiet r → IsStep tells old new r
    unfolding IsQuiet
    still_step r still quiet = record {
      masters = masters;
      call = record {
        same = still.lent;
        later = still.later;
        rose = λ is. absurd (quiet.0 is);
      };
      sound = by r;
      tag = λ bad is. absurd (quiet.1 bad is);
    } where
      by : (x : Result Reply StepFault) → OnOk x (new.failed ≡ old.failed)
      by (Ok reply) = fails_same tells (opened_of old) (opened_of new) still
      by (Err fault) = tt

    -- an update was sent
    sent_step : (made : Result ℕ OwnerFault)
        → IsSentTo tells surface e is_honest (opened_of old) (opened_of new) made
        → IsStep tells old new (change_reply made)
    unfolding IsQuiet
    sent_step made x = by x.comes where
      failed_before : x.mid.failed ≡ old.failed
      failed_before = fails_same tells (opened_of old) x.mid x.stays

      step_of : (r : Result Reply StepFault)
          → (r ≡ Err Disk → Rose (tells.faults old.disk) (tells.faults new.disk))
          → OnOk r (new.failed ≡ old.failed) → ((bad : BadTag) → r ≡ Err (Tag bad) → ⊥)
          → IsStep tells old new r
      step_of r disk still no_tag = record {
        masters = masters;
        call = record {
          same = x.asks.call.1 ∙ x.stays.lent;
          later = omega (arith, x.stays.later, x.asks.call.2);
          rose = disk;
        };
        sound = still;
        tag = λ bad is. absurd (no_tag bad is);
      }

      cut_off : IsAskFault made → IsStep tells old new (change_reply made)
      cut_off (inl is) =
          subst (λ (r : Result ℕ OwnerFault). IsStep tells old new (change_reply r)) (sym is)
          (step_of (Err Trace) (λ y. absurd cc) tt (λ bad y. absurd cc))
      cut_off (inr is) =
          subst (λ (r : Result ℕ OwnerFault). IsStep tells old new (change_reply r)) (sym is)
          (step_of (change_reply (Err faults.Memory)) (λ y. absurd cc) tt (λ bad y. absurd cc))

      by_made : (m : IsMade tells surface e is_honest x.mid (opened_of new) x.epoch x.update x.reply made)
          → (made ≡ Ok (x.epoch + 1)) ⊎ IsAskFault made
          → IsStep tells old new (change_reply made)
      by_made m (inl is) =
          subst (λ (r : Result ℕ OwnerFault). IsStep tells old new (change_reply r)) (sym is)
          (step_of (change_reply (Ok (x.epoch + 1))) (λ y. absurd cc) (m.answered.failed ∙ failed_before) (λ bad y. absurd cc))
      by_made m (inr why) = cut_off why

      by_failed : (f : IsFailed tells surface e is_honest x.mid (opened_of new) x.epoch x.update x.reply made)
          → (made ≡ Err faults.Device) ⊎ IsAskFault made
          → IsStep tells old new (change_reply made)
      by_failed f (inl is) =
          subst (λ (r : Result ℕ OwnerFault). IsStep tells old new (change_reply r)) (sym is)
          (step_of (Err Disk) (λ y. rose_since (tells.faults old.disk) (tells.faults x.mid.disk)
          (tells.faults new.disk) x.stays.later
          (x.asks.call.3 (f.faulted.spelled, λ update. failed_before ∙ sound))) tt
          (λ bad y. absurd cc))
      by_failed f (inr why) = cut_off why

      by : IsMade tells surface e is_honest x.mid (opened_of new) x.epoch x.update x.reply made
          ⊎ IsFailed tells surface e is_honest x.mid (opened_of new) x.epoch x.update x.reply made
          → IsStep tells old new (change_reply made)
      by (inl m) = by_made m m.ends
      by (inr f) = by_failed f f.ends

    pub changes_call : (made : Result ℕ OwnerFault) → Changed (opened_of old) (opened_of new) made
        → IsStep tells old new (change_reply made)
    unfolding IsQuiet
    changes_call made (refused told why same answered is so) =
        subst (λ (r : Result ℕ OwnerFault). IsStep tells old new (change_reply r)) (sym so)
        (still_step (change_reply (Err (faults.Refused why))) same ((λ x. absurd cc), λ bad x. absurd cc))
    changes_call made (cut same why) = still_step (change_reply made) same (cut_quiet made why)
    changes_call made (sent x) = sent_step made x
