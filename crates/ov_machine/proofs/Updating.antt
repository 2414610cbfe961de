-- What a step makes of the machine's history and of its disk, where nothing changes.
use Rattle.std.proofs.Common.{◌≡◌, inl, sym, subst}
use Rattle.std.specs.Prelude.{Ok}
use Rattle.ov_script.specs.declared.command.Command.{Command}
use Rattle.ov_script.specs.declared.reply.Reply.{Reply}
use Rattle.ov_disk.specs.Disk.{Image}
use Rattle.ov_disk.specs.Moments.{IsUntouched, LeavesOnly}
use Rattle.ov_disk.specs.Tells.{DiskTells}
use Rattle.ov_history.specs.Masters.{Masters}
use Rattle.ov_history.specs.Plain.{PlainHistory}
use Rattle.ov_model.specs.Step.{after, reply_to}
use Rattle.ov_machine.specs.Disks.{HasMade, Holds, KeepsPlain, KeepsStep}
use Rattle.ov_machine.specs.Machine.{KeptOn, MayLeave, StandsFor, StepsAt}
use Rattle.ov_machine.proofs.Stays.{holds_each, holds_still, quiet_leaves}

module _ {D : Type 0} (tells : DiskTells D) where
  -- what a run leaves that any moment since its start left so
  pub now_so : (old new : D) (P : Image → Type 0) → LeavesOnly tells old new P → (c : Image) → tells.may_leave new c → P c
  now_so old new P leaves c left =
      leaves.each c (tells.counts_now new (tells.moment old) c leaves.later left)

  -- what leaves the history is made on a disk to which nothing was written
  pub still_made : (k : Masters) (p : PlainHistory) (command : Command) (old new : D)
      → after p command ≡ p → IsUntouched tells old new → HasMade tells k p command old new
  still_made k p command old new same quiet = λ start holds c left.
      subst (λ q. KeepsPlain k start q c) (sym same)
      (holds_each tells k start p old holds c (quiet.no_more c left))

  module _ (old new : KeptOn D) (quiet : IsUntouched tells old.disk new.disk) (k : Masters)
      (p : PlainHistory) (command : Command) where
    -- a crash leaves what it would have left
    pub stays_left : MayLeave tells k p command old.disk new.disk
    stays_left = λ start holds. record {
      moments = quiet_leaves tells old.disk new.disk quiet (KeepsStep k start p command)
          (λ c left. inl (holds_each tells k start p old.disk holds c left));
      now = λ c left. inl (holds_each tells k start p old.disk holds c (quiet.no_more c left));
    }

    -- the command is answered, and the history stays
    pub stays : (reply : Reply) → StandsFor new.kept p → reply ≡ reply_to p command
        → after p command ≡ p → StepsAt tells k p command old new (Ok reply)
    stays reply stands is same = (
      is,
      record {
        stands = subst (StandsFor new.kept) (sym same) stands;
        leaves = stays_left;
        holds = λ start holds. subst (λ q. Holds tells k start q new.disk) (sym same)
            (holds_still tells old.disk new.disk quiet k start p holds);
      },
    )
