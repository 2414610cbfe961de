-- A wrong tag ends a read alone, and it is that of the file which is read.
use Rattle.std.proofs.Common.{◌≡◌, ℕ, List, Result, Ok, Err, ap}
use Rattle.ov_script.specs.declared.command.Command.{Command}
use Rattle.ov_script.specs.declared.command.Command.TheVariants as commands
use Rattle.ov_script.specs.declared.reply.Reply.{Reply}
use Rattle.ov_wire.specs.declared.answer.Welcome.{Welcome}
use Rattle.ov_client.specs.declared.fault.ClientFault.{ClientFault}
use Rattle.ov_client.specs.declared.fault.ClientFault.TheVariants as client
use Rattle.ov_owner.specs.declared.fault.OwnerFault.{OwnerFault}
use Rattle.ov_owner.specs.declared.fault.OwnerFault.TheVariants as faults
use Rattle.ov_machine.specs.Replying.{change_reply, epoch_reply, fault_reply, names_reply, read_reply}
use Rattle.ov_machine.specs.Steps.{IsReadOf}
use Rattle.ov_machine.specs.declared.fault.BadTag.{BadTag}
use Rattle.ov_machine.specs.declared.fault.StepFault.{StepFault}
use Rattle.ov_machine.specs.declared.fault.StepFault.TheVariants.{Tag}

-- a wrong tag is that of the file which the command reads
abbrev pub NamesFile : Command → Result Reply StepFault → Type 0
NamesFile command r = (bad : BadTag) → r ≡ Err (Tag bad) → IsReadOf bad.file command

no_tag : (f : OwnerFault) (bad : BadTag) → fault_reply f ≡ Err (Tag bad) → ⊥
no_tag (faults.Refused why) bad is = absurd (cc is)
no_tag faults.Link bad is = absurd (cc is)
no_tag (faults.BadReply place) bad is = absurd (cc is)
no_tag faults.BadTag bad is = absurd (cc is)
no_tag faults.Device bad is = absurd (cc is)
no_tag (faults.Unsettled epochs) bad is = absurd (cc is)
no_tag faults.Memory bad is = absurd (cc is)

-- an owner finds none
pub fault_names : (command : Command) (f : OwnerFault) → NamesFile command (fault_reply f)
fault_names command f = λ bad is. absurd (no_tag f bad is)

pub change_names : (command : Command) (made : Result ℕ OwnerFault) → NamesFile command (change_reply made)
change_names command (Ok epoch) = λ bad is. absurd (cc is)
change_names command (Err f) = λ bad is. absurd (no_tag f bad is)

pub epoch_names : (command : Command) (told : Result Welcome OwnerFault) → NamesFile command (epoch_reply told)
epoch_names command (Ok welcome) = λ bad is. absurd (cc is)
epoch_names command (Err f) = λ bad is. absurd (no_tag f bad is)

pub list_names : (command : Command) (file : List ℕ) (told : Result (List (List ℕ)) OwnerFault) → NamesFile command (names_reply file told)
list_names command file (Ok names) = λ bad is. absurd (cc is)
list_names command file (Err f) = λ bad is. absurd (no_tag f bad is)

-- a reader finds that of the file
abbrev tagged : BadTag → Result Reply StepFault
tagged bad = Err (Tag bad)

same_tag : (one other : BadTag) → tagged one ≡ tagged other → one ≡ other
same_tag one other is = cc is

pub read_names : (user file : List ℕ) (found : Result (List ℕ) ClientFault) → NamesFile (commands.Read user file) (read_reply user file found)
read_names user file (Ok bytes) = λ bad is. absurd (cc is)
read_names user file (Err (client.Refused why)) = λ bad is. absurd (cc is)
read_names user file (Err (client.Damaged stored computed)) = λ bad is.
    (user, ap (λ (b : BadTag). commands.Read user b.file) (same_tag (record { file = file; stored = stored; computed = computed }) bad is))
read_names user file (Err client.Link) = λ bad is. absurd (cc is)
read_names user file (Err (client.BadReply place)) = λ bad is. absurd (cc is)
read_names user file (Err client.Device) = λ bad is. absurd (cc is)
read_names user file (Err (client.Unsettled generations)) = λ bad is. absurd (cc is)
read_names user file (Err client.Memory) = λ bad is. absurd (cc is)
