-- What is replied to a command, by what the owner or the reader got.
use Rattle.std.specs.Prelude.{ℕ, List, Result, Ok, Err}
use Rattle.ov_script.specs.declared.reply.Reply.{Reply}
use Rattle.ov_script.specs.declared.reply.Reply.TheVariants as replies
use Rattle.ov_wire.specs.declared.answer.Welcome.{Welcome}
use Rattle.ov_client.specs.declared.fault.ClientFault.{ClientFault}
use Rattle.ov_client.specs.declared.fault.ClientFault.TheVariants as client
use Rattle.ov_owner.specs.declared.fault.OwnerFault.{OwnerFault}
use Rattle.ov_owner.specs.declared.fault.OwnerFault.TheVariants as owner
use Rattle.ov_machine.specs.declared.fault.StepFault.{StepFault}
use Rattle.ov_machine.specs.declared.fault.StepFault.TheVariants.{Disk, Memory, Tag, Trace}
use Rattle.ov_machine.specs.declared.replying.Found.{Found}
use Rattle.ov_machine.specs.declared.replying.Found.TheVariants.{Read, Unread}

-- ---- faults that may come

-- a fault of an owner that comes of a server in this process: none that says that the server is
-- wrong, or that others update it
abbrev pub MayCome : OwnerFault → Type 0
MayCome (owner.BadReply place) = ⊥
MayCome owner.BadTag = ⊥
MayCome (owner.Unsettled epochs) = ⊥
MayCome fault = Unit {0}

-- a fault of a reader that comes of a server in this process: none that says that the server is
-- wrong, or that others update it
abbrev pub MayEnd : ClientFault → Type 0
MayEnd (client.BadReply place) = ⊥
MayEnd (client.Unsettled generations) = ⊥
MayEnd fault = Unit {0}

-- the fault of a call, if one came, is one of an owner that comes of a server in this process
abbrev pub HasOwnFault : {T : Type 0} → Result T OwnerFault → Type 0
HasOwnFault (Ok value) = Unit {0}
HasOwnFault (Err fault) = MayCome fault

-- the fault of a read, if one came, is one of a reader that comes of a server in this process
abbrev pub HasReadFault : Result (List ℕ) ClientFault → Type 0
HasReadFault (Ok bytes) = Unit {0}
HasReadFault (Err fault) = MayEnd fault

-- the fault of what came of a read, if one came, is one that comes of a server in this process
abbrev pub HasFoundFault : Found → Type 0
HasFoundFault (Unread fault) = MayCome fault
HasFoundFault (Read found) = HasReadFault found

-- ---- replies

-- The reply to a command whose owner was given this fault and no answer. A fault that never comes
-- counts as refused memory here.
abbrev pub fault_reply : OwnerFault → Result Reply StepFault
fault_reply (owner.Refused why) = Ok (replies.Refused why)
fault_reply owner.Link = Err Trace
fault_reply owner.Device = Err Disk
fault_reply fault = Err Memory

-- the reply to a change
abbrev pub change_reply : Result ℕ OwnerFault → Result Reply StepFault
change_reply (Ok epoch) = Ok (replies.Accepted epoch)
change_reply (Err fault) = fault_reply fault

-- the reply to a question for the epoch
abbrev pub epoch_reply : Result Welcome OwnerFault → Result Reply StepFault
epoch_reply (Ok welcome) = Ok (replies.Epoch welcome.epoch)
epoch_reply (Err fault) = fault_reply fault

-- the reply to a question for the names in a file's list
abbrev pub names_reply : List ℕ → Result (List (List ℕ)) OwnerFault → Result Reply StepFault
names_reply file (Ok names) = Ok (replies.List file names)
names_reply file (Err fault) = fault_reply fault

-- the reply to a read that ends with a fault
abbrev pub read_fault_reply : List ℕ → ClientFault → Result Reply StepFault
read_fault_reply file (client.Refused why) = Ok (replies.Refused why)
read_fault_reply file (client.Damaged stored computed) =
    Err (Tag (record { file = file; stored = stored; computed = computed }))
read_fault_reply file client.Link = Err Trace
read_fault_reply file client.Device = Err Disk
read_fault_reply file fault = Err Memory

-- the reply to a read
abbrev pub read_reply : List ℕ → List ℕ → Result (List ℕ) ClientFault → Result Reply StepFault
read_reply user file (Ok bytes) = Ok (replies.Bytes user file bytes)
read_reply user file (Err fault) = read_fault_reply file fault

-- the reply to what came of a read
abbrev pub found_reply : List ℕ → List ℕ → Found → Result Reply StepFault
found_reply user file (Unread fault) = fault_reply fault
found_reply user file (Read found) = read_reply user file found
