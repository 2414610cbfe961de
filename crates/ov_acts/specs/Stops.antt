-- Why an act has no result, and the status of each reason.
use Rattle.std.specs.Prelude.{ℕ, List, Result}
use Rattle.ov_client.specs.declared.fault.ClientFault.{ClientFault}
use Rattle.ov_client.specs.declared.fault.ClientFault.TheVariants as client
use Rattle.ov_owner.specs.declared.fault.OwnerFault.{OwnerFault}
use Rattle.ov_owner.specs.declared.fault.OwnerFault.TheVariants as owner
use Rattle.ov_acts.specs.declared.stop.Stop.{Stop}
use Rattle.ov_acts.specs.declared.stop.Stop.TheVariants.{Refused, Device, Read, Memory, Link}
use Rattle.ov_acts.specs.declared.stop.Stop.TheVariants.{OtherKeys, BadKeys, BadReply, Damaged}
use Rattle.ov_acts.specs.declared.stop.Stop.TheVariants.{Unsettled, TooLong}

-- what comes of an act: the bytes for standard output, or why there are none
abbrev pub Outcome : Type 0
Outcome = Result (List ℕ) Stop

-- the exit status of a reason
abbrev pub stop_code : Stop → ℕ
stop_code (Refused why) = 3
stop_code Device = 4
stop_code Read = 5
stop_code Memory = 7
stop_code Link = 8
stop_code OtherKeys = 9
stop_code BadKeys = 10
stop_code BadReply = 11
stop_code Damaged = 12
stop_code Unsettled = 13
stop_code TooLong = 14

-- the reason that a fault of an owner's call is
abbrev pub stop_of_owner : OwnerFault → Stop
stop_of_owner (owner.Refused why) = Refused why
stop_of_owner owner.Link = Link
stop_of_owner (owner.BadReply place) = BadReply
stop_of_owner owner.BadTag = OtherKeys
stop_of_owner owner.Device = Device
stop_of_owner (owner.Unsettled epochs) = Unsettled
stop_of_owner owner.Memory = Memory

-- the reason that a fault of a read is
abbrev pub stop_of_client : ClientFault → Stop
stop_of_client (client.Refused why) = Refused why
stop_of_client client.Link = Link
stop_of_client (client.BadReply place) = BadReply
stop_of_client (client.Damaged stored computed) = Damaged
stop_of_client client.Device = Device
stop_of_client (client.Unsettled generations) = Unsettled
stop_of_client client.Memory = Memory
