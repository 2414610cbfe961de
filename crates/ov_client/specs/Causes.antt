-- Why a read has no bytes.
use Rattle.std.specs.Prelude.{ℕ, ◌≤◌, Result, Err}
use Rattle.ov_base.specs.Causes.{Rose}
use Rattle.ov_peer.specs.declared.fault.ExchangeFault.{ExchangeFault}
use Rattle.ov_peer.specs.declared.fault.ExchangeFault.TheVariants as exchange
use Rattle.ov_client.specs.declared.fault.ClientFault.{ClientFault}
use Rattle.ov_client.specs.declared.fault.ClientFault.TheVariants.{BadReply, Link, Memory}

-- the fault of a read of which an ask has no answer
abbrev pub client_fault : ExchangeFault → ClientFault
client_fault exchange.Link = Link
client_fault (exchange.BadReply place) = BadReply place
client_fault exchange.Memory = Memory

-- a fault of the link comes only where the count rose; which other fault it is, the asks say
abbrev pub IsClientCause : {T : Type 0} → ℕ → ℕ → Result T ClientFault → Type 0
IsClientCause before now (Err Link) = Rose before now
IsClientCause before now result = Unit {0}

-- the count of faults never falls, and a fault of the link has its cause
pub record HasClientCause {T : Type 0} (before now : ℕ) (result : Result T ClientFault)
    : Type 0 where
  pub later : before ≤ now
  pub failed : IsClientCause before now result
