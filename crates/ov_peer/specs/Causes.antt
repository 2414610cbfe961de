-- Why an ask has no answer.
use Rattle.std.specs.Prelude.{ℕ, ◌≤◌, Result, Ok, Err}
use Rattle.ov_base.specs.Causes.{Rose}
use Rattle.ov_peer.specs.declared.fault.PeerFault.{PeerFault}
use Rattle.ov_peer.specs.declared.fault.PeerFault.TheVariants as peer
use Rattle.ov_peer.specs.declared.fault.ExchangeFault.{ExchangeFault}
use Rattle.ov_peer.specs.declared.fault.ExchangeFault.TheVariants as exchange

-- a fault of the link comes only where the count rose; memory may be refused at any time
abbrev pub IsLinkCause : {T : Type 0} → ℕ → ℕ → Result T PeerFault → Type 0
IsLinkCause before now (Ok value) = Unit {0}
IsLinkCause before now (Err peer.Link) = Rose before now
IsLinkCause before now (Err peer.Memory) = Unit {0}

-- an ask ended with a fault of the link only where the count rose, and the count never falls
pub record HasLinkCause {T : Type 0} (before now : ℕ) (result : Result T PeerFault) : Type 0 where
  pub later : before ≤ now
  pub failed : IsLinkCause before now result

-- An exchange ends with a fault of the link only where the count rose. Memory may be refused at any
-- time, and whether a reply is an answer is said elsewhere.
abbrev pub IsExchangeCause : {T : Type 0} → ℕ → ℕ → Result T ExchangeFault → Type 0
IsExchangeCause before now (Ok value) = Unit {0}
IsExchangeCause before now (Err exchange.Link) = Rose before now
IsExchangeCause before now (Err (exchange.BadReply place)) = Unit {0}
IsExchangeCause before now (Err exchange.Memory) = Unit {0}

-- an exchange ended with a fault of the link only where the count rose, and the count never falls
pub record HasExchangeCause {T : Type 0} (before now : ℕ) (result : Result T ExchangeFault)
    : Type 0 where
  pub later : before ≤ now
  pub failed : IsExchangeCause before now result
