-- Why a store isn't listed.
use Rattle.std.specs.Prelude.{◌≡◌, ℕ, ◌≤◌, Option, None, Result, Ok, Err}
use Rattle.ov_base.specs.Causes.{Rose}
use Rattle.ov_peer.specs.declared.fault.ExchangeFault.{ExchangeFault}
use Rattle.ov_peer.specs.declared.fault.ExchangeFault.TheVariants as exchange
use Rattle.ov_listing.specs.declared.fault.ListingFault.{ListingFault}
use Rattle.ov_listing.specs.declared.fault.ListingFault.TheVariants.{BadReply, Link, Memory}
use Rattle.ov_listing.specs.declared.fault.ListingFault.TheVariants.{Unsettled}

-- the fault of a question that has no answer
abbrev pub listing_fault : ExchangeFault → ListingFault
listing_fault exchange.Link = Link
listing_fault (exchange.BadReply place) = BadReply place
listing_fault exchange.Memory = Memory

-- a peer's count never falls, and a fault of the link comes only where it rose
pub record HasListingCause {T : Type 0} (before now : ℕ) (result : Result T ListingFault)
    : Type 0 where
  pub later : before ≤ now
  pub link : result ≡ Err Link → Rose before now

-- the call didn't end for the reason that the store was changed at each try
abbrev pub IsSettled : {T : Type 0} → Result T ListingFault → Type 0
IsSettled (Err Unsettled) = ⊥
IsSettled result = Unit {0}

-- inner: one try is enough
abbrev pub IsOneTry : {T : Type 0} → Result (Option T) ListingFault → Type 0
IsOneTry (Ok None) = ⊥
IsOneTry (Err Unsettled) = ⊥
IsOneTry result = Unit {0}
