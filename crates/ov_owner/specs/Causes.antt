-- Why a call of an owner ends with a fault of the link.
use Rattle.std.specs.Prelude.{◌≡◌, ℕ, ◌≤◌, Result, Err}
use Rattle.ov_base.specs.Causes.{Rose}
use Rattle.ov_owner.specs.declared.fault.OwnerFault.{OwnerFault}
use Rattle.ov_owner.specs.declared.fault.OwnerFault.TheVariants.{Link}

-- a peer's count never falls, and a fault of the link comes only where it rose; by which replies
-- the other faults come is said elsewhere
pub record HasOwnerCause {T : Type 0} (before now : ℕ) (result : Result T OwnerFault) : Type 0 where
  pub later : before ≤ now
  pub link : result ≡ Err Link → Rose before now
