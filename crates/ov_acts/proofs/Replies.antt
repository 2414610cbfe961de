-- The key line that is printed is the one that the call gave.
use Rattle.std.proofs.Common.{ℕ, List, Result, Ok, Err, refl, sym, subst, inl, inr}
use Rattle.ov_client.specs.KeyLines.{key_line}
use Rattle.ov_client.specs.Readers.{Reader}
use Rattle.ov_history.specs.Masters.{Masters}
use Rattle.ov_owner.specs.Clients.{IsReaderOf}
use Rattle.ov_owner.specs.declared.fault.OwnerFault.{OwnerFault}
use Rattle.ov_owner.specs.declared.fault.OwnerFault.TheVariants as faults
use Rattle.ov_protocol.specs.Serving.{Service}
use Rattle.ov_acts.specs.Acts.{Says}
use Rattle.ov_acts.specs.Machine.{HandsKeys}
use Rattle.ov_acts.specs.Stops.{Outcome}

module _ (k : Masters) (v : Service) (Then : Service → Type 0) (user : List ℕ) where
  -- a line that is printed holds the user's two root keys, and a refusal is the call's
  pub keys_told : (result : Result Reader OwnerFault) (outcome : Outcome)
      → IsReaderOf k v Then user result → Says key_line result outcome
      → HandsKeys k v Then user outcome
  keys_told (Ok r) outcome told (inl e) =
      subst (HandsKeys k v Then user) (sym e) (r, refl, told)
  keys_told (Ok r) outcome told (inr e) = subst (HandsKeys k v Then user) (sym e) tt
  keys_told (Err (faults.Refused why)) outcome told e =
      subst (HandsKeys k v Then user) (sym e) told
  keys_told (Err faults.Link) outcome told e = subst (HandsKeys k v Then user) (sym e) tt
  keys_told (Err (faults.BadReply place)) outcome told e =
      subst (HandsKeys k v Then user) (sym e) tt
  keys_told (Err faults.BadTag) outcome told e = subst (HandsKeys k v Then user) (sym e) tt
  keys_told (Err faults.Device) outcome told e = subst (HandsKeys k v Then user) (sym e) tt
  keys_told (Err (faults.Unsettled epochs)) outcome told e =
      subst (HandsKeys k v Then user) (sym e) tt
  keys_told (Err faults.Memory) outcome told e = subst (HandsKeys k v Then user) (sym e) tt
