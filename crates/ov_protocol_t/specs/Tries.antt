-- Rows of tries: nine, and then a read or an update is given up.
use Rattle.std.specs.Prelude.{◌≡◌, ℕ, List, [], ◌∷◌, Err}
use Rattle.ov_client.specs.Talks.{AsksChain, Ends, again}
use Rattle.ov_client.specs.declared.fault.ClientFault.TheVariants.{Unsettled}
use Rattle.ov_owner.specs.Talks as owners
use Rattle.ov_owner.specs.declared.fault.OwnerFault.TheVariants as faults

-- eight generations
abbrev pub eight : List ℕ
eight = 1 ∷ 2 ∷ 3 ∷ 4 ∷ 5 ∷ 6 ∷ 7 ∷ 8 ∷ []

-- After eight tries, in each of which the file moved or was gone, a reader asks for the chains
-- again, and after nine it doesn't. With another number of tries one of the two would be otherwise.
pub record ReadsHaveNineTries : Type 0 where
  pub eighth : again eight 9 ≡ AsksChain eight 9
  pub ninth : again (0 ∷ eight) 9 ≡ Ends (Err (Unsettled (0 ∷ eight)))

-- After eight tries that were answered Stale an owner asks again with an update, and after nine it
-- doesn't.
pub record UpdatesHaveNineTries : Type 0 where
  pub eighth : owners.again eight 9 ≡ owners.Asks eight 9
  pub ninth : owners.again (0 ∷ eight) 9 ≡ owners.Ends (Err (faults.Unsettled (0 ∷ eight)))
