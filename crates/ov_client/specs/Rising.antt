-- The generations of a read that is unsettled.
use Rattle.std.specs.Prelude.{◌≡◌, ℕ, ◌<◌, List, [], ◌∷◌, length, Option, Err}
use Rattle.ov_peer.specs.Asks.{Ask}
use Rattle.ov_client.specs.Readers.{Reader}
use Rattle.ov_client.specs.Talks.{Talks}
use Rattle.ov_client.specs.declared.fault.ClientFault.TheVariants.{Unsettled}
use Rattle.ov_client.specs.declared.reading.TheConstants.{TRIES}

-- each is less than the next
abbrev pub Rises : List ℕ → Type 0
Rises [] = Unit {0}
Rises (n ∷ []) = Unit {0}
Rises (n ∷ (m ∷ more)) = (n < m) × Rises (m ∷ more)

-- the generations of tries in each of which the file moved, or was removed or replaced, rise, and
-- are as many as the tries
abbrev pub MovedGenerationsRise : Type 0
MovedGenerationsRise =
    (r : Reader) (file : List ℕ) (asks : List Ask) (unanswered : Option (List ℕ))
    (generations : List ℕ)
    → Talks r file asks unanswered (Err (Unsettled generations))
    → (length generations ≡ TRIES) × Rises generations
