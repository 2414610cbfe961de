-- What a call gives over a peer that tells which history it serves.
use Rattle.std.specs.Prelude.{◌≡◌, Bool, true, false, List, [], Result, Ok, Err}
use Rattle.ov_record.specs.Updates.{SealedUpdate}
use Rattle.ov_protocol.specs.Serving.{Service, later}
use Rattle.ov_peer.specs.Alone.{IsAlone}
use Rattle.ov_peer.specs.Tells.{PeerTells}
use Rattle.ov_listing.specs.declared.fault.ListingFault.{ListingFault}

-- nobody else updates what this peer serves, where the test says so
abbrev pub IsAloneIf : {P : Type 0} → Bool → PeerTells P → Type 0
IsAloneIf true peer = IsAlone peer
IsAloneIf false peer = Unit {0}

-- what others may have made meanwhile: nothing, where nobody else updates
abbrev pub MayBeMade : Bool → List SealedUpdate → Type 0
MayBeMade true others = others ≡ []
MayBeMade false others = Unit {0}

-- what is served then is this history with what others made of it, and the value is right there
abbrev pub Told : {T : Type 0} → Bool → Service → (Service → Type 0) → (T → Service → Type 0)
    → Result T ListingFault → Type 0
Told alone v Then IsRight (Ok value) =
    (others : List SealedUpdate) × MayBeMade alone others
    × Then (later v others) × IsRight value (later v others)
Told alone v Then IsRight (Err fault) = Unit {0}

-- what is served then is this history with what others made of it, and the value, which several
-- answers gave, is right where others made nothing meanwhile
abbrev pub ToldOfOne : {T : Type 0} → Bool → Service → (Service → Type 0)
    → (T → Service → Type 0) → Result T ListingFault → Type 0
ToldOfOne alone v Then IsRight (Ok value) =
    (others : List SealedUpdate) × MayBeMade alone others
    × Then (later v others) × (others ≡ [] → IsRight value v)
ToldOfOne alone v Then IsRight (Err fault) = Unit {0}
