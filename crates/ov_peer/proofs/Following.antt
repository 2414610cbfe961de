-- A history that no updates follow.
use Rattle.std.proofs.Common.{◌≡◌, [], refl}
use Rattle.ov_history.specs.Sealed.{SealedHistory}
use Rattle.ov_protocol.specs.Serving.{followed}

-- a history that no updates follow is the same
pub followed-nil : (g : SealedHistory) → followed g [] ≡ g
followed-nil g = refl
