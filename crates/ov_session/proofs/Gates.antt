-- Sessions that tell a gate what they ask are sessions.
use Rattle.std.proofs.Common.{ℕ}
use Rattle.ov_session.specs.declared.end.SessionEnd.{SessionEnd}
use Rattle.ov_session.specs.Ends.{Serves}
use Rattle.ov_session.specs.Gates.{ServesGated, gated}
use Rattle.ov_session.specs.Links.{Link}
use Rattle.ov_session.specs.Tells.{AskerTells}
use Rattle.ov_session.proofs.Mapping.{serves_so}

-- what a session did whose gate was told of its requests, it did by its asker
pub serves_ungated : {A : Type 0} (tells : AskerTells A) (was_told : ℕ → A → Type 0) (a b : A)
    (old new : Link) (ending : SessionEnd) → ServesGated tells was_told a b old new ending
    → Serves tells a b old new ending
serves_ungated {A} tells was_told a b old new ending told =
    serves_so (gated tells was_told) tells (λ (both : A × ℕ). both.0)
    (λ before after request reply asked. asked.1) (λ both is. is)
    (a, 0) (b, told.next) old new ending told.serves
