-- An update without the bytes of its file is that of some update with bytes.
use Rattle.std.proofs.Common.{◌≡◌, ℕ, refl, ap}
use Rattle.std.specs.Prelude.{replicate}
use Rattle.std.proofs.lemmas.List.{length-replicate}
use Rattle.ov_history.specs.Briefs.{Brief, BriefCreate, BriefEnrol, BriefGrant, BriefRemove}
use Rattle.ov_history.specs.Briefs.{BriefReplace, BriefRevoke, brief}
use Rattle.ov_history.specs.Sent.{SealedCreate, SealedEnrol, SealedGrant, SealedRemove}
use Rattle.ov_history.specs.Sent.{SealedReplace, SealedRevoke, SealedUpdate}

-- the update, with as many zeros for the bytes of its file
pub some_update : (b : Brief) → (u : SealedUpdate) × (brief u ≡ b)
some_update (BriefEnrol user) = (SealedEnrol user, refl)
some_update (BriefCreate file list tokens tag size) = (
  SealedCreate file list tokens tag (replicate {A = ℕ} size 0),
  ap (λ n. BriefCreate file list tokens tag n) (length-replicate {A = ℕ} size 0),
)
some_update (BriefGrant user file token) = (SealedGrant user file token, refl)
some_update (BriefRevoke user file) = (SealedRevoke user file, refl)
some_update (BriefRemove file) = (SealedRemove file, refl)
some_update (BriefReplace file tokens tag size) = (
  SealedReplace file tokens tag (replicate {A = ℕ} size 0),
  ap (λ n. BriefReplace file tokens tag n) (length-replicate {A = ℕ} size 0),
)
