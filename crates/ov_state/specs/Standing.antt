-- What a state stands for, before and after a change.
use Rattle.std.specs.Prelude.{◌≡◌, ◌↔◌, ℕ, ◌<◌, List, length, Some, None, true, Result}
use Rattle.std.specs.Prelude.{Ok, Err}
use Rattle.ov_history.specs.Sent.{SealedUpdate}
use Rattle.ov_history.specs.History.{matrix_of}
use Rattle.ov_history.specs.Layers.{layers_of}
use Rattle.ov_history.specs.Lists.{is_listed}
use Rattle.ov_history.specs.Refusals.{refusal_of}
use Rattle.ov_history.specs.Briefs.{Brief as PlainBrief, brief, outer}
use Rattle.ov_history.specs.Places.{living_at}
use Rattle.ov_history.specs.Catalogue.{Filed, Catalogue}
use Rattle.ov_history.specs.Sealed.{SealedHistory, HasParts, StandsFor, outer_of, with_sealed}
use Rattle.ov_history.specs.Closure.{HoldsFile}
use Rattle.ov_state.specs.Plans.{IsChange}
use Rattle.ov_state.specs.declared.change.Change.{Change}
use Rattle.ov_state.specs.declared.fault.PrepareFault.{PrepareFault}
use Rattle.ov_state.specs.declared.fault.PrepareFault.TheVariants.{Refused, BadPlan, Memory}

-- for every sealed history for which the old catalogue stood and every update whose change this is,
-- the new one stands for the history with that update
abbrev pub CatalogueGoesOn : {W : ℕ} → ℕ → Catalogue → Change W → Catalogue → Type 0
CatalogueGoesOn limit old change new =
    (master : List ℕ) (g : SealedHistory) (u : SealedUpdate)
    → StandsFor master old g → IsChange limit master old (brief u) change
    → StandsFor master new (with_sealed g u)

-- Whatever history a catalogue stands for, a user's closure has all labels that protect a file
-- exactly where the matrix lists the user. It is a law of all catalogues.
abbrev pub ClosuresAreMatrix : Type 0
ClosuresAreMatrix =
    (c : Catalogue) (master : List ℕ) (g : SealedHistory) (user file : ℕ) (f : Filed)
    → StandsFor master c g → user < length c.users → living_at c.files file ≡ Some f
    → HoldsFile c user f ↔ (is_listed (matrix_of (outer_of g)) user file ≡ true)

-- for every sealed history for which the old catalogue stood and every update whose change this is,
-- a user's closure over the new one has all labels that protect a file exactly where the matrix of
-- the history with that update lists the user
abbrev pub ClosuresFollow : {W : ℕ} → ℕ → Catalogue → Change W → Catalogue → Type 0
ClosuresFollow limit old change new =
    (master : List ℕ) (g : SealedHistory) (u : SealedUpdate) (user file : ℕ) (f : Filed)
    → StandsFor master old g → IsChange limit master old (brief u) change
    → user < length new.users → living_at new.files file ≡ Some f
    → HoldsFile new user f
    ↔ (is_listed (matrix_of (outer_of (with_sealed g u))) user file ≡ true)

-- What is answered to an update is what this history says of it: it refuses the update so, or it
-- doesn't and the update has the parts that the layers of the history want, or hasn't.
abbrev pub IsAnswerAt : {W : ℕ} → SealedHistory → PlainBrief → Result (Change W) PrepareFault
    → Type 0
IsAnswerAt g b (Ok change) =
    (refusal_of (outer_of g) (outer b) ≡ None) × HasParts (layers_of (outer_of g)) b
IsAnswerAt g b (Err (Refused why)) = refusal_of (outer_of g) (outer b) ≡ Some why
IsAnswerAt g b (Err (BadPlan place)) =
    (refusal_of (outer_of g) (outer b) ≡ None) × (HasParts (layers_of (outer_of g)) b → ⊥)
IsAnswerAt g b (Err Memory) = Unit {0}

-- What is answered to an update is what every history says of it for which the catalogue stands.
abbrev pub IsAnsweredAsItsHistory : {W : ℕ} → Catalogue → PlainBrief
    → Result (Change W) PrepareFault → Type 0
IsAnsweredAsItsHistory c b result =
    (master : List ℕ) (g : SealedHistory) → StandsFor master c g → IsAnswerAt g b result
