-- Changes and closures, of a state that stands for a history.
use Rattle.ov_history.specs.Places.{living_at}
use Rattle.std.proofs.Common.{◌≡◌, ℕ, List, sym, ◌∙◌, ap, subst}
use Rattle.std.specs.Prelude.{Result, Ok, Err}
use Rattle.ov_record.specs.Briefs.{Brief as SpelledBrief}
use Rattle.ov_history.specs.Briefs.{Brief}
use Rattle.ov_base.specs.Sets.{has}
use Rattle.ov_history.specs.Layers.{Layers, list_at}
use Rattle.ov_history.specs.Catalogue.{Catalogue, outline, place_of_file}
use Rattle.ov_history.specs.Sealed.{HasParts, StandsFor, with_sealed}
use Rattle.ov_history.proofs.GoingOn.{histories_go_on}
use Rattle.ov_history.proofs.HeldFiles.{held_where_listed}
use Rattle.ov_history.proofs.Showing.{history_is_shown, refusals_shown}
use Rattle.ov_history.proofs.ShownLists.{listed-shown}
use Rattle.ov_history.specs.Sound.{IsSound}
use Rattle.ov_history.proofs.SoundHistories.{shown_is_sound}
use Rattle.ov_state.specs.Changes.{applied}
use Rattle.ov_state.specs.Plans.{numbered_at, Prepares}
use Rattle.ov_state.specs.Standing.{CatalogueGoesOn, ClosuresAreMatrix, ClosuresFollow, IsAnsweredAsItsHistory}
use Rattle.ov_state.specs.declared.change.Change.{Change}
use Rattle.ov_state.specs.declared.fault.PrepareFault.{PrepareFault}
use Rattle.ov_state.specs.declared.fault.PrepareFault.TheVariants.{Refused, BadPlan, Memory}

pub goes_on : {W : ℕ} (limit : ℕ) (old : Catalogue) (c : Change W) (new : Catalogue) → new ≡ applied old c → CatalogueGoesOn limit old c new
goes_on {W} limit old c new is master g u stands change =
    subst (λ (s : Catalogue). StandsFor master s (with_sealed g u)) (sym (is ∙ change.made))
    (histories_go_on master old g u stands change.taken.0 change.taken.1)

pub closures_are_matrix : ClosuresAreMatrix
closures_are_matrix s master g user file f (sealed, is) there at_file =
    let sound : IsSound s = subst IsSound (sym is) (shown_is_sound master g sealed) in
    let held = held_where_listed s user file f sound there at_file in
    let listed = listed-shown master g user file f sealed (ap (λ (t : Catalogue). living_at t.files file) (sym is) ∙ at_file)
    ∙ ap (λ (t : Catalogue). has (list_at (outline t) (place_of_file f)) user) (sym is) in
    (λ h. listed ∙ held.0 h, λ h. held.1 (sym listed ∙ h))

pub closures_follow : {W : ℕ} (limit : ℕ) (old : Catalogue) (c : Change W) (new : Catalogue) → new ≡ applied old c → ClosuresFollow limit old c new
closures_follow {W} limit old c new is master g u user file f stands change =
    closures_are_matrix new master (with_sealed g u) user file f (goes_on limit old c new is master g u stands change)

-- what is answered is what each history says for which the catalogue stands
pub answered_by : {W : ℕ} (limit : ℕ) (by_master : List ℕ) (s : Catalogue) (b : SpelledBrief) (r : Result (Change W) PrepareFault)
    → Prepares limit by_master s b r → IsAnsweredAsItsHistory s (numbered_at s b) r
answered_by {W} limit by_master s b (Ok c) prepared = λ master g stands.
    let u : Brief = numbered_at s b in (
      sym (refusals_shown master s g u stands) ∙ prepared.taken.0,
      subst (λ (y : Layers). HasParts y u) (history_is_shown master s g stands).layers prepared.taken.1,
    )
answered_by {W} limit by_master s b (Err (Refused why)) prepared = λ master g stands.
    sym (refusals_shown master s g (numbered_at s b) stands) ∙ prepared
answered_by {W} limit by_master s b (Err (BadPlan place)) prepared = λ master g stands.
    let u : Brief = numbered_at s b in (
      sym (refusals_shown master s g u stands) ∙ prepared.0,
      subst (λ (y : Layers). HasParts y u → ⊥) (history_is_shown master s g stands).layers prepared.1,
    )
answered_by {W} limit by_master s b (Err Memory) prepared = λ master g stands. tt
