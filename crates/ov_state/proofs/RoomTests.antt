-- What an update finds that needs nodes and an epoch.
use Rattle.std.proofs.Common.{◌≡◌, ℕ, ◌≤◌, true, false, List, [], ◌∷◌, length, ap, ◌∙◌}
use Rattle.std.specs.Prelude.{Option, Some, None}
use Rattle.ov_base.specs.declared.refusal.Refusal.{Refusal}
use Rattle.ov_base.specs.declared.refusal.Refusal.TheVariants.{NodesFull, Spent}
use Rattle.ov_graph.specs.declared.cover.GraphRefusal.{GraphRefusal}
use Rattle.ov_graph.specs.declared.cover.GraphRefusal.TheVariants.{NodesFull as GraphFull, Memory as GraphMemory}
use Rattle.ov_history.specs.Refusals.{first_of_tests, is_last}
use Rattle.ov_state.specs.declared.fault.ChainFault.{ChainFault}
use Rattle.ov_state.specs.declared.fault.ChainFault.TheVariants.{Refused, Memory}
use Rattle.ov_record.specs.Briefs.{Brief as SpelledBrief}
use Rattle.ov_history.specs.Catalogue.{Catalogue}
use Rattle.ov_history.specs.Sealed.{refusal_shown}
use Rattle.ov_state.specs.Asking.{IsRefusedFor}
use Rattle.ov_state.specs.Plans.{numbered_at, IsFaultOf}
use Rattle.ov_state.specs.Faults.{chain_fault_of, prepare_fault_of}
use Rattle.ov_state.specs.Relistings.{room_refusal, IsFull}
use Rattle.ov_base.specs.declared.limits.TheConstants.{MAX_LAYER_NODES}
use Rattle.ov_base.proofs.Tests.{lt_is_true, lt_is_false}

-- the last epoch leaves no room
pub spent-room : (sets : List ℕ) (epoch : ℕ) → length sets ≤ MAX_LAYER_NODES → is_last epoch ≡ true → room_refusal sets epoch ≡ Some Spent
spent-room sets epoch few last =
    ap (λ b. first_of_tests ((NodesFull, b) ∷ (Spent, is_last epoch) ∷ [])) (lt_is_false MAX_LAYER_NODES (length sets) few)
    ∙ ap (λ b. first_of_tests ((Spent, b) ∷ [])) last

-- fewer nodes and an earlier epoch leave room
pub some-room : (sets : List ℕ) (epoch : ℕ) → length sets ≤ MAX_LAYER_NODES → is_last epoch ≡ false → room_refusal sets epoch ≡ None
some-room sets epoch few more =
    ap (λ b. first_of_tests ((NodesFull, b) ∷ (Spent, is_last epoch) ∷ [])) (lt_is_false MAX_LAYER_NODES (length sets) few)
    ∙ ap (λ b. first_of_tests ((Spent, b) ∷ [])) more

-- too many nodes leave no room, and neither does a lack of memory
pub full-room : (sets : List ℕ) (epoch : ℕ) (why : GraphRefusal) → IsFull sets why → IsRefusedFor (room_refusal sets epoch) (chain_fault_of why)
full-room sets epoch GraphFull many =
    ap (λ b. first_of_tests ((NodesFull, b) ∷ (Spent, is_last epoch) ∷ [])) (lt_is_true MAX_LAYER_NODES (length sets) many)
full-room sets epoch GraphMemory full = tt

-- an update is refused for what its question is refused for
pub asked-fault : (words : ℕ) (s : Catalogue) (u : SpelledBrief) (why : Option Refusal) (fault : ChainFault) → refusal_shown s (numbered_at s u) ≡ why
    → IsRefusedFor why fault → IsFaultOf words s u (prepare_fault_of fault)
asked-fault words s u why (Refused found) is refused = is ∙ refused
asked-fault words s u why Memory is refused = tt
