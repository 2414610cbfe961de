-- Whether there is room for a new file, and an epoch after this one.
use Rattle.std.proofs.Common.{◌≡◌, ℕ, true, false, ◌∙◌, ap, sym}
use Rattle.std.specs.Prelude.{Some, None}
use Rattle.ov_base.specs.declared.refusal.Refusal.TheVariants.{NodesFull, Spent}
use Rattle.ov_graph.specs.declared.cover.GraphRefusal.{GraphRefusal}
use Rattle.ov_graph.specs.declared.cover.GraphRefusal.TheVariants.{NodesFull as GraphFull, Memory as GraphMemory}
use Rattle.ov_record.specs.Briefs.{Brief as SpelledBrief}
use Rattle.ov_history.specs.Refusals.{is_last}
use Rattle.ov_history.specs.Catalogue.{Catalogue}
use Rattle.ov_history.specs.Sealed.{refusal_shown}
use Rattle.ov_state.specs.Asking.{IsRefusedFor}
use Rattle.ov_state.specs.Faults.{chain_fault_of, fault_of}
use Rattle.ov_state.specs.NewFiles.{is_past_then, room_then, HasNoSite}
use Rattle.ov_state.specs.Plans.{numbered_at, IsFaultOf}
use Rattle.ov_state.specs.declared.fault.PrepareFault.{PrepareFault}
use Rattle.ov_state.specs.declared.fault.PrepareFault.TheVariants.{Refused, BadPlan, Memory}
use Rattle.ov_state.proofs.NewTests.{first_here, first_later}

module _ (s : Catalogue) (list : ℕ) where
  -- a question about a new file is refused, since there is no place for it
  pub asked_site : (why : GraphRefusal) → HasNoSite s list (fault_of why) → IsRefusedFor (room_then s list) (chain_fault_of why)
  asked_site GraphFull none = first_here NodesFull _ _ none.1
  asked_site GraphMemory none = tt

  -- so is an update that is refused where there is no room for its new file
  pub refused_site : (words : ℕ) (b : SpelledBrief) → refusal_shown s (numbered_at s b) ≡ room_then s list
      → (fault : PrepareFault) → HasNoSite s list fault → IsFaultOf words s b fault
  refused_site words b rest (Refused why) (is, past) = rest ∙ first_here NodesFull _ _ past ∙ ap Some (sym is)
  refused_site words b rest (BadPlan place) none = absurd none
  refused_site words b rest Memory none = tt

  module _ (few : is_past_then s list ≡ false) where
    pub room_spent : is_last s.epoch ≡ true → room_then s list ≡ Some Spent
    room_spent spent = first_later NodesFull _ _ few ∙ first_here Spent _ _ spent

    pub room_left : is_last s.epoch ≡ false → room_then s list ≡ None
    room_left left = first_later NodesFull _ _ few ∙ first_later Spent _ _ left
