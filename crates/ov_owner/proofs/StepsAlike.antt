-- A command leaves the same of two plain histories by which one sealed history is right, but for
-- files that were gone before it.
use Rattle.std.proofs.Common.{◌≡◌, ◌∙◌, Option, Some, None, sym, ap, subst}
use Rattle.ov_base.specs.declared.refusal.Refusal.{Refusal}
use Rattle.ov_script.specs.declared.command.Command.{Command}
use Rattle.ov_script.specs.declared.reply.Reply.{Reply}
use Rattle.ov_history.specs.Fading.{AgreeFrom, faded_from}
use Rattle.ov_history.specs.FadingLaws.{IsRight}
use Rattle.ov_history.specs.History.{History}
use Rattle.ov_history.specs.Layers.{layers_of}
use Rattle.ov_history.specs.Masters.{Masters}
use Rattle.ov_history.specs.Plain.{PlainHistory, history_of, measured}
use Rattle.ov_history.specs.Refusals.{refusal_of}
use Rattle.ov_history.specs.Sealed.{SealedHistory, with_sealed}
use Rattle.ov_history.specs.Sealing.{IsSealedSince, sealed, sealed_update}
use Rattle.ov_history.proofs.Fading.{right_histories_read_alike}
use Rattle.ov_history.proofs.Sealing.{sealing_goes_on}
use Rattle.ov_history.proofs.Since.{sealed_since, sealed_since_goes_on}
use Rattle.ov_model.specs.Step.{after, update_step}
use Rattle.ov_owner.specs.Errands.{Errand}
use Rattle.ov_owner.proofs.Doing.{Does}

module _ (k : Masters) (command : Command) (e : Errand) (d : Does k command e)
    (p q : PlainHistory) (g : SealedHistory) (one : IsRight k p g) (two : IsRight k q g) where
  abbrev start : History
  start = history_of q

  same : history_of p ≡ start
  same = (right_histories_read_alike k p q g one two).0

  -- what is sealed of the one is that of the other, but for files that are gone
  since : IsSealedSince k q q (sealed k p)
  since = sealed_since k q (sealed k p) (sym one.1 ∙ two.1)

  updates_are : d.plain p ≡ d.plain q
  updates_are = d.by_history p q same

  refusals_are : refusal_of (history_of p) (measured (d.plain p))
      ≡ refusal_of start (measured (d.plain q))
  refusals_are = λ i. refusal_of (same i) (measured (updates_are i))

  -- what is sealed of both after the update, or after a refusal
  steps_agree : (found : Option Refusal)
      → AgreeFrom start (sealed k (update_step p (d.plain p) found).1)
      (sealed k (update_step q (d.plain q) found).1)
  steps_agree None =
      ap (λ (it : SealedHistory). faded_from start it) (sealing_goes_on k p (d.plain p))
      ∙ (λ i. faded_from start
      (with_sealed (sealed k p) (sealed_update k (layers_of (same i)) (updates_are i))))
      ∙ sealed_since_goes_on k q q (d.plain q) (sealed k p) since
  steps_agree (Some why) = since

  after_is : (x : PlainHistory)
      → after x command
      ≡ (update_step x (d.plain x) (refusal_of (history_of x) (measured (d.plain x)))).1
  after_is x = ap (λ (r : Reply × PlainHistory). r.1) (d.as_update x)

  after_agree : AgreeFrom start (sealed k (after p command)) (sealed k (after q command))
  after_agree =
      ap (λ (x : PlainHistory). faded_from start (sealed k x)) (after_is p)
      ∙ steps_agree (refusal_of (history_of p) (measured (d.plain p)))
      ∙ ap (λ (found : Option Refusal).
      faded_from start (sealed k (update_step q (d.plain q) found).1)) refusals_are
      ∙ ap (λ (x : PlainHistory). faded_from start (sealed k x)) (sym (after_is q))

  pub since_alike : (last : SealedHistory) → IsSealedSince k p (after p command) last
      → IsSealedSince k q (after q command) last
  since_alike last left =
      subst (λ (h : History). AgreeFrom h last (sealed k (after p command))) same left ∙ after_agree
