use Rattle.std.proofs.Common.{[], ◌∷◌, ℕ, Option, ap, refl}
use Rattle.ov_tokens.specs.Labels.{label_of}
use Rattle.ov_tokens.specs.declared.label.Kind.TheVariants.{Access}
use Rattle.ov_history.specs.Catalogue.{filed_at}
use Rattle.ov_history.specs.Closure.{surface_label}
use Rattle.ov_history.specs.Sealed.{catalogue_of}
use Rattle.ov_history.specs.Sealing.{sealed}
use Rattle.ov_history_t.proofs.premises.each_coat_is_a_pad.Goals as goal

pub returns : goal.returns
returns c = record {
  base = λ k p file there.
      (there, [], surface_label (filed_at (catalogue_of k.surface (sealed k p)) file).surface, refl, refl);
  surface = λ k p file node there is.
      let access = label_of Access (filed_at (catalogue_of k.surface (sealed k p)) file).node in
      (there, access ∷ [], [], ap (λ (o : Option ℕ). access ∷ surface_label o) is, refl);
}
