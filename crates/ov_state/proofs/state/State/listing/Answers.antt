use Rattle.std.proofs.Common.{ap, refl, sym, ◌∙◌, arith}
use Rattle.std.specs.Prelude.{is_some}
use Rattle.std.proofs.lemmas.Bool.Decides.{nat_tests}
use Rattle.ov_history.specs.Layers.{list_at, set_or}
use Rattle.ov_history.specs.Catalogue.{Filed, outline, place_of_file}
use Rattle.ov_state.proofs.FilesByNumber.{filed-at}
use Rattle.ov_state.proofs.state.State.listing.Goals as goal

pub returns-clause-ok : goal.returns-clause-ok
returns-clause-ok g c =
    let s = c.args.self.now.catalogue in
    let is = filed-at s c.args.file _ c.entry-entry.ensures.kept in
    record {
      enrolled = grind (arith, nat_tests);
      there = ap is_some c.entry-entry.ensures.kept;
      number = refl;
      node = ap (λ (f : Filed). f.node) (sym is);
      list = c.list_or-list.ensures ∙ ap (λ held. set_or s.surface.sets c.entry-entry.result.now.surface held) c.holders-before.ensures
          ∙ ap (λ (f : Filed). list_at (outline s) (place_of_file f)) (sym is);
      before = c.holders-before.ensures;
      after = c.copy-after.ensures;
    }
