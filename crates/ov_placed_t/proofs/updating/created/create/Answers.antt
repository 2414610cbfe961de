use Rattle.std.proofs.Common.{◌∙◌, ap}
use Rattle.ov_base.specs.Sets.{with}
use Rattle.ov_recoat.specs.Recoats.{Recoating}
use Rattle.ov_placed_t.proofs.FirstFile.{first_asked}
use Rattle.ov_placed_t.proofs.updating.created.create.Goals as goal

pub update-requires-clause-asked : goal.update-requires-clause-asked
update-requires-clause-asked g c =
    first_asked c.args.name _ c.new-recoat.result.rewrites c.deref.result.now c.with.result c.new.result
    c.args.extents.now (ap (λ (r : Recoating). r.rewrites) c.new-recoat.ensures)
    (c.with.ensures ∙ ap (λ s. with s 0) c.empty.ensures) c.new.ensures c.requires.none
    c.spell_update.ensures.form
    (c.deref.ensures.value ∙ c.in_ok-front.ensures.spelled)
