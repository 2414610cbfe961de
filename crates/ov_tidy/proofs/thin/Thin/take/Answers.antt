use Rattle.std.proofs.Common.{◌≡◌, ◌≤◌, ◌∙◌, List, length, ap, sym, subst, arith}
use Rattle.std.specs.Prelude.{◌*◌, Option}
use Rattle.ov_history.specs.Catalogue.{Catalogue, numbered_at}
use Rattle.ov_record.specs.Briefs.{plain_brief}
use Rattle.ov_state.specs.Changes.{applied}
use Rattle.ov_state.specs.Plans.{IsChange}
use Rattle.ov_state.specs.declared.state.TheConstants.{WIDTH}
use Rattle.ov_thinning.specs.Notes.{Thinning}
use Rattle.ov_tidy.specs.Thins.{CanLook, naming_of, plain_notes}
use Rattle.ov_tidy.specs.declared.note.Last.{Last}
use Rattle.ov_tidy.specs.declared.naming.Naming.{Naming}
use Rattle.ov_tidy.proofs.Namings.{can_look, next_is}
use Rattle.ov_tidy.proofs.thin.Thin.take.Goals as goal

pub look-look-requires : goal.look-look-requires
look-look-requires c =
    let old = c.self.inside.state.catalogue in
    let b = plain_brief c.args.update in
    let few : length old.users ≤ 64 * WIDTH = omega (arith, c.known.ensures.users, c.known.ensures.width) in
    let naming : c.naming-naming.result ≡ naming_of (numbered_at old b) =
    c.naming-naming.ensures ∙ sym (ap (λ (t : Thinning). naming_of (numbered_at t.catalogue b)) c.self.view_is) in
    subst (λ (k : Catalogue). CanLook k c.naming-naming.result) (sym c.in-Ok.ensures.same)
    (subst (λ (n : Naming). CanLook old n) (sym naming) (can_look old (numbered_at old b) few c.in-Ok.ensures.change.taken))

pub returns-in-Ok-make_room : goal.returns-in-Ok-make_room
returns-in-Ok-make_room c =
    let b = plain_brief c.args.update in
    let t = c.args.self.now in
    let at = numbered_at t.catalogue b in
    let view : c.self.inside.state.catalogue ≡ t.catalogue = ap (λ (x : Thinning). x.catalogue) c.self.view_is in
    let same : c.prepare.new.self.catalogue ≡ t.catalogue = c.in-Ok.ensures.same ∙ view in
    let change : IsChange (64 * WIDTH) c.args.surface.now.bytes t.catalogue at c.in-Ok.change =
    subst (λ (k : Catalogue). IsChange (64 * WIDTH) c.args.surface.now.bytes k (numbered_at k b) c.in-Ok.change) view
    c.in-Ok.ensures.change in (
      change.taken,
      next_is c.args.surface.now.bytes t at c.prepare.new.self.catalogue c.commit.new.self.catalogue c.self.inside.taken
          c.make_room.new.kept.items c.keep.new.kept.items
          (plain_notes c.make_room.new.notes.items) (plain_notes c.put_mark.new.notes.items)
          c.naming-naming.result c.look-look.result.pair c.look-look.result.mark
          change.taken same
          (ap (λ (x : Thinning). x.taken) c.self.view_is)
          (c.in-Ok-make_room.ensures.kept ∙ ap (λ (x : Thinning). x.kept) c.self.view_is)
          (ap (λ (xs : List (Option Last)). plain_notes xs) c.in-Ok-make_room.ensures.notes ∙ ap (λ (x : Thinning). x.notes) c.self.view_is)
          c.naming-naming.ensures
          c.look-look.ensures.pair
          c.look-look.ensures.mark
          (c.commit.ensures.applied ∙ ap (λ (k : Catalogue). applied k c.in-Ok.change) same ∙ change.made)
          c.keep.ensures.kept
          c.put_mark.ensures,
    )
