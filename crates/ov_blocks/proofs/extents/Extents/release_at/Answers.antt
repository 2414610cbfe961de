use Rattle.std.proofs.Common.{◌≡◌, refl, sym, ◌∙◌, subst}
use Rattle.std.specs.List.{remove}
use Rattle.ov_blocks.specs.Extents.{AreApart, IsWith}
use Rattle.ov_blocks.specs.Places.{IsCountBefore}
use Rattle.ov_blocks.proofs.OneLess.{one_given_up}
use Rattle.ov_blocks.proofs.Places.{own_place, is_without}
use Rattle.ov_blocks.proofs.extents.Extents.release_at.Goals as goal

pub returns-clause-one : goal.returns-clause-one
returns-clause-one c e there begins =
    let is : c.close.new.self ≡ c.args.self.now = c.close.ensures ∙ c.self.view_is in
    let place = c.count_before-place.result in
    let own = own_place c.args.self.now place c.args.first e (subst (AreApart 0) is c.as_slice.ensures.apart)
    (subst (λ l. IsCountBefore c.args.first place l) (c.as_slice.ensures.same ∙ is) c.count_before-place.ensures) there begins in
    subst (λ l. IsWith e (remove l place) c.args.self.now) (sym is)
    (is_without e c.args.self.now (remove c.args.self.now place) place refl own.0 own.1)

pub returns-clause-only : goal.returns-clause-only
returns-clause-only c =
    let is : c.close.new.self ≡ c.args.self.now = c.close.ensures ∙ c.self.view_is in
    one_given_up c.args.first c.requires.0 c.args.self.now (remove c.close.new.self c.count_before-place.result) (subst (AreApart 0) is c.as_slice.ensures.apart) c.requires.2
    (returns-clause-one c c.requires.0 c.requires.1 c.requires.2)
