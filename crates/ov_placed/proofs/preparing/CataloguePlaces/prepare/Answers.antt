use Rattle.std.proofs.Common.{◌*◌, List, ℕ, Option, ◌∙◌, ap, subst}
use Rattle.ov_history.specs.Catalogue.{Catalogue, file_names_shown, numbered_at}
use Rattle.ov_history.specs.Sent.{numbered}
use Rattle.ov_record.specs.Briefs.{Brief as SpelledBrief, plain_brief}
use Rattle.ov_record.specs.Updates.{SealedUpdate, sealed_update}
use Rattle.ov_state.specs.Plans.{IsChange}
use Rattle.ov_state.specs.declared.state.TheConstants.{WIDTH}
use Rattle.ov_updating.specs.Files.{removed_by}
use Rattle.ov_placed.specs.Contents.{PlacedStore}
use Rattle.ov_placed.specs.Updating.{IsPrepared, IsSpelled}
use Rattle.ov_placed.specs.declared.preparing.Prepared.{Prepared}
use Rattle.ov_placed.proofs.Making.{is_prepared}
use Rattle.ov_placed.proofs.preparing.CataloguePlaces.prepare.Goals as goal

pub returns-clause-prepared : goal.returns-clause-prepared
returns-clause-prepared c =
    let master = c.args.surface.now.bytes in
    let d : Catalogue = c.self.inside.catalogue.catalogue in
    let s : SealedUpdate = sealed_update c.args.update in
    let own : SpelledBrief = plain_brief c.of-brief.result.0 in
    let b : SpelledBrief = plain_brief c.in_ok-brief.brief in
    let same = c.in_ok-brief.ensures.same in
    let spelled = subst (λ (o : Option (List ℕ)). IsSpelled own o) c.in-Some.is
    c.in_ok-brief.ensures.spelled in
    let change = c.in_ok-change.ensures.change in
    let p : Prepared WIDTH = record {
      change = c.in_ok-change.change;
      front = c.in-Some.front;
      text = c.of-brief.result.1;
      removed = c.removed_by-removed.result;
    } in
    let is = is_prepared {W = WIDTH} (64 * WIDTH) master d s own p c.of-brief.ensures.brief
    (subst (λ (a : SpelledBrief). IsChange {W = WIDTH} (64 * WIDTH) master d (numbered_at d a)
    c.in_ok-change.change) same change)
    spelled.0 spelled.1 c.of-brief.ensures.text
    (c.removed_by-removed.ensures change.taken
    ∙ ap (λ (a : SpelledBrief). removed_by (numbered_at d a)) same) in
    subst (λ (e : Catalogue). IsPrepared {W = WIDTH} (64 * WIDTH) master e
    (numbered (file_names_shown e) s) p) (ap (λ (t : PlacedStore). t.catalogue) c.self.view_is) is
