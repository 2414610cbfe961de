use Rattle.std.proofs.Common.{◌≡◌, ◌*◌, ℕ, List, [], length, Option, refl, sym, ◌∙◌, ap, subst}
use Rattle.ov_history.specs.Briefs.{brief}
use Rattle.ov_history.specs.Placed.{replaced, with_unplaced}
use Rattle.ov_history.specs.Rewrites.{rewrites_of}
use Rattle.ov_images.specs.Laws.{placed_as}
use Rattle.ov_moves.proofs.Runs.{leaves_none, leaves_weaker}
use Rattle.ov_moves.specs.Placing.{GoToFree}
use Rattle.ov_moves.specs.declared.placing.Placed.{Placed}
use Rattle.ov_moves.specs.Runs.{LeavesAtMost}
use Rattle.ov_state.specs.Changes.{AreOfFiles}
use Rattle.ov_state.specs.Contents.{IsWell}
use Rattle.ov_state.specs.Entries.{plain_rewrites}
use Rattle.ov_recoat.specs.Laws.{Ascend}
use Rattle.ov_recoat.specs.Recoats.{Recoating}
use Rattle.ov_updating.specs.Files.{files_of, firsts_of}
use Rattle.ov_updating.specs.Updating.{AreHeldAfter, Asked, IsAskedFor, KeepsItOrMore, UpdateLasts}
use Rattle.ov_updating.specs.Updating.{asked}
use Rattle.ov_updating.proofs.Ordering.{ascending}
use Rattle.ov_state.specs.declared.state.TheConstants.{WIDTH}
use Rattle.ov_placed.specs.Contents.{PlacedStore}
use Rattle.ov_placed.specs.Updating.{IsPrepared, KeepsOrGoesOn, MakesUpdate, asked_of}
use Rattle.ov_placed.proofs.Files.{rewrites_of_files}
use Rattle.ov_placed.proofs.Making.{goes_or_keeps, holds_made, is_asked, keeps_still, lasts_more}
use Rattle.ov_placed.proofs.Making.{many_made, placed_made}
use Rattle.ov_placed.proofs.updating.CataloguePlaces.update.Goals as goal

pub returns-in_err-make_room-clause-any_moment : goal.returns-in_err-make_room-clause-any_moment
returns-in_err-make_room-clause-any_moment g c =
    let master = c.args.surface.now.bytes in
    let s : PlacedStore = record {
      catalogue = c.self.inside.catalogue.catalogue;
      room = c.self.inside.catalogue.room;
      placed = c.self.inside.placed.items;
      held = c.self.inside.extents;
    } in
    let well = subst (λ (o : PlacedStore). IsWell (64 * WIDTH) o.catalogue) (sym c.self.view_is)
    c.known.ensures.catalogue in
    subst (λ (old : PlacedStore). LeavesAtMost g.D.Disk.tells
    (KeepsOrGoesOn (64 * WIDTH) master old c.args.prepared) c.args.disk.now c.args.disk.now) c.self.view_is
    (leaves_none g.D.Disk.tells (KeepsOrGoesOn (64 * WIDTH) master s c.args.prepared) c.args.disk.now
    c.requires.settled
    (keeps_still (64 * WIDTH) master s c.args.prepared c.self.invariant c.known-2.ensures.order well))

pub new-recoat-requires : goal.new-recoat-requires
new-recoat-requires g c =
    let master = c.args.surface.now.bytes in
    let s : PlacedStore = record {
      catalogue = c.self.inside.catalogue.catalogue;
      room = c.self.inside.catalogue.room;
      placed = c.self.inside.placed.items;
      held = c.self.inside.extents;
    } in
    let u = c.requires.prepared.0 in
    let is = subst (λ (o : PlacedStore). IsPrepared (64 * WIDTH) master o.catalogue u c.args.prepared)
    (sym c.self.view_is) c.requires.prepared.1 in
    let plain = ap (λ rs. plain_rewrites rs) c.rewrites.ensures ∙ is.change.rewrites in
    subst (Ascend 0) (sym plain) (ascending s.catalogue (brief u))

pub update-requires-clause-asked : goal.update-requires-clause-asked
update-requires-clause-asked g c =
    let master = c.args.surface.now.bytes in
    let s : PlacedStore = record {
      catalogue = c.self.inside.catalogue.catalogue;
      room = c.self.inside.catalogue.room;
      placed = c.self.inside.placed.items;
      held = c.self.inside.extents;
    } in
    let well = subst (λ (o : PlacedStore). IsWell (64 * WIDTH) o.catalogue) (sym c.self.view_is)
    c.known.ensures.catalogue in
    let rewrites : c.new-recoat.result.rewrites ≡ plain_rewrites c.args.prepared.change.rewrites.items =
    ap (λ (r : Recoating). r.rewrites) c.new-recoat.ensures ∙ ap (λ rs. plain_rewrites rs) c.rewrites.ensures in
    let same : asked c.new-recoat.result.rewrites c.deref.result.now s.held
    c.as_slice-front.result.now c.bytes_of-text.result.now c.args.prepared.removed
    ≡ asked_of s c.args.prepared =
    λ j. asked (rewrites j)
    ((c.deref.ensures.value ∙ c.make_room.ensures.same) j) s.held (c.as_slice-front.ensures j)
    (c.bytes_of-text.ensures j) c.args.prepared.removed in
    let u = c.requires.prepared.0 in
    let is = subst (λ (o : PlacedStore). IsPrepared (64 * WIDTH) master o.catalogue u c.args.prepared)
    (sym c.self.view_is) c.requires.prepared.1 in (
      s.catalogue,
      u,
      subst (λ (a : Asked). IsAskedFor s.catalogue u a) (sym same)
          (is_asked (64 * WIDTH) master s u c.args.prepared is c.self.invariant c.known-2.ensures.order well),
    )

pub returns-in_err-moves-clause-any_moment : goal.returns-in_err-moves-clause-any_moment
returns-in_err-moves-clause-any_moment g c =
    let master = c.args.surface.now.bytes in
    let s : PlacedStore = record {
      catalogue = c.self.inside.catalogue.catalogue;
      room = c.self.inside.catalogue.room;
      placed = c.self.inside.placed.items;
      held = c.self.inside.extents;
    } in
    let well = subst (λ (o : PlacedStore). IsWell (64 * WIDTH) o.catalogue) (sym c.self.view_is)
    c.known.ensures.catalogue in
    let rewrites : c.new-recoat.result.rewrites ≡ plain_rewrites c.args.prepared.change.rewrites.items =
    ap (λ (r : Recoating). r.rewrites) c.new-recoat.ensures ∙ ap (λ rs. plain_rewrites rs) c.rewrites.ensures in
    let same : asked c.new-recoat.result.rewrites c.deref.result.now s.held
    c.as_slice-front.result.now c.bytes_of-text.result.now c.args.prepared.removed
    ≡ asked_of s c.args.prepared =
    λ j. asked (rewrites j)
    ((c.deref.ensures.value ∙ c.make_room.ensures.same) j) s.held (c.as_slice-front.ensures j)
    (c.bytes_of-text.ensures j) c.args.prepared.removed in
    subst (λ (old : PlacedStore). LeavesAtMost g.D.Disk.tells
    (KeepsOrGoesOn (64 * WIDTH) master old c.args.prepared) c.args.disk.now c.update.new.disk) c.self.view_is
    (leaves_weaker g.D.Disk.tells (KeepsItOrMore master (asked_of s c.args.prepared))
    (KeepsOrGoesOn (64 * WIDTH) master s c.args.prepared) c.args.disk.now c.update.new.disk
    (goes_or_keeps (64 * WIDTH) master s c.args.prepared c.self.invariant c.known-2.ensures.order well)
    (subst (λ (m : List ℕ). LeavesAtMost g.D.Disk.tells
    (KeepsItOrMore m (asked_of s c.args.prepared)) c.args.disk.now c.update.new.disk)
    (ap (λ (r : Recoating). r.master) c.new-recoat.ensures)
    (subst (λ (a : Asked). LeavesAtMost g.D.Disk.tells (KeepsItOrMore c.new-recoat.result.master a)
    c.args.disk.now c.update.new.disk) same c.update.ensures.any_moment)))

pub put_firsts-requires : goal.put_firsts-requires
put_firsts-requires g c =
    let master = c.args.surface.now.bytes in
    let s : PlacedStore = record {
      catalogue = c.self.inside.catalogue.catalogue;
      room = c.self.inside.catalogue.room;
      placed = c.self.inside.placed.items;
      held = c.self.inside.extents;
    } in
    let u = c.requires.prepared.0 in
    let is = subst (λ (o : PlacedStore). IsPrepared (64 * WIDTH) master o.catalogue u c.args.prepared)
    (sym c.self.view_is) c.requires.prepared.1 in
    let plain : plain_rewrites c.rewrites-2.result.now ≡ rewrites_of s.catalogue (brief u) =
    ap (λ rs. plain_rewrites rs) c.rewrites-2.ensures ∙ is.change.rewrites in
    let grown : c.unplace_by.new.placed.items ≡ with_unplaced s.placed (brief u) =
    c.unplace_by.ensures u is.text is.removed
    ∙ ap (λ (ps : List (Option ℕ)). with_unplaced ps (brief u)) c.make_room.ensures.same in
    subst (λ (ps : List (Option ℕ)). AreOfFiles (length ps) c.rewrites-2.result.now) (sym grown)
    (rewrites_of_files s.catalogue (placed_as u []) s.placed s.held c.self.invariant
    c.rewrites-2.result.now plain)

pub invariant_of-self-2 : goal.invariant_of-self-2
invariant_of-self-2 g c =
    let master = c.args.surface.now.bytes in
    let s : PlacedStore = record {
      catalogue = c.self.inside.catalogue.catalogue;
      room = c.self.inside.catalogue.room;
      placed = c.self.inside.placed.items;
      held = c.self.inside.extents;
    } in
    let well = subst (λ (o : PlacedStore). IsWell (64 * WIDTH) o.catalogue) (sym c.self.view_is)
    c.known.ensures.catalogue in
    let rewrites : c.new-recoat.result.rewrites ≡ plain_rewrites c.args.prepared.change.rewrites.items =
    ap (λ (r : Recoating). r.rewrites) c.new-recoat.ensures ∙ ap (λ rs. plain_rewrites rs) c.rewrites.ensures in
    let same : asked c.new-recoat.result.rewrites c.deref.result.now s.held
    c.as_slice-front.result.now c.bytes_of-text.result.now c.args.prepared.removed
    ≡ asked_of s c.args.prepared =
    λ j. asked (rewrites j)
    ((c.deref.ensures.value ∙ c.make_room.ensures.same) j) s.held (c.as_slice-front.ensures j)
    (c.bytes_of-text.ensures j) c.args.prepared.removed in
    let u = c.requires.prepared.0 in
    let is = subst (λ (o : PlacedStore). IsPrepared (64 * WIDTH) master o.catalogue u c.args.prepared)
    (sym c.self.view_is) c.requires.prepared.1 in
    let text = c.args.prepared.text in
    let firsts = firsts_of c.in_ok-moves.moves.items in
    let grown = c.unplace_by.new.placed.items in
    let places = c.put_firsts.new.placed.items in
    let places_are : places
    ≡ replaced (plain_rewrites c.args.prepared.change.rewrites.items) firsts grown =
    c.put_firsts.ensures ∙ (λ j. replaced (plain_rewrites (c.rewrites-2.ensures j))
    (firsts_of (c.deref-2.ensures.value j)) grown) in
    let grown_is : grown ≡ with_unplaced s.placed (brief u) =
    c.unplace_by.ensures u is.text is.removed
    ∙ ap (λ (ps : List (Option ℕ)). with_unplaced ps (brief u)) c.make_room.ensures.same in
    let held = subst (λ (a : Asked). AreHeldAfter a firsts c.update.new.extents) same
    c.in_ok-moves.ensures.held in
    holds_made (64 * WIDTH) master s u c.args.prepared is c.self.invariant c.known-2.ensures.order well firsts
    c.update.new.extents c.commit.new.self.catalogue places c.known-3.ensures.order
    (held s.catalogue u
    (is_asked (64 * WIDTH) master s u c.args.prepared is c.self.invariant c.known-2.ensures.order well))
    c.commit.ensures.applied
    (placed_made (64 * WIDTH) master s u c.args.prepared is c.self.invariant c.known-2.ensures.order well firsts
    grown places grown_is places_are)

pub returns-clause-any_moment : goal.returns-clause-any_moment
returns-clause-any_moment g c =
    let master = c.args.surface.now.bytes in
    let s : PlacedStore = record {
      catalogue = c.self.inside.catalogue.catalogue;
      room = c.self.inside.catalogue.room;
      placed = c.self.inside.placed.items;
      held = c.self.inside.extents;
    } in
    let well = subst (λ (o : PlacedStore). IsWell (64 * WIDTH) o.catalogue) (sym c.self.view_is)
    c.known.ensures.catalogue in
    let rewrites : c.new-recoat.result.rewrites ≡ plain_rewrites c.args.prepared.change.rewrites.items =
    ap (λ (r : Recoating). r.rewrites) c.new-recoat.ensures ∙ ap (λ rs. plain_rewrites rs) c.rewrites.ensures in
    let same : asked c.new-recoat.result.rewrites c.deref.result.now s.held
    c.as_slice-front.result.now c.bytes_of-text.result.now c.args.prepared.removed
    ≡ asked_of s c.args.prepared =
    λ j. asked (rewrites j)
    ((c.deref.ensures.value ∙ c.make_room.ensures.same) j) s.held (c.as_slice-front.ensures j)
    (c.bytes_of-text.ensures j) c.args.prepared.removed in
    subst (λ (old : PlacedStore). LeavesAtMost g.D.Disk.tells
    (KeepsOrGoesOn (64 * WIDTH) master old c.args.prepared) c.args.disk.now c.update.new.disk) c.self.view_is
    (leaves_weaker g.D.Disk.tells (KeepsItOrMore master (asked_of s c.args.prepared))
    (KeepsOrGoesOn (64 * WIDTH) master s c.args.prepared) c.args.disk.now c.update.new.disk
    (goes_or_keeps (64 * WIDTH) master s c.args.prepared c.self.invariant c.known-2.ensures.order well)
    (subst (λ (m : List ℕ). LeavesAtMost g.D.Disk.tells
    (KeepsItOrMore m (asked_of s c.args.prepared)) c.args.disk.now c.update.new.disk)
    (ap (λ (r : Recoating). r.master) c.new-recoat.ensures)
    (subst (λ (a : Asked). LeavesAtMost g.D.Disk.tells (KeepsItOrMore c.new-recoat.result.master a)
    c.args.disk.now c.update.new.disk) same c.update.ensures.any_moment)))

pub returns-clause-made : goal.returns-clause-made
returns-clause-made g c =
    let master = c.args.surface.now.bytes in
    let s : PlacedStore = record {
      catalogue = c.self.inside.catalogue.catalogue;
      room = c.self.inside.catalogue.room;
      placed = c.self.inside.placed.items;
      held = c.self.inside.extents;
    } in
    let well = subst (λ (o : PlacedStore). IsWell (64 * WIDTH) o.catalogue) (sym c.self.view_is)
    c.known.ensures.catalogue in
    let rewrites : c.new-recoat.result.rewrites ≡ plain_rewrites c.args.prepared.change.rewrites.items =
    ap (λ (r : Recoating). r.rewrites) c.new-recoat.ensures ∙ ap (λ rs. plain_rewrites rs) c.rewrites.ensures in
    let same : asked c.new-recoat.result.rewrites c.deref.result.now s.held
    c.as_slice-front.result.now c.bytes_of-text.result.now c.args.prepared.removed
    ≡ asked_of s c.args.prepared =
    λ j. asked (rewrites j)
    ((c.deref.ensures.value ∙ c.make_room.ensures.same) j) s.held (c.as_slice-front.ensures j)
    (c.bytes_of-text.ensures j) c.args.prepared.removed in
    let text = c.args.prepared.text in
    let firsts = firsts_of c.in_ok-moves.moves.items in
    let grown = c.unplace_by.new.placed.items in
    let places = c.put_firsts.new.placed.items in
    let places_are : places
    ≡ replaced (plain_rewrites c.args.prepared.change.rewrites.items) firsts grown =
    c.put_firsts.ensures ∙ (λ j. replaced (plain_rewrites (c.rewrites-2.ensures j))
    (firsts_of (c.deref-2.ensures.value j)) grown) in
    let moves = c.in_ok-moves.moves.items in
    let files : files_of c.deref.result.now c.new-recoat.result.rewrites
    ≡ files_of s.placed (plain_rewrites c.args.prepared.change.rewrites.items) =
    λ j. files_of ((c.deref.ensures.value ∙ c.make_room.ensures.same) j) (rewrites j) in
    let go = subst (λ (fs : List Placed). GoToFree fs s.held moves) files c.in_ok-moves.ensures.moves in
    let new : PlacedStore = record {
      catalogue = c.commit.new.self.catalogue;
      room = c.commit.new.self.room;
      placed = places;
      held = c.update.new.extents;
    } in
    let order = c.known-2.ensures.order in
    subst (λ (old : PlacedStore). MakesUpdate g.D.Disk.tells (64 * WIDTH) master old c.args.prepared
    c.args.disk.now c.update.new.disk new) c.self.view_is (record {
      moves = moves;
      go = go;
      firsts = firsts;
      firsts_are = refl;
      many = λ u is. many_made (64 * WIDTH) master s u c.args.prepared is c.self.invariant order well moves go.moves_are;
      catalogue = c.commit.ensures.applied;
      placed = λ u is.
          placed_made (64 * WIDTH) master s u c.args.prepared is c.self.invariant order well firsts grown places
          (c.unplace_by.ensures u is.text is.removed
          ∙ ap (λ (ps : List (Option ℕ)). with_unplaced ps (brief u)) c.make_room.ensures.same)
          places_are;
      lasts = λ i read.
          lasts_more (64 * WIDTH) master s c.args.prepared c.self.invariant order well g.D.Disk.tells moves
          c.update.new.disk i
          (subst (λ (m : List ℕ). UpdateLasts g.D.Disk.tells m (asked_of s c.args.prepared) moves
          c.update.new.disk i) (ap (λ (r : Recoating). r.master) c.new-recoat.ensures)
          (subst (λ (a : Asked). UpdateLasts g.D.Disk.tells c.new-recoat.result.master a moves
          c.update.new.disk i) same (c.in_ok-moves.ensures.lasts i read)));
    })
