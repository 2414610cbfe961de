use Rattle.std.proofs.Common.{◌≡◌, arith, List, ℕ, Option, Some, length, sym, subst}
use Rattle.std.specs.Prelude.{All, IfSome}
use Rattle.ov_blocks.specs.Extents.{BeginsOne}
use Rattle.ov_moves.specs.Placing.{GoToFree, HasNewText, HasPlaces, IsFiled}
use Rattle.ov_moves.specs.Releasing.{AreDistinct, GivesUp, MayGoOn}
use Rattle.ov_moves.specs.Rewriting.{SpellsBodies, StandsForEither}
use Rattle.ov_moves.specs.Runs.{LeavesAtMost}
use Rattle.ov_moves.specs.declared.placing.Placed.{Placed}
use Rattle.ov_moves.proofs.Runs.{leaves_none, leaves_weaker}
use Rattle.ov_recoat.specs.Recoats.{recoated}
use Rattle.ov_updating.specs.Files.{files_of}
use Rattle.ov_updating.specs.Recording.{body_with}
use Rattle.ov_updating.specs.Updating.{Asked, KeepsItOrMore, asked}
use Rattle.ov_updating.proofs.Asking.{distinct, filed, has_text, places, spells}
use Rattle.ov_updating.proofs.Going.{removed_held}
use Rattle.ov_updating.proofs.HeldAfter.{held_after}
use Rattle.ov_updating.proofs.Keeping.{keeps_either, keeps_yet, lasts}
use Rattle.ov_updating.proofs.Listing.{listed_all}
use Rattle.ov_updating.proofs.updating.update.Goals as goal

pub returns-in_err-files-clause-any_moment : goal.returns-in_err-files-clause-any_moment
returns-in_err-files-clause-any_moment g c =
    let master = c.args.recoat.now.master in
    let a : Asked = asked c.args.recoat.now.rewrites c.args.placed.now c.args.extents.now c.args.front.now c.args.text.now c.args.removed in
    leaves_none g.D.Disk.tells (KeepsItOrMore master a) c.args.disk.now c.requires.settled (keeps_yet master a)

pub rewrite-requires-clause-files : goal.rewrite-requires-clause-files
rewrite-requires-clause-files g c =
    let is = c.requires.asked in
    subst (All (IsFiled c.args.extents.now)) (sym (listed_all _ _ _ _ c.deref.ensures.value c.in_ok-files.ensures c.rewrites.ensures)) (filed is.0 is.1 _ is.2)

pub rewrite-requires-clause-distinct : goal.rewrite-requires-clause-distinct
rewrite-requires-clause-distinct g c =
    let is = c.requires.asked in
    subst AreDistinct (sym (listed_all _ _ _ _ c.deref.ensures.value c.in_ok-files.ensures c.rewrites.ensures)) (distinct is.0 is.1 _ is.2)

pub rewrite-requires-clause-places : goal.rewrite-requires-clause-places
rewrite-requires-clause-places g c =
    let is = c.requires.asked in
    subst (λ (files : List Placed). HasPlaces (length files) c.args.extents.now) (sym (listed_all _ _ _ _ c.deref.ensures.value c.in_ok-files.ensures c.rewrites.ensures)) (places is.0 is.1 _ is.2)

pub rewrite-requires-clause-has_text : goal.rewrite-requires-clause-has_text
rewrite-requires-clause-has_text g c =
    let is = c.requires.asked in
    subst (All (HasNewText c.args.text.now)) (sym (listed_all _ _ _ _ c.deref.ensures.value c.in_ok-files.ensures c.rewrites.ensures)) (has_text is.0 is.1 _ is.2)

pub rewrite-requires-clause-body : goal.rewrite-requires-clause-body
rewrite-requires-clause-body g c =
    let is = c.requires.asked in
    subst (SpellsBodies (body_with c.args.front.now)) (sym (listed_all _ _ _ _ c.deref.ensures.value c.in_ok-files.ensures c.rewrites.ensures)) (spells is.0 is.1 _ is.2)

pub returns-in_err-moves-clause-any_moment : goal.returns-in_err-moves-clause-any_moment
returns-in_err-moves-clause-any_moment g c =
    let master = c.args.recoat.now.master in
    let a : Asked = asked c.args.recoat.now.rewrites c.args.placed.now c.args.extents.now c.args.front.now c.args.text.now c.args.removed in
    let files = files_of c.args.placed.now c.args.recoat.now.rewrites in
    leaves_weaker g.D.Disk.tells (StandsForEither (recoated master a.rewrites) a.text (body_with a.front) a.held files) (KeepsItOrMore master a)
    c.args.disk.now c.rewrite.new.disk (λ i x. keeps_either master a i x)
    (subst (λ (all : List Placed). LeavesAtMost g.D.Disk.tells (StandsForEither (recoated master a.rewrites) a.text (body_with a.front) a.held all)
    c.args.disk.now c.rewrite.new.disk) (listed_all _ _ _ _ c.deref.ensures.value c.in_ok-files.ensures c.rewrites.ensures) c.rewrite.ensures.any_moment)

pub release_at-requires : goal.release_at-requires
release_at-requires g c =
    let is = c.requires.asked in
    let a : Asked = asked c.args.recoat.now.rewrites c.args.placed.now c.args.extents.now c.args.front.now c.args.text.now c.args.removed in
    let moves = c.in_ok-moves.moves.items in
    let same = listed_all _ _ _ _ c.deref.ensures.value c.in_ok-files.ensures c.rewrites.ensures in
    subst (λ (o : Option ℕ). IfSome o (BeginsOne c.rewrite.new.extents)) (sym c.first_at.ensures)
    (removed_held is.0 is.1 a is.2 moves
    (subst (λ (all : List Placed). GoToFree all a.held moves) same c.in_ok-moves.ensures.moves) c.rewrite.new.extents
    (subst (λ (all : List Placed). MayGoOn all a.held c.rewrite.new.extents moves) same c.in_ok-moves.ensures.held))

pub returns-clause-any_moment : goal.returns-clause-any_moment
returns-clause-any_moment g c =
    let master = c.args.recoat.now.master in
    let a : Asked = asked c.args.recoat.now.rewrites c.args.placed.now c.args.extents.now c.args.front.now c.args.text.now c.args.removed in
    let files = files_of c.args.placed.now c.args.recoat.now.rewrites in
    leaves_weaker g.D.Disk.tells (StandsForEither (recoated master a.rewrites) a.text (body_with a.front) a.held files) (KeepsItOrMore master a)
    c.args.disk.now c.rewrite.new.disk (λ i x. keeps_either master a i x)
    (subst (λ (all : List Placed). LeavesAtMost g.D.Disk.tells (StandsForEither (recoated master a.rewrites) a.text (body_with a.front) a.held all)
    c.args.disk.now c.rewrite.new.disk) (listed_all _ _ _ _ c.deref.ensures.value c.in_ok-files.ensures c.rewrites.ensures) c.rewrite.ensures.any_moment)

pub returns-clause-moves : goal.returns-clause-moves
returns-clause-moves g c =
    subst (λ (all : List Placed). GoToFree all c.args.extents.now c.in_ok-moves.moves.items)
    (listed_all _ _ _ _ c.deref.ensures.value c.in_ok-files.ensures c.rewrites.ensures) c.in_ok-moves.ensures.moves

pub returns-clause-lasts : goal.returns-clause-lasts
returns-clause-lasts g c i is =
    let master = c.args.recoat.now.master in
    let a : Asked = asked c.args.recoat.now.rewrites c.args.placed.now c.args.extents.now c.args.front.now c.args.text.now c.args.removed in
    let moves = c.in_ok-moves.moves.items in
    lasts g.D.Disk.tells master a c.rewrite.new.disk i moves
    (subst (λ (all : List Placed). GoToFree all a.held moves) (listed_all _ _ _ _ c.deref.ensures.value c.in_ok-files.ensures c.rewrites.ensures) c.in_ok-moves.ensures.moves)
    (c.in_ok-moves.ensures.lasts i is)

pub returns-clause-held : goal.returns-clause-held
returns-clause-held g c =
    let a : Asked = asked c.args.recoat.now.rewrites c.args.placed.now c.args.extents.now c.args.front.now c.args.text.now c.args.removed in
    let moves = c.in_ok-moves.moves.items in
    let same = listed_all _ _ _ _ c.deref.ensures.value c.in_ok-files.ensures c.rewrites.ensures in
    held_after a moves c.rewrite.new.extents c.release_at.new.extents
    (subst (λ (all : List Placed). GoToFree all a.held moves) same c.in_ok-moves.ensures.moves)
    (subst (λ (all : List Placed). MayGoOn all a.held c.rewrite.new.extents moves) same c.in_ok-moves.ensures.held)
    (subst (λ (o : Option ℕ). GivesUp (λ block. o ≡ Some block) c.rewrite.new.extents c.release_at.new.extents) c.first_at.ensures
    c.release_at.ensures.given)
    c.release_at.ensures.few

-- what is left ends no later
pub returns-clause-lies : goal.returns-clause-lies
returns-clause-lies g c i is = omega (arith, c.in_ok-moves.ensures.lies i is, c.release_at.ensures.ends)
