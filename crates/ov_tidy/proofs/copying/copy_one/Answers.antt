use Rattle.std.proofs.Common.{◌≡◌, ◌∙◌, Err, Ok, Result, ap, inl, inr, length, subst}
use Rattle.ov_history.specs.Catalogue.{Catalogue}
use Rattle.ov_record.specs.Updates.{sealed_update}
use Rattle.ov_record.specs.declared.update.Update.{Update}
use Rattle.ov_state.specs.declared.queries.Sizes.{Sizes}
use Rattle.ov_state.specs.declared.state.TheConstants.{WIDTH}
use Rattle.ov_tidy.specs.Copies.{FindsAgain}
use Rattle.ov_tidy.specs.declared.copying.CopyFault.{CopyFault}
use Rattle.ov_tidy.specs.declared.copying.CopyFault.TheVariants.{Disk as DiskFailed}
use Rattle.ov_tidy.proofs.Copied.{adds_whole, copies_found, copies_lost, no_call, quiet_call}
use Rattle.ov_tidy.proofs.copying.copy_one.Goals as goal

pub returns-in-Ok-clause-copied : goal.returns-in-Ok-clause-copied
returns-in-Ok-clause-copied g c =
    let file = c.sizes-file.result.files in
    let many : file ≡ length c.args.new.now.catalogue.files =
    ap (λ (z : Sizes). z.files) c.sizes-file.ensures
    ∙ ap (λ (k : Catalogue). length k.files) c.state.ensures in
    let found : FindsAgain g.D.Disk.tells c.args.old.now c.args.place file (Ok c.in-Ok.update) =
    subst (λ (r : Result (Update WIDTH) CopyFault).
    FindsAgain g.D.Disk.tells c.args.old.now c.args.place file r) c.in-Ok.is
    c.read_again.ensures.update in
    copies_found g.D.Disk.tells g.E.Disk.tells c.args.old.now c.args.place file c.args.new.now
    c.add.new.new c.in-Ok.update c.add.result many c.requires.whole found c.add.ensures.answer
    c.add.ensures.any_moment

pub returns-in-Err-clause-copied : goal.returns-in-Err-clause-copied
returns-in-Err-clause-copied g c =
    let file = c.sizes-file.result.files in
    let many : file ≡ length c.args.new.now.catalogue.files =
    ap (λ (z : Sizes). z.files) c.sizes-file.ensures
    ∙ ap (λ (k : Catalogue). length k.files) c.state.ensures in
    copies_lost g.D.Disk.tells g.E.Disk.tells c.args.old.now c.args.place file c.args.new.now
    c.in-Err.fault many c.requires.whole
    (subst (λ (r : Result (Update WIDTH) CopyFault).
    FindsAgain g.D.Disk.tells c.args.old.now c.args.place file r) c.in-Err.is
    c.read_again.ensures.update)

pub returns-in-Ok-clause-whole : goal.returns-in-Ok-clause-whole
returns-in-Ok-clause-whole g c =
    adds_whole g.E.Disk.tells (sealed_update c.in-Ok.update) c.args.new.now c.add.new.new c.add.result
    c.add.ensures.answer

pub returns-in-Ok-clause-calls : goal.returns-in-Ok-clause-calls
returns-in-Ok-clause-calls g c = (
  quiet_call g.D.Disk.tells c.args.old.now c.read_again.new.old _ c.read_again.ensures.call,
  quiet_call g.E.Disk.tells c.args.new.now c.add.new.new _ c.add.ensures.call,
)

pub returns-in-Err-clause-calls : goal.returns-in-Err-clause-calls
returns-in-Err-clause-calls g c = (
  quiet_call g.D.Disk.tells c.args.old.now c.read_again.new.old _ c.read_again.ensures.call,
  no_call g.E.Disk.tells c.args.new.now,
)

pub returns-in-Ok-clause-causes : goal.returns-in-Ok-clause-causes
returns-in-Ok-clause-causes g c = λ is. inr (c.add.ensures.call.3 is)

pub returns-in-Err-clause-causes : goal.returns-in-Err-clause-causes
returns-in-Err-clause-causes g c = λ is.
    let same : c.in-Err.fault ≡ DiskFailed = cc is in
    inl (c.in-Err.ensures.call.3 (ap Err same))
