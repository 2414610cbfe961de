use Rattle.std.proofs.Common.{subst, sym}
use Rattle.ov_images.specs.Images.{Keys}
use Rattle.ov_store.specs.Opened.{Opened, Serves}
use Rattle.ov_store.specs.Wholes.{ReadsWhole}
use Rattle.ov_store.proofs.Extents.{all_in_blobs}
use Rattle.ov_store.proofs.Looking.{safe_looked, serves_looked}
use Rattle.ov_store.proofs.SentAgain.{reads_whole}
use Rattle.ov_store.proofs.store.Store.whole.Goals as goal

pub whole_at-requires-clause-files : goal.whole_at-requires-clause-files
whole_at-requires-clause-files g c i is =
    let safe = c.self.invariant in
    all_in_blobs c.self.inside.surface.bytes safe.history c.self.inside.placed i.blobs safe.replayed
    (safe.begins i is).laid_out

pub invariant_of-self : goal.invariant_of-self
invariant_of-self g c =
    let k : Keys = record {
      base_check = c.self.inside.base_check;
      surface = c.self.inside.surface.bytes;
    } in
    safe_looked g.D.Disk.tells k c.self.inside.placed c.self.inside.failed c.self.inside.disk
    c.whole_at.new.disk c.whole_at.ensures.untouched c.self.inside.journal c.self.invariant

pub returns-clause-update : goal.returns-clause-update
returns-clause-update g c =
    let k : Keys = record {
      base_check = c.self.inside.base_check;
      surface = c.self.inside.surface.bytes;
    } in
    subst (λ (old : Opened g.row.D.Denot).
    ReadsWhole g.D.Disk.tells old c.args.i c.args.file c.whole_at.result) c.self.view_is
    (reads_whole g.D.Disk.tells c.self.inside.disk k c.self.inside.placed c.self.inside.failed
    c.self.inside.journal c.self.invariant c.args.i c.args.file c.whole_at.result
    c.whole_at.ensures.record)

pub returns-clause-served : goal.returns-clause-served
returns-clause-served g c = λ h serves.
    let k : Keys = record {
      base_check = c.self.inside.base_check;
      surface = c.self.inside.surface.bytes;
    } in
    serves_looked g.D.Disk.tells k c.self.inside.placed c.self.inside.failed c.self.inside.disk
    c.whole_at.new.disk c.whole_at.ensures.untouched h
    (subst (λ (s : Opened g.row.D.Denot). Serves g.D.Disk.tells h s) (sym c.self.view_is) serves)
