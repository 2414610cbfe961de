use Rattle.std.proofs.Common.{◌≡◌, arith, length, subst}
use Rattle.ov_disk.specs.Disk.{Follows, TornIn}
use Rattle.ov_disk.specs.declared.area.Area.TheVariants.{Blobs}
use Rattle.ov_blocks.specs.Writes.{place_in_blobs, PutsInto}
use Rattle.ov_blocks.proofs.Others.{puts_into}
use Rattle.ov_disk.proofs.Runs.{follows_weaker}
use Rattle.ov_blocks.proofs.Changes.{torn_changes, unchanged, left_by}
use Rattle.ov_blocks.proofs.extents.Extents.put.Goals as goal

pub returns-clause-crash : goal.returns-clause-crash
returns-clause-crash g c =
    let at = place_in_blobs c.args.first c.args.start in
    let n = length c.args.bytes.now in
    let here : c.place_in_blobs.result ≡ place_in_blobs c.args.first c.args.start = omega (arith, c.place_in_blobs.ensures) in
    follows_weaker (TornIn Blobs at n) (PutsInto c.args.first c.args.start n c.args.self.now) (g.D.Disk.tells.may_leave c.args.disk.now) (g.D.Disk.tells.may_leave c.write_at.new.self)
    (λ i k torn. puts_into c.args.self.now c.args.first c.args.start n i k c.known.ensures.order c.requires.inside (torn_changes at n i k torn))
    (subst (λ p. Follows (TornIn Blobs p n) (g.D.Disk.tells.may_leave c.args.disk.now) (g.D.Disk.tells.may_leave c.write_at.new.self)) here c.write_at.ensures.crash)

pub returns-clause-any_moment : goal.returns-clause-any_moment
returns-clause-any_moment g c =
    let at = place_in_blobs c.args.first c.args.start in
    let n = length c.args.bytes.now in
    left_by g.D.Disk.tells (PutsInto c.args.first c.args.start n c.args.self.now) c.args.disk.now c.write_at.new.self
    (λ i. puts_into c.args.self.now c.args.first c.args.start n i i c.known.ensures.order c.requires.inside (unchanged at n i))
    c.write_at.ensures.time
    (returns-clause-crash g c)
