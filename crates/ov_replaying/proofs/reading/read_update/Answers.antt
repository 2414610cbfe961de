use Rattle.std.proofs.Common.{refl, subst, sym}
use Rattle.ov_store.specs.declared.fault.BeginFault.{BeginFault}
use Rattle.ov_replaying.specs.Reading.{IsFaultOfStore}
use Rattle.ov_replaying.proofs.Stores.{stays_read}
use Rattle.ov_replaying.proofs.reading.read_update.Goals as goal

-- a record is found changed only over a disk that tells nothing
pub returns-in-Err-Changed-clause-update : goal.returns-in-Err-Changed-clause-update
returns-in-Err-Changed-clause-update g c =
    subst (λ (fault : BeginFault).
    IsFaultOfStore (g.D.Disk.tells.reads c.args.store.now.disk) fault) (sym c.damaged.ensures)
    (refl, rw c.in-Err-Changed.field-0-is at c.in-Err-Changed.ensures.update)

pub returns-in-Ok-clause-stays : goal.returns-in-Ok-clause-stays
returns-in-Ok-clause-stays g c =
    stays_read g.D.Disk.tells c.args.store.now c.brief.new.self _ _ c.brief.ensures.kept
    c.brief.ensures.untouched c.brief.ensures.served c.brief.ensures.call (λ is. absurd (cc is))

pub returns-in-Err-Disk-clause-stays : goal.returns-in-Err-Disk-clause-stays
returns-in-Err-Disk-clause-stays g c =
    stays_read g.D.Disk.tells c.args.store.now c.brief.new.self _ _ c.brief.ensures.kept
    c.brief.ensures.untouched c.brief.ensures.served c.brief.ensures.call
    (λ is. cc (c.in-Err-Disk.is, c.in-Err-Disk.field-0-is))

pub returns-in-Err-Changed-clause-stays : goal.returns-in-Err-Changed-clause-stays
returns-in-Err-Changed-clause-stays g c =
    stays_read g.D.Disk.tells c.args.store.now c.brief.new.self _ _ c.brief.ensures.kept
    c.brief.ensures.untouched c.brief.ensures.served c.brief.ensures.call
    (λ is. absurd (cc (c.damaged.ensures, is)))

pub returns-in-Err-Memory-clause-stays : goal.returns-in-Err-Memory-clause-stays
returns-in-Err-Memory-clause-stays g c =
    stays_read g.D.Disk.tells c.args.store.now c.brief.new.self _ _ c.brief.ensures.kept
    c.brief.ensures.untouched c.brief.ensures.served c.brief.ensures.call (λ is. absurd (cc is))
