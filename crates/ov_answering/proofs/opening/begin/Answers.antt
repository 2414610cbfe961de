use Rattle.std.proofs.Common.{ap, subst}
use Rattle.ov_images.specs.Images.{Keys, keys, keys_of}
use Rattle.ov_store.specs.Beginning.{IsNew, LeavesHistory}
use Rattle.ov_machine.specs.Machine.{plain_masters}
use Rattle.ov_answering.proofs.Judging.{begin_refused, call_so, leaves_still, looked, new_so, writes_still}
use Rattle.ov_answering.proofs.opening.begin.Goals as goal

pub returns-in-Ok-clause-new : goal.returns-in-Ok-clause-new
returns-in-Ok-clause-new g c =
    new_so (keys_of (plain_masters c.args.masters)) c.args.mode c.in-Ok.store c.checked.result
    c.checked.ensures.same
    (subst (λ (x : Keys). IsNew x c.args.mode c.in-Ok.store)
    (ap (λ b. keys b c.args.masters.surface.bytes) c.base_check_of-base_check.ensures)
    c.in-Ok.ensures.begun.new)

pub returns-in-Ok-clause-found : goal.returns-in-Ok-clause-found
returns-in-Ok-clause-found g c =
    (looked g.D.Disk.tells (plain_masters c.args.masters)
    (keys c.base_check_of-base_check.result c.args.masters.surface.bytes) c.args.mode c.args.disk
    c.in-Ok.store (ap (λ b. keys b c.args.masters.surface.bytes) c.base_check_of-base_check.ensures)
    c.in-Ok.ensures.begun.new.0
    (c.in-Ok.ensures.begun.found, c.in-Ok.ensures.begun.told, c.in-Ok.ensures.begun.same)
    c.checked.result c.checked.ensures.owners
    c.checked.ensures.untouched.reads_same).0

pub returns-in-Ok-clause-fault : goal.returns-in-Ok-clause-fault
returns-in-Ok-clause-fault g c =
    (looked g.D.Disk.tells (plain_masters c.args.masters)
    (keys c.base_check_of-base_check.result c.args.masters.surface.bytes) c.args.mode c.args.disk
    c.in-Ok.store (ap (λ b. keys b c.args.masters.surface.bytes) c.base_check_of-base_check.ensures)
    c.in-Ok.ensures.begun.new.0
    (c.in-Ok.ensures.begun.found, c.in-Ok.ensures.begun.told, c.in-Ok.ensures.begun.same)
    c.checked.result c.checked.ensures.owners
    c.checked.ensures.untouched.reads_same).1

pub returns-in-Ok-clause-any_moment : goal.returns-in-Ok-clause-any_moment
returns-in-Ok-clause-any_moment g c =
    leaves_still g.D.Disk.tells c.args.disk c.in-Ok.store.disk _ c.checked.ensures.untouched
    (keys c.base_check_of-base_check.result c.args.masters.surface.bytes)
    (keys_of (plain_masters c.args.masters)) c.args.mode
    (ap (λ b. keys b c.args.masters.surface.bytes) c.base_check_of-base_check.ensures)
    c.in-Ok.ensures.any_moment

pub returns-in-Ok-clause-untouched : goal.returns-in-Ok-clause-untouched
returns-in-Ok-clause-untouched g c =
    writes_still g.D.Disk.tells c.args.disk c.in-Ok.store.disk _ c.checked.ensures.untouched
    c.in-Ok.ensures.untouched

pub returns-in-Ok-clause-call : goal.returns-in-Ok-clause-call
returns-in-Ok-clause-call g c =
    call_so g.D.Disk.tells c.args.disk c.in-Ok.store.disk _ _ _
    c.in-Ok.ensures.call c.checked.ensures.call

pub returns-in-Err-clause-fault : goal.returns-in-Err-clause-fault
returns-in-Err-clause-fault g c = λ i read.
    begin_refused (plain_masters c.args.masters)
    (keys c.base_check_of-base_check.result c.args.masters.surface.bytes) c.args.mode i
    c.in-Err.refused.fault
    (ap (λ b. keys b c.args.masters.surface.bytes) c.base_check_of-base_check.ensures)
    c.values_are_known.ensures (c.in-Err.ensures.fault i read)

pub returns-in-Err-clause-any_moment : goal.returns-in-Err-clause-any_moment
returns-in-Err-clause-any_moment g c =
    subst
    (λ (x : Keys). LeavesHistory g.D.Disk.tells x c.args.mode c.args.disk c.in-Err.refused.disk)
    (ap (λ b. keys b c.args.masters.surface.bytes) c.base_check_of-base_check.ensures)
    c.in-Err.ensures.any_moment
