use Rattle.std.proofs.Common.{◌≡◌, ap, ◌∙◌}
use Rattle.ov_base.specs.declared.mode.Mode.{Mode}
use Rattle.ov_history.specs.Masters.{Masters}
use Rattle.ov_images.specs.Images.{Keys, keys, keys_of}
use Rattle.ov_machine.specs.Machine.{plain_masters}
use Rattle.ov_answering.proofs.Judging.{call_so, looked}
use Rattle.ov_store.proofs.Opening.{both_quiet}
use Rattle.ov_replaying.proofs.Refusals.{check_refused, handed_on, open_refused, stands_under}
use Rattle.ov_replaying.proofs.opening.open.Goals as goal

pub returns-in-Ok-clause-opened : goal.returns-in-Ok-clause-opened
returns-in-Ok-clause-opened g c =
    let k : Masters = plain_masters c.args.masters.now in
    let ks : Keys = keys c.base_check_of-base_check.result c.args.masters.now.surface.bytes in
    let same : ks ≡ keys_of k =
    ap (λ b. keys b c.args.masters.now.surface.bytes) c.base_check_of-base_check.ensures in
    let opened = c.in-Ok.ensures.opened in
    let begun = opened.begun in
    let mode : Mode = c.in-Ok.store.catalogue.mode in
    handed_on g.D.Disk.tells k mode c.args.disk opened.born c.in-Ok.store c.checked.result
    (begun.new.0 ∙ same) begun.new.1 begun.same c.checked.ensures.untouched.reads_same
    c.checked.ensures.same
    (looked g.D.Disk.tells k ks mode c.args.disk c.in-Ok.store same begun.new.0
    (begun.found, begun.told, begun.same) c.checked.result c.checked.ensures.owners
    c.checked.ensures.untouched.reads_same).0

pub returns-in-Ok-clause-fault : goal.returns-in-Ok-clause-fault
returns-in-Ok-clause-fault g c =
    let k : Masters = plain_masters c.args.masters.now in
    let ks : Keys = keys c.base_check_of-base_check.result c.args.masters.now.surface.bytes in
    let same : ks ≡ keys_of k =
    ap (λ b. keys b c.args.masters.now.surface.bytes) c.base_check_of-base_check.ensures in
    let opened = c.in-Ok.ensures.opened in
    let begun = opened.begun in
    let mode : Mode = c.in-Ok.store.catalogue.mode in
    check_refused g.D.Disk.tells k mode c.args.disk opened.born c.checked.result
    (λ i read. stands_under k ks mode i same (begun.found i read).some)
    (looked g.D.Disk.tells k ks mode c.args.disk c.in-Ok.store same begun.new.0
    (begun.found, begun.told, begun.same) c.checked.result c.checked.ensures.owners
    c.checked.ensures.untouched.reads_same).1

pub returns-in-Ok-clause-quiet : goal.returns-in-Ok-clause-quiet
returns-in-Ok-clause-quiet g c =
    both_quiet g.D.Disk.tells (keys_of (plain_masters c.args.masters.now))
    c.in-Ok.store.catalogue.mode c.args.disk c.in-Ok.store.disk _ c.in-Ok.ensures.quiet
    c.checked.ensures.untouched.any_moment

pub returns-in-Ok-clause-call : goal.returns-in-Ok-clause-call
returns-in-Ok-clause-call g c =
    call_so g.D.Disk.tells c.args.disk c.in-Ok.store.disk _ _ _
    c.in-Ok.ensures.call c.checked.ensures.call

pub returns-in-Err-clause-fault : goal.returns-in-Err-clause-fault
returns-in-Err-clause-fault g c = λ i read.
    open_refused (plain_masters c.args.masters.now)
    (keys c.base_check_of-base_check.result c.args.masters.now.surface.bytes) i
    c.in-Err.refused.fault
    (ap (λ b. keys b c.args.masters.now.surface.bytes) c.base_check_of-base_check.ensures)
    c.values_are_known.ensures (c.in-Err.ensures.fault i read)
