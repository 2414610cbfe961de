use Rattle.std.proofs.Common.{ℕ, Err, Result, subst, sym}
use Rattle.std.specs.Prelude.{OnOk}
use Rattle.ov_record.specs.Updates.{sealed_update}
use Rattle.ov_store.specs.Carrying.{IsCarriedOver}
use Rattle.ov_store.specs.Updating.{GoesOnAfter, ServesMore, Updates}
use Rattle.ov_store.specs.declared.fault.StoreFault.{StoreFault}
use Rattle.ov_tidy.specs.Copies.{Adds}
use Rattle.ov_tidy.specs.declared.copying.CopyFault.{CopyFault}
use Rattle.ov_tidy.proofs.Copied.{goes_on, not_added}
use Rattle.ov_tidy.proofs.copying.add.Goals as goal

pub returns-in-Ok-clause-answer : goal.returns-in-Ok-clause-answer
returns-in-Ok-clause-answer g c = (
  subst (λ (r : Result ℕ StoreFault). OnOk r (ServesMore g.E.Disk.tells (sealed_update c.args.update)
      c.args.new.now c.update.new.self)) c.in-Ok.is c.update.ensures.served,
  goes_on c.args.new.now c.update.new.self c.in-Ok.field-0 c.update.result c.in-Ok.is c.requires.whole
      c.update.ensures.state,
)

pub returns-in-Ok-clause-step : goal.returns-in-Ok-clause-step
returns-in-Ok-clause-step g c =
    let carried : IsCarriedOver g.E.Disk.tells c.args.new.now c.update.new.self =
    subst (λ (r : Result ℕ StoreFault). OnOk r (IsCarriedOver g.E.Disk.tells c.args.new.now
    c.update.new.self)) c.in-Ok.is c.update.ensures.carried in
    λ i read k read_new. (carried i read k read_new).0

pub returns-in-Err-clause-answer : goal.returns-in-Err-clause-answer
returns-in-Err-clause-answer g c =
    let w = sealed_update c.args.update in
    subst (λ (f : CopyFault). Adds g.E.Disk.tells w c.args.new.now c.update.new.self (Err f))
    (sym c.copy_fault.ensures)
    (not_added g.E.Disk.tells w c.args.new.now c.update.new.self c.in-Err.fault c.args.gate
    c.requires.whole
    (subst (λ (r : Result ℕ StoreFault). Updates w c.args.new.now c.update.new.self r) c.in-Err.is
    c.update.ensures.answer)
    (subst (λ (r : Result ℕ StoreFault). GoesOnAfter r c.args.new.now c.update.new.self) c.in-Err.is
    c.update.ensures.state))
