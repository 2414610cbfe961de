use Rattle.std.proofs.Common.{List, ◌∙◌, sym, ap}
use Rattle.ov_disk.specs.declared.change.Change.{Change}
use Rattle.ov_disk.specs.Tape.{replayed, reads_of}
use Rattle.ov_disk.proofs.Tapes.{push_sync}
use Rattle.ov_disk.proofs.memory.MemDisk.keep_sync.Goals as goal

pub invariant_of-self-2 : goal.invariant_of-self-2
invariant_of-self-2 c =
    ap (λ (l : List Change). replayed c.self.inside.areas.start l) c.in_ok-push.ensures.items ∙ push_sync c.self.inside.areas.start c.self.inside.changes.items c.args.call ∙ c.self.invariant

pub returns-in_err-push-clause-told : goal.returns-in_err-push-clause-told
returns-in_err-push-clause-told c = (c.self.inside.areas.current, sym (ap reads_of c.self.view_is) ∙ c.self.invariant)

pub returns-clause-told : goal.returns-clause-told
returns-clause-told c = (c.self.inside.areas.current, sym (ap reads_of c.self.view_is) ∙ c.self.invariant)
