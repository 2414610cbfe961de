use Rattle.std.proofs.Common.{rules, ◌≡◌, ◌∙◌, sym, ap, arith}
use Rattle.ov_disk.specs.declared.change.Change.TheVariants.{Sync}
use Rattle.ov_disk.specs.Tape.{Tape, answered, reads_of}
use Rattle.ov_disk.proofs.Tapes.{Grows, sync_reads, sync_durable, sync_crash}
use Rattle.ov_disk.proofs.memory.MemDiskDisk.sync.Goals as goal

pub returns-clause-durable : goal.returns-clause-durable
returns-clause-durable c =
    let grows : Grows c.args.self.now c.keep_sync.new.self (Sync c.in_ok-call.call) = record { first = search rules; changes = search rules } in
    sync_durable c.args.self.now c.keep_sync.new.self c.in_ok-call.call grows

pub returns-clause-reads : goal.returns-clause-reads
returns-clause-reads c =
    let grows : Grows c.args.self.now c.keep_sync.new.self (Sync c.in_ok-call.call) = record { first = search rules; changes = search rules } in
    sync_reads c.args.self.now c.keep_sync.new.self c.in_ok-call.call grows

pub returns-clause-crash : goal.returns-clause-crash
returns-clause-crash c =
    let grows : Grows c.args.self.now c.keep_sync.new.self (Sync c.in_ok-call.call) = record { first = search rules; changes = search rules } in
    let counted : c.next_call.new.self ≡ answered c.args.self.now = search rules in
    let told = c.keep_sync.ensures.told in
    sync_crash c.args.self.now c.keep_sync.new.self c.in_ok-call.call grows told.0 (ap reads_of (sym counted) ∙ told.1)

pub returns-then-is_err-clause-cause : goal.returns-then-is_err-clause-cause
returns-then-is_err-clause-cause c =
    let counted : c.next_call.new.self ≡ answered c.args.self.now = search rules in
    let refused : c.keep_sync.new.self ≡ c.next_call.new.self = search rules in
    let same = ap (λ (t : Tape). t.faults) (refused ∙ counted) in
    record { later = omega (arith, same, c.fault.ensures.later); failed = omega (arith, same, c.fault.ensures.rose) }
