use Rattle.ov_disk.proofs.Fronts.{after_front, after_whole, whole_reads}
use Rattle.ov_disk.proofs.memory.MemDiskDisk.write_at.Goals as goal

pub returns-in-Some-clause-told : goal.returns-in-Some-clause-told
returns-in-Some-clause-told c =
    (after_front c.args.area c.args.at c.args.self.now c.write_front.new.self c.requires c.in-Some.keep c.args.bytes.now c.front.result.now c.front.ensures c.write_front.ensures).told

pub returns-in-Some-clause-untold : goal.returns-in-Some-clause-untold
returns-in-Some-clause-untold c =
    (after_front c.args.area c.args.at c.args.self.now c.write_front.new.self c.requires c.in-Some.keep c.args.bytes.now c.front.result.now c.front.ensures c.write_front.ensures).untold

pub returns-in-Some-clause-crash : goal.returns-in-Some-clause-crash
returns-in-Some-clause-crash c =
    (after_front c.args.area c.args.at c.args.self.now c.write_front.new.self c.requires c.in-Some.keep c.args.bytes.now c.front.result.now c.front.ensures c.write_front.ensures).crash

pub returns-in-Some-clause-time : goal.returns-in-Some-clause-time
returns-in-Some-clause-time c =
    (after_front c.args.area c.args.at c.args.self.now c.write_front.new.self c.requires c.in-Some.keep c.args.bytes.now c.front.result.now c.front.ensures c.write_front.ensures).time

pub returns-in-None-clause-written : goal.returns-in-None-clause-written
returns-in-None-clause-written c = whole_reads c.args.area c.args.at c.args.self.now c.write_whole.new.self c.requires c.args.bytes.now c.write_whole.result c.write_whole.ensures

pub returns-in-None-clause-told : goal.returns-in-None-clause-told
returns-in-None-clause-told c =
    (after_whole c.args.area c.args.at c.args.self.now c.write_whole.new.self c.requires c.args.bytes.now c.write_whole.result c.write_whole.ensures).told

pub returns-in-None-clause-untold : goal.returns-in-None-clause-untold
returns-in-None-clause-untold c =
    (after_whole c.args.area c.args.at c.args.self.now c.write_whole.new.self c.requires c.args.bytes.now c.write_whole.result c.write_whole.ensures).untold

pub returns-in-None-clause-crash : goal.returns-in-None-clause-crash
returns-in-None-clause-crash c =
    (after_whole c.args.area c.args.at c.args.self.now c.write_whole.new.self c.requires c.args.bytes.now c.write_whole.result c.write_whole.ensures).crash

pub returns-in-None-clause-time : goal.returns-in-None-clause-time
returns-in-None-clause-time c =
    (after_whole c.args.area c.args.at c.args.self.now c.write_whole.new.self c.requires c.args.bytes.now c.write_whole.result c.write_whole.ensures).time
