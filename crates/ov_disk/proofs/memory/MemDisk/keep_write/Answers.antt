use Rattle.std.proofs.Common.{rules, ◌≡◌, ◌++◌, ◌∷◌, [], Some, ◌∙◌, sym, ap}
use Rattle.std.specs.Option.{option_map}
use Rattle.ov_disk.specs.declared.change.Change.TheVariants.{Write}
use Rattle.ov_disk.specs.Disk.{Image, written}
use Rattle.ov_disk.specs.Tape.{replayed, reads_of}
use Rattle.ov_disk.proofs.Tapes.{push_write}
use Rattle.ov_disk.proofs.memory.MemDisk.keep_write.Goals as goal

pub invariant_of-self-2 : goal.invariant_of-self-2
invariant_of-self-2 c =
    let i = c.self.inside.areas.start in
    let items : c.push.new.self.items ≡ c.self.inside.changes.items ++ Write c.args.call c.args.area c.args.at c.args.bytes.now ∷ [] = search rules in
    let start : c.write.new.self.start ≡ i = search rules in
    let current : c.write.new.self.current ≡ written c.args.area c.args.at c.args.bytes.now c.self.inside.areas.current = search rules in
    (λ k. replayed (start k) (items k))
    ∙ push_write i c.self.inside.changes.items c.args.call c.args.area c.args.at c.args.bytes.now (λ s is. c.requires s (sym (ap reads_of c.self.view_is) ∙ is))
    ∙ ap (option_map (written c.args.area c.args.at c.args.bytes.now)) c.self.invariant
    ∙ ap (λ (j : Image). Some j) (sym current)
