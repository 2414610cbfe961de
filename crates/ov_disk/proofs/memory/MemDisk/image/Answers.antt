use Rattle.std.proofs.Common.{rules, ◌≡◌, ◌∙◌, sym, ap, subst}
use Rattle.ov_disk.specs.Tape.{Tape, fresh, Leaves, LeftSince, torn, before, reads_of}
use Rattle.ov_disk.proofs.Stops.{torn_after, torn_possible}
use Rattle.ov_disk.proofs.memory.MemDisk.image.Goals as goal

pub returns-clause-possible : goal.returns-clause-possible
returns-clause-possible c =
    let exact : c.of.result ≡ fresh (torn c.args.tear c.args.self.now.first (before c.args.call c.args.self.now.changes)) = search rules in
    let first = ap (λ (t : Tape). t.first) exact in
    subst (LeftSince c.args.self.now.first c.args.self.now.changes 0) (sym first)
    (torn_possible c.args.tear c.args.self.now.first c.args.self.now.changes c.self.inside.areas.current c.args.call (sym (ap reads_of c.self.view_is) ∙ c.self.invariant))

pub returns-clause-after : goal.returns-clause-after
returns-clause-after c =
    let exact : c.of.result ≡ fresh (torn c.args.tear c.args.self.now.first (before c.args.call c.args.self.now.changes)) = search rules in
    let first = ap (λ (t : Tape). t.first) exact in
    subst (Leaves c.args.self.now.first (before c.args.call c.args.self.now.changes)) (sym first)
    (torn_after c.args.tear c.args.self.now.first c.args.self.now.changes c.self.inside.areas.current c.args.call (sym (ap reads_of c.self.view_is) ∙ c.self.invariant))
