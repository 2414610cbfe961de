use Rattle.std.proofs.Common.{◌∙◌, length, sym, subst, ap, Err}
use Rattle.ov_book.specs.declared.fault.SpellFault.{SpellFault}
use Rattle.ov_wire.specs.Updates.{IsSpelling}
use Rattle.ov_owning.proofs.Spelling.{epoch_is, far_below, spells_one, update_is}
use Rattle.ov_owning.proofs.Causes.{spelled_cause}
use Rattle.ov_owning.proofs.sending.tagged.Goals as goal

pub tag_of-tag-requires : goal.tag_of-tag-requires
tag_of-tag-requires g c =
    let one = spells_one g.D.Disk.tells c.args.book.now c.known.ensures.0
    c.new-spelling.result.items c.spelling.new.out.items c.briefs_begin_spellings.ensures
    c.requires.pending c.new-spelling.ensures.items c.known.ensures.1 c.in-Ok.ensures.spelled in
    far_below c.spelling.new.out.items c.deref.result.now one.update one.form one.spelled
    c.deref.ensures.value

pub returns-clause-spelled : goal.returns-clause-spelled
returns-clause-spelled g c = λ b holds.
    let s = c.args.book.now in
    let one = spells_one g.D.Disk.tells s b
    c.new-spelling.result.items c.spelling.new.out.items c.briefs_begin_spellings.ensures
    c.requires.pending c.new-spelling.ensures.items holds c.in-Ok.ensures.spelled in (
      one.update,
      one.is,
      update_is s.masters.surface c.args.surface.now.bytes s.settled.epoch c.epoch-epoch.result (length b.settled)
          c.spelling.new.out.items c.from_vec.result c.deref.result.now c.tag_of-tag.result one.update
          c.requires.master c.epoch-epoch.ensures (epoch_is s.masters.surface s.settled b holds.settled)
          c.from_vec.ensures c.deref.ensures.value one.spelled c.tag_of-tag.ensures,
    )

pub returns-clause-limits : goal.returns-clause-limits
returns-clause-limits g c =
    let one = spells_one g.D.Disk.tells c.args.book.now c.known.ensures.0
    c.new-spelling.result.items c.spelling.new.out.items c.briefs_begin_spellings.ensures
    c.requires.pending c.new-spelling.ensures.items c.known.ensures.1 c.in-Ok.ensures.spelled in
    subst IsSpelling (sym (c.from_vec.ensures ∙ one.spelled))
    (c.frames_take_updates.ensures one.update one.form)

pub returns-in-Err-clause-cause : goal.returns-in-Err-clause-cause
returns-in-Err-clause-cause g c =
    spelled_cause (g.D.Disk.tells.faults c.args.book.now.disk)
    (g.D.Disk.tells.faults c.spelling.new.self.disk) c.in-Err.fault c.stop_of_spelling.result
    c.stop_of_spelling.ensures.stop c.in-Err.ensures.call.1 (λ is.
    c.in-Err.ensures.call.2 (ap (λ (f : SpellFault). Err f) is))
