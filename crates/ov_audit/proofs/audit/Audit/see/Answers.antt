use Rattle.std.proofs.Common.{◌≡◌, ◌∙◌, List, ap, arith, length, subst, sym}
use Rattle.ov_exposure.specs.Auditing.{AreNext, MayFollow, Note}
use Rattle.ov_audit.specs.Looks.{looked_all, with_new}
use Rattle.ov_audit.specs.Marks.{AreMarksOf, covered_marks, held_marks}
use Rattle.ov_audit.specs.Notes.{plain_notes}
use Rattle.ov_audit.specs.Seen.{Seen}
use Rattle.ov_audit.proofs.NoteLaws.{are_next, length-looked_all, length-plain, length-with_new}
use Rattle.ov_audit.proofs.NoteLaws.{looked_next}
use Rattle.ov_audit.proofs.audit.Audit.see.Goals as goal
use Rattle.ov_audit.proofs.audit.Audit.see.Goals.{After-drop-marks-3}

pub push_new-requires : goal.push_new-requires
push_new-requires c =
    subst (λ (notes : List Note). MayFollow notes c.args.state.now.catalogue)
    (sym (ap (λ (seen : Seen). seen.notes) c.self.view_is)) c.requires.1

pub look_at_all-requires : goal.look_at_all-requires
look_at_all-requires c =
    let s = c.args.state.now.catalogue in
    omega (
      arith,
      ap length
          (c.in_ok-push_new.ensures.noted
          ∙ ap (λ (notes : List Note). with_new s notes) (ap (λ (seen : Seen). seen.notes) c.self.view_is)),
      length-plain c.push_new.new.notes.items,
      length-with_new s c.args.self.now.notes c.requires.1,
      c.known.ensures.files,
    )

-- the notes that are left, by what was seen before
next : (c : After-drop-marks-3)
    → let s = c.args.state.now.catalogue in
    plain_notes c.look_at_all.new.notes.items
    ≡ looked_all (held_marks c.args.self.now.users s) (covered_marks c.args.self.now.users s) s.epoch
    s.files 0 (with_new s c.args.self.now.notes)
next c =
    let s = c.args.state.now.catalogue in
    looked_next c.args.self.now.users s c.in_ok-marks.marks.held.items
    c.in_ok-marks.marks.covered.items c.args.self.now.notes (plain_notes c.push_new.new.notes.items)
    (plain_notes c.look_at_all.new.notes.items)
    (subst (λ users. AreMarksOf users s c.in_ok-marks.marks.held.items
    c.in_ok-marks.marks.covered.items) (ap (λ (seen : Seen). seen.users) c.self.view_is)
    c.in_ok-marks.ensures)
    (c.in_ok-push_new.ensures.noted
    ∙ ap (λ (notes : List Note). with_new s notes) (ap (λ (seen : Seen). seen.notes) c.self.view_is))
    c.look_at_all.ensures

pub invariant_of-self-2 : goal.invariant_of-self-2
invariant_of-self-2 c =
    let s = c.args.state.now.catalogue in
    omega (
      arith,
      ap length (next c),
      length-plain c.look_at_all.new.notes.items,
      length-looked_all (held_marks c.args.self.now.users s) (covered_marks c.args.self.now.users s)
          s.epoch s.files 0 (with_new s c.args.self.now.notes),
      length-with_new s c.args.self.now.notes c.requires.1,
      c.known.ensures.files,
    )

pub returns-clause-seen : goal.returns-clause-seen
returns-clause-seen c =
    let s = c.args.state.now.catalogue in (
      ap (λ (seen : Seen). seen.users) c.self.view_is,
      ap (λ (seen : Seen). seen.server) c.self.view_is,
      c.epoch-self-inside.ensures,
      λ members are.
          subst (λ (notes : List Note). AreNext members s c.args.self.now.notes notes) (sym (next c))
          (are_next members c.args.self.now.users s c.args.self.now.notes c.known.ensures.sound
          c.requires.1 are),
    )
