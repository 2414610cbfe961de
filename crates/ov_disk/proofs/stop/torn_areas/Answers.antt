use Rattle.std.proofs.Common.{◌∙◌, ap}
use Rattle.ov_disk.specs.Bytes.{Held}
use Rattle.ov_disk.specs.Tape.{Stop, before, stepped_all, stop}
use Rattle.ov_disk.proofs.stop.torn_areas.Goals as goal

pub returns : goal.returns
returns c =
    let changes = before c.args.call c.args.changes.now in
    ap (λ (s : Stop). s.left)
    (c.in_ok-step_all.ensures
    ∙ ap (λ (now : Held). stepped_all c.args.tear changes (stop now.current c.in_ok-left.left.current))
    c.in_ok-now.ensures
    ∙ ap (λ (left : Held). stepped_all c.args.tear changes (stop c.args.areas.now.start left.current))
    c.in_ok-left.ensures)
