use Rattle.std.proofs.Common.{rules, sym, subst, true≢false}
use Rattle.ov_keyfile.specs.KeyFile.{IsEnd}
use Rattle.ov_keyfile.proofs.Parts.{cut_lines}
use Rattle.ov_keyfile.proofs.reading.lines_of.Goals as goal
use Rattle.ov_keyfile.proofs.reading.lines_of.Goals.{else-eq-via-then-eq+else-is_end, else-eq-via-else-eq}

pub returns-else-eq-clause-none : goal.returns-else-eq-clause-none
returns-else-eq-clause-none c first second l =
    let parts = cut_lines _ _ _ _ _ _ _ first second c.split_at.ensures.front c.split_at.ensures.back c.split_at-2.ensures.front c.split_at-2.ensures.back
    c.split_at-3.ensures.front c.split_at-3.ensures.back l in
    elim c.else-eq.branch [
      | else-eq-via-then-eq+else-is_end w ↦
          let is = w.if-is_end.ensures.1 (subst IsEnd (sym parts.1) l.last) in
          true≢false (sym is)
      | else-eq-via-else-eq w ↦ let no = w.if-eq.ensures in let same = parts.0 in grind rules
    ]
