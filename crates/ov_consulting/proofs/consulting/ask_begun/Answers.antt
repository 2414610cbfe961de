use Rattle.std.proofs.Common.{Err, sym, subst}
use Rattle.ov_acts.specs.Files.{plain_masters}
use Rattle.ov_disk.specs.Moments.{LeavesOnly}
use Rattle.ov_consulting.specs.Consulting.{Ends}
use Rattle.ov_consulting.specs.declared.stop.BookStop.{BookStop}
use Rattle.ov_consulting.proofs.Endings.{ends_unopened}
use Rattle.ov_consulting.proofs.Opening.{by_answer}
use Rattle.ov_consulting.proofs.consulting.ask_begun.Goals as goal

pub returns-in-Ok-clause-consults : goal.returns-in-Ok-clause-consults
returns-in-Ok-clause-consults g c =
    let tells = g.D.Disk.tells in
    record {
      unwritten = λ i at.
          subst (λ (e : g.row.D.Denot). LeavesOnly tells c.args.disk e (tells.may_leave c.args.disk))
          (sym c.close.ensures) (c.in-Ok.ensures.untouched i at (c.requires.begun i at));
      ends = by_answer tells (plain_masters c.args.masters.now) c.args.mode c.args.question.now
          c.args.disk c.in-Ok.book c.answer-end.result c.in-Ok.ensures.begun c.requires.begun
          c.known.ensures c.answer-end.ensures;
    }

pub returns-in-Err-clause-consults : goal.returns-in-Err-clause-consults
returns-in-Err-clause-consults g c =
    let tells = g.D.Disk.tells in
    let k = plain_masters c.args.masters.now in
    record {
      unwritten = λ i at. c.in-Err.ensures.untouched i at (c.requires.begun i at);
      ends = subst
          (λ (stop : BookStop).
          Ends k c.args.mode (tells.reads c.args.disk) c.args.question.now (Err stop))
          (sym c.stop_of_begin.ensures)
          (ends_unopened k c.args.mode (tells.reads c.args.disk) c.args.question.now
          c.in-Err.refused.fault c.in-Err.ensures.fault);
    }
