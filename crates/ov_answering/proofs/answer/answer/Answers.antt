use Rattle.std.proofs.KnownBytes.{Appends-nil}
use Rattle.std.proofs.Common.{[], ap, arith, refl, subst, sym, ◌∙◌}
use Rattle.std.specs.Prelude.{Err, Some}
use Rattle.ov_answering.specs.Answering.{Answers}
use Rattle.ov_answering.specs.Tracing.{TracesLine}
use Rattle.ov_answering.specs.declared.answer.Stop.{Stop}
use Rattle.ov_answering.proofs.Answering.{disk_so, if_none, never_read, never_write, put_grows, put_never, put_no_trace, put_so, tag_so, trace_so, unanswered_so}
use Rattle.ov_answering.proofs.ByScript.{replied_puts, unanswered_puts}
use Rattle.ov_answering.proofs.Tracing.{fault_traced, line_traced}
use Rattle.ov_answering.proofs.answer.answer.Goals as goal

pub returns-in-Ok-clause-answer : goal.returns-in-Ok-clause-answer
returns-in-Ok-clause-answer g c = λ k p at stands.
    put_so g.D.Disk.tells k p c.args.command c.args.machine.now c.step.new.self c.in-Ok.reply
    c.put_reply.result _ _ c.put_reply.ensures.put (c.in-Ok.ensures.steps k p at stands)

pub returns-in-Err-clause-answer : goal.returns-in-Err-clause-answer
returns-in-Err-clause-answer g c = λ k p at stands.
    subst (λ (stop : Stop). Answers g.D.Disk.tells k p c.args.command (Some stop)
    (g.O.Sink.tells.written c.args.out.now) (g.O.Sink.tells.written c.args.out.now) c.args.machine.now c.step.new.self) (sym c.stop_of.ensures)
    (unanswered_so g.D.Disk.tells k p c.args.command c.args.machine.now c.step.new.self c.in-Err.fault
    (g.O.Sink.tells.written c.args.out.now) (c.in-Err.ensures.steps k p at stands))

pub returns-in-Ok-clause-puts : goal.returns-in-Ok-clause-puts
returns-in-Ok-clause-puts g c = replied_puts c.args.command c.in-Ok.reply c.put_reply.result _ _ c.put_reply.ensures.put

pub returns-in-Err-clause-puts : goal.returns-in-Err-clause-puts
returns-in-Err-clause-puts g c =
    unanswered_puts c.args.command c.in-Err.fault c.stop_of.result (g.O.Sink.tells.written c.args.out.now) c.stop_of.ensures
    (λ bad e. c.in-Err.ensures.tag bad (ap Err e))

pub returns-in-Ok-clause-step : goal.returns-in-Ok-clause-step
returns-in-Ok-clause-step g c =
    let never = put_never c.put_reply.result _ _ _ c.put_reply.ensures.put in
    record {
      masters = c.step.ensures.step.masters;
      call = record {
        same = c.step.ensures.step.call.same;
        later = c.step.ensures.step.call.later;
        rose = λ e. absurd (never.1 e);
      };
      sound = if_none c.put_reply.result _ (c.in-Ok.ensures.step.sound ∙ c.requires.healthy);
      no_read = never.0;
      tag = λ bad e. absurd (never.2 bad e);
    }

pub returns-in-Err-clause-step : goal.returns-in-Err-clause-step
returns-in-Err-clause-step g c = record {
  masters = c.step.ensures.step.masters;
  call = record {
    same = c.step.ensures.step.call.same;
    later = c.step.ensures.step.call.later;
    rose = disk_so c.in-Err.fault c.stop_of.result _ c.stop_of.ensures (λ e. c.in-Err.ensures.step.call.rose (ap Err e));
  };
  sound = tt;
  no_read = never_read c.in-Err.fault c.stop_of.result c.stop_of.ensures;
  tag = λ bad. tag_so c.in-Err.fault c.stop_of.result bad c.stop_of.ensures (λ bad e. c.in-Err.ensures.step.tag bad (ap Err e));
}

pub returns-in-Ok-clause-sinks : goal.returns-in-Ok-clause-sinks
returns-in-Ok-clause-sinks g c = (
  record {
    grew = put_grows c.put_reply.result _ _ _ c.put_reply.ensures.put;
    later = c.put_reply.ensures.later;
    write = c.put_reply.ensures.write;
  },
  record {
    grew = c.in-Ok.ensures.sink.grew;
    later = c.in-Ok.ensures.sink.later;
    write = λ e. absurd (put_no_trace c.put_reply.result _ _ _ c.put_reply.ensures.put e);
  },
)

pub returns-in-Err-clause-sinks : goal.returns-in-Err-clause-sinks
returns-in-Err-clause-sinks g c = (
  record {
    grew = ([], Appends-nil _);
    later = omega arith;
    write = λ e. absurd (never_write c.in-Err.fault c.stop_of.result c.stop_of.ensures e);
  },
  record {
    grew = c.in-Err.ensures.sink.grew;
    later = c.in-Err.ensures.sink.later;
    write = trace_so c.in-Err.fault c.stop_of.result _ c.stop_of.ensures (λ e. c.in-Err.ensures.sink.write (ap Err e));
  },
)

pub returns-in-Ok-clause-traced : goal.returns-in-Ok-clause-traced
returns-in-Ok-clause-traced g c = λ p stands.
    line_traced c.args.machine.now.kept.masters p c.args.command _ _ _ _ c.put_reply.result c.in-Ok.reply c.put_reply.ensures.put
    (c.in-Ok.ensures.steps c.args.machine.now.kept.masters p refl stands).0 (c.in-Ok.ensures.traced p stands)

pub returns-in-Err-clause-traced : goal.returns-in-Err-clause-traced
returns-in-Err-clause-traced g c = λ p stands.
    subst (λ (stop : Stop). TracesLine c.args.machine.now.kept.masters p c.args.command (Some stop) (g.O.Sink.tells.written c.args.out.now) (g.O.Sink.tells.written c.args.out.now)
    (g.T.Sink.tells.written c.args.trace.now) (g.T.Sink.tells.written c.step.new.trace)) (sym c.stop_of.ensures)
    (fault_traced c.args.machine.now.kept.masters p c.args.command _ c.in-Err.fault _ _ _ (c.in-Err.ensures.traced p stands))
