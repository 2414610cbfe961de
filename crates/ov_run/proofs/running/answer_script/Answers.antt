use Rattle.std.proofs.Common.{ℕ, arith, inl, refl, rules}
use Rattle.ov_history.specs.Plain.{PlainHistory}
use Rattle.ov_machine.specs.Machine.{StandsFor}
use Rattle.ov_answering.specs.Printing.{IsScriptStatus}
use Rattle.ov_answering.specs.declared.answer.Stop.TheVariants.{Memory}
use Rattle.ov_answering.proofs.Answered.{pace_of_text, stop_of_text, text_answers, trace_of_text}
use Rattle.ov_answering.proofs.EndingByScript.{finish_by_script, memory_at_once}
use Rattle.ov_answering.proofs.Pacing.{finish_grows, paced_lent, paced_then, untouched}
use Rattle.ov_answering.proofs.Statuses.{ends_so, finish_disk, finish_read, finish_tag, finishes_so, memory_not, rose_after, rose_lent, script_seven, script_six}
use Rattle.ov_answering.proofs.Surviving.{ends_all, ends_unread}
use Rattle.ov_answering.proofs.Tracing.{traced_all, untraced_all}
use Rattle.ov_run.proofs.running.answer_script.Goals as goal

pub returns-clause-text : goal.returns-clause-text
returns-clause-text g c = λ p stands.
    text_answers g.D.Disk.tells g.I.Source.tells _ p (g.I.Source.tells.left c.args.input.now) _ _ _ _ _ _ _ _ _ _
    (ends_all g.D.Disk.tells _ p (g.I.Source.tells.left c.args.input.now) _ _ _ _ _ _ _ _
    (rw c.over-script.ensures at (stop_of_text g.D.Disk.tells _ _ p _ _ _ _ _ _ _ _ _ _ (c.answer_all-stop.ensures.text p stands))) c.finish.ensures.finish c.epoch.ensures)
    (paced_then g.I.Source.tells p (g.I.Source.tells.left c.args.input.now) _ _ _ _ _
    (paced_lent g.I.Source.tells p (g.I.Source.tells.left c.args.input.now) _ c.answer_all-stop.new.script.source _ _ _ (search rules)
    (rw c.over-script.ensures at (pace_of_text g.D.Disk.tells _ _ p _ _ _ _ _ _ _ _ _ _ (c.answer_all-stop.ensures.text p stands)))) (finish_grows _ _ _ _ _ c.finish.ensures.finish))
    (traced_all _ p (g.I.Source.tells.left c.args.input.now) _ _ _ _ _ c.answer_all-stop.result c.epoch.result _
    (rw c.over-script.ensures at (trace_of_text g.D.Disk.tells _ _ p _ _ _ _ _ _ _ _ _ _ (c.answer_all-stop.ensures.text p stands))) c.finish.ensures.finish)

pub returns-in-Err-clause-text : goal.returns-in-Err-clause-text
returns-in-Err-clause-text g c = λ p stands.
    text_answers g.D.Disk.tells g.I.Source.tells _ p (g.I.Source.tells.left c.args.input.now) _ _ _ _ _ _ _ _ _ _
    (ends_unread g.D.Disk.tells _ p (g.I.Source.tells.left c.args.input.now) _ _ _ _ c.put_memory.ensures.ends)
    (untouched g.I.Source.tells p _ _ _ _)
    (untraced_all _ p (g.I.Source.tells.left c.args.input.now) _ _ _ _ Memory (λ text first. first) c.put_memory.ensures.ends)

pub returns-clause-script : goal.returns-clause-script
returns-clause-script g c =
    finish_by_script (g.I.Source.tells.left c.args.input.now) _ _ _ c.answer_all-stop.result c.epoch.result c.finish.result
    (rw c.over-script.ensures at c.answer_all-stop.ensures.script) c.finish.ensures.finish (λ bad is. (c.answer_all-stop.ensures.machine.tag bad is).0)

pub returns-in-Err-clause-script : goal.returns-in-Err-clause-script
returns-in-Err-clause-script g c = memory_at_once (g.I.Source.tells.left c.args.input.now) _ _ _ c.put_memory.ensures.ends

pub returns-clause-status : goal.returns-clause-status
returns-clause-status g c = finishes_so _ _ _ _ _ c.finish.ensures.finish

pub returns-in-Err-clause-status : goal.returns-in-Err-clause-status
returns-in-Err-clause-status g c = ends_so IsScriptStatus _ 7 _ _ _ script_seven script_six c.put_memory.ensures.ends

pub returns-clause-causes : goal.returns-clause-causes
returns-clause-causes g c =
    let stopped = c.answer_all-stop.ensures in
    record {
      disk = record {
        same = stopped.machine.call.same;
        later = stopped.machine.call.later;
        rose = λ e. stopped.machine.call.rose (finish_disk _ _ _ _ _ c.finish.ensures.finish e);
      };
      read = λ e. rose_lent _ _ _ _ (stopped.source.read (finish_read _ _ _ _ _ c.finish.ensures.finish e)) (search rules) (search rules);
      write = λ e. rose_after _ _ _ _ _ _ stopped.sinks.0.later stopped.sinks.0.write stopped.sinks.1.write c.finish.ensures.later (c.finish.ensures.write e);
      tag = finish_tag ((p : PlainHistory) → StandsFor c.args.machine.now.kept p → ⊥) _ _ _ _ _ _
          c.finish.ensures.finish stopped.sinks.0.grew stopped.machine.tag;
    }

pub returns-in-Err-clause-causes : goal.returns-in-Err-clause-causes
returns-in-Err-clause-causes g c =
    let never = λ (n : ℕ). memory_not n _ _ _ c.put_memory.ensures.ends in
    record {
      disk = record { same = refl; later = omega arith; rose = λ e. absurd (never 4 (λ z. omega arith) (λ z. omega arith) e) };
      read = λ e. absurd (never 5 (λ z. omega arith) (λ z. omega arith) e);
      write = λ e. inl (c.put_memory.ensures.put.write e);
      tag = λ e. absurd (never 12 (λ z. omega arith) (λ z. omega arith) e);
    }
