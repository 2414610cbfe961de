use Rattle.std.proofs.Common.{inr, ℕ, List, refl, rules}
use Rattle.ov_history.specs.Masters.{Masters}
use Rattle.ov_history.specs.Plain.{PlainHistory}
use Rattle.ov_answering.specs.Pacing.{IsPaced}
use Rattle.ov_answering.specs.Tracing.{TracesAs}
use Rattle.ov_answering.proofs.Answered.{ends_of_each, pace_of_each, trace_of_each}
use Rattle.ov_answering.proofs.EndingByScript.{usage_at_once}
use Rattle.ov_answering.proofs.Loans.{lent_disk}
use Rattle.ov_answering.proofs.Statuses.{judged_so, judged_unasked, words_refused}
use Rattle.ov_run.proofs.Lending.{lent_each, run_decides, run_endures, run_image, run_prints, runs_well}
use Rattle.ov_run.proofs.running.run.Goals as goal

pub returns-in-Some-clause-opened : goal.returns-in-Some-clause-opened
returns-in-Some-clause-opened g c =
    let ends = ends_of_each (lent_disk g.D.Disk.tells) g.I.Source.tells
    (g.K.Source.tells.left c.args.keys.now) (g.I.Source.tells.left c.args.input.now) _ _ _ _ _ _ _ _ _ _ c.answer_with_keys.ensures.text in
    runs_well g.D.Disk.tells c.args.disk.now c.args.words.now (g.K.Source.tells.left c.args.keys.now) (g.I.Source.tells.left c.args.input.now) _ _ _ _ _
    (run_prints g.D.Disk.tells
    (record { ref_ptr = c.args.disk.ref_ptr; ghost_name = _; now = c.args.disk.now }) c.answer_with_keys.result.1 c.answer_with_keys.result.1.now refl
    c.args.words.now (g.K.Source.tells.left c.args.keys.now) (g.I.Source.tells.left c.args.input.now) (g.O.Sink.tells.written c.args.out.now) (g.O.Sink.tells.written c.answer_with_keys.new.out) c.answer_with_keys.result.0 c.in-Some.mode c.in-Some.ensures.found ends)
    (run_decides g.D.Disk.tells
    (record { ref_ptr = c.args.disk.ref_ptr; ghost_name = _; now = c.args.disk.now }) c.answer_with_keys.result.1 c.answer_with_keys.result.1.now refl
    c.args.words.now (g.K.Source.tells.left c.args.keys.now) (g.I.Source.tells.left c.args.input.now) (g.O.Sink.tells.written c.args.out.now) (g.O.Sink.tells.written c.answer_with_keys.new.out) c.answer_with_keys.result.0 c.in-Some.mode c.in-Some.ensures.found ends
    _ _ _ _ (search rules) c.answer_with_keys.ensures.causes.read c.answer_with_keys.ensures.causes.write)
    (lent_each g.D.Disk.tells
    (record { ref_ptr = c.args.disk.ref_ptr; ghost_name = _; now = c.args.disk.now })
    c.args.words.now (g.K.Source.tells.left c.args.keys.now) (g.I.Source.tells.left c.args.input.now) c.in-Some.mode c.in-Some.ensures.found
    (λ (k : Masters) (p : PlainHistory) (text : List ℕ). IsPaced g.I.Source.tells p c.args.input.now c.answer_with_keys.new.input (g.O.Sink.tells.written c.args.out.now) (g.O.Sink.tells.written c.answer_with_keys.new.out))
    (pace_of_each (lent_disk g.D.Disk.tells) g.I.Source.tells
    (g.K.Source.tells.left c.args.keys.now) (g.I.Source.tells.left c.args.input.now) _ _ _ _ _ _ _ _ _ _ c.answer_with_keys.ensures.text))
    (lent_each g.D.Disk.tells
    (record { ref_ptr = c.args.disk.ref_ptr; ghost_name = _; now = c.args.disk.now })
    c.args.words.now (g.K.Source.tells.left c.args.keys.now) (g.I.Source.tells.left c.args.input.now) c.in-Some.mode c.in-Some.ensures.found
    (λ (k : Masters) (p : PlainHistory) (text : List ℕ). TracesAs k p text c.answer_with_keys.result.0 (g.O.Sink.tells.written c.args.out.now) (g.O.Sink.tells.written c.answer_with_keys.new.out)
    (g.T.Sink.tells.written c.args.trace.now) (g.T.Sink.tells.written c.answer_with_keys.new.trace))
    (trace_of_each (lent_disk g.D.Disk.tells) g.I.Source.tells
    (g.K.Source.tells.left c.args.keys.now) (g.I.Source.tells.left c.args.input.now) _ _ _ _ _ _ _ _ _ _ c.answer_with_keys.ensures.text))
    (run_endures g.D.Disk.tells
    (record { ref_ptr = c.args.disk.ref_ptr; ghost_name = _; now = c.args.disk.now }) c.answer_with_keys.result.1 _ (search rules)
    c.args.words.now (g.K.Source.tells.left c.args.keys.now) (g.I.Source.tells.left c.args.input.now) (g.O.Sink.tells.written c.args.out.now) (g.O.Sink.tells.written c.answer_with_keys.new.out) c.answer_with_keys.result.0 c.in-Some.mode c.in-Some.ensures.found ends)

pub returns-in-Some-clause-image : goal.returns-in-Some-clause-image
returns-in-Some-clause-image g c =
    let ends = ends_of_each (lent_disk g.D.Disk.tells) g.I.Source.tells
    (g.K.Source.tells.left c.args.keys.now) (g.I.Source.tells.left c.args.input.now) _ _ _ _ _ _ _ _ _ _ c.answer_with_keys.ensures.text in
    run_image g.D.Disk.tells
    (record { ref_ptr = c.args.disk.ref_ptr; ghost_name = _; now = c.args.disk.now }) c.answer_with_keys.result.1 _ (search rules)
    c.args.words.now (g.K.Source.tells.left c.args.keys.now) (g.I.Source.tells.left c.args.input.now) (g.O.Sink.tells.written c.args.out.now) (g.O.Sink.tells.written c.answer_with_keys.new.out) c.answer_with_keys.result.0 c.in-Some.mode c.in-Some.ensures.found ends (g.D.Disk.tells.reads c.args.disk.now) _ c.answer_with_keys.ensures.image

pub returns-in-Some-clause-causes : goal.returns-in-Some-clause-causes
returns-in-Some-clause-causes g c =
    let causes = c.answer_with_keys.ensures.causes in
    record {
      some = inr c.answer_with_keys.ensures.status;
      tag = causes.tag;
      disk = search rules;
      read = causes.read;
      write = causes.write;
    }

pub returns-in-Some-clause-keys : goal.returns-in-Some-clause-keys
returns-in-Some-clause-keys g c =
    judged_so _ _ _ _ _ _ _ c.answer_with_keys.ensures.keys (λ untouched. search rules)

pub returns-in-Some-clause-script : goal.returns-in-Some-clause-script
returns-in-Some-clause-script g c = c.answer_with_keys.ensures.script

pub returns-in-None-clause-script : goal.returns-in-None-clause-script
returns-in-None-clause-script g c = usage_at_once (g.I.Source.tells.left c.args.input.now) _ _ _ c.put_last.ensures.ends

pub returns-in-None-clause-opened : goal.returns-in-None-clause-opened
returns-in-None-clause-opened g c = λ mode is. absurd (c.in-None.ensures.none mode is)

pub returns-in-None-clause-image : goal.returns-in-None-clause-image
returns-in-None-clause-image g c = λ mode is. absurd (c.in-None.ensures.none mode is)

pub returns-in-None-clause-keys : goal.returns-in-None-clause-keys
returns-in-None-clause-keys g c =
    judged_unasked _ _ _ _ _ _ (λ asked. c.in-None.ensures.none asked.0 asked.1) c.put_last.ensures.ends (refl, refl, refl)

pub returns-in-None-clause-words : goal.returns-in-None-clause-words
returns-in-None-clause-words g c = words_refused _ _ _ _ _ c.in-None.ensures.none (refl, refl, refl, refl) c.put_last.ensures.ends
