use Rattle.std.proofs.Common.{arith, inl, inr, refl, rules, ℕ, List, ◌≡◌}
use Rattle.ov_disk.specs.Disk.{Told}
use Rattle.ov_disk.proofs.Runs.{started}
use Rattle.ov_history.specs.Masters.{Masters}
use Rattle.ov_history.specs.Plain.{PlainHistory}
use Rattle.ov_machine.specs.Machine.{plain_masters}
use Rattle.ov_answering.specs.Answered.{AnswersText}
use Rattle.ov_answering.specs.Ending.{JudgesImage, LeavesAsAtStart}
use Rattle.ov_answering.specs.Lasting.{OpensAs}
use Rattle.ov_answering.specs.Printing.{IsKeysStatus}
use Rattle.ov_answering.specs.declared.answer.Stop.TheVariants.{Read}
use Rattle.ov_answering.proofs.EndingByScript.{keys_at_once, read_at_once}
use Rattle.ov_answering.proofs.Judging.{judged_unread}
use Rattle.ov_answering.proofs.KeyFiles.{ends_untouched, from_all, from_none, from_read, image_all, image_none, image_read}
use Rattle.ov_answering.proofs.Pacing.{untaken}
use Rattle.ov_answering.proofs.Statuses.{ends_so, judged_failed, judged_none, judged_with, keys_six, keys_five, not_code, not_keys}
use Rattle.ov_answering.proofs.Tracing.{untraced}
use Rattle.ov_run.proofs.running.answer_with_keys.Goals as goal

pub returns-in-Ok-Some-clause-status : goal.returns-in-Ok-Some-clause-status
returns-in-Ok-Some-clause-status g c = inr c.answer_over.ensures.status

pub returns-in-Ok-None-clause-status : goal.returns-in-Ok-None-clause-status
returns-in-Ok-None-clause-status g c = ends_so IsKeysStatus _ 10 _ _ _ (inl refl) keys_six c.put_last.ensures.ends

pub returns-in-Err-clause-status : goal.returns-in-Err-clause-status
returns-in-Err-clause-status g c = ends_so IsKeysStatus _ 5 _ _ _ keys_five keys_six c.put_last-in-Err.ensures.ends

pub returns-in-Ok-Some-clause-keys : goal.returns-in-Ok-Some-clause-keys
returns-in-Ok-Some-clause-keys g c =
    judged_with _ (g.K.Source.tells.left c.args.keys.now) _ _ _ _ _ _ (rw c.in-Ok-Some.field-0-is at c.in-Ok-Some.ensures.read) (not_keys _ c.answer_over.ensures.status)

pub returns-in-Ok-None-clause-keys : goal.returns-in-Ok-None-clause-keys
returns-in-Ok-None-clause-keys g c =
    judged_none _ (g.K.Source.tells.left c.args.keys.now) _ _ _ _ (rw c.in-Ok-None.field-0-is at c.in-Ok-None.ensures.read) c.put_last.ensures.ends (refl, refl, refl)

pub returns-in-Err-clause-keys : goal.returns-in-Err-clause-keys
returns-in-Err-clause-keys g c = judged_failed _ (g.K.Source.tells.left c.args.keys.now) _ _ _ _ c.put_last-in-Err.ensures.ends (refl, refl, refl)

pub returns-in-Ok-Some-clause-text : goal.returns-in-Ok-Some-clause-text
returns-in-Ok-Some-clause-text g c =
    from_read (λ (k : Masters) (p : PlainHistory). OpensAs g.D.Disk.tells k c.args.mode p c.args.disk)
    (λ (k : Masters) (p : PlainHistory) (text : List ℕ). AnswersText g.D.Disk.tells g.I.Source.tells k p text c.answer_over.result.0
    c.args.disk c.answer_over.result.1 c.args.input.now c.answer_over.new.input (g.O.Sink.tells.written c.args.out.now) (g.O.Sink.tells.written c.answer_over.new.out)
    (g.T.Sink.tells.written c.args.trace.now) (g.T.Sink.tells.written c.answer_over.new.trace) (Unit {0}))
    (plain_masters c.in-Ok-Some.masters) (g.K.Source.tells.left c.args.keys.now) (g.I.Source.tells.left c.args.input.now) (rw c.in-Ok-Some.field-0-is at c.in-Ok-Some.ensures.read) c.answer_over.ensures.text

pub returns-in-Ok-None-clause-text : goal.returns-in-Ok-None-clause-text
returns-in-Ok-None-clause-text g c =
    from_none (λ (k : Masters) (p : PlainHistory) (text : List ℕ). OpensAs g.D.Disk.tells k c.args.mode p c.args.disk
    → AnswersText g.D.Disk.tells g.I.Source.tells k p text c.put_last.result
    c.args.disk c.args.disk c.args.input.now c.args.input.now (g.O.Sink.tells.written c.args.out.now) (g.O.Sink.tells.written c.put_last.new.out)
    (g.T.Sink.tells.written c.args.trace.now) (g.T.Sink.tells.written c.args.trace.now) (Unit {0})) (g.K.Source.tells.left c.args.keys.now) (g.I.Source.tells.left c.args.input.now) (rw c.in-Ok-None.field-0-is at c.in-Ok-None.ensures.read)

pub returns-in-Err-clause-text : goal.returns-in-Err-clause-text
returns-in-Err-clause-text g c =
    from_all (λ (k : Masters) (p : PlainHistory) (text : List ℕ). OpensAs g.D.Disk.tells k c.args.mode p c.args.disk
    → AnswersText g.D.Disk.tells g.I.Source.tells k p text c.put_last-in-Err.result
    c.args.disk c.args.disk c.args.input.now c.args.input.now (g.O.Sink.tells.written c.args.out.now) (g.O.Sink.tells.written c.put_last-in-Err.new.out)
    (g.T.Sink.tells.written c.args.trace.now) (g.T.Sink.tells.written c.args.trace.now) (Unit {0})) (g.K.Source.tells.left c.args.keys.now) (g.I.Source.tells.left c.args.input.now)
    (λ k p text opens. record {
      ends = ends_untouched g.D.Disk.tells k c.args.mode p text c.args.disk _ _ _ c.put_last-in-Err.ensures.ends opens;
      paced = untaken g.I.Source.tells p _ _ _;
      traced = untraced k p text _ _ _ _ Read (λ first. first) c.put_last-in-Err.ensures.ends;
    })

pub returns-in-Ok-Some-clause-script : goal.returns-in-Ok-Some-clause-script
returns-in-Ok-Some-clause-script g c = c.answer_over.ensures.script

pub returns-in-Ok-None-clause-script : goal.returns-in-Ok-None-clause-script
returns-in-Ok-None-clause-script g c = keys_at_once (g.I.Source.tells.left c.args.input.now) _ _ _ c.put_last.ensures.ends

pub returns-in-Err-clause-script : goal.returns-in-Err-clause-script
returns-in-Err-clause-script g c = read_at_once (g.I.Source.tells.left c.args.input.now) _ _ _ c.put_last-in-Err.ensures.ends

pub returns-in-Ok-Some-clause-image : goal.returns-in-Ok-Some-clause-image
returns-in-Ok-Some-clause-image g c =
    image_read (λ (k : Masters). Told (g.D.Disk.tells.reads c.args.disk) (λ i. JudgesImage k c.args.mode i c.answer_over.result.0 (g.O.Sink.tells.written c.args.out.now) (g.O.Sink.tells.written c.answer_over.new.out) ((c.answer_over.new.input ≡ c.args.input.now) × (c.answer_over.new.trace ≡ c.args.trace.now)) (LeavesAsAtStart g.D.Disk.tells c.args.disk c.answer_over.result.1)))
    (plain_masters c.in-Ok-Some.masters) (g.K.Source.tells.left c.args.keys.now) (rw c.in-Ok-Some.field-0-is at c.in-Ok-Some.ensures.read) c.answer_over.ensures.image

pub returns-in-Ok-None-clause-image : goal.returns-in-Ok-None-clause-image
returns-in-Ok-None-clause-image g c =
    image_none (λ (k : Masters). Told (g.D.Disk.tells.reads c.args.disk) (λ i. JudgesImage k c.args.mode i c.put_last.result (g.O.Sink.tells.written c.args.out.now) (g.O.Sink.tells.written c.put_last.new.out) ((c.args.input.now ≡ c.args.input.now) × (c.args.trace.now ≡ c.args.trace.now)) (LeavesAsAtStart g.D.Disk.tells c.args.disk c.args.disk))) (g.K.Source.tells.left c.args.keys.now) (rw c.in-Ok-None.field-0-is at c.in-Ok-None.ensures.read)

pub returns-in-Err-clause-image : goal.returns-in-Err-clause-image
returns-in-Err-clause-image g c =
    image_all (λ (k : Masters). Told (g.D.Disk.tells.reads c.args.disk) (λ i. JudgesImage k c.args.mode i c.put_last-in-Err.result (g.O.Sink.tells.written c.args.out.now) (g.O.Sink.tells.written c.put_last-in-Err.new.out) ((c.args.input.now ≡ c.args.input.now) × (c.args.trace.now ≡ c.args.trace.now)) (LeavesAsAtStart g.D.Disk.tells c.args.disk c.args.disk))) (g.K.Source.tells.left c.args.keys.now)
    (λ k i told. judged_unread k c.args.mode i _ _ _ _ _ c.put_last-in-Err.ensures.ends (refl, refl)
    (started g.D.Disk.tells c.args.disk (g.D.Disk.tells.may_leave c.args.disk) (λ x left. left)))

pub returns-in-Ok-Some-clause-causes : goal.returns-in-Ok-Some-clause-causes
returns-in-Ok-Some-clause-causes g c =
    let causes = c.answer_over.ensures.causes in
    record { disk = causes.disk; read = λ e. inr (causes.read e); write = causes.write; tag = causes.tag }

pub returns-in-Ok-None-clause-causes : goal.returns-in-Ok-None-clause-causes
returns-in-Ok-None-clause-causes g c =
    let never = λ (n : ℕ). not_code _ 10 n _ _ _ c.put_last.ensures.ends in
    record {
      disk = record { same = refl; later = omega arith; rose = λ e. absurd (never 4 (λ z. omega arith) (λ z. omega arith) e) };
      read = λ e. absurd (never 5 (λ z. omega arith) (λ z. omega arith) e);
      write = λ e. inl (c.put_last.ensures.put.write e);
      tag = λ e. absurd (never 12 (λ z. omega arith) (λ z. omega arith) e);
    }

pub returns-in-Err-clause-causes : goal.returns-in-Err-clause-causes
returns-in-Err-clause-causes g c =
    let never = λ (n : ℕ). not_code _ 5 n _ _ _ c.put_last-in-Err.ensures.ends in
    record {
      disk = record { same = refl; later = omega arith; rose = λ e. absurd (never 4 (λ z. omega arith) (λ z. omega arith) e) };
      read = λ e. inl (search rules);
      write = λ e. inl (c.put_last-in-Err.ensures.put.write e);
      tag = λ e. absurd (never 12 (λ z. omega arith) (λ z. omega arith) e);
    }
