use Rattle.std.proofs.Common.{◌≡◌, arith, inl, inr, refl, rules, ℕ, List, [], Some}
use Rattle.ov_disk.specs.Disk.{Told}
use Rattle.ov_disk.proofs.Runs.{started}
use Rattle.ov_history.specs.Masters.{Masters}
use Rattle.ov_history.specs.Plain.{PlainHistory}
use Rattle.ov_machine.specs.Machine.{plain_masters}
use Rattle.ov_answering.specs.Ending.{JudgesImage, LeavesAsAtStart}
use Rattle.ov_answering.specs.Lasting.{OpensAs}
use Rattle.ov_answering.specs.Printing.{IsKeysStatus}
use Rattle.ov_answering.proofs.Judging.{judged_unread}
use Rattle.ov_answering.proofs.KeyFiles.{from_all, from_none, from_read, image_all, image_none, image_read}
use Rattle.ov_answering.proofs.Statuses.{ends_so, judged_failed, judged_none, judged_with, keys_six, keys_five, not_code, not_keys}
use Rattle.ov_load.specs.LoadEnding.{LoadEndsAs}
use Rattle.ov_load.proofs.LoadEnds.{line_no_script, load_unread}
use Rattle.ov_load.proofs.loading.load_with_keys.Goals as goal

pub returns-in-Ok-Some-clause-status : goal.returns-in-Ok-Some-clause-status
returns-in-Ok-Some-clause-status g c = (inr c.load_over.ensures.status.0, c.load_over.ensures.status.1)

pub returns-in-Ok-None-clause-status : goal.returns-in-Ok-None-clause-status
returns-in-Ok-None-clause-status g c =
    (ends_so IsKeysStatus _ 10 _ _ _ (inl refl) keys_six c.put_last.ensures.ends, line_no_script _ 10 _ _ _ c.put_last.ensures.ends (λ z. omega arith) (λ z. omega arith))

pub returns-in-Err-clause-status : goal.returns-in-Err-clause-status
returns-in-Err-clause-status g c =
    (ends_so IsKeysStatus _ 5 _ _ _ keys_five keys_six c.put_last-in-Err.ensures.ends, line_no_script _ 5 _ _ _ c.put_last-in-Err.ensures.ends (λ z. omega arith) (λ z. omega arith))

pub returns-in-Ok-Some-clause-keys : goal.returns-in-Ok-Some-clause-keys
returns-in-Ok-Some-clause-keys g c =
    judged_with _ (g.K.Source.tells.left c.args.keys.now) _ _ _ _ _ _ (rw c.in-Ok-Some.field-0-is at c.in-Ok-Some.ensures.read) (not_keys _ c.load_over.ensures.status.0)

pub returns-in-Ok-None-clause-keys : goal.returns-in-Ok-None-clause-keys
returns-in-Ok-None-clause-keys g c =
    judged_none _ (g.K.Source.tells.left c.args.keys.now) _ _ _ _ (rw c.in-Ok-None.field-0-is at c.in-Ok-None.ensures.read) c.put_last.ensures.ends (refl, refl)

pub returns-in-Err-clause-keys : goal.returns-in-Err-clause-keys
returns-in-Err-clause-keys g c = judged_failed _ (g.K.Source.tells.left c.args.keys.now) _ _ _ _ c.put_last-in-Err.ensures.ends (refl, refl)

pub returns-in-Ok-Some-clause-ends : goal.returns-in-Ok-Some-clause-ends
returns-in-Ok-Some-clause-ends g c =
    from_read (λ (k : Masters) (h : PlainHistory). OpensAs g.D.Disk.tells k c.args.load.now.mode h c.args.disk)
    (λ (k : Masters) (h : PlainHistory) (text : List ℕ). LoadEndsAs g.D.Disk.tells k h c.args.load.now c.args.disk c.load_over.result.1 (g.O.Sink.tells.written c.args.out.now) (g.O.Sink.tells.written c.load_over.new.out) (g.T.Sink.tells.written c.args.trace.now) (g.T.Sink.tells.written c.load_over.new.trace) c.load_over.result.0 (Unit {0}))
    (plain_masters c.in-Ok-Some.masters) (g.K.Source.tells.left c.args.keys.now) (Some []) (rw c.in-Ok-Some.field-0-is at c.in-Ok-Some.ensures.read) c.load_over.ensures.ends

pub returns-in-Ok-None-clause-ends : goal.returns-in-Ok-None-clause-ends
returns-in-Ok-None-clause-ends g c =
    from_none (λ (k : Masters) (h : PlainHistory) (text : List ℕ). OpensAs g.D.Disk.tells k c.args.load.now.mode h c.args.disk
    → LoadEndsAs g.D.Disk.tells k h c.args.load.now c.args.disk c.args.disk (g.O.Sink.tells.written c.args.out.now) (g.O.Sink.tells.written c.put_last.new.out) (g.T.Sink.tells.written c.args.trace.now) (g.T.Sink.tells.written c.args.trace.now) c.put_last.result (Unit {0})) (g.K.Source.tells.left c.args.keys.now) (Some []) (rw c.in-Ok-None.field-0-is at c.in-Ok-None.ensures.read)

pub returns-in-Err-clause-ends : goal.returns-in-Err-clause-ends
returns-in-Err-clause-ends g c =
    from_all (λ (k : Masters) (h : PlainHistory) (text : List ℕ). OpensAs g.D.Disk.tells k c.args.load.now.mode h c.args.disk
    → LoadEndsAs g.D.Disk.tells k h c.args.load.now c.args.disk c.args.disk (g.O.Sink.tells.written c.args.out.now) (g.O.Sink.tells.written c.put_last-in-Err.new.out) (g.T.Sink.tells.written c.args.trace.now) (g.T.Sink.tells.written c.args.trace.now) c.put_last-in-Err.result (Unit {0})) (g.K.Source.tells.left c.args.keys.now) (Some [])
    (λ k h text opens. load_unread g.D.Disk.tells k h c.args.load.now _ _ _ (g.T.Sink.tells.written c.args.trace.now) _ c.args.disk opens
    c.put_last-in-Err.ensures.ends)

pub returns-in-Ok-Some-clause-image : goal.returns-in-Ok-Some-clause-image
returns-in-Ok-Some-clause-image g c =
    image_read (λ (k : Masters). Told (g.D.Disk.tells.reads c.args.disk) (λ i. JudgesImage k c.args.load.now.mode i c.load_over.result.0 (g.O.Sink.tells.written c.args.out.now) (g.O.Sink.tells.written c.load_over.new.out) (c.load_over.new.trace ≡ c.args.trace.now) (LeavesAsAtStart g.D.Disk.tells c.args.disk c.load_over.result.1)))
    (plain_masters c.in-Ok-Some.masters) (g.K.Source.tells.left c.args.keys.now) (rw c.in-Ok-Some.field-0-is at c.in-Ok-Some.ensures.read) c.load_over.ensures.image

pub returns-in-Ok-None-clause-image : goal.returns-in-Ok-None-clause-image
returns-in-Ok-None-clause-image g c =
    image_none (λ (k : Masters). Told (g.D.Disk.tells.reads c.args.disk) (λ i. JudgesImage k c.args.load.now.mode i c.put_last.result (g.O.Sink.tells.written c.args.out.now) (g.O.Sink.tells.written c.put_last.new.out) (c.args.trace.now ≡ c.args.trace.now) (LeavesAsAtStart g.D.Disk.tells c.args.disk c.args.disk))) (g.K.Source.tells.left c.args.keys.now) (rw c.in-Ok-None.field-0-is at c.in-Ok-None.ensures.read)

pub returns-in-Err-clause-image : goal.returns-in-Err-clause-image
returns-in-Err-clause-image g c =
    image_all (λ (k : Masters). Told (g.D.Disk.tells.reads c.args.disk) (λ i. JudgesImage k c.args.load.now.mode i c.put_last-in-Err.result (g.O.Sink.tells.written c.args.out.now) (g.O.Sink.tells.written c.put_last-in-Err.new.out) (c.args.trace.now ≡ c.args.trace.now) (LeavesAsAtStart g.D.Disk.tells c.args.disk c.args.disk))) (g.K.Source.tells.left c.args.keys.now)
    (λ k i told. judged_unread k c.args.load.now.mode i _ _ _ _ _ c.put_last-in-Err.ensures.ends refl
    (started g.D.Disk.tells c.args.disk (g.D.Disk.tells.may_leave c.args.disk) (λ x left. left)))

pub returns-in-Ok-Some-clause-causes : goal.returns-in-Ok-Some-clause-causes
returns-in-Ok-Some-clause-causes g c =
    let causes = c.load_over.ensures.causes in
    record { disk = causes.disk; read = λ e. absurd (causes.read e); write = causes.write; tag = causes.tag }

pub returns-in-Ok-None-clause-causes : goal.returns-in-Ok-None-clause-causes
returns-in-Ok-None-clause-causes g c =
    let never = λ (n : ℕ). not_code _ 10 n _ _ _ c.put_last.ensures.ends in
    record {
      disk = record { same = refl; later = omega arith; rose = λ e. absurd (never 4 (λ z. omega arith) (λ z. omega arith) e) };
      read = λ e. absurd (never 5 (λ z. omega arith) (λ z. omega arith) e);
      write = λ e. inl (c.put_last.ensures.put.write e);
      tag = λ e. absurd (never 12 (λ z. omega arith) (λ z. omega arith) e);
    }

pub returns-in-Err-clause-causes : goal.returns-in-Err-clause-causes
returns-in-Err-clause-causes g c =
    let never = λ (n : ℕ). not_code _ 5 n _ _ _ c.put_last-in-Err.ensures.ends in
    record {
      disk = record { same = refl; later = omega arith; rose = λ e. absurd (never 4 (λ z. omega arith) (λ z. omega arith) e) };
      read = λ e. search rules;
      write = λ e. inl (c.put_last-in-Err.ensures.put.write e);
      tag = λ e. absurd (never 12 (λ z. omega arith) (λ z. omega arith) e);
    }
