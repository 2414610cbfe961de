use Rattle.std.proofs.Common.{arith, inl, inr, refl, rules, ℕ}
use Rattle.ov_answering.proofs.KeyFiles.{image_all, image_none, image_read}
use Rattle.ov_answering.proofs.Statuses.{ends_so, judged_failed, judged_none, judged_with, not_code}
use Rattle.ov_answering.proofs.Statuses.{not_keys}
use Rattle.ov_base.specs.Causes.{Rose}
use Rattle.ov_disk.specs.Disk.{Told}
use Rattle.ov_disk.proofs.Runs.{started}
use Rattle.ov_history.specs.FadingLaws.{IsRight}
use Rattle.ov_history.specs.Masters.{Masters}
use Rattle.ov_history.specs.Plain.{PlainHistory}
use Rattle.ov_history.specs.Sealed.{SealedHistory}
use Rattle.ov_images.specs.Images.{Keeps, keys_of}
use Rattle.ov_machine.specs.Machine.{plain_masters}
use Rattle.ov_replaying.specs.Opening.{JudgesStore}
use Rattle.ov_replaying.specs.Statuses.{IsAskedStatus}
use Rattle.ov_auditing.specs.Promises.{TellsOf}
use Rattle.ov_replaying.proofs.Endings.{fault_six, found_so}
use Rattle.ov_replaying.proofs.Judged.{file_judged, judged_unread}
use Rattle.ov_auditing.proofs.Endings.{more_faults}
use Rattle.ov_auditing.proofs.Endings.{unread_tells}
use Rattle.ov_auditing.proofs.auditing.audit_with_keys.Goals as goal

pub returns-in-Ok-Some-clause-tells : goal.returns-in-Ok-Some-clause-tells
returns-in-Ok-Some-clause-tells g c =
    image_read (λ (k : Masters). Told (g.D.Disk.tells.reads c.args.disk) (λ i.
    (p : PlainHistory) (h : SealedHistory) → IsRight k p h → Keeps (keys_of k) h i
    → TellsOf c.args.asked.now k h c.audit_over.result.0 (g.O.Sink.tells.written c.args.out.now)
    (g.O.Sink.tells.written c.audit_over.new.out) _))
    (plain_masters c.in-Ok-Some.masters) (g.K.Source.tells.left c.args.keys.now)
    (rw c.in-Ok-Some.field-0-is at c.in-Ok-Some.ensures.read)
    (λ i read p h right keeps.
    more_faults c.args.asked.now (plain_masters c.in-Ok-Some.masters) h _ _ c.audit_over.result.0
    _ _ (λ rose. inr rose) (c.audit_over.ensures.tells i read p h right keeps))

pub returns-in-Ok-None-clause-tells : goal.returns-in-Ok-None-clause-tells
returns-in-Ok-None-clause-tells g c =
    image_none _ (g.K.Source.tells.left c.args.keys.now)
    (rw c.in-Ok-None.field-0-is at c.in-Ok-None.ensures.read)

pub returns-in-Err-clause-tells : goal.returns-in-Err-clause-tells
returns-in-Err-clause-tells g c =
    let rose : Rose (g.K.Source.tells.faults c.args.keys.now)
    (g.K.Source.tells.faults c.read_masters.new.source) = search rules in
    image_all (λ (k : Masters). Told (g.D.Disk.tells.reads c.args.disk) (λ i.
    (p : PlainHistory) (h : SealedHistory) → IsRight k p h → Keeps (keys_of k) h i
    → TellsOf c.args.asked.now k h c.put_last-in-Err.result
    (g.O.Sink.tells.written c.args.out.now) (g.O.Sink.tells.written c.put_last-in-Err.new.out) _))
    (g.K.Source.tells.left c.args.keys.now)
    (λ k i read p h right keeps.
    unread_tells c.args.asked.now k h _ _ c.put_last-in-Err.result _
    (λ six. inr (inl (c.put_last-in-Err.ensures.put.write six))) c.put_last-in-Err.ensures.ends
    (inl rose))

pub returns-in-Ok-Some-clause-image : goal.returns-in-Ok-Some-clause-image
returns-in-Ok-Some-clause-image g c =
    image_read (λ (k : Masters). Told (g.D.Disk.tells.reads c.args.disk) (λ i.
    JudgesStore k i c.audit_over.result.0 (g.O.Sink.tells.written c.args.out.now)
    (g.O.Sink.tells.written c.audit_over.new.out)))
    (plain_masters c.in-Ok-Some.masters) (g.K.Source.tells.left c.args.keys.now)
    (rw c.in-Ok-Some.field-0-is at c.in-Ok-Some.ensures.read) c.audit_over.ensures.image

pub returns-in-Ok-None-clause-image : goal.returns-in-Ok-None-clause-image
returns-in-Ok-None-clause-image g c =
    image_none _ (g.K.Source.tells.left c.args.keys.now)
    (rw c.in-Ok-None.field-0-is at c.in-Ok-None.ensures.read)

pub returns-in-Err-clause-image : goal.returns-in-Err-clause-image
returns-in-Err-clause-image g c =
    image_all (λ (k : Masters). Told (g.D.Disk.tells.reads c.args.disk) (λ i.
    JudgesStore k i c.put_last-in-Err.result (g.O.Sink.tells.written c.args.out.now)
    (g.O.Sink.tells.written c.put_last-in-Err.new.out))) (g.K.Source.tells.left c.args.keys.now)
    (λ k i read.
    judged_unread k i _ _ c.put_last-in-Err.result c.put_last-in-Err.ensures.ends)

pub returns-in-Ok-Some-clause-keys : goal.returns-in-Ok-Some-clause-keys
returns-in-Ok-Some-clause-keys g c =
    file_judged (g.K.Source.tells.left c.args.keys.now) _ _ _ _ (Unit {0})
    (judged_with (Unit {0}) (g.K.Source.tells.left c.args.keys.now) _ _ _ _ _ _
    (rw c.in-Ok-Some.field-0-is at c.in-Ok-Some.ensures.read)
    (not_keys _ (found_so _ c.audit_over.ensures.status)))

pub returns-in-Ok-None-clause-keys : goal.returns-in-Ok-None-clause-keys
returns-in-Ok-None-clause-keys g c =
    file_judged (g.K.Source.tells.left c.args.keys.now) _ _ _ _ (Unit {0})
    (judged_none (Unit {0}) (g.K.Source.tells.left c.args.keys.now) _ _ _ _
    (rw c.in-Ok-None.field-0-is at c.in-Ok-None.ensures.read) c.put_last.ensures.ends refl)

pub returns-in-Err-clause-keys : goal.returns-in-Err-clause-keys
returns-in-Err-clause-keys g c =
    file_judged (g.K.Source.tells.left c.args.keys.now) _ _ _ _ (Unit {0})
    (judged_failed (Unit {0}) (g.K.Source.tells.left c.args.keys.now) _ _ _ _
    c.put_last-in-Err.ensures.ends refl)

pub returns-in-Ok-Some-clause-causes : goal.returns-in-Ok-Some-clause-causes
returns-in-Ok-Some-clause-causes g c =
    let causes = c.audit_over.ensures.causes in
    record {
      disk = causes.disk;
      read = λ e. absurd (causes.read e);
      write = causes.write;
      tag = causes.tag;
    }

pub returns-in-Ok-None-clause-causes : goal.returns-in-Ok-None-clause-causes
returns-in-Ok-None-clause-causes g c =
    let never = λ (n : ℕ). not_code _ 10 n _ _ _ c.put_last.ensures.ends in
    record {
      disk = record {
        same = refl;
        later = omega arith;
        rose = λ e. absurd (never 4 (λ z. omega arith) (λ z. omega arith) e);
      };
      read = λ e. absurd (never 5 (λ z. omega arith) (λ z. omega arith) e);
      write = c.put_last.ensures.put.write;
      tag = λ e. never 12 (λ z. omega arith) (λ z. omega arith) e;
    }

pub returns-in-Err-clause-causes : goal.returns-in-Err-clause-causes
returns-in-Err-clause-causes g c =
    let never = λ (n : ℕ). not_code _ 5 n _ _ _ c.put_last-in-Err.ensures.ends in
    record {
      disk = record {
        same = refl;
        later = omega arith;
        rose = λ e. absurd (never 4 (λ z. omega arith) (λ z. omega arith) e);
      };
      read = λ e. search rules;
      write = c.put_last-in-Err.ensures.put.write;
      tag = λ e. never 12 (λ z. omega arith) (λ z. omega arith) e;
    }

pub returns-in-Ok-Some-clause-status : goal.returns-in-Ok-Some-clause-status
returns-in-Ok-Some-clause-status g c = inr c.audit_over.ensures.status

pub returns-in-Ok-None-clause-status : goal.returns-in-Ok-None-clause-status
returns-in-Ok-None-clause-status g c =
    ends_so IsAskedStatus _ 10 _ _ _ (inl refl) (inr (inr (inr fault_six)))
    c.put_last.ensures.ends

pub returns-in-Err-clause-status : goal.returns-in-Err-clause-status
returns-in-Err-clause-status g c =
    ends_so IsAskedStatus _ 5 _ _ _ (inr (inr (inr (inl refl)))) (inr (inr (inr fault_six)))
    c.put_last-in-Err.ensures.ends

pub returns-in-Ok-None-clause-quiet : goal.returns-in-Ok-None-clause-quiet
returns-in-Ok-None-clause-quiet g c =
    started g.D.Disk.tells c.args.disk (g.D.Disk.tells.may_leave c.args.disk) (λ x left. left)

pub returns-in-Err-clause-quiet : goal.returns-in-Err-clause-quiet
returns-in-Err-clause-quiet g c =
    started g.D.Disk.tells c.args.disk (g.D.Disk.tells.may_leave c.args.disk) (λ x left. left)
