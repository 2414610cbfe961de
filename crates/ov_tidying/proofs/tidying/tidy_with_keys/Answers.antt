use Rattle.std.proofs.Common.{arith, inl, inr, refl, rules, ℕ}
use Rattle.ov_answering.proofs.KeyFiles.{image_all, image_none, image_read}
use Rattle.ov_answering.proofs.Statuses.{ends_so, judged_failed, judged_none, judged_with, not_code}
use Rattle.ov_base.specs.Causes.{Rose}
use Rattle.ov_disk.specs.Disk.{Told}
use Rattle.ov_disk.proofs.Runs.{started}
use Rattle.ov_history.specs.Masters.{Masters}
use Rattle.ov_machine.specs.Machine.{plain_masters}
use Rattle.ov_replaying.specs.Statuses.{IsAskedStatus}
use Rattle.ov_replaying.proofs.Endings.{fault_six}
use Rattle.ov_replaying.proofs.Judged.{file_judged, judged_unread}
use Rattle.ov_tidying.proofs.Endings.{asked_of, early_by, no_disk_call, not_found_keys}
use Rattle.ov_tidying.proofs.Shorter.{more_faults}
use Rattle.ov_tidying.specs.Promises.{ForEachRight, JudgesOld, Tidies}
use Rattle.ov_tidying.proofs.tidying.tidy_with_keys.Goals as goal

pub returns-in-Ok-Some-clause-tells : goal.returns-in-Ok-Some-clause-tells
returns-in-Ok-Some-clause-tells g c = λ asked.
    image_read (λ (k : Masters). Told (g.D.Disk.tells.reads c.args.old) (λ i.
    Told (g.E.Disk.tells.reads c.args.new) (λ _. ForEachRight k i (λ p h.
    Tidies g.E.Disk.tells k p h c.tidy_over.result.0 (g.O.Sink.tells.written c.args.out.now)
    (g.O.Sink.tells.written c.tidy_over.new.out) c.args.new c.tidy_over.result.2 _))))
    (plain_masters c.in-Ok-Some.masters) (g.K.Source.tells.left c.args.keys.now)
    (rw c.in-Ok-Some.field-0-is at c.in-Ok-Some.ensures.read)
    (λ i read j read_new p h right keeps.
    more_faults g.E.Disk.tells (plain_masters c.in-Ok-Some.masters) p h c.tidy_over.result.0 _ _
    c.args.new c.tidy_over.result.2 _ _ (λ rose. inr rose)
    (c.tidy_over.ensures.tells i read j read_new p h right keeps))

pub returns-in-Ok-None-clause-tells : goal.returns-in-Ok-None-clause-tells
returns-in-Ok-None-clause-tells g c = λ asked.
    image_none _ (g.K.Source.tells.left c.args.keys.now)
    (rw c.in-Ok-None.field-0-is at c.in-Ok-None.ensures.read)

pub returns-in-Err-clause-tells : goal.returns-in-Err-clause-tells
returns-in-Err-clause-tells g c = λ asked.
    let rose : Rose (g.K.Source.tells.faults c.args.keys.now)
    (g.K.Source.tells.faults c.read_masters.new.source) = search rules in
    image_all (λ (k : Masters). Told (g.D.Disk.tells.reads c.args.old) (λ i.
    Told (g.E.Disk.tells.reads c.args.new) (λ _. ForEachRight k i (λ p h.
    Tidies g.E.Disk.tells k p h c.put_last-in-Err.result (g.O.Sink.tells.written c.args.out.now)
    (g.O.Sink.tells.written c.put_last-in-Err.new.out) c.args.new c.args.new _))))
    (g.K.Source.tells.left c.args.keys.now)
    (λ k i read j read_new p h right keeps. record {
      made = inr (inr (inr c.put_last-in-Err.ensures.ends), refl);
      ends = early_by _ _ c.put_last-in-Err.result _
          (λ six. inr (inl (c.put_last-in-Err.ensures.put.write six))) _
          (inr (inr c.put_last-in-Err.ensures.ends))
          (λ e. inl rose) (λ e. inl rose);
    })

pub returns-in-Ok-Some-clause-image : goal.returns-in-Ok-Some-clause-image
returns-in-Ok-Some-clause-image g c = λ asked.
    image_read (λ (k : Masters). Told (g.D.Disk.tells.reads c.args.old) (λ i.
    JudgesOld k i c.tidy_over.result.0 (g.O.Sink.tells.written c.args.out.now)
    (g.O.Sink.tells.written c.tidy_over.new.out) _))
    (plain_masters c.in-Ok-Some.masters) (g.K.Source.tells.left c.args.keys.now)
    (rw c.in-Ok-Some.field-0-is at c.in-Ok-Some.ensures.read) c.tidy_over.ensures.image

pub returns-in-Ok-None-clause-image : goal.returns-in-Ok-None-clause-image
returns-in-Ok-None-clause-image g c = λ asked.
    image_none _ (g.K.Source.tells.left c.args.keys.now)
    (rw c.in-Ok-None.field-0-is at c.in-Ok-None.ensures.read)

pub returns-in-Err-clause-image : goal.returns-in-Err-clause-image
returns-in-Err-clause-image g c = λ asked.
    image_all (λ (k : Masters). Told (g.D.Disk.tells.reads c.args.old) (λ i.
    JudgesOld k i c.put_last-in-Err.result (g.O.Sink.tells.written c.args.out.now)
    (g.O.Sink.tells.written c.put_last-in-Err.new.out) _)) (g.K.Source.tells.left c.args.keys.now)
    (λ k i read. (
      judged_unread k i _ _ c.put_last-in-Err.result c.put_last-in-Err.ensures.ends,
      λ none. refl,
    ))

pub returns-in-Ok-Some-clause-keys : goal.returns-in-Ok-Some-clause-keys
returns-in-Ok-Some-clause-keys g c =
    file_judged (g.K.Source.tells.left c.args.keys.now) _ _ _ _ (Unit {0})
    (judged_with (Unit {0}) (g.K.Source.tells.left c.args.keys.now) _ _ _ _ _ _
    (rw c.in-Ok-Some.field-0-is at c.in-Ok-Some.ensures.read)
    (not_found_keys _ c.tidy_over.ensures.status))

pub returns-in-Ok-None-clause-keys : goal.returns-in-Ok-None-clause-keys
returns-in-Ok-None-clause-keys g c =
    file_judged (g.K.Source.tells.left c.args.keys.now) _ _ _ _ (Unit {0})
    (judged_none (Unit {0}) (g.K.Source.tells.left c.args.keys.now) _ _ _ _
    (rw c.in-Ok-None.field-0-is at c.in-Ok-None.ensures.read) c.put_last.ensures.ends (refl, refl))

pub returns-in-Err-clause-keys : goal.returns-in-Err-clause-keys
returns-in-Err-clause-keys g c =
    file_judged (g.K.Source.tells.left c.args.keys.now) _ _ _ _ (Unit {0})
    (judged_failed (Unit {0}) (g.K.Source.tells.left c.args.keys.now) _ _ _ _
    c.put_last-in-Err.ensures.ends (refl, refl))

pub returns-in-Ok-Some-clause-causes : goal.returns-in-Ok-Some-clause-causes
returns-in-Ok-Some-clause-causes g c =
    let causes = c.tidy_over.ensures.causes in
    record {
      old_call = causes.old_call;
      new_call = causes.new_call;
      disk = causes.disk;
      read = λ e. absurd (causes.read e);
      write = causes.write;
      notempty = causes.notempty;
      born = causes.born;
    }

pub returns-in-Ok-None-clause-causes : goal.returns-in-Ok-None-clause-causes
returns-in-Ok-None-clause-causes g c =
    let never = λ (n : ℕ). not_code _ 10 n _ _ _ c.put_last.ensures.ends in
    record {
      old_call = no_disk_call g.D.Disk.tells c.args.old;
      new_call = no_disk_call g.E.Disk.tells c.args.new;
      disk = λ e. absurd (never 4 (λ z. omega arith) (λ z. omega arith) e);
      read = λ e. absurd (never 5 (λ z. omega arith) (λ z. omega arith) e);
      write = c.put_last.ensures.put.write;
      notempty = λ e. absurd (never 14 (λ z. omega arith) (λ z. omega arith) e);
      born = λ i read born.
          started g.E.Disk.tells c.args.new (g.E.Disk.tells.may_leave c.args.new) (λ x left. left);
    }

pub returns-in-Err-clause-causes : goal.returns-in-Err-clause-causes
returns-in-Err-clause-causes g c =
    let never = λ (n : ℕ). not_code _ 5 n _ _ _ c.put_last-in-Err.ensures.ends in
    record {
      old_call = no_disk_call g.D.Disk.tells c.args.old;
      new_call = no_disk_call g.E.Disk.tells c.args.new;
      disk = λ e. absurd (never 4 (λ z. omega arith) (λ z. omega arith) e);
      read = λ e. search rules;
      write = c.put_last-in-Err.ensures.put.write;
      notempty = λ e. absurd (never 14 (λ z. omega arith) (λ z. omega arith) e);
      born = λ i read born.
          started g.E.Disk.tells c.args.new (g.E.Disk.tells.may_leave c.args.new) (λ x left. left);
    }

pub returns-in-Ok-Some-clause-status : goal.returns-in-Ok-Some-clause-status
returns-in-Ok-Some-clause-status g c = asked_of _ c.tidy_over.ensures.status

pub returns-in-Ok-None-clause-status : goal.returns-in-Ok-None-clause-status
returns-in-Ok-None-clause-status g c =
    inr (ends_so IsAskedStatus _ 10 _ _ _ (inl refl) (inr (inr (inr fault_six)))
    c.put_last.ensures.ends)

pub returns-in-Err-clause-status : goal.returns-in-Err-clause-status
returns-in-Err-clause-status g c =
    inr (ends_so IsAskedStatus _ 5 _ _ _ (inr (inr (inr (inl refl)))) (inr (inr (inr fault_six)))
    c.put_last-in-Err.ensures.ends)

pub returns-in-Ok-None-clause-quiet : goal.returns-in-Ok-None-clause-quiet
returns-in-Ok-None-clause-quiet g c =
    started g.D.Disk.tells c.args.old (g.D.Disk.tells.may_leave c.args.old) (λ x left. left)

pub returns-in-Err-clause-quiet : goal.returns-in-Err-clause-quiet
returns-in-Err-clause-quiet g c =
    started g.D.Disk.tells c.args.old (g.D.Disk.tells.may_leave c.args.old) (λ x left. left)
