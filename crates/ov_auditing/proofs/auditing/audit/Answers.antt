use Rattle.std.proofs.Common.{arith, inl, inr, refl, rules, ℕ}
use Rattle.ov_answering.proofs.KeyFiles.{image_all}
use Rattle.ov_answering.proofs.Statuses.{ends_so, judged_unasked, not_code, not_usage}
use Rattle.ov_disk.specs.Disk.{Told}
use Rattle.ov_disk.proofs.Runs.{started}
use Rattle.ov_history.specs.FadingLaws.{IsRight}
use Rattle.ov_history.specs.Masters.{Masters}
use Rattle.ov_history.specs.Plain.{PlainHistory}
use Rattle.ov_history.specs.Sealed.{SealedHistory}
use Rattle.ov_images.specs.Images.{Keeps, keys_of}
use Rattle.ov_replaying.specs.Opening.{JudgesStore}
use Rattle.ov_auditing.specs.Promises.{IsAuditStatus, TellsOf}
use Rattle.ov_auditing.proofs.Asking.{lent_quiet, lent_tells}
use Rattle.ov_replaying.proofs.Endings.{asked_so}
use Rattle.ov_auditing.proofs.Endings.{audit_seven, audit_six}
use Rattle.ov_replaying.proofs.Judged.{file_asked, file_judged, file_unknown, judged_memory}
use Rattle.ov_auditing.proofs.Endings.{known_words, memory_tells, other_words, unknown_words}
use Rattle.ov_auditing.proofs.auditing.audit.Goals as goal

pub returns-in-Ok-Some-clause-tells : goal.returns-in-Ok-Some-clause-tells
returns-in-Ok-Some-clause-tells g c =
    lent_tells g.D.Disk.tells c.args.disk
    c.audit_with_keys.result.1 _ (search rules) (g.D.Disk.tells.reads c.args.disk.now)
    c.args.words.now (g.K.Source.tells.left c.args.keys.now) c.in-Ok-Some.asked
    (rw c.in-Ok-Some.field-0-is at c.in-Ok-Some.ensures.found) c.audit_with_keys.result.0
    (g.O.Sink.tells.written c.args.out.now) (g.O.Sink.tells.written c.audit_with_keys.new.out)
    _ _ c.audit_with_keys.ensures.tells

pub returns-in-Ok-Some-clause-image : goal.returns-in-Ok-Some-clause-image
returns-in-Ok-Some-clause-image g c = λ asked is. c.audit_with_keys.ensures.image

pub returns-in-Ok-Some-clause-keys : goal.returns-in-Ok-Some-clause-keys
returns-in-Ok-Some-clause-keys g c =
    file_asked (g.K.Source.tells.left c.args.keys.now) _ _ _ _ _ _ c.audit_with_keys.ensures.keys
    (λ untouched. search rules)

pub returns-in-Ok-Some-clause-words : goal.returns-in-Ok-Some-clause-words
returns-in-Ok-Some-clause-words g c =
    known_words _ _ _ _ _
    (λ none. none c.in-Ok-Some.asked (rw c.in-Ok-Some.field-0-is at c.in-Ok-Some.ensures.found))
    (not_usage _ (asked_so _ c.audit_with_keys.ensures.status))

pub returns-in-Ok-Some-clause-quiet : goal.returns-in-Ok-Some-clause-quiet
returns-in-Ok-Some-clause-quiet g c =
    lent_quiet g.D.Disk.tells
    (record { ref_ptr = c.args.disk.ref_ptr; ghost_name = _; now = c.args.disk.now })
    c.audit_with_keys.result.1 _ (search rules) c.audit_with_keys.ensures.quiet

pub returns-in-Ok-Some-clause-causes : goal.returns-in-Ok-Some-clause-causes
returns-in-Ok-Some-clause-causes g c =
    let causes = c.audit_with_keys.ensures.causes in
    record {
      some = inr c.audit_with_keys.ensures.status;
      disk = search rules;
      read = causes.read;
      write = causes.write;
    }

-- other words

pub returns-in-Ok-None-clause-tells : goal.returns-in-Ok-None-clause-tells
returns-in-Ok-None-clause-tells g c = λ asked is.
    absurd ((rw c.in-Ok-None.field-0-is at c.in-Ok-None.ensures.none) asked is)

pub returns-in-Ok-None-clause-image : goal.returns-in-Ok-None-clause-image
returns-in-Ok-None-clause-image g c = λ asked is.
    absurd ((rw c.in-Ok-None.field-0-is at c.in-Ok-None.ensures.none) asked is)

pub returns-in-Ok-None-clause-keys : goal.returns-in-Ok-None-clause-keys
returns-in-Ok-None-clause-keys g c =
    file_judged (g.K.Source.tells.left c.args.keys.now) _ _ _ _ _
    (judged_unasked _ _ _ _ _ _
    (λ asked. (rw c.in-Ok-None.field-0-is at c.in-Ok-None.ensures.none) asked.0 asked.1)
    c.put_last.ensures.ends refl)

pub returns-in-Ok-None-clause-words : goal.returns-in-Ok-None-clause-words
returns-in-Ok-None-clause-words g c =
    other_words _ _ _ _ _ (rw c.in-Ok-None.field-0-is at c.in-Ok-None.ensures.none) (refl, refl)
    c.put_last.ensures.ends

pub returns-in-Ok-None-clause-quiet : goal.returns-in-Ok-None-clause-quiet
returns-in-Ok-None-clause-quiet g c =
    started g.D.Disk.tells c.args.disk.now (g.D.Disk.tells.may_leave c.args.disk.now)
    (λ x left. left)

pub returns-in-Ok-None-clause-causes : goal.returns-in-Ok-None-clause-causes
returns-in-Ok-None-clause-causes g c =
    let never = λ (n : ℕ). not_code _ 2 n _ _ _ c.put_last.ensures.ends in
    record {
      some = ends_so IsAuditStatus _ 2 _ _ _ (inl refl) audit_six c.put_last.ensures.ends;
      disk = λ e. absurd (never 4 (λ z. omega arith) (λ z. omega arith) e);
      read = λ e. absurd (never 5 (λ z. omega arith) (λ z. omega arith) e);
      write = c.put_last.ensures.put.write;
    }

-- memory was refused

pub returns-in-Err-clause-tells : goal.returns-in-Err-clause-tells
returns-in-Err-clause-tells g c = λ asked is.
    image_all (λ (k : Masters). Told (g.D.Disk.tells.reads c.args.disk.now) (λ i.
    (p : PlainHistory) (h : SealedHistory) → IsRight k p h → Keeps (keys_of k) h i
    → TellsOf asked k h c.put_memory.result (g.O.Sink.tells.written c.args.out.now)
    (g.O.Sink.tells.written c.put_memory.new.out) _)) (g.K.Source.tells.left c.args.keys.now)
    (λ k i read p h right keeps.
    memory_tells asked k h _ _ c.put_memory.result _
    (λ six. inr (inl (c.put_memory.ensures.put.write six))) c.put_memory.ensures.ends)

pub returns-in-Err-clause-image : goal.returns-in-Err-clause-image
returns-in-Err-clause-image g c = λ asked is.
    image_all (λ (k : Masters). Told (g.D.Disk.tells.reads c.args.disk.now) (λ i.
    JudgesStore k i c.put_memory.result (g.O.Sink.tells.written c.args.out.now)
    (g.O.Sink.tells.written c.put_memory.new.out))) (g.K.Source.tells.left c.args.keys.now)
    (λ k i read. judged_memory k i _ _ c.put_memory.result c.put_memory.ensures.ends)

pub returns-in-Err-clause-keys : goal.returns-in-Err-clause-keys
returns-in-Err-clause-keys g c =
    file_unknown (g.K.Source.tells.left c.args.keys.now) _ _ _ _ _ c.put_memory.ensures.ends refl

pub returns-in-Err-clause-words : goal.returns-in-Err-clause-words
returns-in-Err-clause-words g c =
    unknown_words _ _ _ _ _ (refl, refl) c.put_memory.ensures.ends

pub returns-in-Err-clause-quiet : goal.returns-in-Err-clause-quiet
returns-in-Err-clause-quiet g c =
    started g.D.Disk.tells c.args.disk.now (g.D.Disk.tells.may_leave c.args.disk.now)
    (λ x left. left)

pub returns-in-Err-clause-causes : goal.returns-in-Err-clause-causes
returns-in-Err-clause-causes g c =
    let never = λ (n : ℕ). not_code _ 7 n _ _ _ c.put_memory.ensures.ends in
    record {
      some = ends_so IsAuditStatus _ 7 _ _ _ audit_seven audit_six c.put_memory.ensures.ends;
      disk = λ e. absurd (never 4 (λ z. omega arith) (λ z. omega arith) e);
      read = λ e. absurd (never 5 (λ z. omega arith) (λ z. omega arith) e);
      write = c.put_memory.ensures.put.write;
    }
