use Rattle.std.proofs.Common.{arith, inl, inr, refl, rules, ℕ}
use Rattle.ov_answering.proofs.Statuses.{ends_so, judged_unasked, not_code, words_known, words_refused}
use Rattle.ov_disk.proofs.Runs.{started}
use Rattle.ov_replaying.proofs.Endings.{fault_six}
use Rattle.ov_replaying.proofs.Judged.{file_asked, file_judged}
use Rattle.ov_tidying.proofs.Endings.{not_asked_usage}
use Rattle.ov_tidying.proofs.Loans.{image_so, judged_so, lent_born, lent_disks, lent_quiet, lent_same, lent_tells}
use Rattle.ov_tidying.specs.Promises.{IsTidyStatus}
use Rattle.ov_tidying.proofs.tidying.tidy.Goals as goal

pub returns-then-is_tidy-clause-tells : goal.returns-then-is_tidy-clause-tells
returns-then-is_tidy-clause-tells g c =
    lent_tells g.D.Disk.tells g.E.Disk.tells c.args.old c.tidy_with_keys.result.1 _ (search rules)
    (record { ref_ptr = c.args.new.ref_ptr; ghost_name = _; now = c.args.new.now })
    c.tidy_with_keys.result.2 _ (search rules) _ (g.K.Source.tells.left c.args.keys.now)
    c.tidy_with_keys.result.0 _ _ _ _ c.tidy_with_keys.ensures.tells

pub returns-then-is_tidy-clause-image : goal.returns-then-is_tidy-clause-image
returns-then-is_tidy-clause-image g c =
    image_so (g.D.Disk.tells.reads c.args.old.now) (g.K.Source.tells.left c.args.keys.now) _ _
    (λ k i j. judged_so k i c.tidy_with_keys.result.0 _ _ _ _
    (λ same. lent_same g.E.Disk.tells
    (record { ref_ptr = c.args.new.ref_ptr; ghost_name = _; now = c.args.new.now })
    c.tidy_with_keys.result.2 _ (search rules) same) j)
    c.tidy_with_keys.ensures.image _

pub returns-then-is_tidy-clause-keys : goal.returns-then-is_tidy-clause-keys
returns-then-is_tidy-clause-keys g c =
    file_asked (g.K.Source.tells.left c.args.keys.now) _ _ _ _ _ _ c.tidy_with_keys.ensures.keys
    (λ untouched. (
      lent_same g.D.Disk.tells
          (record { ref_ptr = c.args.old.ref_ptr; ghost_name = _; now = c.args.old.now })
          c.tidy_with_keys.result.1 _ (search rules) untouched.0,
      lent_same g.E.Disk.tells
          (record { ref_ptr = c.args.new.ref_ptr; ghost_name = _; now = c.args.new.now })
          c.tidy_with_keys.result.2 _ (search rules) untouched.1,
    ))

pub returns-then-is_tidy-clause-words : goal.returns-then-is_tidy-clause-words
returns-then-is_tidy-clause-words g c =
    words_known _ _ _ _ _ (λ none. none (c.is_tidy.ensures.yes c.if-is_tidy.true))
    (not_asked_usage _ c.tidy_with_keys.ensures.status)

pub returns-then-is_tidy-clause-quiet : goal.returns-then-is_tidy-clause-quiet
returns-then-is_tidy-clause-quiet g c =
    lent_quiet g.D.Disk.tells
    (record { ref_ptr = c.args.old.ref_ptr; ghost_name = _; now = c.args.old.now })
    c.tidy_with_keys.result.1 _ (search rules) c.tidy_with_keys.ensures.quiet

pub returns-then-is_tidy-clause-born : goal.returns-then-is_tidy-clause-born
returns-then-is_tidy-clause-born g c =
    lent_born g.E.Disk.tells
    (record { ref_ptr = c.args.new.ref_ptr; ghost_name = _; now = c.args.new.now })
    c.tidy_with_keys.result.2 _ (search rules) c.tidy_with_keys.ensures.causes.born

pub returns-then-is_tidy-clause-causes : goal.returns-then-is_tidy-clause-causes
returns-then-is_tidy-clause-causes g c =
    let causes = c.tidy_with_keys.ensures.causes in
    record {
      some = inr c.tidy_with_keys.ensures.status;
      disk = λ e. lent_disks g.D.Disk.tells g.E.Disk.tells c.args.old c.tidy_with_keys.result.1 _
          (search rules) c.args.new c.tidy_with_keys.result.2 _ (search rules) (causes.disk e);
      read = causes.read;
      write = causes.write;
      notempty = causes.notempty;
    }

-- other words

pub returns-else-is_tidy-clause-tells : goal.returns-else-is_tidy-clause-tells
returns-else-is_tidy-clause-tells g c = λ asked. absurd (c.is_tidy.ensures.no c.if-is_tidy.false asked)

pub returns-else-is_tidy-clause-image : goal.returns-else-is_tidy-clause-image
returns-else-is_tidy-clause-image g c = λ asked. absurd (c.is_tidy.ensures.no c.if-is_tidy.false asked)

pub returns-else-is_tidy-clause-keys : goal.returns-else-is_tidy-clause-keys
returns-else-is_tidy-clause-keys g c =
    file_judged (g.K.Source.tells.left c.args.keys.now) _ _ _ _ _
    (judged_unasked _ _ _ _ _ _ (λ asked. c.is_tidy.ensures.no c.if-is_tidy.false asked)
    c.put_last.ensures.ends (refl, refl))

pub returns-else-is_tidy-clause-words : goal.returns-else-is_tidy-clause-words
returns-else-is_tidy-clause-words g c =
    words_refused _ _ _ _ _ (c.is_tidy.ensures.no c.if-is_tidy.false) (refl, refl, refl)
    c.put_last.ensures.ends

pub returns-else-is_tidy-clause-quiet : goal.returns-else-is_tidy-clause-quiet
returns-else-is_tidy-clause-quiet g c =
    started g.D.Disk.tells c.args.old.now (g.D.Disk.tells.may_leave c.args.old.now)
    (λ x left. left)

pub returns-else-is_tidy-clause-born : goal.returns-else-is_tidy-clause-born
returns-else-is_tidy-clause-born g c = λ i read born.
    started g.E.Disk.tells c.args.new.now (g.E.Disk.tells.may_leave c.args.new.now)
    (λ x left. left)

pub returns-else-is_tidy-clause-causes : goal.returns-else-is_tidy-clause-causes
returns-else-is_tidy-clause-causes g c =
    let never = λ (n : ℕ). not_code _ 2 n _ _ _ c.put_last.ensures.ends in
    record {
      some = ends_so IsTidyStatus _ 2 _ _ _ (inl refl) (inr (inr (inr (inr (inr fault_six)))))
          c.put_last.ensures.ends;
      disk = λ e. absurd (never 4 (λ z. omega arith) (λ z. omega arith) e);
      read = λ e. absurd (never 5 (λ z. omega arith) (λ z. omega arith) e);
      write = c.put_last.ensures.put.write;
      notempty = λ e. absurd (never 14 (λ z. omega arith) (λ z. omega arith) e);
    }
