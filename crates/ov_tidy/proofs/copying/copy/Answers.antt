use Rattle.std.proofs.Common.{rules, ◌≡◌, ◌+◌, ◌<◌, ℕ, suc, arith, length, refl, subst}
use Rattle.std.proofs.lemmas.Option.{slice_get-get_or}
use Rattle.ov_disk.proofs.Runs.{looks_then, untouched as untouched_yet}
use Rattle.ov_tidy.specs.Copies.{HasCopied}
use Rattle.ov_tidy.proofs.Copied.{calls_then, no_call, step_still, step_then, told_then}
use Rattle.ov_tidy.proofs.CopiedAll.{copied_all, left_all, left_then, next_copied, not_copied, nothing_copied}
use Rattle.ov_tidy.proofs.copying.copy.Goals as goal

pub places-init : goal.places-init
places-init g c = record {
  copied = nothing_copied g.D.Disk.tells g.E.Disk.tells c.args.old.now c.args.kept.now c.args.new.now
      c.requires.whole c.requires.begins;
  stays = refl;
  untouched = untouched_yet g.D.Disk.tells c.args.old.now.disk;
  served = λ h serves. serves;
  whole = c.requires.whole;
  told = λ i is. (i, is);
  step = step_still g.E.Disk.tells c.args.new.now;
  calls_old = no_call g.D.Disk.tells c.args.old.now;
  calls_new = no_call g.E.Disk.tells c.args.new.now;
}

pub places-preserved : goal.places-preserved
places-preserved g c =
    let kept = c.args.kept.now in
    let so_far = c.places.invariant in
    let low : c.places.i < length kept = search rules in
    let more : suc c.places.i ≡ c.places.i + 1 = omega arith in record {
      copied = subst (λ (n : ℕ). HasCopied g.D.Disk.tells g.E.Disk.tells c.args.old.now kept c.args.new.now n
          c.copy_one.new.new) more
          (next_copied g.D.Disk.tells g.E.Disk.tells c.args.old.now kept c.args.new.now c.places.i _
          (slice_get-get_or kept c.places.i 0 low) c.places.old c.places.new so_far.served
          so_far.untouched.reads_same so_far.calls_new.0 so_far.told so_far.copied c.copy_one.new.new
          c.in-Ok.ensures.copied);
      stays = search rules;
      untouched = looks_then g.D.Disk.tells c.args.old.now.disk c.places.old.disk c.copy_one.new.old.disk
          so_far.untouched c.copy_one.ensures.untouched;
      served = λ h serves. c.copy_one.ensures.served h (so_far.served h serves);
      whole = c.in-Ok.ensures.whole;
      told = told_then _ _ _ so_far.told c.copy_one.ensures.told;
      step = step_then g.E.Disk.tells c.args.new.now c.places.new c.copy_one.new.new so_far.told
          so_far.step c.in-Ok.ensures.step;
      calls_old = calls_then g.D.Disk.tells c.args.old.now c.places.old c.copy_one.new.old so_far.calls_old
          c.copy_one.ensures.calls.0;
      calls_new = calls_then g.E.Disk.tells c.args.new.now c.places.new c.copy_one.new.new so_far.calls_new
          c.copy_one.ensures.calls.1;
    }

pub returns-in-Err-clause-copied : goal.returns-in-Err-clause-copied
returns-in-Err-clause-copied g c =
    let kept = c.args.kept.now in
    let so_far = c.places.invariant in
    let low : c.places.i < length kept = search rules in
    not_copied g.D.Disk.tells g.E.Disk.tells c.args.old.now kept c.args.new.now c.places.i _
    (slice_get-get_or kept c.places.i 0 low) c.places.old c.places.new so_far.served
    so_far.untouched.reads_same so_far.calls_new.0 so_far.told so_far.copied c.copy_one.new.new
    c.in-Err.fault c.in-Err.ensures.copied

pub returns-in-Err-clause-any_moment : goal.returns-in-Err-clause-any_moment
returns-in-Err-clause-any_moment g c =
    let kept = c.args.kept.now in
    let so_far = c.places.invariant in
    let low : c.places.i < length kept = search rules in
    left_then g.D.Disk.tells g.E.Disk.tells c.args.old.now kept c.args.new.now c.places.i _
    (slice_get-get_or kept c.places.i 0 low) c.places.old c.places.new so_far.served
    so_far.untouched.reads_same so_far.calls_new.0 so_far.told so_far.copied c.copy_one.new.new _
    c.copy_one.ensures.copied

pub returns-clause-copied : goal.returns-clause-copied
returns-clause-copied g c =
    let all : c.places.i ≡ length c.args.kept.now = search rules in
    copied_all g.D.Disk.tells g.E.Disk.tells c.args.old.now c.args.kept.now c.args.new.now c.places.new
    c.places.i all c.places.invariant.copied

pub returns-clause-any_moment : goal.returns-clause-any_moment
returns-clause-any_moment g c =
    let all : c.places.i ≡ length c.args.kept.now = search rules in
    left_all g.D.Disk.tells g.E.Disk.tells c.args.old.now c.args.kept.now c.args.new.now c.places.new
    c.places.i all c.places.invariant.copied
