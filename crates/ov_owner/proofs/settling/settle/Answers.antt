use Rattle.std.proofs.Common.{◌≡◌, ◌∙◌, Err, Ok, arith, take}
use Rattle.std.proofs.lemmas.List.{length-set}
use Rattle.std.proofs.lemmas.Result.{err_from_is_err_and}
use Rattle.ov_record.specs.Updates.{sealed_update}
use Rattle.ov_owner.specs.Changes.{errand_of}
use Rattle.ov_owner.specs.declared.limits.TheConstants.{MAX_TRIES}
use Rattle.ov_owner.proofs.Trying.{ends_asking, ends_sending, goes_on, unsettled}
use Rattle.ov_owner.proofs.settling.settle.Goals as goal

pub returns-in_err-sealed-clause-runs : goal.returns-in_err-sealed-clause-runs
returns-in_err-sealed-clause-runs g c =
    let p = err_from_is_err_and c.from_residual.result c.from_residual.ensures.1 in
    rw (p.1, p.2)
    (ends_asking g.P.Peer.tells c.args.surface.now.bytes
    (errand_of c.args.base.now.bytes c.args.change.now) c.loop-i.epochs c.loop-i.invariant.all c.loop-i.i
    c.loop-i-test.true c.loop-i.least c.args.peer.now c.loop-i.peer c.loop-i.invariant.so_far
    c.ask.new.peer (Err c.in_err-sealed.field-0.0)
    (c.in_err-sealed.ensures.asked c.args.surface.now.bytes (take c.loop-i.i c.loop-i.epochs)))

pub returns-in_err-epoch-clause-runs : goal.returns-in_err-epoch-clause-runs
returns-in_err-epoch-clause-runs g c =
    let e = errand_of c.args.base.now.bytes c.args.change.now in
    let tries = take c.loop-i.i c.loop-i.epochs in
    let p = err_from_is_err_and c.from_residual-in_err-epoch.result c.from_residual-in_err-epoch.ensures.1 in
    rw (p.1, p.2)
    (ends_sending g.P.Peer.tells c.args.surface.now.bytes e c.loop-i.epochs
    c.loop-i.invariant.all c.loop-i.i c.loop-i-test.true c.loop-i.least c.args.peer.now c.loop-i.peer
    c.loop-i.invariant.so_far c.ask.new.peer c.in_ok-sealed.sealed.epoch (sealed_update c.in_ok-sealed.sealed.update)
    (c.in_ok-sealed.ensures.asked c.args.surface.now.bytes tries) c.send.new.peer (Err c.in_err-epoch.field-0.0)
    (c.in_err-epoch.ensures.sent e tries))

pub returns-in-Accepted-clause-runs : goal.returns-in-Accepted-clause-runs
returns-in-Accepted-clause-runs g c =
    let e = errand_of c.args.base.now.bytes c.args.change.now in
    let tries = take c.loop-i.i c.loop-i.epochs in
    ends_sending g.P.Peer.tells c.args.surface.now.bytes e c.loop-i.epochs
    c.loop-i.invariant.all c.loop-i.i c.loop-i-test.true c.loop-i.least c.args.peer.now c.loop-i.peer
    c.loop-i.invariant.so_far c.ask.new.peer c.in_ok-sealed.sealed.epoch (sealed_update c.in_ok-sealed.sealed.update)
    (c.in_ok-sealed.ensures.asked c.args.surface.now.bytes tries) c.send.new.peer (Ok c.in-Accepted.epoch)
    (rw c.in-Accepted.is at (c.in_ok-epoch.ensures.sent e tries))

pub loop-i-preserved : goal.loop-i-preserved
loop-i-preserved g c =
    let e = errand_of c.args.base.now.bytes c.args.change.now in
    let tries = take c.loop-i.i c.loop-i.epochs in
    let asked = c.in_ok-sealed.ensures in
    let sent = c.in_ok-epoch.ensures in record {
      so_far = goes_on g.P.Peer.tells c.args.surface.now.bytes e c.loop-i.epochs
          c.loop-i.invariant.all c.loop-i.i c.loop-i-test.true c.loop-i.least c.args.peer.now c.loop-i.peer
          c.loop-i.invariant.so_far c.ask.new.peer c.in_ok-sealed.sealed.epoch
          (sealed_update c.in_ok-sealed.sealed.update) (asked.asked c.args.surface.now.bytes tries)
          c.send.new.peer c.in-Stale.epoch (rw c.in-Stale.is at (sent.sent e tries));
      all = length-set c.loop-i.epochs c.loop-i.i c.in_ok-sealed.sealed.epoch ∙ c.loop-i.invariant.all;
      same = sent.same ∙ asked.same ∙ c.loop-i.invariant.same;
      later = omega (arith, c.loop-i.invariant.later, asked.cause.later, sent.cause.later);
    }

pub returns-clause-runs : goal.returns-clause-runs
returns-clause-runs g c =
    let last : c.loop-i.i ≡ MAX_TRIES = omega arith in
    unsettled g.P.Peer.tells c.args.surface.now.bytes
    (errand_of c.args.base.now.bytes c.args.change.now) c.loop-i.epochs c.loop-i.least c.loop-i.i c.args.peer.now
    c.loop-i.peer c.loop-i.invariant.all last c.loop-i.invariant.so_far
