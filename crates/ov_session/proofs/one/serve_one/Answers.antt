use Rattle.std.proofs.Common.{◌∙◌, ℕ, refl, subst, sym, arith}
use Rattle.ov_session.specs.Gates.{gated}
use Rattle.ov_session.specs.Links.{link}
use Rattle.ov_session.specs.Steps.{Going, fresh}
use Rattle.ov_session.proofs.Gates.{serves_ungated}
use Rattle.ov_session.proofs.Going.{begins, wants_at_once}
use Rattle.ov_session.proofs.one.serve_one.Goals as goal

pub returns-in-Err-clause-serves : goal.returns-in-Err-clause-serves
returns-in-Err-clause-serves g c =
    let tells = link g.L.Source.tells g.L.Sink.tells in
    wants_at_once g.A.Asker.tells c.args.asker.now (tells c.args.stream.now)

pub returns-in-Err-clause-told : goal.returns-in-Err-clause-told
returns-in-Err-clause-told g c =
    let asks = gated g.A.Asker.tells (g.G.Gate.was_told c.args.gate.now c.args.session g.row.A.Denot) in
    let tells = link g.L.Source.tells g.L.Sink.tells in
    record { next = 0; serves = wants_at_once asks (c.args.asker.now, 0) (tells c.args.stream.now) }

pub returns-in-Err-read_on-clause-told : goal.returns-in-Err-read_on-clause-told
returns-in-Err-read_on-clause-told g c =
    let tells = link g.L.Source.tells g.L.Sink.tells in
    record {
      next = c.read_on.new.reading.asked;
      serves = c.in-Err-read_on.ensures.goes (c.args.asker.now, 0) (tells c.args.stream.now)
          c.pieces.invariant.going;
    }

pub returns-in-Err-read_on-clause-serves : goal.returns-in-Err-read_on-clause-serves
returns-in-Err-read_on-clause-serves g c =
    let tells = link g.L.Source.tells g.L.Sink.tells in
    serves_ungated g.A.Asker.tells
    (g.G.Gate.was_told c.args.gate.now c.args.session g.row.A.Denot)
    c.args.asker.now c.read_on.new.asker (tells c.args.stream.now) (tells c.read_on.new.stream)
    c.in-Err-read_on.end (returns-in-Err-read_on-clause-told g c)

pub returns-in-Err-read_on-clause-later : goal.returns-in-Err-read_on-clause-later
returns-in-Err-read_on-clause-later g c =
    let before = c.pieces.invariant.going.later in
    let now = c.in-Err-read_on.ensures.later in
    record { reads = omega (arith, before.reads, now.reads); writes = omega (arith, before.writes, now.writes) }

pub returns-in-Err-read_on-clause-same : goal.returns-in-Err-read_on-clause-same
returns-in-Err-read_on-clause-same g c =
    let before = c.pieces.invariant.same in
    let now = c.in-Err-read_on.ensures.same in
    record { reads = now.reads ∙ before.reads; writes = now.writes ∙ before.writes }

pub returns-in-Err-read_on-clause-asker : goal.returns-in-Err-read_on-clause-asker
returns-in-Err-read_on-clause-asker g c = c.in-Err-read_on.ensures.asker ∙ c.pieces.invariant.asker

pub pieces-init : goal.pieces-init
pieces-init g c =
    let asks = gated g.A.Asker.tells (g.G.Gate.was_told c.args.gate.now c.args.session g.row.A.Denot) in
    let tells = link g.L.Source.tells g.L.Sink.tells in
    let first : g.row.A.Denot × ℕ = (c.args.asker.now, 0) in
    let here = tells c.args.stream.now in
    let made = c.in-Ok.ensures in
    let reading = c.in-Ok.reading in
    record {
      going = subst (λ (n : ℕ). Going asks first (c.args.asker.now, n) here here reading.decoder reading.taken)
          (sym made.2)
          (subst (λ d. Going asks first first here here d reading.taken) (sym made.0)
          (subst (λ n. Going asks first first here here fresh n) (sym made.1)
          (begins asks first here)));
      same = record { reads = refl; writes = refl };
      ready = c.requires;
      asker = refl;
      empty = made.3;
    }
