use Rattle.std.proofs.Common.{◌≡◌, length, vec_len, refl, ap, sym, ◌∙◌, arith, rules}
use Rattle.std.proofs.KnownBytes.{Consumes-nil, Consumes-kept}
use Rattle.std.proofs.lemmas.List.{nil_from_length}
use Rattle.std.proofs.lemmas.Result.{err_from_is_err_and}
use Rattle.ov_io.specs.Calls.{each_gave}
use Rattle.ov_io.proofs.Pieces.{while_same}
use Rattle.ov_script.proofs.Needing.{below_more, below_none, below_start, moved_below, none_given, used_below}
use Rattle.ov_script.proofs.body.gather.Goals as goal

pub pieces-init : goal.pieces-init
pieces-init g c = record {
  within = omega arith;
  used = below_start g.S.Source.tells c.args.count c.args.feed.now _ (search rules);
  call = record { same = refl; later = omega arith; read = λ f. absurd f };
}

pub returns-in_err-move_pending-clause-needed : goal.returns-in_err-move_pending-clause-needed
returns-in_err-move_pending-clause-needed g c =
    let p = err_from_is_err_and c.from_residual.result c.from_residual.ensures.1 in
    while_same g.S.Source.tells _ _ _ _ _ _ c.in_err-move_pending.ensures.same (each_gave _ c.pieces.invariant.used.1 (λ e. let is = p.1 in let memory = p.2 in absurd (cc)))

pub returns-then-len-count-clause-bytes : goal.returns-then-len-count-clause-bytes
returns-then-len-count-clause-bytes g c =
    let moved = c.in_ok-move_pending.ensures.moved in
    (sym c.len.ensures ∙ c.if-len-count.true, used_below g.S.Source.tells c.args.feed.now c.pieces.feed c.move_pending.new.feed _ _ moved.0 c.args.count c.pieces.invariant.used c.in_ok-move_pending.ensures.same moved.2 moved.1)

pub returns-then-len-count-clause-needed : goal.returns-then-len-count-clause-needed
returns-then-len-count-clause-needed g c =
    while_same g.S.Source.tells _ _ _ _ _ _ c.in_ok-move_pending.ensures.same (each_gave _ c.pieces.invariant.used.1 (λ e. absurd (cc)))

pub returns-in_err-fill-clause-needed : goal.returns-in_err-fill-clause-needed
returns-in_err-fill-clause-needed g c =
    let olds : length c.pieces.bytes.items ≡ vec_len c.pieces.bytes = omega (arith, c.pieces.bytes.ok.0) in
    let news : length c.move_pending.new.bytes.items ≡ vec_len c.move_pending.new.bytes = omega (arith, c.move_pending.new.bytes.ok.0) in
    let moved = moved_below g.S.Source.tells c.args.feed.now c.pieces.feed c.move_pending.new.feed _ _ c.args.count _ _ olds news c.pieces.invariant.used c.in_ok-move_pending.ensures.same c.in_ok-move_pending.ensures.moved (λ e. c.if-len-count.false (c.len.ensures ∙ e)) in
    below_none g.S.Source.tells c.args.count _ _ c.args.feed.now c.move_pending.new.feed c.fill.new.self _ moved.0 moved.2 c.in_err-fill.ensures.step
    (Consumes-kept _ _ _ _ (Consumes-nil _) c.in_err-fill.ensures.taken.1) tt

pub returns-then-branch-eq0-clause-needed : goal.returns-then-branch-eq0-clause-needed
returns-then-branch-eq0-clause-needed g c =
    let olds : length c.pieces.bytes.items ≡ vec_len c.pieces.bytes = omega (arith, c.pieces.bytes.ok.0) in
    let news : length c.move_pending.new.bytes.items ≡ vec_len c.move_pending.new.bytes = omega (arith, c.move_pending.new.bytes.ok.0) in
    let moved = moved_below g.S.Source.tells c.args.feed.now c.pieces.feed c.move_pending.new.feed _ _ c.args.count _ _ olds news c.pieces.invariant.used c.in_ok-move_pending.ensures.same c.in_ok-move_pending.ensures.moved (λ e. c.if-len-count.false (c.len.ensures ∙ e)) in
    let more = c.in_ok-fill.ensures.taken in
    below_none g.S.Source.tells c.args.count _ _ c.args.feed.now c.move_pending.new.feed c.fill.new.self _ moved.0 moved.2 c.in_ok-fill.ensures.step
    (none_given _ _ more.0 more.3 (nil_from_length more.0 (more.2 ∙ c.if-branch-eq0.true))) tt

pub pieces-preserved : goal.pieces-preserved
pieces-preserved g c =
    let inv = c.pieces.invariant in
    let olds : length c.pieces.bytes.items ≡ vec_len c.pieces.bytes = omega (arith, c.pieces.bytes.ok.0) in
    let news : length c.move_pending.new.bytes.items ≡ vec_len c.move_pending.new.bytes = omega (arith, c.move_pending.new.bytes.ok.0) in
    let moved = moved_below g.S.Source.tells c.args.feed.now c.pieces.feed c.move_pending.new.feed _ _ c.args.count _ _ olds news c.pieces.invariant.used c.in_ok-move_pending.ensures.same c.in_ok-move_pending.ensures.moved (λ e. c.if-len-count.false (c.len.ensures ∙ e)) in
    let more = c.in_ok-fill.ensures.taken in
    record {
      within = moved.1;
      used = below_more g.S.Source.tells c.args.count c.args.feed.now c.move_pending.new.feed c.fill.new.self _ more.0 moved.0 moved.2 c.in_ok-fill.ensures.step
          (record { pending = more.1; source = more.3 }) (λ none. c.if-branch-eq0.false (sym more.2 ∙ ap length none));
      call = record {
        same = c.in_ok-fill.ensures.same ∙ ap g.S.Source.tells.borrow c.in_ok-move_pending.ensures.same ∙ inv.call.same;
        later = omega (arith, inv.call.later, ap g.S.Source.tells.faults c.in_ok-move_pending.ensures.same, c.in_ok-fill.ensures.cause.later);
        read = λ f. absurd f;
      };
    }
