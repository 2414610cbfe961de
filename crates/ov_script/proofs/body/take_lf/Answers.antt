use Rattle.std.proofs.Common.{◌≡◌, ◌<◌, length, ap, ◌∙◌, sym, arith}
use Rattle.std.proofs.lemmas.Bool.Decides.{nat_tests}
use Rattle.std.proofs.lemmas.Grind.{common_steps}
use Rattle.std.proofs.lemmas.Result.{err_from_is_err_and}
use Rattle.std.proofs.KnownBytes.{Consumes-nil, Consumes-kept}
use Rattle.ov_io.specs.Calls.{no_piece, each_gave}
use Rattle.ov_io.proofs.Pieces.{while_same}
use Rattle.ov_script.specs.Feed.{Fed}
use Rattle.ov_script.proofs.Needing.{below_at_once, below_once, none_given, none_more, some_given}
use Rattle.ov_script.proofs.body.take_lf.Goals as goal
use Rattle.ov_script.proofs.body.take_lf.Goals.{then-is_empty+in_ok-fill, else-is_empty}

pub returns-in_err-fill-clause-needed : goal.returns-in_err-fill-clause-needed
returns-in_err-fill-clause-needed g c =
    let same : length c.pending.result.now ≡ length c.args.feed.now.pending = ap length c.pending.ensures in
    let small : length c.args.feed.now.pending < 1 = grind (arith, nat_tests, common_steps) in
    let p = err_from_is_err_and c.from_residual.result c.from_residual.ensures.1 in
    below_at_once g.S.Source.tells 1 _ _ _ _ _ small c.in_err-fill.ensures.step (Consumes-kept _ _ _ _ (Consumes-nil _) c.in_err-fill.ensures.taken.1) (λ e. let is = p.1 in absurd (cc))

pub returns-in-empty-clause-needed : goal.returns-in-empty-clause-needed
returns-in-empty-clause-needed g c =
    let same : length c.pending.result.now ≡ length c.args.feed.now.pending = ap length c.pending.ensures in
    elim c.if-is_empty.branch [
      | then-is_empty+in_ok-fill w ↦
          let empty = w.if-is_empty.true in
          let small : length c.args.feed.now.pending < 1 = grind (arith, nat_tests, common_steps) in
          let more = w.in_ok-fill.ensures.taken in
          let stands : length w.fill.new.self.pending ≡ length c.pending-2.result.now = ap length (sym (c.pending-2.ensures ∙ ap (λ (f : Fed _). f.pending) w.feed-is)) in
          while_same g.S.Source.tells _ _ _ _ _ _ (ap (λ (f : Fed _). f.source) w.feed-is) (below_at_once g.S.Source.tells 1 _ _ _ _ _ small w.in_ok-fill.ensures.step
          (none_given _ _ more.0 more.3 (none_more _ _ more.0 more.1 (omega (arith, stands, c.in-empty.len_below)))) (λ e. absurd (cc)))
      | else-is_empty w ↦ each_gave _ (no_piece _ (ap (λ (f : Fed _). f.source) w.feed-is)) (λ e. absurd (cc))
    ]

pub returns-in-10-clause-needed : goal.returns-in-10-clause-needed
returns-in-10-clause-needed g c =
    let same : length c.pending.result.now ≡ length c.args.feed.now.pending = ap length c.pending.ensures in
    elim c.if-is_empty.branch [
      | then-is_empty+in_ok-fill w ↦
          let empty = w.if-is_empty.true in
          let small : length c.args.feed.now.pending < 1 = grind (arith, nat_tests, common_steps) in
          let more = w.in_ok-fill.ensures.taken in
          let stands : length w.fill.new.self.pending ≡ length c.pending-2.result.now = ap length (sym (c.pending-2.ensures ∙ ap (λ (f : Fed _). f.pending) w.feed-is)) in
          while_same g.S.Source.tells _ _ _ _ _ _ (ap (λ (f : Fed _). f.source) c.advance.ensures ∙ ap (λ (f : Fed _). f.source) w.feed-is) (below_once g.S.Source.tells 1 _ _ _ _ _ more.0 small w.in_ok-fill.ensures.step more.3
          (some_given _ _ more.0 small more.1 (omega (arith, stands, c.in-10.len_at_least))) (λ e. absurd (cc)))
      | else-is_empty w ↦ each_gave _ (no_piece _ (ap (λ (f : Fed _). f.source) c.advance.ensures ∙ ap (λ (f : Fed _). f.source) w.feed-is)) (λ e. absurd (cc))
    ]

pub returns-in_default-clause-needed : goal.returns-in_default-clause-needed
returns-in_default-clause-needed g c =
    let same : length c.pending.result.now ≡ length c.args.feed.now.pending = ap length c.pending.ensures in
    elim c.if-is_empty.branch [
      | then-is_empty+in_ok-fill w ↦
          let empty = w.if-is_empty.true in
          let small : length c.args.feed.now.pending < 1 = grind (arith, nat_tests, common_steps) in
          let more = w.in_ok-fill.ensures.taken in
          let stands : length w.fill.new.self.pending ≡ length c.pending-2.result.now = ap length (sym (c.pending-2.ensures ∙ ap (λ (f : Fed _). f.pending) w.feed-is)) in
          while_same g.S.Source.tells _ _ _ _ _ _ (ap (λ (f : Fed _). f.source) w.feed-is) (below_once g.S.Source.tells 1 _ _ _ _ _ more.0 small w.in_ok-fill.ensures.step more.3
          (some_given _ _ more.0 small more.1 (omega (arith, stands, c.in_default.len_at_least))) (λ e. absurd (cc)))
      | else-is_empty w ↦ each_gave _ (no_piece _ (ap (λ (f : Fed _). f.source) w.feed-is)) (λ e. absurd (cc))
    ]
