use Rattle.std.proofs.Common.{◌≡◌, [], Ok, is_err, append-nil, length, arith, ap, sym, refl, ◌∙◌}
use Rattle.std.proofs.lemmas.List.{nil_from_length}
use Rattle.std.proofs.lemmas.Result.{err_from_is_err_and}
use Rattle.std.proofs.KnownBytes.{Consumes-nil, Consumes-kept}
use Rattle.ov_io.specs.Calls.{no_piece, each_gave}
use Rattle.ov_io.proofs.Pieces.{pieces_same}
use Rattle.ov_script.specs.Feed.{Fed, Takes, text_of}
use Rattle.ov_script.specs.Finding.{Finds}
use Rattle.ov_script.specs.NoItem.{IsWhyNone}
use Rattle.ov_script.specs.declared.front.Front.TheVariants.{Start}
use Rattle.ov_script.specs.LineFronts.{run}
use Rattle.ov_script.proofs.Needing.{needs_more, needs_none, none_given}
use Rattle.ov_script.proofs.Taking.{seen_again, Takes-trans, seen_behind, none_taken, why_kept, why_settled}
use Rattle.ov_script.proofs.WholeItems.{line_used, line_within}
use Rattle.ov_script.proofs.find.find.Goals as goal

pub pieces-init : goal.pieces-init
pieces-init g c = record {
  within = omega arith;
  no_lf = tt;
  front = refl;
  taken = ([], record { pending = sym (append-nil _); source = Consumes-nil _ }, no_piece _ refl);
  call = record { same = refl; later = omega arith; read = λ f. absurd f };
}

pub returns-in_err-line-clause-found : goal.returns-in_err-line-clause-found
returns-in_err-line-clause-found g c =
    let p = err_from_is_err_and c.from_residual.result c.from_residual.ensures.1 in
    rw (p.1, p.2) (why_settled g.S.Source.tells c.args.room c.args.feed.now c.pieces.feed _ _ _ c.pieces.invariant.taken.1 c.pending-bytes.ensures c.in_err-line.ensures.settled)

pub returns-in_err-line-clause-needed : goal.returns-in_err-line-clause-needed
returns-in_err-line-clause-needed g c =
    let p = err_from_is_err_and c.from_residual.result c.from_residual.ensures.1 in
    each_gave _ c.pieces.invariant.taken.2 (λ e. c.in_err-line.ensures.no_fault (let is = p.1 in let that = p.2 in cc))

pub advance-requires : goal.advance-requires
advance-requires g c =
    let told = rw c.in-Whole.is at c.in_ok-line.ensures.settled in
    let here : Finds c.args.room c.pieces.feed.pending (g.S.Source.tells.left c.pieces.feed.source) (Ok c.in-Whole.line) =
    rw (← c.pending-bytes.ensures) (told (g.S.Source.tells.left c.pieces.feed.source)) in
    line_within g.S.Source.tells c.args.room c.pieces.feed c.in-Whole.line here

pub returns-in-Whole-clause-found : goal.returns-in-Whole-clause-found
returns-in-Whole-clause-found g c =
    let inv = c.pieces.invariant in
    let told = rw c.in-Whole.is at c.in_ok-line.ensures.settled in
    let here : Finds c.args.room c.pieces.feed.pending (g.S.Source.tells.left c.pieces.feed.source) (Ok c.in-Whole.line) =
    rw (← c.pending-bytes.ensures) (told (g.S.Source.tells.left c.pieces.feed.source)) in
    line_used g.S.Source.tells c.args.room c.args.feed.now c.pieces.feed c.advance.new.self _ c.in-Whole.line inv.taken.1 here c.advance.ensures inv.taken.2

pub returns-in-Whole-clause-needed : goal.returns-in-Whole-clause-needed
returns-in-Whole-clause-needed g c =
    each_gave _ (pieces_same g.S.Source.tells _ _ _ _ _ (ap (λ (f : Fed _). f.source) c.advance.ensures) c.pieces.invariant.taken.2) (λ e. absurd (cc))

pub returns-in_err-fill-in-Open-clause-needed : goal.returns-in_err-fill-in-Open-clause-needed
returns-in_err-fill-in-Open-clause-needed g c =
    let opened = rw c.in-Open.is at c.in_ok-line.ensures.settled in
    let unsettled = rw c.pending-bytes.ensures at opened.1.unsettled in
    let inv = c.pieces.invariant in
    let p = err_from_is_err_and c.from_residual-in_err-fill-in-Open.result c.from_residual-in_err-fill-in-Open.ensures.1 in
    needs_none g.S.Source.tells c.args.room _ _ c.args.feed.now c.pieces.feed c.fill.new.self _ inv.taken.1 inv.taken.2 unsettled c.in_err-fill-in-Open.ensures.step
    (Consumes-kept _ _ _ _ (Consumes-nil _) c.in_err-fill-in-Open.ensures.taken.1) (ap is_err p.1)

pub returns-then-branch-eq0-clause-found : goal.returns-then-branch-eq0-clause-found
returns-then-branch-eq0-clause-found g c =
    let opened = rw c.in-Open.is at c.in_ok-line.ensures.settled in
    let unsettled = rw c.pending-bytes.ensures at opened.1.unsettled in
    let more = c.in_ok-fill-in-Open.ensures.taken in
    let zero : c.in_ok-fill-in-Open.field-0 ≡ 0 = c.if-branch-eq0.true in
    let same = none_taken _ _ more.0 more.1 (more.2 ∙ zero) in
    let why : IsWhyNone c.args.room (text_of g.S.Source.tells c.fill.new.self) c.at_end.result =
    c.at_end.ensures.found _ _ _ (ap length (same ∙ sym c.pending-bytes.ensures)) (rw same unsettled) (more.4 zero) in
    why_kept g.S.Source.tells c.args.room c.args.feed.now c.fill.new.self _ _
    (Takes-trans _ _ _ _ _ _ c.pieces.invariant.taken.1 (record { pending = more.1; source = more.3 })) why

pub returns-then-branch-eq0-clause-needed : goal.returns-then-branch-eq0-clause-needed
returns-then-branch-eq0-clause-needed g c =
    let opened = rw c.in-Open.is at c.in_ok-line.ensures.settled in
    let unsettled = rw c.pending-bytes.ensures at opened.1.unsettled in
    let more = c.in_ok-fill-in-Open.ensures.taken in
    let zero : c.in_ok-fill-in-Open.field-0 ≡ 0 = c.if-branch-eq0.true in
    let inv = c.pieces.invariant in
    needs_none g.S.Source.tells c.args.room _ _ c.args.feed.now c.pieces.feed c.fill.new.self _ inv.taken.1 inv.taken.2 unsettled c.in_ok-fill-in-Open.ensures.step
    (none_given _ _ more.0 more.3 (nil_from_length more.0 (more.2 ∙ zero))) refl

pub pieces-preserved : goal.pieces-preserved
pieces-preserved g c =
    let inv = c.pieces.invariant in
    let opened = rw c.in-Open.is at c.in_ok-line.ensures.settled in
    let unsettled = rw c.pending-bytes.ensures at opened.1.unsettled in
    let no_lf = rw c.pending-bytes.ensures at opened.1.no_lf in
    let more = c.in_ok-fill-in-Open.ensures.taken in
    let takes : Takes g.S.Source.tells c.pieces.feed c.fill.new.self more.0 = record { pending = more.1; source = more.3 } in
    let behind = seen_behind _ _ _ more.1 no_lf in
    record {
      within = rw c.pending-bytes.ensures behind.0;
      no_lf = rw c.pending-bytes.ensures behind.1;
      front = opened.0 ∙ ap (run Start) (seen_again _ _ _ _ c.pending-bytes.ensures more.1);
      taken = (
        _,
        Takes-trans _ _ _ _ _ _ inv.taken.1 takes,
        needs_more g.S.Source.tells c.args.room c.args.feed.now c.pieces.feed c.fill.new.self _ more.0 inv.taken.1 inv.taken.2 unsettled c.in_ok-fill-in-Open.ensures.step more.3
            (λ none. c.if-branch-eq0.false (sym more.2 ∙ ap length none)),
      );
      call = record {
        same = c.in_ok-fill-in-Open.ensures.same ∙ inv.call.same;
        later = omega (arith, inv.call.later, c.in_ok-fill-in-Open.ensures.cause.later);
        read = λ f. absurd f;
      };
    }
