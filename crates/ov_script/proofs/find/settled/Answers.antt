use Rattle.std.proofs.Common.{◌≤◌, ◌∷◌, length, arith}
use Rattle.std.proofs.lemmas.Grind.{common_steps}
use Rattle.std.proofs.lemmas.Result.{err_from_is_err_and}
use Rattle.ov_script.proofs.ByteTexts.{lacks_before, Lacks-take}
use Rattle.ov_script.proofs.Fronts.{settled_front}
use Rattle.ov_script.proofs.find.settled.Goals as goal

pub returns-in_err-line_at-in-Some-clause-settled : goal.returns-in_err-line_at-in-Some-clause-settled
returns-in_err-line_at-in-Some-clause-settled c =
    let p = err_from_is_err_and c.from_residual.result c.from_residual.ensures.1 in
    rw (p.1, p.2) (λ left. c.in_err-line_at-in-Some.ensures.found c.args.room left c.if-end-room.true)

pub returns-in_ok-line_at-in-Some-clause-settled : goal.returns-in_ok-line_at-in-Some-clause-settled
returns-in_ok-line_at-in-Some-clause-settled c = λ left. c.in_ok-line_at-in-Some.ensures.found c.args.room left c.if-end-room.true

pub front_of-requires-clause-no_lf : goal.front_of-requires-clause-no_lf
front_of-requires-clause-no_lf c =
    let f = c.in-Some.ensures.found in
    let count = f.3 in
    lacks_before 10 _ _ f.0 (10 ∷ f.1) f.2 f.4 (grind (arith, common_steps))

pub front_of-requires-then-bytes-room-clause-no_lf : goal.front_of-requires-then-bytes-room-clause-no_lf
front_of-requires-then-bytes-room-clause-no_lf c = Lacks-take 10 _ _ c.in-None.ensures.none

pub returns-else-bytes-room-clause-settled : goal.returns-else-bytes-room-clause-settled
returns-else-bytes-room-clause-settled c =
    let within : length c.args.bytes.now ≤ c.args.room = grind (arith, common_steps) in
    settled_front c.args.room c.args.bytes.now _ c.args.front c.args.seen _ within c.in-None.ensures.none c.requires.front c.split_at.ensures.back c.open_or_bad.ensures
