use Rattle.std.proofs.Common.{ap, is_err, refl, ◌≡◌, ◌≤◌, length, arith}
use Rattle.std.proofs.lemmas.Result.{err_from_is_err_and}
use Rattle.ov_script.proofs.Bodies.{lf_past, other_past, other_behind, taken_for_lf}
use Rattle.ov_io.proofs.Pieces.{while_as}
use Rattle.ov_script.proofs.Needing.{below_wider}
use Rattle.ov_script.proofs.Using.{uses_trans}
use Rattle.ov_script.proofs.body.body_of.Goals as goal
use Rattle.ov_script.proofs.body.body_of.Goals.{in_default-2-via-in-Lf+else-size-room-2, in_default-2-via-in-Other+else-size-room-3}

pub returns-in_err-bytes-clause-needed : goal.returns-in_err-bytes-clause-needed
returns-in_err-bytes-clause-needed g c =
    let p = err_from_is_err_and c.from_residual.result c.from_residual.ensures.1 in
    let gathered = c.count_of.ensures in
    below_wider g.S.Source.tells _ _ _ _ _ _ _ (omega (arith, gathered))
    (while_as g.S.Source.tells _ _ _ _ _ _ _ (λ e. ap is_err p.1) (λ e. let is = p.1 in let that = p.2 in cc) c.in_err-bytes.ensures.needed)

pub returns-in_default-clause-needed : goal.returns-in_default-clause-needed
returns-in_default-clause-needed g c =
    let gathered = c.count_of.ensures in
    below_wider g.S.Source.tells _ _ _ _ _ _ _ (omega (arith, gathered))
    (while_as g.S.Source.tells _ _ _ _ _ _ _ (λ e. refl) (λ e. absurd (cc)) c.in_ok-bytes.ensures.needed)

pub returns-then-size-room-clause-needed : goal.returns-then-size-room-clause-needed
returns-then-size-room-clause-needed g c =
    let gathered = c.count_of.ensures in
    below_wider g.S.Source.tells _ _ _ _ _ _ _ (omega (arith, gathered))
    (while_as g.S.Source.tells _ _ _ _ _ _ _ (λ e. refl) (λ e. absurd (cc)) c.in_ok-bytes.ensures.needed)

pub returns-in_err-take_lf-clause-needed : goal.returns-in_err-take_lf-clause-needed
returns-in_err-take_lf-clause-needed g c =
    let all = rw c.in-Some.is at c.in_ok-bytes.ensures.bytes in
    let within : c.args.size ≤ c.args.room = c.if-size-room.false in
    let count : length c.in-Some.bytes.items ≡ c.args.size = omega (arith, all.0, c.count_of.ensures, within, c.in-Some.bytes.ok.0) in
    let p = err_from_is_err_and c.from_residual-in_err-take_lf.result c.from_residual-in_err-take_lf.ensures.1 in
    while_as g.S.Source.tells _ _ _ _ _ _ _ (λ e. ap is_err p.1) (λ e. let is = p.1 in let that = p.2 in cc)
    (taken_for_lf g.S.Source.tells c.args.room c.args.size c.args.feed.now c.gather.new.feed _ all.1.0 count within _ _ _ _ c.count_of.ensures all.1.1 c.in_err-take_lf.ensures.needed)

pub returns-in-Nothing-clause-needed : goal.returns-in-Nothing-clause-needed
returns-in-Nothing-clause-needed g c =
    let all = rw c.in-Some.is at c.in_ok-bytes.ensures.bytes in
    let within : c.args.size ≤ c.args.room = c.if-size-room.false in
    let count : length c.in-Some.bytes.items ≡ c.args.size = omega (arith, all.0, c.count_of.ensures, within, c.in-Some.bytes.ok.0) in
    while_as g.S.Source.tells _ _ _ _ _ _ _ (λ e. refl) (λ e. absurd (cc))
    (taken_for_lf g.S.Source.tells c.args.room c.args.size c.args.feed.now c.gather.new.feed _ all.1.0 count within _ _ _ _ c.count_of.ensures all.1.1 c.in_ok-take_lf.ensures.needed)

pub returns-in-Lf-clause-needed : goal.returns-in-Lf-clause-needed
returns-in-Lf-clause-needed g c =
    let all = rw c.in-Some.is at c.in_ok-bytes.ensures.bytes in
    let within : c.args.size ≤ c.args.room = c.if-size-room.false in
    let count : length c.in-Some.bytes.items ≡ c.args.size = omega (arith, all.0, c.count_of.ensures, within, c.in-Some.bytes.ok.0) in
    while_as g.S.Source.tells _ _ _ _ _ _ _ (λ e. let is = c.in-Lf.is in absurd (e cc)) (λ e. absurd (cc))
    (taken_for_lf g.S.Source.tells c.args.room c.args.size c.args.feed.now c.gather.new.feed _ all.1.0 count within _ _ _ _ c.count_of.ensures all.1.1 c.in_ok-take_lf.ensures.needed)

pub returns-in-Other-clause-needed : goal.returns-in-Other-clause-needed
returns-in-Other-clause-needed g c =
    let all = rw c.in-Some.is at c.in_ok-bytes.ensures.bytes in
    let within : c.args.size ≤ c.args.room = c.if-size-room.false in
    let count : length c.in-Some.bytes.items ≡ c.args.size = omega (arith, all.0, c.count_of.ensures, within, c.in-Some.bytes.ok.0) in
    while_as g.S.Source.tells _ _ _ _ _ _ _ (λ e. refl) (λ e. absurd (cc))
    (taken_for_lf g.S.Source.tells c.args.room c.args.size c.args.feed.now c.gather.new.feed _ all.1.0 count within _ _ _ _ c.count_of.ensures all.1.1 c.in_ok-take_lf.ensures.needed)

pub returns-in_default-2-clause-needed : goal.returns-in_default-2-clause-needed
returns-in_default-2-clause-needed g c =
    let all = rw c.in-Some.is at c.in_ok-bytes.ensures.bytes in
    let within : c.args.size ≤ c.args.room = c.if-size-room.false in
    let count : length c.in-Some.bytes.items ≡ c.args.size = omega (arith, all.0, c.count_of.ensures, within, c.in-Some.bytes.ok.0) in
    while_as g.S.Source.tells _ _ _ _ _ _ _ (λ e. refl) (λ e. absurd (cc))
    (taken_for_lf g.S.Source.tells c.args.room c.args.size c.args.feed.now c.gather.new.feed _ all.1.0 count within _ _ _ _ c.count_of.ensures all.1.1 c.in_ok-take_lf.ensures.needed)

pub returns-in-Lf-clause-found : goal.returns-in-Lf-clause-found
returns-in-Lf-clause-found g c =
    let all = rw c.in-Some.is at c.in_ok-bytes.ensures.bytes in
    let within : c.args.size ≤ c.args.room = c.if-size-room.false in
    let count : length c.in-Some.bytes.items ≡ c.args.size = omega (arith, all.0, c.count_of.ensures, within, c.in-Some.bytes.ok.0) in
    let lf = rw c.in-Lf.is at c.in_ok-take_lf.ensures.found in
    (omega (arith, count, c.in-Some.bytes.ok.0), c.if-size-room-2.true, uses_trans g.S.Source.tells _ _ _ _ _ all.1.0 lf)

pub returns-in-Other-clause-found : goal.returns-in-Other-clause-found
returns-in-Other-clause-found g c =
    let all = rw c.in-Some.is at c.in_ok-bytes.ensures.bytes in
    let within : c.args.size ≤ c.args.room = c.if-size-room.false in
    let count : length c.in-Some.bytes.items ≡ c.args.size = omega (arith, all.0, c.count_of.ensures, within, c.in-Some.bytes.ok.0) in
    let other = rw c.in-Other.is at c.in_ok-take_lf.ensures.found in
    other_behind g.S.Source.tells c.args.room c.args.size c.args.feed.now c.gather.new.feed _ all.1.0 count within c.if-size-room-3.true other

pub returns-in_default-2-clause-found : goal.returns-in_default-2-clause-found
returns-in_default-2-clause-found g c =
    let all = rw c.in-Some.is at c.in_ok-bytes.ensures.bytes in
    let within : c.args.size ≤ c.args.room = c.if-size-room.false in
    let count : length c.in-Some.bytes.items ≡ c.args.size = omega (arith, all.0, c.count_of.ensures, within, c.in-Some.bytes.ok.0) in
    elim c.in_default-2.branch [
      | in_default-2-via-in-Lf+else-size-room-2 w ↦
          let lf = rw w.in-Lf.is at c.in_ok-take_lf.ensures.found in
          lf_past g.S.Source.tells c.args.room c.args.size c.args.feed.now c.gather.new.feed _ all.1.0 count within c.take_lf.new.feed w.if-size-room-2.false lf
      | in_default-2-via-in-Other+else-size-room-3 w ↦
          let other = rw w.in-Other.is at c.in_ok-take_lf.ensures.found in
          other_past g.S.Source.tells c.args.room c.args.size c.args.feed.now c.gather.new.feed _ all.1.0 count within w.if-size-room-3.false other
    ]
