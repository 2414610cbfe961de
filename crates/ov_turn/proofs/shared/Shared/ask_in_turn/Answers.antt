use Rattle.std.proofs.Common.{rules, ◌≡◌, ◌∙◌, ◌||◌, [], ◌∷◌, true, sym, subst}
use Rattle.ov_turn.specs.Steps.{SeatState, failed_after}
use Rattle.ov_turn.proofs.Lists.{only_one}
use Rattle.ov_turn.proofs.Sticking.{left_stuck, refuses_all}
use Rattle.ov_turn.proofs.shared.Shared.ask_in_turn.Goals as goal

pub pass_on-requires-clause-stuck : goal.pass_on-requires-clause-stuck
pass_on-requires-clause-stuck g c =
    let tells = g.A.Answerer.tells in
    let took = c.wait_turn.ensures.takes in
    let held = took.3 in
    let answered = c.answer_here-done.ensures.answers held.1 held.3 in
    let done = c.answer_here-done.result in
    let request = c.args.request.now in
    let reply = c.answer_here-done.new.reply.items in
    let seat = c.if-is_ok.seat.me in
    let sent : c.as_slice-told.result.now ≡ reply = search rules in
    let known : seat.0.stuck ≡ took.1 = search rules in
    let carries : seat.1 ≡ (0, answered.0) ∷ [] = search rules in
    λ value has is. subst tells.stuck (only_one seat.1 answered.0 value carries has)
    (left_stuck tells held.1 answered.0 took.1 request reply (took.4 held.1 held.3) done answered.2
    (sym (λ i. failed_after done request (sent i) || known i) ∙ is))

pub returns-clause-refuses : goal.returns-clause-refuses
returns-clause-refuses g c =
    let tells = g.A.Answerer.tells in
    let took = c.wait_turn.ensures.takes in
    let held = took.3 in
    let answered = c.answer_here-done.ensures.answers held.1 held.3 in
    let failed = c.args.seat.now.me.0.knowledge.failed in
    let known : failed ≡ true → took.1 ≡ true =
    subst (λ (m : SeatState g.row.A.Denot). m.0.knowledge.failed ≡ true → took.1 ≡ true)
    c.draw-ticket.ensures.view took.5 in
    refuses_all tells held.1 answered.0 took.1 c.args.request.now c.answer_here-done.new.reply.items
    (took.4 held.1 held.3) failed known c.answer_here-done.result answered.2
