use Rattle.std.proofs.Common.{rules, ◌≡◌}
use Rattle.ov_session.specs.Ends.{Serves}
use Rattle.ov_session.specs.Links.{link}
use Rattle.ov_session.specs.Tells.{AskerTells}
use Rattle.ov_session.proofs.Mapping.{serves_so}
use Rattle.ov_turn.specs.Passes.{IsPassOf}
use Rattle.ov_serving.specs.declared.asker.SessionPass.{SessionPass}
use Rattle.ov_serving.specs.Calls.{CallsOnce, in_turns}
use Rattle.ov_serving.specs.Sessions.{IsOfSame}
use Rattle.ov_serving.proofs.Calls.{serves_same}
use Rattle.ov_serving.proofs.session.serve_by_pass.Goals as goal

pub returns : goal.returns
returns g c =
    let V = g.row.V.Denot in
    let answerer = g.V.Answerer.tells in
    let tells = link g.L.Source.tells g.L.Sink.tells in
    let by_loan : AskerTells (SessionPass V) = record {
      asks = λ a request reply b. CallsOnce answerer a.pass.now request reply b.pass.now;
      ready = λ a. IsPassOf a.shared.now a.pass.now;
      spent = λ a. a.pass.now.calls ≡ 4294967295;
      borrow = λ a. a.pass.ghost_name;
    } in
    let now = c.serve_one-end.new.asker.pass.now in
    let served : Serves (in_turns answerer) c.args.pass.now now (tells c.args.stream.now) (tells c.serve_one-end.new.stream) c.serve_one-end.result =
    serves_so by_loan (in_turns answerer)
    (λ (a : SessionPass V). a.pass.now) (λ a b request reply asked. asked) (λ a is. is)
    _ c.serve_one-end.new.asker (tells c.args.stream.now) (tells c.serve_one-end.new.stream)
    c.serve_one-end.result c.serve_one-end.ensures.serves in
    let same : IsOfSame c.args.pass.now now =
    serves_same answerer c.args.pass.now now (tells c.args.stream.now) (tells c.serve_one-end.new.stream) c.serve_one-end.result served in
    search rules
