use Rattle.std.proofs.Common.{rules}
use Rattle.ov_session.specs.declared.alone.Alone.{Alone}
use Rattle.ov_session.specs.Alone.{AnswersOne, alone}
use Rattle.ov_session.specs.Ends.{Serves}
use Rattle.ov_session.specs.Links.{link}
use Rattle.ov_session.specs.Tells.{AskerTells}
use Rattle.ov_session.proofs.Mapping.{serves_so}
use Rattle.ov_session.proofs.each.serve_alone.Goals as goal

pub returns : goal.returns
returns g c =
    let V = g.row.V.Denot in
    let tells = link g.L.Source.tells g.L.Sink.tells in
    let by_loan : AskerTells (Alone V) = record {
      asks = λ a request reply b. AnswersOne g.V.Answerer.tells a.value.now request reply b.value.now;
      ready = λ a. Unit {0};
      spent = λ a. ⊥;
      borrow = λ a. a.value.ghost_name;
    } in
    let now = c.serve_one.new.asker.value.now in
    let served : Serves (alone g.V.Answerer.tells) c.args.value.now now (tells c.args.stream.now) (tells c.serve_one.new.stream) c.serve_one.result =
    serves_so by_loan (alone g.V.Answerer.tells)
    (λ (a : Alone V). a.value.now) (λ a b request reply asked. asked) (λ a none. none)
    _ c.serve_one.new.asker (tells c.args.stream.now) (tells c.serve_one.new.stream)
    c.serve_one.result c.serve_one.ensures.serves in
    search rules
