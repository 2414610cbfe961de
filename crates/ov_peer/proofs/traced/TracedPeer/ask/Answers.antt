use Rattle.std.proofs.Common.{◌∙◌, refl, sym, subst}
use Rattle.ov_wire.specs.Frames.{framed}
use Rattle.ov_peer.specs.Tracing.{unasked, unput}
use Rattle.ov_peer.proofs.Fronts.{put_part}
use Rattle.ov_peer.proofs.traced.TracedPeer.ask.Goals as goal

pub returns-in-Err-clause-failed : goal.returns-in-Err-clause-failed
returns-in-Err-clause-failed g c =
    let front = c.in-Err.ensures.bytes in
    (unasked refl front.0 front.1, c.put_frame.ensures.same)

pub returns-in-Err-put_frame-clause-failed : goal.returns-in-Err-put_frame-clause-failed
returns-in-Err-put_frame-clause-failed g c =
    let front = c.in-Err-put_frame.ensures.bytes in
    let both = put_part (g.T.Sink.tells.written c.args.self.now.sink) (g.T.Sink.tells.written c.put_frame.new.sink) (g.T.Sink.tells.written c.put_frame-2.new.sink)
    (framed c.args.request.now) (framed c.deref.result.now) c.in-Ok.ensures.bytes front in (
      unput c.deref.result.now both.0
          (subst
          (λ r. g.P.Peer.tells.asked c.args.self.now.peer c.args.request.now r c.ask.new.self)
          (sym c.deref.ensures.value) c.in_ok-ask.ensures.asked) both.1,
      c.put_frame-2.ensures.same ∙ c.put_frame.ensures.same,
    )
