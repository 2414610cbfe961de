-- All that a traced peer tells, by what its peer and its sink tell.
use Rattle.std.specs.Prelude.{◌≡◌, ◌+◌}
use Rattle.ov_io.specs.Tells.{SinkTells}
use Rattle.ov_peer.specs.Leaving.{fault_leaves}
use Rattle.ov_peer.specs.Tells.{PeerTells}
use Rattle.ov_peer.specs.Tracing.{TracesAsk, TracesFault}
use Rattle.ov_peer.specs.declared.traced.Traced.{Traced}

-- both frames of an ask are put; the sink stays lent as it was
abbrev pub traced_tells : {P T : Type 0} → PeerTells P → SinkTells T → PeerTells (Traced P T)
traced_tells peer sink = record {
  asked = λ p request reply q.
      TracesAsk peer p.peer q.peer (sink.written p.sink) (sink.written q.sink) request reply
      × (sink.borrow q.sink ≡ sink.borrow p.sink);
  failed = λ p request q.
      TracesFault peer p.peer q.peer (sink.written p.sink) (sink.written q.sink) request
      × (sink.borrow q.sink ≡ sink.borrow p.sink);
  serves = λ p. peer.serves p.peer;
  faults = λ p. peer.faults p.peer + sink.faults p.sink;
  borrow = λ p. peer.borrow p.peer;
  told = λ p q request reply v a s. peer.told p.peer q.peer request reply v a.0.peer s;
  left = λ p q request v f s.
      fault_leaves peer p.peer q.peer (sink.written p.sink) (sink.written q.sink) request v f.0 s;
}
