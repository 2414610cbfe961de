use Rattle.std.proofs.Common.{◌∙◌, arith, inl, inr, refl}
use Rattle.std.proofs.lemmas.Grind.{common_steps}
use Rattle.ov_acts.specs.declared.stop.Stop.TheVariants as stops
use Rattle.ov_scripting.proofs.Answered.{goes_on, halts_bad, halts_end, halts_long, halts_there, halts_unread, none_so_far, so_far_more, starts_fresh}
use Rattle.ov_scripting.proofs.answering.answer_all.Goals as goal

pub items-init : goal.items-init
items-init g c = record {
  so_far = none_so_far g.P.Peer.tells c.args.owner.now _ _ _ _ _
      (starts_fresh _ c.requires.start).0 (starts_fresh _ c.requires.start).1;
  ended = (starts_fresh _ c.requires.start).2;
  same = grind (arith, common_steps);
  read_later = grind (arith, common_steps);
  write_later = grind (arith, common_steps);
  peer_later = grind (arith, common_steps);
}

pub items-preserved : goal.items-preserved
items-preserved g c = record {
  so_far = so_far_more g.P.Peer.tells c.args.owner.now _ _ _ _ _ _ _ _ c.items.invariant.so_far
      _ _ _ _ _ c.in-Ok-Command.command
      (rw c.in-Ok-Command.field-0-is at (c.in-Ok-Command.ensures.says c.items.invariant.ended))
      c.in-None.ensures.answers;
  ended = goes_on _ _ _ c.in-Ok-Command.command c.items.invariant.ended
      c.in-Ok-Command.ensures.ended c.in-Ok-Command.field-0-is;
  same = c.in-Ok-Command.ensures.call.same ∙ c.items.invariant.same;
  read_later = omega (arith, c.items.invariant.read_later, c.in-Ok-Command.ensures.call.later);
  write_later = omega (arith, c.items.invariant.write_later, c.in-None.ensures.out_later);
  peer_later = omega (arith, c.items.invariant.peer_later, c.in-None.ensures.peer_later);
}

pub returns-in-Some-clause-halts : goal.returns-in-Some-clause-halts
returns-in-Some-clause-halts g c =
    halts_there g.P.Peer.tells c.args.owner.now _ _ _ _ _ _ _ _ c.items.invariant.so_far
    _ _ _ _ _ c.in-Ok-Command.command
    (rw c.in-Ok-Command.field-0-is at (c.in-Ok-Command.ensures.says c.items.invariant.ended))
    c.in-Some.ended c.in-Some.ensures.answers

pub returns-in-Ok-End-clause-halts : goal.returns-in-Ok-End-clause-halts
returns-in-Ok-End-clause-halts g c =
    halts_end g.P.Peer.tells c.args.owner.now _ _ _ _ _ _ _ _ c.items.invariant.so_far _
    c.end.result (rw c.in-Ok-End.field-0-is at (c.in-Ok-End.ensures.says c.items.invariant.ended))
    c.end.ensures.asks

pub returns-in-Ok-BadLine-clause-halts : goal.returns-in-Ok-BadLine-clause-halts
returns-in-Ok-BadLine-clause-halts g c =
    halts_bad g.P.Peer.tells c.args.owner.now _ _ _ _ _ _ _ _ c.items.invariant.so_far
    c.in-Ok-BadLine.line
    (rw c.in-Ok-BadLine.field-0-is at (c.in-Ok-BadLine.ensures.says c.items.invariant.ended))

pub returns-in-Ok-Long-clause-halts : goal.returns-in-Ok-Long-clause-halts
returns-in-Ok-Long-clause-halts g c =
    halts_long g.P.Peer.tells c.args.owner.now _ _ _ _ _ _ _ _ c.items.invariant.so_far
    (rw c.in-Ok-Long.field-0-is at (c.in-Ok-Long.ensures.says c.items.invariant.ended))

pub returns-in-Err-Read-clause-halts : goal.returns-in-Err-Read-clause-halts
returns-in-Err-Read-clause-halts g c =
    halts_unread g.P.Peer.tells c.args.owner.now _ _ _ _ _ _ _ _ c.items.invariant.so_far
    stops.Read (inl refl)

pub returns-in-Err-Memory-clause-halts : goal.returns-in-Err-Memory-clause-halts
returns-in-Err-Memory-clause-halts g c =
    halts_unread g.P.Peer.tells c.args.owner.now _ _ _ _ _ _ _ _ c.items.invariant.so_far
    stops.Memory (inr refl)
