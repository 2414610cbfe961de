use Rattle.std.proofs.Common.{◌∙◌, inl, inr}
use Rattle.ov_session.proofs.putting.put_frame.Goals as goal

pub returns-clause-puts : goal.returns-clause-puts
returns-clause-puts g c =
    let leaves = g.met.L.Stream.put_leaves in
    record {
      half = elim c.put_frame.ensures.steps [
        | inl one ↦ let left = leaves c.args.stream.now c.put_frame.new.sink one in
            record { left = left.bytes; reads = left.faults }
        | inr (between, one, two) ↦
            let first = leaves c.args.stream.now between one in
            let then = leaves between c.put_frame.new.sink two in
            record { left = then.bytes ∙ first.bytes; reads = then.faults ∙ first.faults }
      ];
      written = c.put_frame.ensures.bytes;
      cause = c.put_frame.ensures.cause;
    }

pub returns-clause-same : goal.returns-clause-same
returns-clause-same g c =
    let leaves = g.met.L.Stream.put_leaves in
    record {
      reads = elim c.put_frame.ensures.steps [
        | inl one ↦ (leaves c.args.stream.now c.put_frame.new.sink one).borrow
        | inr (between, one, two) ↦
            (leaves between c.put_frame.new.sink two).borrow ∙ (leaves c.args.stream.now between one).borrow
      ];
      writes = c.put_frame.ensures.same;
    }
