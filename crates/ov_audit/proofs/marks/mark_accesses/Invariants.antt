use Rattle.std.proofs.Common.{◌≡◌, drop}
use Rattle.ov_base_layer.specs.Holders.{accesses_of}
use Rattle.ov_audit.specs.Marks.{marks_with}
use Rattle.ov_audit.proofs.marks.mark_accesses.Given as goal

abbrev pub invariant-loop-grant : goal.invariant-loop-grant
invariant-loop-grant g l =
    marks_with l.users (accesses_of (drop l.grant-index l.grants)) l.marks
    ≡ marks_with l.users (accesses_of l.grants) l.initial.marks
