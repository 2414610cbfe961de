use Rattle.std.proofs.Common.{◌≡◌, drop}
use Rattle.ov_base.specs.Refusals.{refusal_number}
use Rattle.ov_fields.specs.Reading.{tagged_by}
use Rattle.ov_wire.proofs.refusals.with_number.Given as goal

abbrev pub invariant-loop-refusal : goal.invariant-loop-refusal
invariant-loop-refusal l = tagged_by refusal_number l.refusals l.number ≡ tagged_by refusal_number (drop l.refusal-index l.refusals) l.number
