use Rattle.std.proofs.Common.{◌≡◌, ◌-◌}
use Rattle.ov_fields.specs.Reading.{many_at, token_at}
use Rattle.ov_fields.proofs.Loops.{with_front}
use Rattle.ov_record.proofs.reading.take_all_tokens.Given as goal

abbrev pub invariant-loop : goal.invariant-loop
invariant-loop l = with_front l.tokens (many_at token_at (l.count - l.counter) l.rest) ≡ many_at token_at l.count l.bytes
