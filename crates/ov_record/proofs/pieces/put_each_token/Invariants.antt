use Rattle.std.proofs.Common.{◌≡◌, ◌++◌, take}
use Rattle.std.specs.List.{flat_map}
use Rattle.ov_fields.specs.Spelling.{token_field}
use Rattle.ov_record.proofs.pieces.put_each_token.Given as goal

abbrev pub invariant-loop-token : goal.invariant-loop-token
invariant-loop-token l = l.out.items ≡ l.fn.out.items ++ flat_map token_field (take l.token-index l.tokens)
