use Rattle.std.proofs.Common.{arith, subst, sym}
use Rattle.std.specs.Fmt.{decimal}
use Rattle.std.specs.Str.{IsUtf8}
use Rattle.std.proofs.lemmas.Fmt.{IsAscii-decimal}
use Rattle.std.proofs.lemmas.Str.{IsUtf8-from_ascii}
use Rattle.ov_client.proofs.key_line.root_of_bytes.Goals as goal

pub returns-in-Err-clause-none : goal.returns-in-Err-clause-none
returns-in-Err-clause-none c = λ root low is.
    c.in-Err.ensures.cases.0
    (subst IsUtf8 (sym is)
    (IsUtf8-from_ascii (decimal root) (IsAscii-decimal root (omega (arith, low)))))
