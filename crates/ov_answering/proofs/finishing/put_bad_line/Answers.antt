use Rattle.std.proofs.Common.{ℕ, List, ◌∙◌, subst, inl}
use Rattle.ov_report.specs.Ends.{EndsIn}
use Rattle.ov_answering.proofs.finishing.put_bad_line.Goals as goal

pub returns-in-Ok-clause-ends : goal.returns-in-Ok-clause-ends
returns-in-Ok-clause-ends g c =
    inl (subst (λ (bytes : List ℕ). EndsIn bytes 3 (g.O.Sink.tells.written c.args.out.now) (g.O.Sink.tells.written c.put_last.new.out) c.put_last.result) (c.as_bytes.ensures.value ∙ c.in-Ok.ensures.ok) c.put_last.ensures.ends)
