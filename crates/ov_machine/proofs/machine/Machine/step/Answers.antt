use Rattle.std.proofs.Common.{subst}
use Rattle.ov_script.specs.declared.command.Command.{Command}
use Rattle.ov_machine.specs.Steps.{IsWholeStep}
use Rattle.ov_machine.proofs.machine.Machine.step.Goals as goal

pub returns-in-Some : goal.returns-in-Some
returns-in-Some g c =
    subst (λ (command : Command). IsWholeStep g.D.Disk.tells g.T.Sink.tells
    command c.args.self.now c.change.new.self c.args.trace.now c.change.new.trace c.change.result)
    c.in-Some.ensures.change c.change.ensures
