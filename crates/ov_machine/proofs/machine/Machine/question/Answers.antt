use Rattle.std.proofs.Common.{subst, sym}
use Rattle.ov_script.specs.declared.command.Command.{Command}
use Rattle.ov_machine.specs.Steps.{IsWholeStep}
use Rattle.ov_machine.proofs.machine.Machine.question.Goals as goal

pub returns-in-Read : goal.returns-in-Read
returns-in-Read g c =
    subst (λ (command : Command). IsWholeStep g.D.Disk.tells g.T.Sink.tells
    command c.args.self.now c.read.new.self c.args.trace.now c.read.new.trace c.read.result)
    (sym c.in-Read.is) c.read.ensures

pub returns-in-List : goal.returns-in-List
returns-in-List g c =
    subst (λ (command : Command). IsWholeStep g.D.Disk.tells g.T.Sink.tells
    command c.args.self.now c.list.new.self c.args.trace.now c.list.new.trace c.list.result)
    (sym c.in-List.is) c.list.ensures

pub returns-in-Epoch : goal.returns-in-Epoch
returns-in-Epoch g c =
    subst (λ (command : Command). IsWholeStep g.D.Disk.tells g.T.Sink.tells
    command c.args.self.now c.hello.new.self c.args.trace.now c.hello.new.trace c.hello.result)
    (sym c.in-Epoch.is) c.hello.ensures
