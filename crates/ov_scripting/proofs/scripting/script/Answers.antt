use Rattle.std.proofs.Common.{inl, inr, refl, Ok, Err}
use Rattle.std.proofs.KnownBytes.{Keeps-refl}
use Rattle.ov_scripting.proofs.Machine.{scripts_machine}
use Rattle.ov_scripting.proofs.scripting.script.Goals as goal

pub returns-in-Err-clause-machine : goal.returns-in-Err-clause-machine
returns-in-Err-clause-machine g c =
    scripts_machine g.P.Peer.tells (g.K.Source.tells.left c.args.keys.now)
    (g.I.Source.tells.left c.args.input.now) _ _ (g.O.Sink.tells.written c.args.out.now) _ _
    (Err c.in-Err.stop, c.in-Err.ensures.found, (refl, Keeps-refl _, refl))

pub returns-in-Ok-new-clause-machine : goal.returns-in-Ok-new-clause-machine
returns-in-Ok-new-clause-machine g c =
    scripts_machine g.P.Peer.tells (g.K.Source.tells.left c.args.keys.now)
    (g.I.Source.tells.left c.args.input.now) _ _ (g.O.Sink.tells.written c.args.out.now) _ _
    (Ok c.in-Ok.masters, c.in-Ok.ensures.found, inl c.greet.ensures.greets)

pub returns-in-Err-new-clause-machine : goal.returns-in-Err-new-clause-machine
returns-in-Err-new-clause-machine g c =
    scripts_machine g.P.Peer.tells (g.K.Source.tells.left c.args.keys.now)
    (g.I.Source.tells.left c.args.input.now) _ _ (g.O.Sink.tells.written c.args.out.now) _ _
    (Ok c.in-Ok.masters, c.in-Ok.ensures.found, inr (refl, Keeps-refl _, refl))
