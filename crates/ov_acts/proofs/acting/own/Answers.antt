use Rattle.std.proofs.Common.{◌∙◌, ℕ, List, ap, refl, subst, sym}
use Rattle.ov_history.specs.Masters.{Masters}
use Rattle.ov_acts.proofs.Sources.{owner_told}
use Rattle.ov_acts.proofs.Taking.{both_files, keys_alone}
use Rattle.ov_acts.specs.Machine.{OwnsAsMachine}
use Rattle.ov_acts.proofs.acting.own.Goals as goal

pub returns-clause-told : goal.returns-clause-told
returns-clause-told g c = λ v is.
    let Then = g.P.Peer.tells.serves c.greet_and_command.new.peer in
    let outcome = c.greet_and_command.result in
    owner_told c.args.act.now (g.K.Source.tells.left c.args.keys.now) (g.B.Source.tells.left c.args.body.now) v
    Then outcome c.in-Ok.masters c.in-Ok-body_of.bytes c.one_pair_of_masters.ensures
    c.in-Ok.ensures.found c.in-Ok-body_of.ensures.found
    (λ same.
    subst (λ (k : Masters). OwnsAsMachine k c.args.act.now c.in-Ok-body_of.bytes v Then outcome)
    c.new-owner.ensures
    (subst (λ (b : List ℕ). OwnsAsMachine c.new-owner.result c.args.act.now b v Then outcome)
    c.as_slice.ensures
    (c.greet_and_command.ensures.told v is
    (same ∙ ap (λ (k : Masters). k.surface) (sym c.new-owner.ensures)))))

pub returns-in-Err-clause-files : goal.returns-in-Err-clause-files
returns-in-Err-clause-files g c =
    keys_alone g.K.Source.tells g.B.Source.tells c.args.act.now _ _
    _ _ c.requires.owners c.masters_of.ensures.takes refl

pub returns-in-Err-body_of-clause-files : goal.returns-in-Err-body_of-clause-files
returns-in-Err-body_of-clause-files g c =
    both_files g.K.Source.tells g.B.Source.tells c.args.act.now _ _
    _ _ c.in-Ok.masters c.requires.owners c.in-Ok.ensures.found c.masters_of.ensures.takes
    c.body_of.ensures.takes

pub returns-clause-files : goal.returns-clause-files
returns-clause-files g c =
    both_files g.K.Source.tells g.B.Source.tells c.args.act.now _ _
    _ _ c.in-Ok.masters c.requires.owners c.in-Ok.ensures.found c.masters_of.ensures.takes
    c.body_of.ensures.takes
