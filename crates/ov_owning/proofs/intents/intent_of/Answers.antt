use Rattle.std.proofs.Common.{[], Some, None, Ok, refl, sym, subst, inl, inr, ⊎_elim}
use Rattle.ov_book.specs.declared.intent.Intent.TheVariants as intents
use Rattle.ov_owning.specs.Intents.{FindsIntent, StoresFile}
use Rattle.ov_owning.specs.declared.job.OwnAct.{OwnAct}
use Rattle.ov_owning.proofs.intents.intent_of.Goals as goal

pub returns-in-Enrol-clause-found : goal.returns-in-Enrol-clause-found
returns-in-Enrol-clause-found g c =
    subst (λ (a : OwnAct). FindsIntent a (g.B.Source.tells.left c.args.body.now)
    (Ok (Some (intents.Enrol c.in-Enrol.user)))) (sym c.in-Enrol.is) (Ok [], refl, refl)

pub returns-in-Grant-clause-found : goal.returns-in-Grant-clause-found
returns-in-Grant-clause-found g c =
    subst (λ (a : OwnAct). FindsIntent a (g.B.Source.tells.left c.args.body.now)
    (Ok (Some (intents.Grant c.in-Grant.user c.in-Grant.file)))) (sym c.in-Grant.is) (Ok [], refl, refl)

pub returns-in-Revoke-clause-found : goal.returns-in-Revoke-clause-found
returns-in-Revoke-clause-found g c =
    subst (λ (a : OwnAct). FindsIntent a (g.B.Source.tells.left c.args.body.now)
    (Ok (Some (intents.Revoke c.in-Revoke.user c.in-Revoke.file)))) (sym c.in-Revoke.is) (Ok [], refl, refl)

pub returns-in-Remove-clause-found : goal.returns-in-Remove-clause-found
returns-in-Remove-clause-found g c =
    subst (λ (a : OwnAct). FindsIntent a (g.B.Source.tells.left c.args.body.now)
    (Ok (Some (intents.Remove c.in-Remove.file)))) (sym c.in-Remove.is) (Ok [], refl, refl)

pub returns-in-Resume-clause-found : goal.returns-in-Resume-clause-found
returns-in-Resume-clause-found g c =
    subst (λ (a : OwnAct). FindsIntent a (g.B.Source.tells.left c.args.body.now) (Ok None))
    (sym c.in-Resume.is) (Ok [], refl, refl)

pub returns-in-Ok-clause-takes : goal.returns-in-Ok-clause-takes
returns-in-Ok-clause-takes g c =
    ⊎_elim (λ same. inl same) (λ takes. inr (subst StoresFile (sym c.in-Create.is) tt, takes))
    c.bytes_of.ensures.takes

pub returns-in-Err-clause-takes : goal.returns-in-Err-clause-takes
returns-in-Err-clause-takes g c =
    ⊎_elim (λ same. inl same) (λ takes. inr (subst StoresFile (sym c.in-Create.is) tt, takes))
    c.bytes_of.ensures.takes

pub returns-in-Ok-bytes_of-clause-takes : goal.returns-in-Ok-bytes_of-clause-takes
returns-in-Ok-bytes_of-clause-takes g c =
    ⊎_elim (λ same. inl same) (λ takes. inr (subst StoresFile (sym c.in-Replace.is) tt, takes))
    c.bytes_of-in-Replace.ensures.takes

pub returns-in-Err-bytes_of-clause-takes : goal.returns-in-Err-bytes_of-clause-takes
returns-in-Err-bytes_of-clause-takes g c =
    ⊎_elim (λ same. inl same) (λ takes. inr (subst StoresFile (sym c.in-Replace.is) tt, takes))
    c.bytes_of-in-Replace.ensures.takes
