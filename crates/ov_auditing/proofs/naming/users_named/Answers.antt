use Rattle.std.proofs.Common.{◌≡◌, ◌∙◌, ◌∷◌, ◌++◌, ◌+◌, [], ℕ, List, ap, arith, subst, sym, take}
use Rattle.std.proofs.lemmas.List.{take_all, take_more}
use Rattle.ov_auditing.specs.Exposed.{AreUsersOf}
use Rattle.ov_auditing.proofs.Namings.{none_named, one_more_named}
use Rattle.ov_auditing.proofs.naming.users_named.Goals as goal

pub loop-name-init : goal.loop-name-init
loop-name-init c =
    subst (λ set. AreUsersOf c.args.state.now.catalogue.users [] set) (sym c.empty-users.ensures)
    (none_named c.args.state.now.catalogue.users)

pub loop-name-preserved : goal.loop-name-preserved
loop-name-preserved c =
    let users : List (List ℕ) = c.args.state.now.catalogue.users in
    let names : List (List ℕ) = c.args.names.now in
    let i : ℕ = c.loop-name.name-index in
    let name : List ℕ = c.name-item.result in
    let more : take (i + 1) names ≡ take i names ++ name ∷ [] =
    take_more names i name c.loop-name-test.true
    ∙ ap (λ (x : List ℕ). take i names ++ x ∷ []) (sym c.name-item.is) in
    subst (λ (these : List (List ℕ)). AreUsersOf users these c.with-users.result) (sym more)
    (subst (λ set. AreUsersOf users (take i names ++ name ∷ []) set) (sym c.with-users.ensures)
    (one_more_named users (take i names) name c.loop-name.users c.in_ok-user.user
    c.in_ok-user.ensures.0 c.in_ok-user.ensures.1 c.loop-name.invariant))

pub returns-clause-found : goal.returns-clause-found
returns-clause-found c =
    subst
    (λ (names : List (List ℕ)). AreUsersOf c.args.state.now.catalogue.users names c.loop-name.users)
    (take_all c.loop-name.name-index c.args.names.now (omega arith)) c.loop-name.invariant
