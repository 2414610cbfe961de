use Rattle.std.proofs.Common.{◌∙◌, ◌∷◌, [], ◌++◌, List, ℕ, ap, sym}
use Rattle.ov_consulting.proofs.Gathered.{next_user}
use Rattle.ov_consulting.proofs.names.put_user.Goals as goal

pub returns : goal.returns
returns c =
    next_user c.args.state.now.catalogue.users c.args.user c.in-Some.name.now
    c.args.users.now.items _ (sym c.in-Some.ensures) c.requires.before
    (c.in_ok-push.ensures.items
    ∙ ap (λ (name : List ℕ). c.args.users.now.items ++ name ∷ []) c.copy.ensures)
