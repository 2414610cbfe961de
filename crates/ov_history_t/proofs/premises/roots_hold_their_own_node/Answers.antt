use Rattle.std.proofs.Common.{inl, refl}
use Rattle.ov_tokens.specs.Labels.{label_of}
use Rattle.ov_tokens.specs.declared.label.Kind.TheVariants.{Access, Derive}
use Rattle.ov_history.specs.Closure.{Reaches, along, given}
use Rattle.ov_history.specs.Layers.{root_of}
use Rattle.ov_books.specs.Closures.{IsBaseRoot}
use Rattle.ov_history_t.proofs.premises.roots_hold_their_own_node.Goals as goal

pub returns : goal.returns
returns call = λ c user.
    let root = root_of c.base.sets user in
    let own : Reaches c (IsBaseRoot c user) (label_of Derive root) =
    given (label_of Derive root) refl in
    along (label_of Derive root) (label_of Access root) own (inl refl)
