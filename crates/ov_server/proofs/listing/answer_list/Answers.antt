use Rattle.std.proofs.Common.{List, ℕ, ap, arith, length}
use Rattle.ov_server.proofs.NamesIn.{few_in}
use Rattle.ov_server.proofs.listing.answer_list.Goals as goal

pub returns-in_ok-names-in-Ok-clause-form : goal.returns-in_ok-names-in-Ok-clause-form
returns-in_ok-names-in-Ok-clause-form c =
    let users = c.args.state.now.catalogue.users in (
      omega (
        arith,
        ap (λ (names : List (List ℕ)). length names) c.in_ok-names-in-Ok.ensures,
        few_in c.in-Ok.list 0 users,
        c.known.ensures.users,
      ),
      c.known_names.ensures,
    )
