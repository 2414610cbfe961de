use Rattle.std.proofs.Common.{rules, ◌+◌, ◌<◌, subst, sym}
use Rattle.ov_turn.specs.Passes.{SharedState}
use Rattle.ov_turn.specs.Logs.{epoch_after}
use Rattle.ov_turn.proofs.Raising.{raises}
use Rattle.ov_turn.proofs.shared.Shared.raise.Goals as goal

pub fetch_add-requires : goal.fetch_add-requires
fetch_add-requires g c =
    let tells = g.A.Answerer.tells in
    let key = c.self.inside.table.shared.key in
    let small : epoch_after tells key.start.value c.args.seat.now.me.0.base + 1 < 4294967296 =
    subst (λ (s : SharedState g.row.A.Denot).
    epoch_after tells s.start c.args.seat.now.me.0.base + 1 < 4294967296)
    (sym c.self.view_is) c.requires.small in (
      search rules,
      search rules,
      raises tells key.start.value key.passes _ _ c.args.seat.now.me c.args.ticket
          g.N.Spelled.spelling c.requires.serves small c.requires.sound,
    )
