use Rattle.std.proofs.Common.{◌≡◌, inr, sym, subst}
use Rattle.ov_owning.specs.Running.{OwnsOpen}
use Rattle.ov_owning.proofs.owning.act_over.Goals as goal

pub returns-in-Ok-clause-owns : goal.returns-in-Ok-clause-owns
returns-in-Ok-clause-owns g c =
    inr (
      c.in-Ok.book,
      record {
        stands = c.known.ensures;
        begun = c.in-Ok.ensures.begun;
        leaves = c.in-Ok.ensures.any_moment;
        quiet = c.in-Ok.ensures.untouched;
      },
      subst (λ (e : g.row.D.Denot). OwnsOpen g.P.Peer.tells g.D.Disk.tells c.args.act c.args.mode
          (g.B.Source.tells.left c.args.body.now) (c.act_by-done.new.body ≡ c.args.body.now)
          c.in-Ok.book c.args.peer.now c.act_by-done.new.peer e
          c.act_by-done.result) (sym c.close.ensures) c.act_by-done.ensures.owns,
    )
