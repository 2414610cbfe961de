use Rattle.std.proofs.Common.{ℕ, List, inl, inr, refl, subst, sym}
use Rattle.ov_session.specs.Doors.{IsWhere}
use Rattle.ov_host.proofs.serving.serve_door.Goals as goal

pub returns-in-Err-tell-clause-serves : goal.returns-in-Err-tell-clause-serves
returns-in-Err-tell-clause-serves g c =
    let now = g.A.Door.shows c.open.new.door in
    inr (
      c.deref.result.now,
      subst (λ (address : List ℕ). IsWhere address now) (sym c.deref.ensures.value) c.in-Ok.ensures.1,
      inl (record {
        same = refl;
        spawner = refl;
        door = c.in-Ok.ensures.0;
        ends = c.in-Err-tell.ensures.told;
      }),
    )
