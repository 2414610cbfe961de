use Rattle.std.proofs.Common.{◌≡◌, ◌+◌, [], ◌∷◌, Some, sym, ◌∙◌, ap, arith}
use Rattle.std.specs.Option.{option_map}
use Rattle.ov_disk.specs.Disk.{written}
use Rattle.ov_disk.specs.declared.area.Area.TheVariants.{Book}
use Rattle.ov_disk.proofs.Runs.{mapped_some, on_both}
use Rattle.ov_journal.proofs.Ends.{is_front}
use Rattle.ov_journal.proofs.Appending.{Appends, gate_inside, first, second, third, fourth, is_kept}
use Rattle.ov_journal.proofs.record.put_record.Goals as goal

pub write_at-requires : goal.write_at-requires
write_at-requires g c i is =
    omega (arith, (is_front c.args.end i.book (c.requires.stands i is).0).inside)

pub write_at-requires-2 : goal.write_at-requires-2
write_at-requires-2 g c k is =
    let from = mapped_some (written Book (c.args.end + 1) c.deref.result.now) (g.D.Disk.tells.reads c.args.disk.now) k (sym c.in_ok-write_at.ensures.written ∙ sym c.in_ok-sync.ensures.reads ∙ is) in
    gate_inside from.0 k c.args.end (c.requires.stands from.0 from.1).0 c.args.body.now c.deref.result.now (c.deref.ensures.value ∙ c.fill.ensures.bytes) from.2

pub returns-in_err-write_at-clause-any_moment : goal.returns-in_err-write_at-clause-any_moment
returns-in_err-write_at-clause-any_moment g c = record {
  leaves = λ i is.
      let begun : Appends (g.D.Disk.tells.may_leave c.args.disk.now) i c.args.end c.args.body.now c.deref.result.now =
      record { mine = g.D.Disk.tells.reads_one c.args.disk.now i is; stands = c.requires.stands i is; size = c.requires.fits.can_be; is_frame = c.deref.ensures.value ∙ c.fill.ensures.bytes } in
      first g.D.Disk.tells c.args.disk.now begun c.write_at.new.self c.write_at.ensures.time c.write_at.ensures.crash;
  untold = c.write_at.ensures.untold;
  told = c.write_at.ensures.told;
}

pub returns-in_err-sync-clause-any_moment : goal.returns-in_err-sync-clause-any_moment
returns-in_err-sync-clause-any_moment g c = record {
  leaves = λ i is.
      let begun : Appends (g.D.Disk.tells.may_leave c.args.disk.now) i c.args.end c.args.body.now c.deref.result.now =
      record { mine = g.D.Disk.tells.reads_one c.args.disk.now i is; stands = c.requires.stands i is; size = c.requires.fits.can_be; is_frame = c.deref.ensures.value ∙ c.fill.ensures.bytes } in
      second g.D.Disk.tells c.args.disk.now begun c.write_at.new.self c.write_at.ensures.time c.write_at.ensures.crash c.sync.new.self c.sync.ensures.time c.sync.ensures.crash;
  untold = λ none. c.sync.ensures.untold (c.write_at.ensures.untold none);
  told = λ i is. let a = c.write_at.ensures.told i is in c.sync.ensures.told a.0 a.1;
}

pub returns-in_err-write_at-2-clause-any_moment : goal.returns-in_err-write_at-2-clause-any_moment
returns-in_err-write_at-2-clause-any_moment g c = record {
  leaves = λ i is.
      let begun : Appends (g.D.Disk.tells.may_leave c.args.disk.now) i c.args.end c.args.body.now c.deref.result.now =
      record { mine = g.D.Disk.tells.reads_one c.args.disk.now i is; stands = c.requires.stands i is; size = c.requires.fits.can_be; is_frame = c.deref.ensures.value ∙ c.fill.ensures.bytes } in
      let reads1 : g.D.Disk.tells.reads c.write_at.new.self ≡ Some (written Book (c.args.end + 1) c.deref.result.now i) =
      c.in_ok-write_at.ensures.written ∙ ap (option_map (written Book (c.args.end + 1) c.deref.result.now)) is in
      third g.D.Disk.tells c.args.disk.now begun c.write_at.new.self c.write_at.ensures.time c.write_at.ensures.crash c.sync.new.self c.sync.ensures.time c.sync.ensures.crash
      (c.in_ok-sync.ensures.durable (written Book (c.args.end + 1) c.deref.result.now i) reads1) c.write_at-2.new.self c.write_at-2.ensures.time c.write_at-2.ensures.crash;
  untold = λ none. c.write_at-2.ensures.untold (c.sync.ensures.untold (c.write_at.ensures.untold none));
  told = λ i is. let a = c.write_at.ensures.told i is in let b = c.sync.ensures.told a.0 a.1 in c.write_at-2.ensures.told b.0 b.1;
}

pub returns-clause-any_moment : goal.returns-clause-any_moment
returns-clause-any_moment g c = record {
  leaves = λ i is.
      let begun : Appends (g.D.Disk.tells.may_leave c.args.disk.now) i c.args.end c.args.body.now c.deref.result.now =
      record { mine = g.D.Disk.tells.reads_one c.args.disk.now i is; stands = c.requires.stands i is; size = c.requires.fits.can_be; is_frame = c.deref.ensures.value ∙ c.fill.ensures.bytes } in
      let reads1 : g.D.Disk.tells.reads c.write_at.new.self ≡ Some (written Book (c.args.end + 1) c.deref.result.now i) =
      c.in_ok-write_at.ensures.written ∙ ap (option_map (written Book (c.args.end + 1) c.deref.result.now)) is in
      fourth g.D.Disk.tells c.args.disk.now begun c.write_at.new.self c.write_at.ensures.time c.write_at.ensures.crash c.sync.new.self c.sync.ensures.time c.sync.ensures.crash
      (c.in_ok-sync.ensures.durable (written Book (c.args.end + 1) c.deref.result.now i) reads1) c.write_at-2.new.self c.write_at-2.ensures.time c.write_at-2.ensures.crash
      c.sync-2.new.self c.sync-2.ensures.time c.sync-2.ensures.crash;
  untold = λ none. c.sync-2.ensures.untold (c.write_at-2.ensures.untold (c.sync.ensures.untold (c.write_at.ensures.untold none)));
  told = λ i is. let a = c.write_at.ensures.told i is in let b = c.sync.ensures.told a.0 a.1 in let d = c.write_at-2.ensures.told b.0 b.1 in c.sync-2.ensures.told d.0 d.1;
}

pub returns-clause-lasts : goal.returns-clause-lasts
returns-clause-lasts g c =
    on_both c.sync-2.result _ _ _ c.sync-2.ensures.durable c.sync-2.ensures.reads (λ durable same. record {
      kept = λ i is.
          let end = c.args.end in
          let frame = c.deref.result.now in
          let reads1 : g.D.Disk.tells.reads c.write_at.new.self ≡ Some (written Book (end + 1) frame i) = c.in_ok-write_at.ensures.written ∙ ap (option_map (written Book (end + 1) frame)) is in
          let reads3 : g.D.Disk.tells.reads c.write_at-2.new.self ≡ Some (written Book end (1 ∷ []) (written Book (end + 1) frame i)) =
          c.in_ok-write_at-2.ensures.written ∙ ap (option_map (written Book end (1 ∷ []))) (c.in_ok-sync.ensures.reads ∙ reads1) in
          is_kept g.D.Disk.tells c.sync-2.new.self i end (c.requires.stands i is).0 c.args.body.now frame c.requires.fits.can_be
          (c.deref.ensures.value ∙ c.fill.ensures.bytes) (same ∙ reads3) (durable (written Book end (1 ∷ []) (written Book (end + 1) frame i)) reads3);
      told_before = λ k is.
          let b = mapped_some (written Book c.args.end (1 ∷ [])) (g.D.Disk.tells.reads c.sync.new.self) k (sym c.in_ok-write_at-2.ensures.written ∙ sym same ∙ is) in
          let a = mapped_some (written Book (c.args.end + 1) c.deref.result.now) (g.D.Disk.tells.reads c.args.disk.now) b.0 (sym c.in_ok-write_at.ensures.written ∙ sym c.in_ok-sync.ensures.reads ∙ b.1) in
          (a.0, a.1);
    })
