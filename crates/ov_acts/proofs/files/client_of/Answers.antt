use Rattle.std.proofs.Common.{refl, subst, sym}
use Rattle.std.specs.Io.KnownBytes.{Consumes}
use Rattle.ov_acts.proofs.Fronts.{no_line, no_reader_found, reader_found}
use Rattle.ov_acts.proofs.Reasons.{stops_unkeyed}
use Rattle.ov_acts.proofs.Taking.{takes_so}
use Rattle.ov_acts.proofs.files.client_of.Goals as goal

pub returns-in-Some-clause-found : goal.returns-in-Some-clause-found
returns-in-Some-clause-found g c =
    let old = g.K.Source.tells.left c.args.keys.now in
    let new = g.K.Source.tells.left c.fill.new.source in
    reader_found old new c.split_at.result.0.now c.in-Ok.count c.in-Some.client
    c.split_at.ensures.front_len
    (subst (Consumes old new) (sym c.split_at.ensures.front) c.in-Ok.ensures.taken.1)
    c.in-Ok.ensures.all c.in-Some.ensures.found

pub returns-in-None-clause-found : goal.returns-in-None-clause-found
returns-in-None-clause-found g c =
    let old = g.K.Source.tells.left c.args.keys.now in
    let new = g.K.Source.tells.left c.fill.new.source in
    no_reader_found old new c.split_at.result.0.now c.in-Ok.count c.split_at.ensures.front_len
    (subst (Consumes old new) (sym c.split_at.ensures.front) c.in-Ok.ensures.taken.1)
    c.in-Ok.ensures.all c.in-None.ensures.none

pub returns-in-None-clause-cause : goal.returns-in-None-clause-cause
returns-in-None-clause-cause g c =
    let old = g.K.Source.tells.left c.args.keys.now in
    let new = g.K.Source.tells.left c.fill.new.source in
    stops_unkeyed _ _ _ _ _ refl (no_line old
    (no_reader_found old new c.split_at.result.0.now c.in-Ok.count c.split_at.ensures.front_len
    (subst (Consumes old new) (sym c.split_at.ensures.front) c.in-Ok.ensures.taken.1)
    c.in-Ok.ensures.all c.in-None.ensures.none))

pub returns-in-Some-clause-takes : goal.returns-in-Some-clause-takes
returns-in-Some-clause-takes g c =
    takes_so g.K.Source.tells _ _ _ _ _ refl c.fill.ensures.needed

pub returns-in-None-clause-takes : goal.returns-in-None-clause-takes
returns-in-None-clause-takes g c =
    takes_so g.K.Source.tells _ _ _ _ _ refl c.fill.ensures.needed

pub returns-in-Err-clause-takes : goal.returns-in-Err-clause-takes
returns-in-Err-clause-takes g c =
    takes_so g.K.Source.tells _ _ _ _ _ refl c.fill.ensures.needed
