use Rattle.std.proofs.Common.{codes, inr, refl, sym}
use Rattle.toml.proofs.Views.{table_get}
use Rattle.ov_settings.proofs.Workers.{workers_there}
use Rattle.ov_settings.proofs.keys.workers_of.Goals as goal

pub returns-in-Some : goal.returns-in-Some
returns-in-Some c =
    let found = table_get c.get.result (codes "workers") c.args.table.now.entries c.get.ensures.value in
    let there = rw c.in-Some.is at found in
    workers_there _ _ _ (sym there) c.number_of.ensures

pub returns-in-None : goal.returns-in-None
returns-in-None c =
    let found = table_get c.get.result (codes "workers") c.args.table.now.entries c.get.ensures.value in
    let missing = rw c.in-None.is at found in
    inr (sym missing, refl)
