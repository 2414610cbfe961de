use Rattle.ov_disk_t.proofs.journal.put.Goals as goal

pub append-requires-clause-stands : goal.append-requires-clause-stands
append-requires-clause-stands g c i is =
    let stands = c.requires.stands i is in
    (c.reserve.ensures.stands _ stands.0, stands.1)
