use Rattle.ov_protocol_t.proofs.NewStores.{answered}
use Rattle.ov_protocol_t.specs.Premises.{masters, no_updates}
use Rattle.ov_protocol_t.proofs.premises.an_act_over_a_new_store_is_answered.Goals as goal

pub returns : goal.returns
returns g c = λ files.
    let store = c.in_ok-peer.ensures.store in
    answered c.act.result
    (c.act.ensures.complete.over_server (masters c.args.base.now.bytes c.args.surface.bytes)
    (no_updates c.args.mode) store.service c.a_server_in_this_process_is_alone.ensures.asked
    store.serves store.store files)
