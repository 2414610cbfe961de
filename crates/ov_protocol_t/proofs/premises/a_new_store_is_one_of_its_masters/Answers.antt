use Rattle.std.proofs.Common.{◌∙◌, ap}
use Rattle.ov_base.specs.declared.key.Key.{Key}
use Rattle.ov_tokens.specs.Keys.{check_value_of}
use Rattle.ov_protocol_t.proofs.NewStores.{new_store}
use Rattle.ov_protocol_t.proofs.premises.a_new_store_is_one_of_its_masters.Goals as goal

pub returns-in-Ok : goal.returns-in-Ok
returns-in-Ok c =
    let same = c.check_value-base_check.ensures
    ∙ ap (λ (k : Key). check_value_of k.bytes) c.new-master.ensures in
    new_store _ c.args.base.now.bytes c.args.surface.bytes c.check_value-base_check.result c.args.mode
    c.new-disk.result c.in-Ok.store c.new.result
    c.a_server_in_this_process_is_alone.ensures.serves same c.new-disk.ensures
    c.in-Ok.ensures.begun (c.new.ensures ∙ c.new-server.ensures)
