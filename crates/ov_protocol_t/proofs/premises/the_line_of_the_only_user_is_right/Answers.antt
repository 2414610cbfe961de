use Rattle.std.proofs.Common.{◌∙◌, ◌++◌, List, ℕ, ap}
use Rattle.ov_client.specs.KeyLines.{key_line}
use Rattle.ov_protocol_t.proofs.OnlyUsers.{made_line}
use Rattle.ov_protocol_t.proofs.premises.the_line_of_the_only_user_is_right.Goals as goal

pub returns : goal.returns
returns c =
    made_line c.args.base.now c.args.surface.now c.new-base_master.result
    c.new-surface_master.result c.args.mode c.in-Some.name c.key_of-base_key.result.bytes
    c.key_of-surface_key.result.bytes c.new-client.result c.line.new.out.items
    c.in-Some.ensures.bytes c.new-base_master.ensures c.key_of-base_key.ensures
    c.new-surface_master.ensures c.key_of-surface_key.ensures c.new-client.ensures
    c.line.ensures.form
    (c.in_ok-line.ensures.ok
    ∙ ap (λ (l : List ℕ). l ++ key_line c.new-client.result) c.new-line.ensures.items)
