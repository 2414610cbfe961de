use Rattle.std.proofs.Common.{◌∙◌}
use Rattle.ov_wire.proofs.FrameLaws.{completes}
use Rattle.ov_wire.proofs.advancing.complete.Goals as goal

pub returns-in-Ok : goal.returns-in-Ok
returns-in-Ok c =
    completes c.args.wanted c.args.body.items c.args.front.now c.args.rest.now c.args.frames.now.items c.append_all.new.frames.items c.len-at.result c.in-Ok.cut.len
    c.from_vec.result c.in-Ok.cut.state c.requires.state.0 c.requires.whole c.in-Ok.ensures.ok (c.len-at.ensures ∙ c.args.frames.now.ok.0)
    (c.from_vec.ensures ∙ c.in-Ok.ensures.whole)
