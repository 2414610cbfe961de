use Rattle.std.proofs.Common.{◌≡◌, ◌∙◌, sym, ap, false}
use Rattle.ov_wire.specs.Frames.{Decoding, is_bad}
use Rattle.ov_wire.proofs.FrameLaws.{has_fed}
use Rattle.ov_wire.proofs.decoder.Decoder.feed.Goals as goal

pub returns-in-Ok : goal.returns-in-Ok
returns-in-Ok c =
    let a = rw (c.in-Ok.is, c.replace-state.ensures.value) at c.advance-state.ensures in
    let good : is_bad c.self.inside.state ≡ false = ap (λ (d : Decoding). d.bad) c.self.view_is ∙ sym c.is_bad.ensures ∙ c.if-is_bad.false in
    rw (← c.self.view_is, c.verdict.ensures)
    (has_fed c.self.inside.start c.saturating_add-self-inside.result c.in-Ok.used c.self.inside.state c.advance-state.result.0 c.args.piece.now c.args.frames.now.items c.advance-state.new.frames.items
    good c.saturating_add-self-inside.ensures a)
