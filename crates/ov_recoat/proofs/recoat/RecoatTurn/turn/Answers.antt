use Rattle.std.proofs.Common.{◌+◌, ◌∙◌, ap, get_or, sym}
use Rattle.ov_state.specs.Entries.{plain_rewrite, plain_rewrites}
use Rattle.ov_recoat.specs.Recoats.{Recoating, recoated}
use Rattle.ov_recoat.proofs.Bytes.{recoated_none, recoated_some}
use Rattle.ov_recoat.proofs.recoat.RecoatTurn.turn.Goals as goal

pub returns-in-Some : goal.returns-in-Some
returns-in-Some c k lt =
    let place = c.args.start + k in
    let byte = get_or c.args.bytes.now k 0 in
    c.recoat_piece.ensures k lt
    ∙ sym (recoated_some c.self.inside.master.now.bytes (plain_rewrites c.self.inside.rewrites.now) c.args.file
    (plain_rewrite c.in-Some.rewrite.now) place byte (sym c.in-Some.ensures))
    ∙ ap (λ (r : Recoating). recoated r.master r.rewrites c.args.file place byte) c.self.view_is

pub returns-in_default : goal.returns-in_default
returns-in_default c k lt =
    let place = c.args.start + k in
    let byte = get_or c.args.bytes.now k 0 in
    sym (recoated_none c.self.inside.master.now.bytes (plain_rewrites c.self.inside.rewrites.now) c.args.file
    place byte (sym c.in_default.ensures))
    ∙ ap (λ (r : Recoating). recoated r.master r.rewrites c.args.file place byte) c.self.view_is
