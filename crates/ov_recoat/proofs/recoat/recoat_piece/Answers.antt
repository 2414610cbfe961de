use Rattle.std.proofs.Common.{◌∙◌, ap}
use Rattle.ov_state.specs.Entries.{plain_rewrite}
use Rattle.ov_surface.specs.Coats.{key_bytes}
use Rattle.ov_recoat.proofs.Bytes.{piece}
use Rattle.ov_recoat.proofs.recoat.recoat_piece.Goals as goal

pub returns : goal.returns
returns c k lt =
    piece c.args.master.now.bytes (plain_rewrite c.args.rewrite.now) c.args.start _ c.args.bytes.now c.reencrypt.new.bytes _ _ k
    c.from.ensures (ap key_bytes c.as_ref.ensures.value ∙ c.surface_key-old.ensures)
    (ap key_bytes c.as_ref-2.ensures.value ∙ c.surface_key-new.ensures) c.reencrypt.ensures.coats lt
