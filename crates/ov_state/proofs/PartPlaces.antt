-- The parts of an update are at their place in its spelling.
use Rattle.std.proofs.Common.{ℕ, List, [], ◌∷◌, ◌++◌, refl, sym, arith}
use Rattle.std.proofs.Common.{append-nil, append_assoc, length-append}
use Rattle.ov_base.specs.Sets.{bytes_of}
use Rattle.ov_base.proofs.SetBytes.{length-bytes_of}
use Rattle.ov_fields.specs.Spelling.{counted, name_field, optional, sized, token_field, u32}
use Rattle.ov_record.specs.Forms.{set_bytes}
use Rattle.ov_record.specs.Updates.{SealedCreate, SealedEnrol, SealedGrant, SealedRemove, SealedReplace, SealedRevoke}
use Rattle.ov_state.specs.Places.{PartsStandAtTheirPlace}

pub parts_stand_at_their_place : PartsStandAtTheirPlace
parts_stand_at_their_place form (SealedEnrol name) = ([], 1 ∷ name_field name, refl, refl)
parts_stand_at_their_place form (SealedCreate name list tokens tag bytes) =
    let set : List ℕ = bytes_of (set_bytes form) list in (
      2 ∷ name_field name ++ set,
      tag ++ sized bytes,
      append_assoc (2 ∷ name_field name ++ set ++ counted token_field tokens) tag (sized bytes),
      omega (arith, length-append name set, length-bytes_of (set_bytes form) list),
    )
parts_stand_at_their_place form (SealedGrant user file token) = (
  3 ∷ u32 user ++ u32 file,
  [],
  sym (append-nil (3 ∷ u32 user ++ u32 file ++ optional token_field token)),
  refl,
)
parts_stand_at_their_place form (SealedRevoke user file) =
    ([], 4 ∷ u32 user ++ u32 file, refl, refl)
parts_stand_at_their_place form (SealedRemove file) = ([], 6 ∷ u32 file, refl, refl)
parts_stand_at_their_place form (SealedReplace name tokens tag bytes) = (
  7 ∷ name_field name,
  tag ++ sized bytes,
  append_assoc (7 ∷ name_field name ++ counted token_field tokens) tag (sized bytes),
  omega arith,
)
