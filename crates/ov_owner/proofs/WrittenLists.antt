-- The names of a short list are ones that an owner can send.
use Rattle.std.proofs.Common.{◌≡◌, ℕ, ◌+◌, ◌*◌, ◌≤◌, List, [], ◌∷◌, ◌++◌, length, refl, ap, length-append, arith}
use Rattle.std.specs.List.{flat_map}
use Rattle.std.proofs.lemmas.List.Concat.{flat_map-cons}
use Rattle.ov_fields.specs.Spelling.{name_field}
use Rattle.ov_script.specs.WrittenLists.{AreNames, with_commas}
use Rattle.ov_script.proofs.CreateLaws.{commas_long}
use Rattle.ov_owner.specs.declared.limits.TheConstants.{MAX_LIST_BYTES, MAX_LIST_NAMES}

-- the fields of names have as many bytes as the names, each behind a comma
fields_size : (names : List (List ℕ)) → length (flat_map name_field names) ≡ length (with_commas names)
fields_size [] = refl
fields_size (name ∷ names) =
    let parts : length (flat_map name_field (name ∷ names)) ≡ length (name_field name ++ flat_map name_field names) =
    ap length (flat_map-cons name_field name names) in
    let fields : length (name_field name ++ flat_map name_field names) ≡ length (name_field name) + length (flat_map name_field names) =
    length-append (name_field name) (flat_map name_field names) in
    let commas : length (name ++ with_commas names) ≡ length name + length (with_commas names) = length-append name (with_commas names) in
    let rest : length (flat_map name_field names) ≡ length (with_commas names) = fields_size names in
    omega arith

pub names_sendable : (names : List (List ℕ)) → AreNames names → length (with_commas names) ≤ 2 * MAX_LIST_NAMES
    → (length names ≤ MAX_LIST_NAMES) × (length (flat_map name_field names) ≤ MAX_LIST_BYTES)
names_sendable names are short =
    let few : length names * 2 ≤ length (with_commas names) = commas_long names are in
    let size : length (flat_map name_field names) ≡ length (with_commas names) = fields_size names in
    (omega arith, omega arith)
