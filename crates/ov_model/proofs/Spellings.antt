-- The spelling of an update is one that a frame can have.
use Rattle.std.proofs.Common.{◌≡◌, ℕ, ◌+◌, ◌*◌, ◌/◌, List, [], ◌∷◌, ◌++◌, length, Some, None, refl, sym, ap, length-append, arith}
use Rattle.std.specs.List.{flat_map, AllByRecursion}
use Rattle.ov_base.specs.Sets.{bytes_of}
use Rattle.ov_base.proofs.SetBytes.{length-bytes_of}
use Rattle.ov_base.specs.declared.limits.TheConstants.{SET_BYTES}
use Rattle.ov_tokens.specs.declared.token.Token.{Token}
use Rattle.ov_fields.specs.Spelling.{u16, name_field, token_field, sized, IsToken}
use Rattle.ov_record.specs.Updates.{SealedUpdate, SealedEnrol, SealedCreate, SealedGrant, SealedRevoke, SealedRemove, SealedReplace}
use Rattle.ov_record.specs.Spelling.{spelling, HasForm}
use Rattle.ov_record.specs.Forms.{second_form}
use Rattle.ov_wire.specs.Updates.{Enrolment, Creation, Grant, Revocation, Removal, Replacement, IsSpelling}

tokens_len : (tokens : List Token) → AllByRecursion IsToken tokens → length (flat_map token_field tokens) ≡ 32 * length tokens
tokens_len [] all = refl
tokens_len (token ∷ tokens) all =
    let n = tokens_len tokens all.1 in
    let sum : length (token.bytes ++ flat_map token_field tokens) ≡ length token.bytes + length (flat_map token_field tokens) = length-append token.bytes (flat_map token_field tokens) in
    omega (arith, n, sum, all.0)

blocks : (len n : ℕ) → len ≡ 32 * n → len / 32 ≡ n
blocks len n is = omega (arith, is)

pub is_spelling : (u : SealedUpdate) → HasForm second_form u → IsSpelling (spelling second_form u)
is_spelling (SealedEnrol name) fits = record { fields = Enrolment name; form = fits; spelled = refl }
is_spelling (SealedCreate name list tokens tag bytes) fits =
    let len = tokens_len tokens fits.3 in
    let count : length (flat_map token_field tokens) / 32 ≡ length tokens = blocks (length (flat_map token_field tokens)) (length tokens) len in
    record {
      fields = Creation name (bytes_of SET_BYTES list) (flat_map token_field tokens) tag bytes;
      form = (fits.0, length-bytes_of SET_BYTES list, (omega (arith, len, count), omega (arith, count, fits.2)), fits.4, fits.5);
      spelled = ap (λ (n : ℕ). 2 ∷ name_field name ++ bytes_of SET_BYTES list ++ (u16 n ++ flat_map token_field tokens) ++ tag ++ sized bytes) (sym count);
    }
is_spelling (SealedGrant user file None) fits = record { fields = Grant user file None; form = fits; spelled = refl }
is_spelling (SealedGrant user file (Some token)) fits = record { fields = Grant user file (Some token.bytes); form = fits; spelled = refl }
is_spelling (SealedRevoke user file) fits = record { fields = Revocation user file; form = fits; spelled = refl }
is_spelling (SealedRemove file) fits = record { fields = Removal file; form = fits.1; spelled = refl }
is_spelling (SealedReplace name tokens tag bytes) fits =
    let len = tokens_len tokens fits.3 in
    let count : length (flat_map token_field tokens) / 32 ≡ length tokens = blocks (length (flat_map token_field tokens)) (length tokens) len in
    record {
      fields = Replacement name (flat_map token_field tokens) tag bytes;
      form = (fits.1, (omega (arith, len, count), omega (arith, count, fits.2)), fits.4, fits.5);
      spelled = ap (λ (n : ℕ). 7 ∷ name_field name ++ (u16 n ++ flat_map token_field tokens) ++ tag ++ sized bytes) (sym count);
    }
