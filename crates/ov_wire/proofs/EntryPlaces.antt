-- Wrong places of the entries in answers.
use Rattle.std.proofs.Common.{◌≡◌, ℕ, zero, suc, Bool, true, false, IsTrue, [], ◌∷◌, refl, ap, arith}
use Rattle.std.specs.Prelude.{IfSome}
use Rattle.ov_base.specs.declared.limits.TheConstants.{MAX_USERS, SET_BYTES}
use Rattle.ov_fields.specs.Spelling.{optional}
use Rattle.ov_fields.specs.Entries.{edge_field}
use Rattle.ov_fields.specs.Reading.{at_most, between, making}
use Rattle.ov_fields.proofs.ReadingLaws.{then_reads}
use Rattle.ov_fields.proofs.NameLaws.{name_reads}
use Rattle.ov_fields.proofs.SetFields.{set_reads}
use Rattle.ov_fields.proofs.TestLaws.{le_of}
use Rattle.ov_fields.proofs.PlaceLaws.{HasPlaces}
use Rattle.ov_fields.proofs.JoinPlaces.{then_places, made_places}
use Rattle.ov_fields.proofs.FieldPlaces.{byte_places, set_places, spanned_places}
use Rattle.ov_fields.proofs.ListPlaces.{counted_places, optional_places, name_places, token_places}
use Rattle.ov_wire.specs.AnswerReading.{entry_or_none_at}
use Rattle.ov_wire.specs.Entries.{entry_bytes, IsEdge, IsOfPart, IsEntry, user_entry_at, user, edge_at, edge, node_entry_at, node, access_entry_at, access, entry_at}
use Rattle.ov_wire.specs.Updates.{plain}
use Rattle.ov_wire.proofs.EntryLaws.{edge_reads, too_great, nothing_of, entry_or_none, node_is, node_fields, NodeFits}
use Rattle.ov_wire.proofs.FilePlaces.{file_or_gone_places}
use Rattle.ov_wire.proofs.NumberLaws.{below_reads, node_reads}
use Rattle.ov_wire.proofs.NumberPlaces.{below_places, node_places}

edge_places : {Once Limited : Type 0} → Limited → HasPlaces Once Limited edge_at edge_field IsEdge
edge_places limited = made_places edge edge_field IsEdge (then_places node_reads (node_places limited) token_places) (λ f fits. fits) (λ f fits. refl)

user_places : {Once Limited : Type 0} → Limited → HasPlaces Once Limited (making user user_entry_at) entry_bytes (IsOfPart 1)
user_places limited =
    made_places user entry_bytes (IsOfPart 1) (then_places (then_reads name_reads node_reads) (then_places name_reads name_places (node_places limited)) (node_places limited))
    (λ f fits. (fits.0.0, fits.0.1, fits.1)) (λ f fits. refl)

node_entry_places : {Once Limited : Type 0} → Limited → HasPlaces Once Limited node_entry_at node_fields NodeFits
node_entry_places limited = then_places (set_reads SET_BYTES) (set_places SET_BYTES) (counted_places MAX_USERS (omega arith) limited edge_reads (edge_places limited))

access_places : {Once Limited : Type 0} → Limited → HasPlaces Once Limited (making access access_entry_at) entry_bytes (IsOfPart 4)
access_places limited =
    made_places access entry_bytes (IsOfPart 4)
    (then_places (then_reads (below_reads MAX_USERS (omega arith)) node_reads)
    (then_places (below_reads MAX_USERS (omega arith)) (below_places MAX_USERS (omega arith) (omega arith) limited) (node_places limited)) token_places)
    (λ f fits. (fits.0.0, fits.0.1, fits.1)) (λ f fits. refl)

entry_places : {Once Limited : Type 0} → Limited → (part : ℕ) → IsTrue (between 1 5 part) → HasPlaces Once Limited (entry_at part) entry_bytes (IsOfPart part)
unfolding entry_at
entry_places limited zero is = absurd cc
entry_places limited (suc zero) is = user_places limited
entry_places limited (suc (suc zero)) is = made_places node entry_bytes (IsOfPart 2) (node_entry_places limited) node_is (λ f fits. refl)
entry_places limited (suc (suc (suc zero))) is = made_places node entry_bytes (IsOfPart 3) (node_entry_places limited) node_is (λ f fits. refl)
entry_places limited (suc (suc (suc (suc zero)))) is = access_places limited
entry_places limited (suc (suc (suc (suc (suc zero))))) is = file_or_gone_places limited
entry_places limited (suc (suc (suc (suc (suc (suc part)))))) is = absurd (too_great part is)

entry_by : {Once Limited : Type 0} → Limited → (b : Bool) (part : ℕ) → between 1 5 part ≡ b → HasPlaces Once Limited (entry_or_none b part) (optional plain) (λ o. IfSome o (IsEntry part))
entry_by limited true part is = optional_places (spanned_places (IsEntry part) (λ e fits. record { entry = e; form = fits; spelled = refl }) (entry_places limited part is))
entry_by limited false part is =
    made_places nothing_of (optional plain) (λ o. IfSome o (IsEntry part)) (byte_places (at_most 0) 0 (omega arith) refl) (λ b fits. tt)
    (λ b fits. let le = le_of 0 b fits in let e : b ≡ 0 = omega (arith, le) in ap (λ (n : ℕ). n ∷ []) e)

pub entry_or_none_places : {Once Limited : Type 0} → Limited → (part : ℕ) → HasPlaces Once Limited (entry_or_none_at part) (optional plain) (λ o. IfSome o (IsEntry part))
entry_or_none_places limited part = entry_by limited (between 1 5 part) part refl
