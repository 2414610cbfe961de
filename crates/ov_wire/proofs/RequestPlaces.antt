-- The place at which bytes are no request is that of the first wrong field, or the end.
use Rattle.std.proofs.Common.{◌≡◌, ℕ, ◌-◌, ◌^◌, ◌<◌, ◌≤◌, IsTrue, List, [], ◌∷◌, ◌++◌, length, Result, Ok, Err, refl, sym, ap, subst, ◌∙◌, arith}
use Rattle.std.specs.List.{AllByRecursion}
use Rattle.ov_base.specs.declared.limits.TheConstants.{MAX_FILE_BYTES, MAX_CHUNK_BYTES, MAX_FRAME_BYTES}
use Rattle.ov_fields.specs.Spelling.{u8, u32}
use Rattle.ov_fields.specs.Fronts.{IsFront, AreAllBytes, IsWrongPlace}
use Rattle.ov_fields.specs.Reading.{all_of, by_rows, placed, any, at_most, between}
use Rattle.ov_fields.proofs.ReadingLaws.{then_reads}
use Rattle.ov_fields.proofs.FieldLaws.{byte_reads, number_reads, wide32}
use Rattle.ov_fields.proofs.NameLaws.{name_reads}
use Rattle.ov_fields.proofs.TagLaws.{nothing_reads}
use Rattle.ov_fields.proofs.TestLaws.{le_of, between_of}
use Rattle.ov_fields.proofs.PlaceLaws.{AreBytes-nil, AreBytes-cons, HasPlaces, none_before}
use Rattle.ov_fields.proofs.JoinPlaces.{then_places}
use Rattle.ov_fields.proofs.FieldPlaces.{byte_places, bytes_places, number_places, nothing_places}
use Rattle.ov_fields.proofs.LimitPlaces.{u32_places, at_most_limits, between_limits}
use Rattle.ov_fields.proofs.ListPlaces.{name_places}
use Rattle.ov_fields.proofs.RowPlaces.{RowPlaces, row_places, OnceOf, rows_fault, wrong_place}
use Rattle.ov_wire.specs.declared.request.Request.TheVariants as requests
use Rattle.ov_wire.specs.Laws.{HasKind}
use Rattle.ov_wire.specs.Updates.{Has32, IsSpelling}
use Rattle.ov_wire.specs.Requests.{request_bytes, IsRequest}
use Rattle.ov_wire.specs.RequestReading.{cover, cover_at, update, update_at, chain, chunk, chunk_at, page, page_at, replan, replan_at, request_rows, request_of}
use Rattle.ov_wire.proofs.FieldsLaws.{spelling_reads}
use Rattle.ov_wire.proofs.NamePlaces.{names_places}
use Rattle.ov_wire.proofs.QuestionLaws.{question_reads, two_names_read}
use Rattle.ov_wire.proofs.RequestLaws.{replan_fields, ReplanFits, replan_reads, cover_fields, CoverFits, cover_reads, update_reads, chunk_reads, page_reads, request_again}
use Rattle.ov_wire.proofs.UpdatePlaces.{two_names_places, question_places, spelling_places}
use Rattle.ov_wire.proofs.LongFrames.{not_long}

-- the names of a Cover mustn't come twice
abbrev InCover : ℕ → Type 0
InCover kind = kind ≡ 3

-- numbers have limits
abbrev Limits : Type 0
Limits = Unit {0}

replan_places : {Once : Type 0} → HasPlaces Once Limits replan_at replan_fields ReplanFits
replan_places = then_places name_reads name_places (u32_places (at_most MAX_FILE_BYTES) 0 MAX_FILE_BYTES tt (at_most_limits MAX_FILE_BYTES (2 ^ 32) (omega arith)))

cover_places : {Once : Type 0} → Once → HasPlaces Once Limits cover_at cover_fields CoverFits
cover_places once = then_places replan_reads replan_places (names_places 65535 (omega arith) once tt)

update_places : {Once : Type 0} → HasPlaces Once Limits update_at (λ f. u32 f.0.0 ++ f.0.1 ++ f.1) (λ f. ((f.0.0 < 2 ^ 32) × IsSpelling f.0.1) × Has32 f.1)
update_places = then_places (then_reads (number_reads wide32) spelling_reads) (then_places (number_reads wide32) (number_places wide32) (spelling_places tt)) (bytes_places 32)

chunk_places : {Once : Type 0} → HasPlaces Once Limits chunk_at (λ f. u32 f.0.0.0 ++ u32 f.0.0.1 ++ u32 f.0.1 ++ u32 f.1)
    (λ f. (((f.0.0.0 < 2 ^ 32) × (f.0.0.1 < 2 ^ 32)) × (f.0.1 < 2 ^ 32)) × ((f.1 < 2 ^ 32) × IsTrue (between 1 MAX_CHUNK_BYTES f.1)))
chunk_places =
    let three = then_reads (then_reads (number_reads wide32) (number_reads wide32)) (number_reads wide32) in
    then_places three (then_places (then_reads (number_reads wide32) (number_reads wide32)) (then_places (number_reads wide32) (number_places wide32) (number_places wide32)) (number_places wide32))
    (u32_places (between 1 MAX_CHUNK_BYTES) 1 MAX_CHUNK_BYTES tt (between_limits 1 MAX_CHUNK_BYTES (2 ^ 32) (omega arith) (omega arith)))

page_places : {Once : Type 0} → HasPlaces Once Limits page_at (λ f. u8 f.0 ++ u32 f.1) (λ f. IsTrue (any f.0) × (f.1 < 2 ^ 32))
page_places = then_places (byte_reads any) (byte_places any 0 (omega arith) refl) (number_places wide32)

rows_placed : AllByRecursion (RowPlaces InCover Limits request_bytes IsRequest) request_rows
rows_placed = (
  row_places 1 (λ f. requests.Hello) nothing_reads nothing_places (record { form = λ f fits. tt; spelled = λ f. refl }),
  (
    row_places 2 requests.Ask question_reads question_places (record { form = λ f fits. fits; spelled = λ f. refl }),
    (
      row_places 3 cover cover_reads (cover_places refl)
          (record { form = λ f fits. (fits.0.0, le_of MAX_FILE_BYTES f.0.1 fits.0.1.1, omega (arith, fits.1.few), fits.1.are_names); spelled = λ f. refl }),
      (
        row_places 4 update update_reads update_places (record { form = λ f fits. (fits.0.0, fits.0.1, fits.1); spelled = λ f. refl }),
        (
          row_places 5 chain two_names_read two_names_places (record { form = λ f fits. fits; spelled = λ f. refl }),
          (
            row_places 6 chunk chunk_reads chunk_places
                (record { form = λ f fits. let b = between_of 1 MAX_CHUNK_BYTES f.1 fits.1.1 in (fits.0.0.0, fits.0.0.1, fits.0.1, b.0, b.1); spelled = λ f. refl }),
            (
              row_places 7 page page_reads page_places (record { form = λ f fits. fits.1; spelled = λ f. refl }),
              (
                row_places 8 requests.List name_reads name_places (record { form = λ f fits. fits; spelled = λ f. refl }),
                (
                  row_places 9 replan replan_reads replan_places (record { form = λ f fits. (fits.0, le_of MAX_FILE_BYTES f.1 fits.1.1); spelled = λ f. refl }),
                  tt,
                ),
              ),
            ),
          ),
        ),
      ),
    ),
  ),
)

no_request : IsFront request_bytes IsRequest []
no_request = none_before requests.Hello tt (AreBytes-cons 1 [] (omega arith) AreBytes-nil)

-- whether the kind is a Cover's
in_cover : (bytes : List ℕ) → OnceOf InCover bytes → HasKind 3 bytes
in_cover [] is = absurd is
in_cover (kind ∷ bytes) is = (bytes, ap (λ (k : ℕ). k ∷ bytes) is)

pub placed_err : {A : Type 0} (count : ℕ) (read : Result A ℕ) (place : ℕ) → placed count read ≡ Err place → (left : ℕ) × (read ≡ Err left) × (count - left ≡ place)
placed_err count (Ok a) place e = absurd cc
placed_err count (Err left) place e = (left, refl, cc)

pub request_place : (bytes : List ℕ) (place : ℕ) → AreAllBytes bytes → length bytes ≤ MAX_FRAME_BYTES → request_of bytes ≡ Err place → IsWrongPlace request_bytes IsRequest (HasKind 3 bytes) bytes place
request_place bytes place fits few e =
    let read = all_of (by_rows request_rows bytes) in
    let p = placed_err (length bytes) read place (sym (not_long bytes (placed (length bytes) read) few) ∙ e) in
    let f = rows_fault InCover request_bytes IsRequest request_rows rows_placed no_request bytes p.0 (record { each = fits }) p.1 in
    subst (IsWrongPlace request_bytes IsRequest (HasKind 3 bytes) bytes) p.2
    (wrong_place (by_rows request_rows) request_bytes IsRequest request_again (in_cover bytes) bytes p.0 f)
