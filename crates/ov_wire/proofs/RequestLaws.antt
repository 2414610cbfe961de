-- The reader of requests reads exactly their spellings.
use Rattle.std.proofs.Common.{◌≡◌, ℕ, ◌+◌, ◌*◌, ◌^◌, ◌<◌, ◌≤◌, IsTrue, List, ◌++◌, length, Ok, Err, refl, subst, arith}
use Rattle.std.specs.List.{AllByRecursion}
use Rattle.ov_base.specs.declared.limits.TheConstants.{MAX_FILE_BYTES, MAX_CHUNK_BYTES, MAX_FRAME_BYTES}
use Rattle.ov_base.specs.Names.{IsName}
use Rattle.ov_fields.specs.Spelling.{u8, u32, name_field, counted}
use Rattle.ov_fields.specs.Reading.{all_of, by_rows, any, at_most, between}
use Rattle.ov_fields.proofs.ReadingLaws.{AreBytes, Reads, then_reads}
use Rattle.ov_fields.proofs.FieldLaws.{byte_reads, bytes_reads, number_reads, that_reads, wide32}
use Rattle.ov_fields.proofs.NameLaws.{longest_name, name_reads}
use Rattle.ov_fields.proofs.TagLaws.{nothing_reads}
use Rattle.ov_fields.proofs.TestLaws.{le_of, of_le, between_of, of_between}
use Rattle.ov_fields.proofs.RowLaws.{RowReads, row_reads, row_again, rows_take, rows_near}
use Rattle.ov_wire.specs.declared.request.Request.{Request}
use Rattle.ov_wire.specs.declared.request.Request.TheVariants as requests
use Rattle.ov_wire.specs.Frames.{IsFrame}
use Rattle.ov_wire.specs.Updates.{Has32, IsSpelling}
use Rattle.ov_wire.specs.Requests.{request_bytes, IsRequest, HasRequestForm, HasRequestLimits}
use Rattle.ov_wire.specs.RequestReading.{cover, cover_at, update, update_at, chain, chunk, chunk_at, page, page_at, replan, replan_at, request_rows}
use Rattle.ov_wire.proofs.FieldsLaws.{spelling_reads, longest}
use Rattle.ov_wire.proofs.NamesLaws.{AreFewNames, names_reads}
use Rattle.ov_wire.proofs.QuestionLaws.{question_reads, two_names_read}

abbrev pub replan_fields : List ℕ × ℕ → List ℕ
replan_fields f = name_field f.0 ++ u32 f.1

abbrev pub ReplanFits : List ℕ × ℕ → Type 0
ReplanFits f = IsName f.0 × ((f.1 < 2 ^ 32) × IsTrue (at_most MAX_FILE_BYTES f.1))

pub replan_reads : Reads replan_at replan_fields ReplanFits (longest_name + 4)
replan_reads = then_reads name_reads (that_reads wide32 (at_most MAX_FILE_BYTES))

replan_fits : (file : List ℕ) (len : ℕ) → IsRequest (requests.Replan file len) → ReplanFits (file, len)
replan_fits file len is = (is.0, (omega (arith, is.1), of_le MAX_FILE_BYTES len is.1))

abbrev pub cover_fields : (List ℕ × ℕ) × List (List ℕ) → List ℕ
cover_fields f = name_field f.0.0 ++ u32 f.0.1 ++ counted name_field f.1

abbrev pub CoverFits : (List ℕ × ℕ) × List (List ℕ) → Type 0
CoverFits f = (IsName f.0.0 × ((f.0.1 < 2 ^ 32) × IsTrue (at_most MAX_FILE_BYTES f.0.1))) × AreFewNames 65535 f.1

pub cover_reads : Reads cover_at cover_fields CoverFits (longest_name + 4 + (2 + 65535 * longest_name))
cover_reads = then_reads replan_reads (names_reads 65535 (omega arith))

pub update_reads : Reads update_at (λ f. u32 f.0.0 ++ f.0.1 ++ f.1) (λ f. ((f.0.0 < 2 ^ 32) × IsSpelling f.0.1) × Has32 f.1) (4 + longest + 32)
update_reads = then_reads (then_reads (number_reads wide32) spelling_reads) (bytes_reads 32)

pub chunk_reads : Reads chunk_at (λ f. u32 f.0.0.0 ++ u32 f.0.0.1 ++ u32 f.0.1 ++ u32 f.1)
    (λ f. (((f.0.0.0 < 2 ^ 32) × (f.0.0.1 < 2 ^ 32)) × (f.0.1 < 2 ^ 32)) × ((f.1 < 2 ^ 32) × IsTrue (between 1 MAX_CHUNK_BYTES f.1))) (4 + 4 + 4 + 4)
chunk_reads = then_reads (then_reads (then_reads (number_reads wide32) (number_reads wide32)) (number_reads wide32)) (that_reads wide32 (between 1 MAX_CHUNK_BYTES))

pub page_reads : Reads page_at (λ f. u8 f.0 ++ u32 f.1) (λ f. IsTrue (any f.0) × (f.1 < 2 ^ 32)) (1 + 4)
page_reads = then_reads (byte_reads any) (number_reads wide32)

-- no request has more bytes behind its kind byte
abbrev pub most_bytes : ℕ
most_bytes = MAX_FRAME_BYTES

rows_read : AllByRecursion (RowReads request_bytes IsRequest most_bytes) request_rows
rows_read = (
  row_reads 1 (λ f. requests.Hello) most_bytes nothing_reads (omega arith) (record { form = λ f fits. tt; spelled = λ f. refl }),
  (
    row_reads 2 requests.Ask most_bytes question_reads (omega arith) (record { form = λ f fits. fits; spelled = λ f. refl }),
    (
      row_reads 3 cover most_bytes cover_reads (omega arith)
          (record { form = λ f fits. (fits.0.0, le_of MAX_FILE_BYTES f.0.1 fits.0.1.1, omega (arith, fits.1.few), fits.1.are_names); spelled = λ f. refl }),
      (
        row_reads 4 update most_bytes update_reads (omega arith) (record { form = λ f fits. (fits.0.0, fits.0.1, fits.1); spelled = λ f. refl }),
        (
          row_reads 5 chain most_bytes two_names_read (omega arith) (record { form = λ f fits. fits; spelled = λ f. refl }),
          (
            row_reads 6 chunk most_bytes chunk_reads (omega arith)
                (record { form = λ f fits. let b = between_of 1 MAX_CHUNK_BYTES f.1 fits.1.1 in (fits.0.0.0, fits.0.0.1, fits.0.1, b.0, b.1); spelled = λ f. refl }),
            (
              row_reads 7 page most_bytes page_reads (omega arith) (record { form = λ f fits. fits.1; spelled = λ f. refl }),
              (
                row_reads 8 requests.List most_bytes name_reads (omega arith) (record { form = λ f fits. fits; spelled = λ f. refl }),
                (
                  row_reads 9 replan most_bytes replan_reads (omega arith)
                      (record { form = λ f fits. (fits.0, le_of MAX_FILE_BYTES f.1 fits.1.1); spelled = λ f. refl }),
                  tt,
                ),
              ),
            ),
          ),
        ),
      ),
    ),
  ),
)

-- what is read is spelled so
pub request_takes : (bytes : List ℕ) (request : Request) → AreBytes bytes → length bytes ≤ MAX_FRAME_BYTES → all_of (by_rows request_rows bytes) ≡ Ok request
    → HasRequestForm request × (bytes ≡ request_bytes request)
request_takes bytes request fits few e =
    let t = rows_take request_bytes IsRequest most_bytes request_rows rows_read bytes request fits e in
    (record { is_request = t.0; fits = subst (λ (l : List ℕ). length l ≤ MAX_FRAME_BYTES) t.1 few }, t.1)

-- what is spelled so is read
pub request_again : (request : Request) → IsRequest request → all_of (by_rows request_rows (request_bytes request)) ≡ Ok request
request_again requests.Hello is = refl
request_again (requests.Ask question) is = row_again requests.Ask question_reads question is
request_again (requests.Cover file len names) is =
    row_again cover cover_reads ((file, len), names) ((is.0, (omega (arith, is.1), of_le MAX_FILE_BYTES len is.1)), record { few = omega (arith, is.2); are_names = is.3 })
request_again (requests.Update epoch spelling tag) is = row_again update update_reads ((epoch, spelling), tag) ((is.0, is.1), is.2)
request_again (requests.Chain user file) is = row_again chain two_names_read (user, file) is
request_again (requests.Chunk file generation start count) is =
    row_again chunk chunk_reads (((file, generation), start), count) (((is.0, is.1), is.2), (omega (arith, is.4), of_between 1 MAX_CHUNK_BYTES count is.3 is.4))
request_again (requests.Page part number) is = row_again page page_reads (part, number) (refl, is)
request_again (requests.List file) is = row_again requests.List name_reads file is
request_again (requests.Replan file len) is = row_again replan replan_reads (file, len) (replan_fits file len is)

-- a wrong byte is near
pub request_near : (bytes : List ℕ) (left : ℕ) → AreBytes bytes → all_of (by_rows request_rows bytes) ≡ Err left → (left ≤ length bytes) × (length bytes ≤ left + (1 + most_bytes))
request_near = rows_near request_bytes IsRequest most_bytes request_rows rows_read

-- what has a spelling can be written
pub request_limits : (request : Request) → HasRequestForm request → HasRequestLimits request
request_limits requests.Hello form = tt
request_limits (requests.Ask question) form = tt
request_limits (requests.Cover file len names) form = (form.is_request.1, form.is_request.2, form.fits)
request_limits (requests.Update epoch spelling tag) form = form.is_request.1
request_limits (requests.Chain user file) form = tt
request_limits (requests.Chunk file generation start count) form = (form.is_request.3, form.is_request.4)
request_limits (requests.Page part number) form = tt
request_limits (requests.List file) form = tt
request_limits (requests.Replan file len) form = form.is_request.1

-- a request has a byte at least
some_bytes : (request : Request) → 1 ≤ length (request_bytes request)
some_bytes requests.Hello = omega arith
some_bytes (requests.Ask question) = omega arith
some_bytes (requests.Cover file len names) = omega arith
some_bytes (requests.Update epoch spelling tag) = omega arith
some_bytes (requests.Chain user file) = omega arith
some_bytes (requests.Chunk file generation start count) = omega arith
some_bytes (requests.Page part number) = omega arith
some_bytes (requests.List file) = omega arith
some_bytes (requests.Replan file len) = omega arith

pub request_is_frame : (request : Request) → HasRequestForm request → IsFrame (request_bytes request)
request_is_frame request form = (some_bytes request, form.fits)
