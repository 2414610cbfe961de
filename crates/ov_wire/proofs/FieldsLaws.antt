-- The reader of an update's fields reads exactly their bytes.
use Rattle.std.proofs.Common.{◌≡◌, ℕ, zero, suc, ◌+◌, ◌*◌, ◌/◌, ◌^◌, ◌<◌, ◌≤◌, List, [], ◌∷◌, ◌++◌, length, Option, Ok, Err, refl, arith}
use Rattle.std.specs.Prelude.{IfSome}
use Rattle.ov_base.specs.declared.limits.TheConstants.{MAX_USERS, MAX_FILE_BYTES, SET_BYTES}
use Rattle.ov_base.specs.Names.{IsName}
use Rattle.ov_fields.specs.Spelling.{u32, name_field, sized, optional}
use Rattle.ov_fields.specs.Reading.{at_most, bytes_at}
use Rattle.ov_fields.proofs.ReadingLaws.{AreBytes, Reads, then_reads, given_reads, sized_by}
use Rattle.ov_fields.proofs.FieldLaws.{bytes_reads, number_reads, that_reads, wide16, wide32}
use Rattle.ov_fields.proofs.ListLaws.{sized_reads, optional_reads, Reads-more}
use Rattle.ov_fields.proofs.NameLaws.{longest_name, name_reads}
use Rattle.ov_fields.proofs.TestLaws.{IsCount, count_is, is_count}
use Rattle.ov_fields.proofs.TagLaws.{spanned_reads}
use Rattle.ov_fields.proofs.KindLaws.{IsKind, kind_takes, kind_again, kind_near, kind_none}
use Rattle.ov_wire.specs.Updates.{Fields, Enrolment, Creation, Grant, Revocation, Removal, Replacement, plain, Has32, HasSet, token_fields, AreTokens, tokens_at, fields_bytes, HasFields, IsSpelling, creation, creation_at, grant, grant_at, revocation, revocation_at, replacement, replacement_at, fields_at}
use Rattle.ov_wire.specs.RequestReading.{spelling_at}

abbrev pub creation_fields : (((List ℕ × List ℕ) × List ℕ) × List ℕ) × List ℕ → List ℕ
creation_fields f = name_field f.0.0.0.0 ++ f.0.0.0.1 ++ token_fields f.0.0.1 ++ f.0.1 ++ sized f.1

abbrev pub CreationFits : (((List ℕ × List ℕ) × List ℕ) × List ℕ) × List ℕ → Type 0
CreationFits f =
    (((IsName f.0.0.0.0 × HasSet f.0.0.0.1) × AreTokens MAX_USERS f.0.0.1) × Has32 f.0.1)
    × (IsCount (2 ^ 32) MAX_FILE_BYTES (length f.1) × Unit {0})

-- the bytes of this many tokens
blocks_reads : (n : ℕ) → Reads (bytes_at (32 * n)) plain (sized_by (λ tokens. length tokens ≡ 32 * (length tokens / 32)) (λ tokens. length tokens / 32) n) (32 * n)
blocks_reads n =
    let R = bytes_reads (32 * n) in
    record {
      takes = λ bytes x fits e. let t = R.takes bytes x fits e in ((omega (arith, t.0), omega (arith, t.0)), t.1);
      again = λ tokens rest fits. R.again tokens rest (omega (arith, fits.0, fits.1));
      near = R.near;
      short = λ tokens fits. omega (arith, fits.0, fits.1);
    }

pub tokens_reads : (most : ℕ) → most < 2 ^ 16 → Reads (tokens_at most) token_fields (AreTokens most) (2 + 32 * most)
unfolding tokens_at
tokens_reads most small =
    let R = given_reads (λ n. bytes_at (32 * n)) plain (λ tokens. length tokens ≡ 32 * (length tokens / 32)) (λ tokens. length tokens / 32) (32 * most) (that_reads wide16 (at_most most))
    (λ n h. Reads-more (blocks_reads n) (32 * most) (omega (arith, count_is (2 ^ 16) most n h))) in
    record {
      takes = λ bytes x fits e. let t = R.takes bytes x fits e in ((t.0.1, count_is (2 ^ 16) most (length x.0 / 32) t.0.0), t.1);
      again = λ tokens rest fits. R.again tokens rest (is_count (2 ^ 16) most (length tokens / 32) small fits.1, fits.0);
      near = R.near;
      short = λ tokens fits. R.short tokens (is_count (2 ^ 16) most (length tokens / 32) small fits.1, fits.0);
    }

pub creation_reads : Reads creation_at creation_fields CreationFits (longest_name + SET_BYTES + (2 + 32 * MAX_USERS) + 32 + (4 + MAX_FILE_BYTES))
creation_reads = then_reads (then_reads (then_reads (then_reads name_reads (bytes_reads SET_BYTES)) (tokens_reads MAX_USERS (omega arith))) (bytes_reads 32)) (sized_reads MAX_FILE_BYTES)

pub creation_kind : IsKind creation_fields CreationFits fields_bytes HasFields 2 creation
creation_kind = record {
  form = λ f fits. (fits.0.0.0.0, fits.0.0.0.1, fits.0.0.1, fits.0.1, count_is (2 ^ 32) MAX_FILE_BYTES (length f.1) fits.1.0);
  spelled = λ f. refl;
}

abbrev pub grant_fields : (ℕ × ℕ) × Option (List ℕ) → List ℕ
grant_fields f = u32 f.0.0 ++ u32 f.0.1 ++ optional plain f.1

abbrev pub GrantFits : (ℕ × ℕ) × Option (List ℕ) → Type 0
GrantFits f = ((f.0.0 < 2 ^ 32) × (f.0.1 < 2 ^ 32)) × IfSome f.1 Has32

pub grant_reads : Reads grant_at grant_fields GrantFits (4 + 4 + (1 + 32))
grant_reads = then_reads (then_reads (number_reads wide32) (number_reads wide32)) (optional_reads (bytes_reads 32))

pub grant_kind : IsKind grant_fields GrantFits fields_bytes HasFields 3 grant
grant_kind = record { form = λ f fits. (fits.0.0, fits.0.1, fits.1); spelled = λ f. refl }

abbrev pub revocation_fields : ℕ × ℕ → List ℕ
revocation_fields f = u32 f.0 ++ u32 f.1

abbrev pub RevocationFits : ℕ × ℕ → Type 0
RevocationFits f = (f.0 < 2 ^ 32) × (f.1 < 2 ^ 32)

pub revocation_reads : Reads revocation_at revocation_fields RevocationFits (4 + 4)
revocation_reads = then_reads (number_reads wide32) (number_reads wide32)

pub revocation_kind : IsKind revocation_fields RevocationFits fields_bytes HasFields 4 revocation
revocation_kind = record { form = λ f fits. fits; spelled = λ f. refl }

pub removal_kind : IsKind u32 (λ n. n < 2 ^ 32) fields_bytes HasFields 6 Removal
removal_kind = record { form = λ n fits. fits; spelled = λ n. refl }

abbrev pub replacement_fields : ((List ℕ × List ℕ) × List ℕ) × List ℕ → List ℕ
replacement_fields f = name_field f.0.0.0 ++ token_fields f.0.0.1 ++ f.0.1 ++ sized f.1

abbrev pub ReplacementFits : ((List ℕ × List ℕ) × List ℕ) × List ℕ → Type 0
ReplacementFits f =
    ((IsName f.0.0.0 × AreTokens MAX_USERS f.0.0.1) × Has32 f.0.1)
    × (IsCount (2 ^ 32) MAX_FILE_BYTES (length f.1) × Unit {0})

pub replacement_reads : Reads replacement_at replacement_fields ReplacementFits (longest_name + (2 + 32 * MAX_USERS) + 32 + (4 + MAX_FILE_BYTES))
replacement_reads = then_reads (then_reads (then_reads name_reads (tokens_reads MAX_USERS (omega arith))) (bytes_reads 32)) (sized_reads MAX_FILE_BYTES)

pub replacement_kind : IsKind replacement_fields ReplacementFits fields_bytes HasFields 7 replacement
replacement_kind = record {
  form = λ f fits. (fits.0.0.0, fits.0.0.1, fits.0.1, count_is (2 ^ 32) MAX_FILE_BYTES (length f.1) fits.1.0);
  spelled = λ f. refl;
}

pub enrolment_kind : IsKind name_field IsName fields_bytes HasFields 1 Enrolment
enrolment_kind = record { form = λ name is. is; spelled = λ name. refl }

-- no update has more bytes
abbrev pub longest : ℕ
longest = 1 + (longest_name + SET_BYTES + (2 + 32 * MAX_USERS) + 32 + (4 + MAX_FILE_BYTES))

fields_takes : (bytes : List ℕ) (x : Fields × List ℕ) → AreBytes bytes → fields_at bytes ≡ Ok x → HasFields x.0 × (bytes ≡ fields_bytes x.0 ++ x.1)
unfolding fields_at
fields_takes [] x fits e = absurd cc
fields_takes (zero ∷ bytes) x fits e = absurd cc
fields_takes (suc zero ∷ bytes) x fits e = kind_takes 1 Enrolment name_reads enrolment_kind bytes x fits e
fields_takes (suc (suc zero) ∷ bytes) x fits e = kind_takes 2 creation creation_reads creation_kind bytes x fits e
fields_takes (suc (suc (suc zero)) ∷ bytes) x fits e = kind_takes 3 grant grant_reads grant_kind bytes x fits e
fields_takes (suc (suc (suc (suc zero))) ∷ bytes) x fits e = kind_takes 4 revocation revocation_reads revocation_kind bytes x fits e
fields_takes (suc (suc (suc (suc (suc zero)))) ∷ bytes) x fits e = absurd cc
fields_takes (suc (suc (suc (suc (suc (suc zero))))) ∷ bytes) x fits e = kind_takes 6 Removal (number_reads wide32) removal_kind bytes x fits e
fields_takes (suc (suc (suc (suc (suc (suc (suc zero)))))) ∷ bytes) x fits e = kind_takes 7 replacement replacement_reads replacement_kind bytes x fits e
fields_takes (suc (suc (suc (suc (suc (suc (suc (suc kind))))))) ∷ bytes) x fits e = absurd cc

abbrev creation_values : (name list tokens tag bytes : List ℕ) → (((List ℕ × List ℕ) × List ℕ) × List ℕ) × List ℕ
creation_values name list tokens tag bytes = ((((name, list), tokens), tag), bytes)

creation_fits : (name list tokens tag bytes : List ℕ) → HasFields (Creation name list tokens tag bytes) → CreationFits (creation_values name list tokens tag bytes)
creation_fits name list tokens tag bytes fits =
    ((((fits.0, fits.1), fits.2), fits.3), (is_count (2 ^ 32) MAX_FILE_BYTES (length bytes) (omega arith) fits.4, tt))

abbrev replacement_values : (name tokens tag bytes : List ℕ) → ((List ℕ × List ℕ) × List ℕ) × List ℕ
replacement_values name tokens tag bytes = (((name, tokens), tag), bytes)

replacement_fits : (name tokens tag bytes : List ℕ) → HasFields (Replacement name tokens tag bytes) → ReplacementFits (replacement_values name tokens tag bytes)
replacement_fits name tokens tag bytes fits =
    (((fits.0, fits.1), fits.2), (is_count (2 ^ 32) MAX_FILE_BYTES (length bytes) (omega arith) fits.3, tt))

fields_again : (f : Fields) (rest : List ℕ) → HasFields f → fields_at (fields_bytes f ++ rest) ≡ Ok (f, rest)
unfolding fields_at
fields_again (Enrolment name) rest fits = kind_again Enrolment name_reads name rest fits
fields_again (Creation name list tokens tag bytes) rest fits =
    kind_again creation creation_reads (creation_values name list tokens tag bytes) rest (creation_fits name list tokens tag bytes fits)
fields_again (Grant user file token) rest fits = kind_again grant grant_reads ((user, file), token) rest ((fits.0, fits.1), fits.2)
fields_again (Revocation user file) rest fits = kind_again revocation revocation_reads (user, file) rest fits
fields_again (Removal file) rest fits = kind_again Removal (number_reads wide32) file rest fits
fields_again (Replacement name tokens tag bytes) rest fits =
    kind_again replacement replacement_reads (replacement_values name tokens tag bytes) rest (replacement_fits name tokens tag bytes fits)

fields_near : (bytes : List ℕ) (left : ℕ) → AreBytes bytes → fields_at bytes ≡ Err left → (left ≤ length bytes) × (length bytes ≤ left + longest)
unfolding fields_at
fields_near [] left fits e = let is : 0 ≡ left = cc in (omega arith, omega arith)
fields_near (zero ∷ bytes) left fits e = kind_none 0 bytes left longest (omega arith) cc
fields_near (suc zero ∷ bytes) left fits e = kind_near 1 Enrolment longest name_reads (omega arith) bytes left fits e
fields_near (suc (suc zero) ∷ bytes) left fits e = kind_near 2 creation longest creation_reads (omega arith) bytes left fits e
fields_near (suc (suc (suc zero)) ∷ bytes) left fits e = kind_near 3 grant longest grant_reads (omega arith) bytes left fits e
fields_near (suc (suc (suc (suc zero))) ∷ bytes) left fits e = kind_near 4 revocation longest revocation_reads (omega arith) bytes left fits e
fields_near (suc (suc (suc (suc (suc zero)))) ∷ bytes) left fits e = kind_none 5 bytes left longest (omega arith) cc
fields_near (suc (suc (suc (suc (suc (suc zero))))) ∷ bytes) left fits e = kind_near 6 Removal longest (number_reads wide32) (omega arith) bytes left fits e
fields_near (suc (suc (suc (suc (suc (suc (suc zero)))))) ∷ bytes) left fits e = kind_near 7 replacement longest replacement_reads (omega arith) bytes left fits e
fields_near (suc (suc (suc (suc (suc (suc (suc (suc kind))))))) ∷ bytes) left fits e =
    kind_none (suc (suc (suc (suc (suc (suc (suc (suc kind)))))))) bytes left longest (omega arith) cc

fields_short : (f : Fields) → HasFields f → length (fields_bytes f) ≤ longest
fields_short (Enrolment name) fits = omega (arith, name_reads.short name fits)
fields_short (Creation name list tokens tag bytes) fits =
    let k = creation_reads.short (creation_values name list tokens tag bytes) (creation_fits name list tokens tag bytes fits) in omega (arith, k)
fields_short (Grant user file token) fits = let k = grant_reads.short ((user, file), token) ((fits.0, fits.1), fits.2) in omega (arith, k)
fields_short (Revocation user file) fits = omega arith
fields_short (Removal file) fits = omega arith
fields_short (Replacement name tokens tag bytes) fits =
    let k = replacement_reads.short (replacement_values name tokens tag bytes) (replacement_fits name tokens tag bytes fits) in omega (arith, k)

pub fields_reads : Reads fields_at fields_bytes HasFields longest
fields_reads = record {
  takes = fields_takes;
  again = fields_again;
  near = fields_near;
  short = fields_short;
}

-- the reader of an update's spelling reads exactly the spellings of updates
pub spelling_reads : Reads spelling_at plain IsSpelling longest
spelling_reads =
    spanned_reads IsSpelling (λ f fits. record { fields = f; form = fits; spelled = refl }) (λ text is. (is.fields, is.form, is.spelled)) fields_reads
