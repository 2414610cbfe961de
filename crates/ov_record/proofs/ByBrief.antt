-- An update is read as its brief, and then the bytes of its file.
use Rattle.std.proofs.Common.{◌≡◌, ◌∙◌, ap, sym, subst, refl, ℕ, zero, suc, ◌-◌, ◌+◌, ◌≤◌, List, [], ◌∷◌, ◌++◌, length, length-append, drop, cond, Bool, Result, Ok, Err, arith}
use Rattle.std.proofs.lemmas.List.{append-nil, drop_at, nil_from_length}
use Rattle.std.proofs.Math.Dec.{eqb-suc-zero}
use Rattle.std.specs.Prelude.{true, false, IfSome}
use Rattle.std.specs.Int.{w32}
use Rattle.ov_fields.specs.Answers.{left_of}
use Rattle.ov_fields.specs.Reading.{Read, ◌>>=◌, made, all_of, at_most, bytes_at, name_at, number_at, number_that, placed, sized_at}
use Rattle.ov_fields.specs.declared.fault.FieldFault.{FieldFault}
use Rattle.ov_fields.specs.declared.fault.FieldFault.TheVariants.{Bad, Memory}
use Rattle.ov_fields.proofs.ReadingLaws.{AreBytes, AreBytes-back}
use Rattle.ov_fields.proofs.FieldLaws.{bytes_reads}
use Rattle.ov_fields.proofs.WholeLaws.{all_again, all_takes}
use Rattle.ov_record.specs.Briefs.{Brief, BriefEnrol, BriefRemove, text_size, with_text}
use Rattle.ov_record.specs.Forms.{Form, HasRoom}
use Rattle.ov_record.specs.Places.{place_of}
use Rattle.ov_record.specs.Reading.{brief_at, creation, creation_at, creation_brief, creation_brief_at, grant, grant_at, grant_brief, replacement, replacement_at, replacement_brief, replacement_brief_at, revocation, revocation_at, revocation_brief, update_at, update_of}
use Rattle.ov_record.specs.Spelling.{spelling, HasForm}
use Rattle.ov_record.specs.Stored.{brief_spelling}
use Rattle.ov_record.specs.Updates.{SealedUpdate, SealedEnrol, SealedRemove}
use Rattle.ov_record.specs.declared.fault.RecordFault.{RecordFault}
use Rattle.ov_record.specs.declared.fault.RecordFault.TheVariants as record_faults
use Rattle.ov_record.proofs.BriefLaws.{brief_reads}
use Rattle.ov_record.proofs.UpdateLaws.{update_reads}

-- what is read behind a brief
abbrev pub text_at : Brief × List ℕ → Read SealedUpdate
text_at b = made (with_text b.0) (bytes_at (text_size b.0) b.1)

no_bytes : (rest : List ℕ) → bytes_at 0 rest ≡ Ok ([], rest)
no_bytes rest = (bytes_reads 0).again [] rest refl

-- a kind of update that has no bytes of a file
without_text : {A : Type 0} (make : A → SealedUpdate) (short : A → Brief) (r : Read A) → ((a : A) → text_size (short a) ≡ 0)
    → ((a : A) (text : List ℕ) → with_text (short a) text ≡ make a) → made make r ≡ (made short r >>= text_at)
without_text make short (Err left) none same = refl
without_text make short (Ok x) none same =
    sym (ap (λ (n : ℕ). made (with_text (short x.0)) (bytes_at n x.1)) (none x.0) ∙ ap (made (with_text (short x.0))) (no_bytes x.1)
    ∙ ap (λ (u : SealedUpdate). Ok (u, x.1)) (same x.0 []))

-- what is made of the fields of an update and of its text, and by its brief
text_by_brief : {A : Type 0} (make : A × List ℕ → SealedUpdate) (short : A × ℕ → Brief) → ((a : A) (size : ℕ) (text : List ℕ) → with_text (short (a, size)) text ≡ make (a, text))
    → (a : A × List ℕ) (size : ℕ) (t : Read (List ℕ)) → made make (t >>= λ b. Ok ((a.0, b.0), b.1)) ≡ made (with_text (short (a.0, size))) t
text_by_brief make short same a size (Err left) = refl
text_by_brief make short same a size (Ok b) = ap (λ (u : SealedUpdate). Ok (u, b.1)) (sym (same a.0 size b.0))

sized_by_brief : {A : Type 0} (make : A × List ℕ → SealedUpdate) (short : A × ℕ → Brief) → ((a : A) (size : ℕ) (text : List ℕ) → with_text (short (a, size)) text ≡ make (a, text))
    → ((a : A) (size : ℕ) → text_size (short (a, size)) ≡ size) → (a : A × List ℕ) (n : Read ℕ)
    → made make ((n >>= λ c. bytes_at c.0 c.1) >>= λ b. Ok ((a.0, b.0), b.1)) ≡ (made short (n >>= λ b. Ok ((a.0, b.0), b.1)) >>= text_at)
sized_by_brief make short same many a (Err left) = refl
sized_by_brief make short same many a (Ok c) =
    text_by_brief make short same a c.0 (bytes_at c.0 c.1)
    ∙ ap (λ (n : ℕ). made (with_text (short (a.0, c.0))) (bytes_at n c.1)) (sym (many a.0 c.0))

-- a kind of update that has bytes of a file, behind its other fields
with_bytes : {A : Type 0} (make : A × List ℕ → SealedUpdate) (short : A × ℕ → Brief) → ((a : A) (size : ℕ) (text : List ℕ) → with_text (short (a, size)) text ≡ make (a, text))
    → ((a : A) (size : ℕ) → text_size (short (a, size)) ≡ size) → (form : Form) (r : Read A)
    → made make (r >>= λ a. sized_at form.longest a.1 >>= λ b. Ok ((a.0, b.0), b.1))
    ≡ (made short (r >>= λ a. number_that w32 (at_most form.longest) a.1 >>= λ b. Ok ((a.0, b.0), b.1)) >>= text_at)
unfolding sized_at
with_bytes make short same many form (Err left) = refl
with_bytes make short same many form (Ok a) = sized_by_brief make short same many a (number_that w32 (at_most form.longest) a.1)

creation_by_brief : (form : Form) (bytes : List ℕ) → made creation (creation_at form bytes) ≡ (made creation_brief (creation_brief_at form bytes) >>= text_at)
creation_by_brief form bytes = with_bytes creation creation_brief (λ a size text. refl) (λ a size. refl) form _

replacement_by_brief : (form : Form) (bytes : List ℕ) → made replacement (replacement_at form bytes) ≡ (made replacement_brief (replacement_brief_at form bytes) >>= text_at)
replacement_by_brief form bytes = with_bytes replacement replacement_brief (λ a size text. refl) (λ a size. refl) form _

-- a kind of update that a form has or hasn't
guarded_by_brief : (t : Bool) (u : Read SealedUpdate) (b : Read Brief) (left : ℕ) → u ≡ (b >>= text_at) → cond t u (Err left) ≡ (cond t b (Err left) >>= text_at)
guarded_by_brief true u b left is = is
guarded_by_brief false u b left is = refl

pub by_brief : (form : Form) (bytes : List ℕ) → update_at form bytes ≡ (brief_at form bytes >>= text_at)
unfolding update_at brief_at
by_brief form [] = refl
by_brief form (zero ∷ bytes) = refl
by_brief form (suc zero ∷ bytes) = without_text SealedEnrol BriefEnrol (name_at bytes) (λ a. refl) (λ a text. refl)
by_brief form (suc (suc zero) ∷ bytes) = creation_by_brief form bytes
by_brief form (suc (suc (suc zero)) ∷ bytes) = without_text grant grant_brief (grant_at bytes) (λ a. refl) (λ a text. refl)
by_brief form (suc (suc (suc (suc zero))) ∷ bytes) = without_text revocation revocation_brief (revocation_at bytes) (λ a. refl) (λ a text. refl)
by_brief form (suc (suc (suc (suc (suc zero)))) ∷ bytes) = refl
by_brief form (suc (suc (suc (suc (suc (suc zero))))) ∷ bytes) =
    guarded_by_brief form.removes (made SealedRemove (number_at w32 bytes)) (made BriefRemove (number_at w32 bytes)) (length (6 ∷ bytes))
    (without_text SealedRemove BriefRemove (number_at w32 bytes) (λ a. refl) (λ a text. refl))
by_brief form (suc (suc (suc (suc (suc (suc (suc zero)))))) ∷ bytes) =
    guarded_by_brief form.removes (made replacement (replacement_at form bytes)) (made replacement_brief (replacement_brief_at form bytes)) (length (7 ∷ bytes))
    (replacement_by_brief form bytes)
by_brief form (suc (suc (suc (suc (suc (suc (suc (suc kind))))))) ∷ bytes) = refl

-- ---- all of the bytes

-- what is read of all bytes, by what stands for the brief
abbrev pub whole_at : Read Brief → Read SealedUpdate
whole_at b = b >>= text_at

all_by_brief : (form : Form) (bytes : List ℕ) (b : Read Brief) → brief_at form bytes ≡ b → all_of (update_at form bytes) ≡ all_of (whole_at b)
all_by_brief form bytes b is = ap all_of (by_brief form bytes) ∙ ap (λ (r : Read Brief). all_of (whole_at r)) is

-- the place of a fault, of which this holds
abbrev pub Names : FieldFault → (ℕ → Type 0) → Type 0
Names e Holds = IfSome (left_of e) Holds

-- no brief is at the front
pub no_front : (form : Form) (bytes : List ℕ) (e : FieldFault)
    → Names e (λ left. brief_at form bytes ≡ Err left) → Names e (λ left. all_of (update_at form bytes) ≡ Err left)
no_front form bytes (Bad left) is = all_by_brief form bytes (Err left) is
no_front form bytes Memory is = tt

-- what all of the bytes are where the brief is there
text_read : (form : Form) (bytes : List ℕ) (b : Brief) (text : List ℕ) (size : ℕ) (t : Read (List ℕ)) → brief_at form bytes ≡ Ok (b, text) → size ≡ text_size b
    → bytes_at size text ≡ t → all_of (update_at form bytes) ≡ all_of (made (with_text b) t)
text_read form bytes b text size t is many there =
    all_by_brief form bytes (Ok (b, text)) is ∙ ap (λ (r : Read (List ℕ)). all_of (made (with_text b) r)) (ap (λ (n : ℕ). bytes_at n text) (sym many) ∙ there)

-- the file has too few bytes
pub no_text : (form : Form) (bytes : List ℕ) (b : Brief) (text : List ℕ) (size : ℕ) (e : FieldFault) → brief_at form bytes ≡ Ok (b, text) → size ≡ text_size b
    → Names e (λ left. bytes_at size text ≡ Err left) → Names e (λ left. all_of (update_at form bytes) ≡ Err left)
no_text form bytes b text size (Bad left) is many bad = text_read form bytes b text size (Err left) is many bad
no_text form bytes b text size Memory is many bad = tt

-- bytes follow those of the file
pub more_read : (form : Form) (bytes : List ℕ) (b : Brief) (text : List ℕ) (size : ℕ) (front rest : List ℕ) → brief_at form bytes ≡ Ok (b, text) → size ≡ text_size b
    → bytes_at size text ≡ Ok (front, rest) → 1 ≤ length rest → all_of (update_at form bytes) ≡ Err (length rest)
more_read form bytes b text size front [] is many there some = absurd (omega (arith, some))
more_read form bytes b text size front (x ∷ rest) is many there some =
    text_read form bytes b text size (Ok (front, x ∷ rest)) is many there
    ∙ ap (λ (t : Bool). cond t (Ok (with_text b front)) (Err (length (x ∷ rest)))) (eqb-suc-zero (length rest))

-- how a spelling is parted
pub record IsParted (bytes : List ℕ) (b : Brief) (text : List ℕ) : Type 0 where
  pub within : length text ≤ length bytes
  pub behind : drop (length bytes - length text) bytes ≡ text

pub is_parted : (form : Form) → HasRoom form → (bytes : List ℕ) (b : Brief) (text : List ℕ) → AreBytes bytes → brief_at form bytes ≡ Ok (b, text) → IsParted bytes b text
is_parted form room bytes b text fits is =
    let t : bytes ≡ brief_spelling form b ++ text = ((brief_reads form room).takes bytes (b, text) fits is).1 in
    let whole : length bytes ≡ length (brief_spelling form b) + length text = ap length t ∙ length-append (brief_spelling form b) text in
    let count : length bytes - length text ≡ length (brief_spelling form b) = omega arith in
    record {
      within = omega arith;
      behind = ap (λ (n : ℕ). drop n bytes) count ∙ ap (drop (length (brief_spelling form b))) t ∙ drop_at (brief_spelling form b) text (length (brief_spelling form b)) refl;
    }

-- nothing follows the bytes of the file
pub whole_read : (form : Form) → HasRoom form → (bytes : List ℕ) (b : Brief) (text : List ℕ) (size : ℕ) (front rest : List ℕ) → AreBytes bytes → brief_at form bytes ≡ Ok (b, text)
    → size ≡ text_size b → bytes_at size text ≡ Ok (front, rest) → length rest ≡ 0 → all_of (update_at form bytes) ≡ Ok (with_text b (drop (length bytes - length text) bytes))
whole_read form room bytes b text size front rest fits is many there none =
    let ended : rest ≡ [] = nil_from_length rest none in
    let t : bytes ≡ brief_spelling form b ++ text = ((brief_reads form room).takes bytes (b, text) fits is).1 in
    let of_text : text ≡ front ++ rest = ((bytes_reads size).takes text (front, rest) (AreBytes-back (brief_spelling form b) text (subst AreBytes t fits)) there).1 in
    let all : front ≡ text = sym (of_text ∙ ap (λ (r : List ℕ). front ++ r) ended ∙ append-nil front) in
    text_read form bytes b text size (Ok (front, rest)) is many there
    ∙ ap (λ (r : List ℕ). all_of (made (with_text b) (Ok (front, r)))) ended
    ∙ ap (λ (t : List ℕ). Ok (with_text b t)) (all ∙ sym (is_parted form room bytes b text fits is).behind)

-- ---- what all of the bytes are, and the place of an error

pub whole_again : (form : Form) → HasRoom form → (bytes : List ℕ) (u : SealedUpdate) → HasForm form u → bytes ≡ spelling form u → update_of form bytes ≡ Ok u
whole_again form room bytes u fits is = ap (update_of form) is ∙ ap (placed (length (spelling form u))) (all_again (update_reads form room) u fits)

-- what has a spelling isn't refused
pub not_refused : (form : Form) → HasRoom form → (bytes : List ℕ) (e : RecordFault) → IfSome (place_of e) (λ place. update_of form bytes ≡ Err place)
    → (u : SealedUpdate) → HasForm form u → bytes ≡ spelling form u → IfSome (place_of e) (λ place. Ok u ≡ Err place)
not_refused form room bytes (record_faults.BadRecord place) bad u fits is = sym (whole_again form room bytes u fits is) ∙ bad
not_refused form room bytes record_faults.Memory bad u fits is = tt
