-- The reader of commands whose numbers are asked for reads exactly their spellings.
use Rattle.std.proofs.Common.{◌≡◌, ℕ, zero, suc, ◌+◌, ◌≤◌, List, [], ◌∷◌, ◌++◌, length, Ok, Err, refl, arith}
use Rattle.ov_base.specs.Names.{IsName}
use Rattle.ov_fields.specs.Spelling.{name_field}
use Rattle.ov_fields.specs.Reading.{◌>>◌, name_at}
use Rattle.ov_fields.proofs.ReadingLaws.{AreBytes, Reads, then_reads}
use Rattle.ov_fields.proofs.NameLaws.{longest_name, name_reads}
use Rattle.ov_fields.proofs.KindLaws.{IsKind, kind_takes, kind_again, kind_near, kind_none}
use Rattle.ov_wire.specs.declared.request.Question.{Question}
use Rattle.ov_wire.specs.declared.request.Question.TheVariants as questions
use Rattle.ov_wire.specs.Requests.{question_bytes, HasQuestionForm}
use Rattle.ov_wire.specs.RequestReading.{grant, revoke, question_at}

abbrev pub two_names : List ℕ × List ℕ → List ℕ
two_names f = name_field f.0 ++ name_field f.1

abbrev pub AreTwoNames : List ℕ × List ℕ → Type 0
AreTwoNames f = IsName f.0 × IsName f.1

pub two_names_read : Reads (name_at >> name_at) two_names AreTwoNames (longest_name + longest_name)
two_names_read = then_reads name_reads name_reads

pub enrol_kind : IsKind name_field IsName question_bytes HasQuestionForm 1 questions.Enrol
enrol_kind = record { form = λ name is. is; spelled = λ name. refl }

pub grant_kind : IsKind two_names AreTwoNames question_bytes HasQuestionForm 3 grant
grant_kind = record { form = λ f fits. fits; spelled = λ f. refl }

pub revoke_kind : IsKind two_names AreTwoNames question_bytes HasQuestionForm 4 revoke
revoke_kind = record { form = λ f fits. fits; spelled = λ f. refl }

pub key_kind : IsKind name_field IsName question_bytes HasQuestionForm 5 questions.Key
key_kind = record { form = λ name is. is; spelled = λ name. refl }

pub remove_kind : IsKind name_field IsName question_bytes HasQuestionForm 6 questions.Remove
remove_kind = record { form = λ name is. is; spelled = λ name. refl }

-- no question has more bytes
abbrev pub longest_question : ℕ
longest_question = 1 + (longest_name + longest_name)

question_takes : (bytes : List ℕ) (x : Question × List ℕ) → AreBytes bytes → question_at bytes ≡ Ok x → HasQuestionForm x.0 × (bytes ≡ question_bytes x.0 ++ x.1)
unfolding question_at
question_takes [] x fits e = absurd cc
question_takes (zero ∷ bytes) x fits e = absurd cc
question_takes (suc zero ∷ bytes) x fits e = kind_takes 1 questions.Enrol name_reads enrol_kind bytes x fits e
question_takes (suc (suc zero) ∷ bytes) x fits e = absurd cc
question_takes (suc (suc (suc zero)) ∷ bytes) x fits e = kind_takes 3 grant two_names_read grant_kind bytes x fits e
question_takes (suc (suc (suc (suc zero))) ∷ bytes) x fits e = kind_takes 4 revoke two_names_read revoke_kind bytes x fits e
question_takes (suc (suc (suc (suc (suc zero)))) ∷ bytes) x fits e = kind_takes 5 questions.Key name_reads key_kind bytes x fits e
question_takes (suc (suc (suc (suc (suc (suc zero))))) ∷ bytes) x fits e = kind_takes 6 questions.Remove name_reads remove_kind bytes x fits e
question_takes (suc (suc (suc (suc (suc (suc (suc verb)))))) ∷ bytes) x fits e = absurd cc

question_again : (q : Question) (rest : List ℕ) → HasQuestionForm q → question_at (question_bytes q ++ rest) ≡ Ok (q, rest)
unfolding question_at
question_again (questions.Enrol user) rest fits = kind_again questions.Enrol name_reads user rest fits
question_again (questions.Grant user file) rest fits = kind_again grant two_names_read (user, file) rest fits
question_again (questions.Revoke user file) rest fits = kind_again revoke two_names_read (user, file) rest fits
question_again (questions.Key user) rest fits = kind_again questions.Key name_reads user rest fits
question_again (questions.Remove file) rest fits = kind_again questions.Remove name_reads file rest fits

question_near : (bytes : List ℕ) (left : ℕ) → AreBytes bytes → question_at bytes ≡ Err left → (left ≤ length bytes) × (length bytes ≤ left + longest_question)
unfolding question_at
question_near [] left fits e = let is : 0 ≡ left = cc in (omega arith, omega arith)
question_near (zero ∷ bytes) left fits e = kind_none 0 bytes left longest_question (omega arith) cc
question_near (suc zero ∷ bytes) left fits e = kind_near 1 questions.Enrol longest_question name_reads (omega arith) bytes left fits e
question_near (suc (suc zero) ∷ bytes) left fits e = kind_none 2 bytes left longest_question (omega arith) cc
question_near (suc (suc (suc zero)) ∷ bytes) left fits e = kind_near 3 grant longest_question two_names_read (omega arith) bytes left fits e
question_near (suc (suc (suc (suc zero))) ∷ bytes) left fits e = kind_near 4 revoke longest_question two_names_read (omega arith) bytes left fits e
question_near (suc (suc (suc (suc (suc zero)))) ∷ bytes) left fits e = kind_near 5 questions.Key longest_question name_reads (omega arith) bytes left fits e
question_near (suc (suc (suc (suc (suc (suc zero))))) ∷ bytes) left fits e = kind_near 6 questions.Remove longest_question name_reads (omega arith) bytes left fits e
question_near (suc (suc (suc (suc (suc (suc (suc verb)))))) ∷ bytes) left fits e =
    kind_none (suc (suc (suc (suc (suc (suc (suc verb))))))) bytes left longest_question (omega arith) cc

question_short : (q : Question) → HasQuestionForm q → length (question_bytes q) ≤ longest_question
question_short (questions.Enrol user) fits = omega (arith, name_reads.short user fits)
question_short (questions.Grant user file) fits = let k = two_names_read.short (user, file) fits in omega (arith, k)
question_short (questions.Revoke user file) fits = let k = two_names_read.short (user, file) fits in omega (arith, k)
question_short (questions.Key user) fits = omega (arith, name_reads.short user fits)
question_short (questions.Remove file) fits = omega (arith, name_reads.short file fits)

pub question_reads : Reads question_at question_bytes HasQuestionForm longest_question
question_reads = record {
  takes = question_takes;
  again = question_again;
  near = question_near;
  short = question_short;
}
