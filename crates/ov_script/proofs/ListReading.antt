-- How the names of a list are read, one after the other.
use Rattle.std.proofs.Common.{◌≡◌, ℕ, List, [], ◌∷◌, ◌++◌, refl, sym, ◌∙◌, ap, subst, append_assoc, append-nil}
use Rattle.ov_base.specs.NameLists.{with_name}
use Rattle.ov_base.specs.Names.{IsName}
use Rattle.ov_script.specs.LineFeeds.{Lacks}
use Rattle.ov_script.specs.WrittenLists.{AreNames, with_commas, list_text, without_repeats, IsList}
use Rattle.ov_script.proofs.ByteTexts.{lacks_not, split_once}
use Rattle.ov_script.proofs.ListTexts.{AreNames-append, with_names-last}
use Rattle.ov_script.proofs.WordBytes.{name_no_comma}

-- the names, each with a comma behind it
abbrev pub before_commas : List (List ℕ) → List ℕ
before_commas [] = []
before_commas (name ∷ names) = name ++ 44 ∷ before_commas names

-- these names were read of the text, and the rest wasn't
pub record ReadSo (text : List ℕ) (names : List (List ℕ)) (rest : List ℕ) : Type 0 where
  pub said : List (List ℕ)
  pub are : AreNames said
  pub once : names ≡ without_repeats said
  pub whole : text ≡ before_commas said ++ rest

-- ---- one more name

before_commas-last : (names : List (List ℕ)) (name rest : List ℕ) → before_commas (names ++ name ∷ []) ++ rest ≡ before_commas names ++ (name ++ 44 ∷ rest)
before_commas-last [] name rest = append_assoc name (44 ∷ []) rest
before_commas-last (n ∷ names) name rest =
    append_assoc n (44 ∷ before_commas (names ++ name ∷ [])) rest ∙ ap (λ t. n ++ 44 ∷ t) (before_commas-last names name rest)
    ∙ sym (append_assoc n (44 ∷ before_commas names) (name ++ 44 ∷ rest))

pub one_more_read : (text name rest more : List ℕ) (names new : List (List ℕ)) → ReadSo text names rest → rest ≡ name ++ 44 ∷ more → IsName name → new ≡ with_name names name → ReadSo text new more
one_more_read text name rest more names new r e named is = record {
  said = r.said ++ name ∷ [];
  are = AreNames-append r.said (name ∷ []) r.are (named, tt);
  once = is ∙ ap (λ ns. with_name ns name) r.once ∙ sym (with_names-last [] r.said name);
  whole = r.whole ∙ ap (λ t. before_commas r.said ++ t) e ∙ sym (before_commas-last r.said name more);
}

-- ---- the last name

commas_around : (names : List (List ℕ)) (name : List ℕ) → 44 ∷ (before_commas names ++ name) ≡ with_commas (names ++ name ∷ [])
commas_around [] name = ap (λ t. 44 ∷ t) (sym (append-nil name))
commas_around (n ∷ names) name =
    ap (λ t. 44 ∷ t) (append_assoc n (44 ∷ before_commas names) name) ∙ ap (λ t. 44 ∷ n ++ t) (commas_around names name)

list_text-last : (names : List (List ℕ)) (name : List ℕ) → before_commas names ++ name ≡ list_text (names ++ name ∷ [])
list_text-last [] name = sym (append-nil name)
list_text-last (n ∷ names) name = append_assoc n (44 ∷ before_commas names) name ∙ ap (λ t. n ++ t) (commas_around names name)

pub last_read : (text rest : List ℕ) (names new : List (List ℕ)) → ReadSo text names rest → IsName rest → new ≡ with_name names rest → IsList text new
last_read text rest names new r named is = (
  r.said ++ rest ∷ [],
  AreNames-append r.said (rest ∷ []) r.are (named, tt),
  r.whole ∙ list_text-last r.said rest,
  is ∙ ap (λ ns. with_name ns rest) r.once ∙ sym (with_names-last [] r.said rest),
)

-- ---- no list

-- the rest of the list follows names with commas
pub record Rest (rest : List ℕ) : Type 0 where
  pub name : List ℕ
  pub names : List (List ℕ)
  pub named : IsName name
  pub are : AreNames names
  pub whole : rest ≡ name ++ with_commas names

rest_of : (said : List (List ℕ)) (rest name : List ℕ) (names : List (List ℕ)) → AreNames said → IsName name → AreNames names → before_commas said ++ rest ≡ name ++ with_commas names → Rest rest
rest_of [] rest name names are p ps e = record { name = name; names = names; named = p; are = ps; whole = e }
rest_of (m ∷ said) rest name [] are p ps e =
    let at_comma : m ++ 44 ∷ (before_commas said ++ rest) ≡ name = sym (append_assoc m (44 ∷ before_commas said) rest) ∙ e ∙ append-nil name in
    absurd (lacks_not 44 name m (before_commas said ++ rest) (name_no_comma name p) (sym at_comma))
rest_of (m ∷ said) rest name (n ∷ names) are p ps e =
    let both = split_once 44 m name (before_commas said ++ rest) (n ++ with_commas names) (name_no_comma m are.0) (name_no_comma name p) (sym (append_assoc m (44 ∷ before_commas said) rest) ∙ e) in
    rest_of said rest n names are.1 ps.0 ps.1 both.1

first_is_named : (rest first more name : List ℕ) (names : List (List ℕ)) → Lacks 44 first → rest ≡ first ++ 44 ∷ more → IsName name → rest ≡ name ++ with_commas names → IsName first
first_is_named rest first more name [] lacks e p w = absurd (lacks_not 44 name first more (name_no_comma name p) (sym (append-nil name) ∙ sym w ∙ e))
first_is_named rest first more name (n ∷ names) lacks e p w =
    subst IsName (split_once 44 name first (n ++ with_commas names) more (name_no_comma name p) lacks (sym w ∙ e)).0 p

last_is_named : (rest name : List ℕ) (names : List (List ℕ)) → Lacks 44 rest → IsName name → rest ≡ name ++ with_commas names → IsName rest
last_is_named rest name [] lacks p w = subst IsName (sym (w ∙ append-nil name)) p
last_is_named rest name (n ∷ names) lacks p w = absurd (lacks_not 44 rest name (n ++ with_commas names) lacks w)

pub no_name_first : (text first rest more : List ℕ) (names : List (List ℕ)) → ReadSo text names rest → Lacks 44 first → rest ≡ first ++ 44 ∷ more → (IsName first → ⊥)
    → (name : List ℕ) (others : List (List ℕ)) → AreNames (name ∷ others) → text ≡ list_text (name ∷ others) → ⊥
no_name_first text first rest more names r lacks e none name others are w =
    let b = rest_of r.said rest name others r.are are.0 are.1 (sym r.whole ∙ w) in
    none (first_is_named rest first more b.name b.names lacks e b.named b.whole)

pub no_name_last : (text rest : List ℕ) (names : List (List ℕ)) → ReadSo text names rest → Lacks 44 rest → (IsName rest → ⊥)
    → (name : List ℕ) (others : List (List ℕ)) → AreNames (name ∷ others) → text ≡ list_text (name ∷ others) → ⊥
no_name_last text rest names r lacks none name others are w =
    let b = rest_of r.said rest name others r.are are.0 are.1 (sym r.whole ∙ w) in
    none (last_is_named rest b.name b.names lacks b.named b.whole)
