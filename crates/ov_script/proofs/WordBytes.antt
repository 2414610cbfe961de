-- The words of a line: names and sizes have neither space nor LF, and are short.
use Rattle.std.proofs.Common.{◌≡◌, ◌≢◌, ℕ, ◌+◌, ◌%◌, ◌^◌, ◌<◌, ◌≤◌, true, false, List, [], ◌∷◌, length, refl, subst, arith, ◌&&◌}
use Rattle.std.specs.Prelude.{nat_lt}
use Rattle.std.specs.List.{list_all}
use Rattle.std.specs.Fmt.{decimal}
use Rattle.std.proofs.lemmas.Bool.{and_parts, and_from}
use Rattle.std.proofs.lemmas.Bool.Decides.{nat_tests}
use Rattle.std.proofs.lemmas.Fmt.{decimal_by_steps, length-decimal-le}
use Rattle.ov_base.specs.declared.limits.TheConstants.{MAX_FILE_BYTES}
use Rattle.ov_base.specs.Names.{is_letter_or_digit, is_name_byte, IsName}
use Rattle.ov_script.specs.LineFeeds.{Lacks, NoLf}
use Rattle.ov_script.proofs.ByteTexts.{Lacks-append}

-- ---- names

-- the tests that a name passes
pub record NameParts (first : ℕ) (rest : List ℕ) : Type 0 where
  pub begins : is_letter_or_digit first ≡ true
  pub short : length rest < 64
  pub goes_on : list_all is_name_byte rest ≡ true

pub name_parts : (first : ℕ) (rest : List ℕ) → IsName (first ∷ rest) → NameParts first rest
name_parts first rest p =
    let outer = and_parts (is_letter_or_digit first && nat_lt (length rest) 64) (list_all is_name_byte rest) p in
    let inner = and_parts (is_letter_or_digit first) (nat_lt (length rest) 64) outer.0 in
    record { begins = inner.0; short = grind (arith, nat_tests); goes_on = outer.1 }

pub name_from : (first : ℕ) (rest : List ℕ) → NameParts first rest → IsName (first ∷ rest)
name_from first rest q =
    let short : length rest < 64 = q.short in
    let less : nat_lt (length rest) 64 ≡ true = grind (arith, nat_tests) in
    and_from (is_letter_or_digit first && nat_lt (length rest) 64) (list_all is_name_byte rest) (and_from (is_letter_or_digit first) (nat_lt (length rest) 64) q.begins less) q.goes_on

first_is_name_byte : (b : ℕ) → is_letter_or_digit b ≡ true → is_name_byte b ≡ true
first_is_name_byte b p = rw p refl

pub name_byte_differs : (c b : ℕ) → is_name_byte c ≡ false → is_name_byte b ≡ true → b ≢ c
name_byte_differs c b none p e =
    let P : ℕ → Type 0 = λ n. is_name_byte n ≡ true in
    let at : is_name_byte c ≡ true = subst P e p in
    cc

name_bytes_lack : (c : ℕ) (bs : List ℕ) → is_name_byte c ≡ false → list_all is_name_byte bs ≡ true → Lacks c bs
name_bytes_lack c [] none p = tt
name_bytes_lack c (b ∷ bs) none p =
    let both = and_parts (is_name_byte b) (list_all is_name_byte bs) p in
    (name_byte_differs c b none both.0, name_bytes_lack c bs none both.1)

pub name_lacks : (c : ℕ) (bs : List ℕ) → is_name_byte c ≡ false → IsName bs → Lacks c bs
name_lacks c [] none p = tt
name_lacks c (b ∷ rest) none p =
    let q = name_parts b rest p in
    (name_byte_differs c b none (first_is_name_byte b q.begins), name_bytes_lack c rest none q.goes_on)

pub name_no_lf : (bs : List ℕ) → IsName bs → NoLf bs
name_no_lf bs p = name_lacks 10 bs refl p

pub name_no_space : (bs : List ℕ) → IsName bs → Lacks 32 bs
name_no_space bs p = name_lacks 32 bs refl p

pub name_no_comma : (bs : List ℕ) → IsName bs → Lacks 44 bs
name_no_comma bs p = name_lacks 44 bs refl p

pub name_short : (bs : List ℕ) → IsName bs → length bs ≤ 64
name_short [] p = omega arith
name_short (b ∷ rest) p = let short : length rest < 64 = (name_parts b rest p).short in omega arith

-- ---- sizes

decimal_lacks : (c n : ℕ) → c < 48 → n < 2 ^ 64 → Lacks c (decimal n)
decimal_lacks c n low small = decimal_by_steps (λ m ds. Lacks c ds) (λ m l. (λ e. omega arith, tt)) (λ m ds l p. Lacks-append c ds ((48 + m % 10) ∷ []) p (λ e. omega arith, tt)) n small

pub size_no_lf : (n : ℕ) → n ≤ MAX_FILE_BYTES → NoLf (decimal n)
size_no_lf n h = decimal_lacks 10 n (omega arith) (omega arith)

pub size_short : (n : ℕ) → n ≤ MAX_FILE_BYTES → length (decimal n) ≤ 8
size_short n h = length-decimal-le 8 n (omega arith) (omega arith) (omega arith)
