-- What the bytes at the front of a file say of it: a user key line and the bytes to be stored.
use Rattle.std.proofs.Common.{◌≡◌, ◌∙◌, ◌⊎◌, ℕ, ◌+◌, ◌<◌, ◌≤◌, List, [], ◌∷◌, ◌++◌, length, Option}
use Rattle.std.proofs.Common.{Some, None}
use Rattle.std.proofs.Common.{sym, ap, subst, inl, inr, arith, append-nil, length-append}
use Rattle.std.proofs.Common.{drop, length-take-le, take}
use Rattle.std.specs.Prelude.{IfSome}
use Rattle.std.specs.Fmt.{decimal}
use Rattle.std.specs.List.{list_all}
use Rattle.std.specs.Io.KnownBytes.{Consumes, IsAtEnd}
use Rattle.std.proofs.lemmas.Bool.{and_parts}
use Rattle.std.proofs.lemmas.Bool.Decides.{nat_tests}
use Rattle.std.proofs.lemmas.Fmt.{length-decimal-le}
use Rattle.std.proofs.lemmas.List.{take_all, take-append-le}
use Rattle.ov_base.specs.declared.limits.TheConstants.{MAX_FILE_BYTES, MAX_LAYER_NODES}
use Rattle.ov_base.specs.declared.limits.TheConstants.{MAX_NAME_BYTES}
use Rattle.ov_base.specs.Names.{IsName, is_letter_or_digit, is_name_byte}
use Rattle.std.specs.Prelude.{◌&&◌, nat_lt}
use Rattle.ov_keyfile.specs.KeyFile.{IsEnd}
use Rattle.ov_client.specs.KeyLines.{IsLineOf, key_words, root_words}
use Rattle.ov_client.specs.Readers.{Reader}
use Rattle.ov_acts.specs.Files.{IsBodyOf}

-- ---- how long a user key line is

pub name_short : (name : List ℕ) → IsName name → length name ≤ 64
name_short [] is = omega arith
name_short (first ∷ rest) is =
    let outer = and_parts (is_letter_or_digit first && nat_lt (length rest) MAX_NAME_BYTES)
    (list_all is_name_byte rest) is in
    let inner = and_parts (is_letter_or_digit first) (nat_lt (length rest) MAX_NAME_BYTES) outer.0 in
    grind (arith, nat_tests, inner.1)

end_short : (end : List ℕ) → IsEnd end → length end ≤ 1
end_short end (inl e) = let long : length end ≡ 1 = ap length e in omega arith
end_short end (inr e) = let long : length end ≡ 0 = ap length e in omega arith

root_short : (root : ℕ) (digits : List ℕ) → root < MAX_LAYER_NODES → length digits ≡ 64
    → length (root_words root digits) ≤ 71
root_short root digits low long =
    let few : length (decimal root) ≤ 5 =
    length-decimal-le 5 root (omega arith) (omega (arith, low)) (omega (arith, low)) in
    let both : length (decimal root ++ 32 ∷ digits) ≡ length (decimal root) + length (32 ∷ digits) =
    length-append (decimal root) (32 ∷ digits) in
    omega arith

key_size : (name base surface : List ℕ)
    → length (name ++ base ++ surface) ≡ length name + length base + length surface
key_size name base surface =
    omega (
      arith,
      length-append name (base ++ surface),
      length-append base surface,
      length-append (name ++ base) surface,
      length-append name base,
    )

pub line_short : (text : List ℕ) (r : Reader) → IsLineOf text r → length text ≤ 207
line_short text r is =
    let name : length r.name ≤ 64 = name_short r.name is.name in
    let base : length (root_words r.base_root is.base) ≤ 71 =
    root_short r.base_root is.base is.base_root is.base_digits.digits in
    let surface : length (root_words r.surface_root is.surface) ≤ 71 =
    root_short r.surface_root is.surface is.surface_root is.surface_digits.digits in
    let end : length is.end ≤ 1 = end_short is.end is.last in
    let whole : length text ≡ length (key_words r is.base is.surface ++ is.end) = ap length is.words in
    let last : length (key_words r is.base is.surface ++ is.end)
    ≡ length (key_words r is.base is.surface) + length is.end =
    length-append (key_words r is.base is.surface) is.end in
    let first : length (key_words r is.base is.surface)
    ≡ length r.name + length (root_words r.base_root is.base)
    + length (root_words r.surface_root is.surface) =
    key_size r.name (root_words r.base_root is.base) (root_words r.surface_root is.surface) in
    omega arith

-- ---- the user key line

-- the reader of the front of a file is that of the file
pub reader_found : (old new : Option (List ℕ)) (front : List ℕ) (count : ℕ) (r : Reader)
    → length front ≡ count → Consumes old new front → (count ≡ 208) ⊎ IsAtEnd new
    → IsLineOf front r → IfSome old (λ line. IsLineOf line r)
reader_found None new front count r long had all is = tt
reader_found (Some file) None front count r long had all is = absurd had
reader_found (Some file) (Some rest) front count r long had (inl full) is =
    let short : length front ≤ 207 = line_short front r is in absurd (omega arith)
reader_found (Some file) (Some rest) front count r long had (inr none) is =
    let same : file ≡ front = had ∙ ap (λ x. front ++ x) none ∙ append-nil front in
    subst (λ f. IsLineOf f r) (sym same) is

-- where the front of a file has no reader, neither has the file
pub no_reader_found : (old new : Option (List ℕ)) (front : List ℕ) (count : ℕ)
    → length front ≡ count → Consumes old new front → (count ≡ 208) ⊎ IsAtEnd new
    → ((r : Reader) → IsLineOf front r → ⊥)
    → IfSome old (λ line. (r : Reader) → IsLineOf line r → ⊥)
no_reader_found None new front count long had all none = tt
no_reader_found (Some file) None front count long had all none = absurd had
no_reader_found (Some file) (Some rest) front count long had (inl full) none =
    λ (r : Reader) (is : IsLineOf file r).
    let size : length file ≡ length front + length rest = ap length had ∙ length-append front rest in
    let short : length file ≤ 207 = line_short file r is in
    absurd (omega arith)
no_reader_found (Some file) (Some rest) front count long had (inr end) none =
    λ (r : Reader) (is : IsLineOf file r).
    let same : file ≡ front = had ∙ ap (λ x. front ++ x) end ∙ append-nil front in
    none r (subst (λ f. IsLineOf f r) same is)

-- keys that are a line of no reader are a line of none
pub no_line : (keys : Option (List ℕ)) → IfSome keys (λ line. (r : Reader) → IsLineOf line r → ⊥)
    → IfSome keys (λ line. ((r : Reader) × IsLineOf line r) → ⊥)
no_line None none = tt
no_line (Some line) none = λ has. none has.0 has.1

-- ---- the bytes to be stored

-- bytes that aren't too many are all of the file
pub body_found : (old new : Option (List ℕ)) (front : List ℕ) (count : ℕ)
    → length front ≡ count → count ≤ MAX_FILE_BYTES → Consumes old new front
    → (count ≡ MAX_FILE_BYTES + 1) ⊎ IsAtEnd new → IsBodyOf old front
body_found old new front count long few had (inl full) = absurd (omega arith)
body_found None new front count long few had (inr none) = record { few = omega arith; all = tt }
body_found (Some file) None front count long few had (inr none) = absurd had
body_found (Some file) (Some rest) front count long few had (inr none) = record {
  few = omega arith;
  all = had ∙ ap (λ x. front ++ x) none ∙ append-nil front;
}

-- a front that is too long is one of a file that is
pub too_many : (old new : Option (List ℕ)) (front : List ℕ) (count : ℕ)
    → length front ≡ count → MAX_FILE_BYTES < count → Consumes old new front
    → IfSome old (λ file. MAX_FILE_BYTES < length file)
too_many None new front count long more had = tt
too_many (Some file) None front count long more had = absurd had
too_many (Some file) (Some rest) front count long more had =
    let size : length file ≡ length front + length rest = ap length had ∙ length-append front rest in
    omega arith

-- ---- a buffer that was filled

-- a vector whose elements were all written has those that were written
pub written_back : (buffer items bytes : List ℕ) (size count : ℕ) → length buffer ≡ size
    → bytes ≡ take count (take size (buffer ++ drop (length buffer) items))
    → bytes ≡ take count buffer
written_back buffer items bytes size count long e =
    let whole : take size (buffer ++ drop (length buffer) items) ≡ buffer =
    take-append-le size buffer (drop (length buffer) items) (omega arith)
    ∙ take_all size buffer (omega arith) in
    e ∙ ap (take count) whole

-- what is given of a buffer that isn't full is all of the file
pub filled_all : (old new : Option (List ℕ)) (buffer bytes : List ℕ) (size count : ℕ)
    → size ≡ MAX_FILE_BYTES + 1 → length buffer ≡ size → count ≤ size → count ≤ MAX_FILE_BYTES
    → Consumes old new (take count buffer) → (count ≡ size) ⊎ IsAtEnd new
    → bytes ≡ take count buffer → IsBodyOf old bytes
filled_all old new buffer bytes size count big long within few had (inl full) e =
    absurd (omega arith)
filled_all old new buffer bytes size count big long within few had (inr none) e =
    subst (IsBodyOf old) (sym e)
    (body_found old new (take count buffer) count (length-take-le count buffer (omega arith)) few had
    (inr none))

-- where more was taken than a file may have, the file is too long
pub filled_more : (old new : Option (List ℕ)) (buffer : List ℕ) (size count : ℕ)
    → length buffer ≡ size → count ≤ size → MAX_FILE_BYTES < count
    → Consumes old new (take count buffer) → IfSome old (λ file. MAX_FILE_BYTES < length file)
filled_more old new buffer size count long within more had =
    too_many old new (take count buffer) count (length-take-le count buffer (omega arith)) more had
