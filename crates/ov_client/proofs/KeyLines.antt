-- Lines of keys: their words, and that they are read once.
use Rattle.std.proofs.Common.{◌≡◌, ◌∙◌, ℕ, ◌^◌, ◌<◌, List, [], ◌∷◌, ◌++◌, length, Ok, Err}
use Rattle.std.proofs.Common.{refl, sym, ap, subst, inl, arith, append_assoc, length-append}
use Rattle.std.proofs.Common.{take, drop, take-append-drop}
use Rattle.std.specs.Prelude.{IfNone, Option, Some, None, Result}
use Rattle.std.specs.Fmt.{decimal}
use Rattle.std.specs.Str.Parse.{ParsesUnsigned}
use Rattle.std.proofs.lemmas.Fmt.{decimal_injective, parse-decimal}
use Rattle.hex.specs.Hex.{IsBytes, decode_of, encode_lower, lower_digits}
use Rattle.hex.proofs.HexLemmas.{decode_of-encode_lower, decode_of-same, length-encode_with}
use Rattle.ov_base.specs.declared.limits.TheConstants.{MAX_LAYER_NODES}
use Rattle.ov_base.specs.Names.{IsName}
use Rattle.ov_base.proofs.Lists.{cut_once}
use Rattle.ov_keyfile.specs.KeyFile.{IsEnd, IsKeyLine}
use Rattle.ov_client.specs.KeyLines.{HasNoSpace, IsLineOf, IsRoot, key_line, key_words, root_words}
use Rattle.ov_client.specs.Readers.{Reader}
use Rattle.ov_client.proofs.Spaces.{decimal_no_space, name_no_space, split_once}

-- ---- numbers of roots

fits : (n : ℕ) → n < MAX_LAYER_NODES → n < 2 ^ 64
fits n low = omega (arith, low)

-- a number that is written is read
is_read : {E : Type 0} (word : List ℕ) (r : Result ℕ E) (n : ℕ) → n < MAX_LAYER_NODES
    → word ≡ decimal n → ParsesUnsigned 32 10 word r → r ≡ Ok n
is_read word r n low is reads =
    parse-decimal 32 n word r (omega (arith, low)) (omega (arith, low)) is reads

pub never_unread : {E : Type 0} (word : List ℕ) (n : ℕ) (e : E) → n < MAX_LAYER_NODES
    → word ≡ decimal n → ParsesUnsigned 32 10 word (Err e) → ⊥
never_unread word n e low is reads = cc (is_read word (Err e) n low is reads)

pub read_so : {E : Type 0} (word : List ℕ) (r : Result ℕ E) (m n : ℕ) → r ≡ Ok m
    → n < MAX_LAYER_NODES → word ≡ decimal n → ParsesUnsigned 32 10 word r → m ≡ n
read_so word r m n found low is reads =
    let same = sym found ∙ is_read word r n low is reads in cc same

-- ---- a root and its key

pub if_none : {T P : Type 0} (found : Option T) → P → IfNone found P
if_none None p = p
if_none (Some x) p = tt

-- there is no root at the front of this text
abbrev pub NoRoot : List ℕ → Type 0
NoRoot text = (root : ℕ) (key rest : List ℕ) → IsRoot text root key rest → ⊥

-- both parts of a list that is cut
pub cut_in_two : (xs front back : List ℕ) (n : ℕ) → front ≡ take n xs → back ≡ drop n xs
    → xs ≡ front ++ back
cut_in_two xs front back n f b = sym (take-append-drop n xs) ∙ (λ i. sym f i ++ sym b i)

-- the number of a root is the word before the space, and its key's digits are the 64 behind it
pub root_of_word : (text word behind : List ℕ) (root : ℕ) (key rest : List ℕ) → HasNoSpace word
    → text ≡ word ++ 32 ∷ behind → (is : IsRoot text root key rest)
    → (word ≡ decimal root) × (behind ≡ is.digits ++ rest)
root_of_word text word behind root key rest none cut is =
    split_once text word (decimal root) behind (is.digits ++ rest) none
    (decimal_no_space root (fits root is.low)) cut is.words

pub digits_of : (behind digits rest : List ℕ) (root : ℕ) (text key after : List ℕ)
    → length digits ≡ 64 → behind ≡ digits ++ rest → (is : IsRoot text root key after)
    → behind ≡ is.digits ++ after → (digits ≡ is.digits) × (rest ≡ after)
digits_of behind digits rest root text key after long cut is same =
    cut_once digits is.digits rest after (long ∙ sym is.key_digits.digits) (sym cut ∙ same)

pub no_fewer : (behind : List ℕ) (root : ℕ) (text key after : List ℕ) → length behind < 64
    → (is : IsRoot text root key after) → behind ≡ is.digits ++ after → ⊥
no_fewer behind root text key after few is same =
    omega (
      arith,
      few,
      ap length same,
      length-append is.digits after,
      is.key_digits.digits,
    )

pub a_root : (text word behind digits rest : List ℕ) (root : ℕ) (key : List ℕ)
    → text ≡ word ++ 32 ∷ behind → behind ≡ digits ++ rest → root < MAX_LAYER_NODES
    → word ≡ decimal root → IsKeyLine digits key → IsRoot text root key rest
a_root text word behind digits rest root key cut split low is key_digits = record {
  digits = digits;
  words = cut ∙ (λ i. is i ++ 32 ∷ split i);
  low = low;
  key_digits = key_digits;
}

pub root_once : (text : List ℕ) (a b : ℕ) (k l x y : List ℕ) → IsRoot text a k x
    → IsRoot text b l y → (a ≡ b) × (k ≡ l) × (x ≡ y)
root_once text a b k l x y one two =
    let words = split_once text (decimal a) (decimal b) (one.digits ++ x) (two.digits ++ y)
    (decimal_no_space a (fits a one.low)) (decimal_no_space b (fits b two.low)) one.words two.words
    in
    let parts = cut_once one.digits two.digits x y
    (one.key_digits.digits ∙ sym two.key_digits.digits) words.1 in (
      decimal_injective a b (fits a one.low) (fits b two.low) words.0,
      decode_of-same one.digits k l one.key_digits.decoded
          (subst (λ (ds : List ℕ). decode_of ds ≡ Ok l) (sym parts.0) two.key_digits.decoded),
      parts.1,
    )

-- ---- a line

-- what is left behind the first word, and behind the first root
pub record HasParts (text : List ℕ) (r : Reader) : Type 0 where
  pub first : List ℕ
  pub second : List ℕ
  pub end : List ℕ
  pub cut : text ≡ r.name ++ 32 ∷ first
  pub name : IsName r.name
  pub base : IsRoot first r.base_root r.base (32 ∷ second)
  pub surface : IsRoot second r.surface_root r.surface end
  pub last : IsEnd end

words_then : (root : ℕ) (digits rest : List ℕ)
    → root_words root digits ++ rest ≡ 32 ∷ (decimal root ++ 32 ∷ (digits ++ rest))
words_then root digits rest = ap (λ l. 32 ∷ l) (append_assoc (decimal root) (32 ∷ digits) rest)

-- what follows a root's number and the space before it
abbrev behind_root : ℕ → List ℕ → List ℕ → List ℕ
behind_root root digits rest = decimal root ++ 32 ∷ (digits ++ rest)

regrouped : (r : Reader) (base surface end : List ℕ)
    → key_words r base surface ++ end
    ≡ r.name ++ 32 ∷ behind_root r.base_root base (32 ∷ behind_root r.surface_root surface end)
regrouped r base surface end =
    let one = root_words r.base_root base in
    let two = root_words r.surface_root surface in
    append_assoc (r.name ++ one) two end ∙ append_assoc r.name one (two ++ end)
    ∙ ap (λ (l : List ℕ). r.name ++ l)
    (ap (λ (l : List ℕ). one ++ l) (words_then r.surface_root surface end)
    ∙ words_then r.base_root base (32 ∷ behind_root r.surface_root surface end))

pub parts_of : (text : List ℕ) (r : Reader) → IsLineOf text r → HasParts text r
parts_of text r is =
    let second = behind_root r.surface_root is.surface is.end in record {
      first = behind_root r.base_root is.base (32 ∷ second);
      second = second;
      end = is.end;
      cut = is.words ∙ regrouped r is.base is.surface is.end;
      name = is.name;
      base = record {
        digits = is.base;
        words = refl;
        low = is.base_root;
        key_digits = is.base_digits;
      };
      surface = record {
        digits = is.surface;
        words = refl;
        low = is.surface_root;
        key_digits = is.surface_digits;
      };
      last = is.last;
    }

pub line_of : (text : List ℕ) (r : Reader) → HasParts text r → IsLineOf text r
line_of text r p = record {
  base = p.base.digits;
  surface = p.surface.digits;
  end = p.end;
  words = p.cut
      ∙ ap (λ (l : List ℕ). r.name ++ 32 ∷ l)
      (p.base.words
      ∙ ap (λ (l : List ℕ). behind_root r.base_root p.base.digits (32 ∷ l)) p.surface.words)
      ∙ sym (regrouped r p.base.digits p.surface.digits p.end);
  name = p.name;
  base_root = p.base.low;
  base_digits = p.base.key_digits;
  surface_root = p.surface.low;
  surface_digits = p.surface.key_digits;
  last = p.last;
}

same_tail : (xs ys : List ℕ) → 32 ∷ xs ≡ 32 ∷ ys → xs ≡ ys
same_tail xs ys e = cc

pub lines_once : (text : List ℕ) (r s : Reader) → IsLineOf text r → IsLineOf text s → r ≡ s
lines_once text r s one two =
    let p = parts_of text r one in
    let q = parts_of text s two in
    let words = split_once text r.name s.name p.first q.first (name_no_space r.name p.name)
    (name_no_space s.name q.name) p.cut q.cut in
    let base = root_once p.first r.base_root s.base_root r.base s.base (32 ∷ p.second)
    (32 ∷ q.second) p.base
    (subst (λ t. IsRoot t s.base_root s.base (32 ∷ q.second)) (sym words.1) q.base) in
    let second : p.second ≡ q.second = same_tail p.second q.second base.2 in
    let surface = root_once p.second r.surface_root s.surface_root r.surface s.surface p.end q.end
    p.surface
    (subst (λ t. IsRoot t s.surface_root s.surface q.end) (sym second) q.surface) in
    λ i. record {
      name = words.0 i;
      base_root = base.0 i;
      base = base.1 i;
      surface_root = surface.0 i;
      surface = surface.1 i;
    }

-- ---- what is written

pub written_key : (key : List ℕ) → length key ≡ 32 → IsBytes key
    → IsKeyLine (encode_lower key) key
written_key key long bytes = record {
  digits = omega (arith, length-encode_with lower_digits key, long);
  decoded = decode_of-encode_lower key bytes;
}

-- a written line is one of its reader
pub written_line : (r : Reader) → IsName r.name → r.base_root < MAX_LAYER_NODES
    → IsKeyLine (encode_lower r.base) r.base → r.surface_root < MAX_LAYER_NODES
    → IsKeyLine (encode_lower r.surface) r.surface → IsLineOf (key_line r) r
written_line r name base_root base surface_root surface = record {
  base = encode_lower r.base;
  surface = encode_lower r.surface;
  end = 10 ∷ [];
  words = refl;
  name = name;
  base_root = base_root;
  base_digits = base;
  surface_root = surface_root;
  surface_digits = surface;
  last = inl refl;
}

-- ---- a line, word after word

-- the text is no line
abbrev pub NoLine : List ℕ → Type 0
NoLine text = (r : Reader) → IsLineOf text r → ⊥

module _ (text word behind : List ℕ) (none : HasNoSpace word) (cut : text ≡ word ++ 32 ∷ behind)
  where
    module _ (r : Reader) (is : IsLineOf text r) where
      abbrev p : HasParts text r
      p = parts_of text r is

      first_words : (word ≡ r.name) × (behind ≡ p.first)
      first_words =
          split_once text word r.name behind p.first none (name_no_space r.name p.name) cut p.cut

      pub at_name : IsName word
      at_name = subst IsName (sym first_words.0) p.name

      pub at_base : IsRoot behind r.base_root r.base (32 ∷ p.second)
      at_base =
          subst (λ (t : List ℕ). IsRoot t r.base_root r.base (32 ∷ p.second))
          (sym first_words.1) p.base

      module _ (root : ℕ) (base rest : List ℕ) (found : IsRoot behind root base rest) where
        pub behind_base : rest ≡ 32 ∷ p.second
        behind_base =
            (root_once behind root r.base_root base r.base rest (32 ∷ p.second) found at_base).2

        module _ (last : List ℕ) (space : rest ≡ 32 ∷ last) where
          pub at_surface : IsRoot last r.surface_root r.surface p.end
          at_surface =
              subst (λ (t : List ℕ). IsRoot t r.surface_root r.surface p.end)
              (sym (same_tail last p.second (sym space ∙ behind_base))) p.surface

          pub at_end : (number : ℕ) (surface end : List ℕ) → IsRoot last number surface end
              → IsEnd end
          at_end number surface end so =
              subst IsEnd
              (sym
              (root_once last number r.surface_root surface r.surface end p.end so at_surface).2)
              p.last

    -- where each word was found, these are the reader's
    pub found_so : (root number : ℕ) (base surface rest last end : List ℕ) → IsName word
        → IsRoot behind root base rest → rest ≡ 32 ∷ last → IsRoot last number surface end
        → IsEnd end
        → IsLineOf text (record {
          name = word;
          base_root = root;
          base = base;
          surface_root = number;
          surface = surface;
        })
    found_so root number base surface rest last end named one space two ends =
        let r : Reader = record {
          name = word;
          base_root = root;
          base = base;
          surface_root = number;
          surface = surface;
        } in
        line_of text r (record {
          first = behind;
          second = last;
          end = end;
          cut = cut;
          name = named;
          base = subst (IsRoot behind root base) space one;
          surface = two;
          last = ends;
        })
