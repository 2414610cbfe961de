-- Where a byte is first, as a search for it says.
use Rattle.std.proofs.Common.{◌≡◌, ℕ, zero, suc, ◌+◌, ◌<◌, ◌≤◌, List, [], ◌∷◌, ◌++◌, length, take, drop, refl, sym, ◌∙◌, ap, subst, append_assoc, length-append, arith, Some, None, take-append-drop}
use Rattle.std.proofs.lemmas.Bool.Decides.{nat_tests}
use Rattle.std.proofs.lemmas.List.{length-take-le, take_at}
use Rattle.std.proofs.Math.Seq.{drop-append_seam}
use Rattle.memchr.specs.Find.{IsFirstByte, Passes, Nowhere, is_byte}
use Rattle.ov_script.specs.LineFeeds.{Lacks}
use Rattle.ov_script.proofs.ByteTexts.{Lacks-append}

-- the bytes before the first one, and those behind it
pub record SplitsAt (c : ℕ) (bytes : List ℕ) (n : ℕ) : Type 0 where
  pub line : List ℕ
  pub rest : List ℕ
  pub lacks : Lacks c line
  pub count : length line ≡ n
  pub whole : bytes ≡ line ++ c ∷ rest

Passes-later : (c b : ℕ) (bytes : List ℕ) (n : ℕ) → Nowhere (Passes (is_byte c) (b ∷ bytes)) 0 (suc n) → Nowhere (Passes (is_byte c) bytes) 0 n
Passes-later c b bytes n none = λ k low below is. none (suc k) (omega arith) (omega arith) is

pub splits_at_first : (c : ℕ) (bytes : List ℕ) (n : ℕ) → n < length bytes → Nowhere (Passes (is_byte c) bytes) 0 n → Passes (is_byte c) bytes n → SplitsAt c bytes n
splits_at_first c [] n within none is = absurd (omega arith)
splits_at_first c (b ∷ bytes) zero within none is =
    let lf : b ≡ c = grind (arith, nat_tests) in
    record { line = []; rest = bytes; lacks = tt; count = refl; whole = ap (λ x. x ∷ bytes) lf }
splits_at_first c (b ∷ bytes) (suc n) within none is =
    let later = splits_at_first c bytes n (omega arith) (Passes-later c b bytes n none) is in
    let first : (b ≡ c) → ⊥ = λ e. none 0 (omega arith) (omega arith) (grind (arith, nat_tests)) in
    let whole : bytes ≡ later.line ++ c ∷ later.rest = later.whole in
    record { line = b ∷ later.line; rest = later.rest; lacks = (first, later.lacks); count = ap suc later.count; whole = ap (λ l. b ∷ l) whole }

-- bytes among which this byte isn't found lack it
pub nowhere_lacks : (c : ℕ) (bytes : List ℕ) → Nowhere (Passes (is_byte c) bytes) 0 (length bytes) → Lacks c bytes
nowhere_lacks c [] none = tt
nowhere_lacks c (b ∷ bytes) none =
    let first : (b ≡ c) → ⊥ = λ e. none 0 (omega arith) (omega arith) (grind (arith, nat_tests)) in
    (first, nowhere_lacks c bytes (Passes-later c b bytes (length bytes) none))

-- the first such byte, with what is before and behind it
pub parts_at : (c : ℕ) (bytes front back behind : List ℕ) (n : ℕ) → SplitsAt c bytes n → front ≡ take n bytes → back ≡ drop n bytes → behind ≡ drop 1 back → Lacks c front × (bytes ≡ front ++ c ∷ behind)
parts_at c bytes front back behind n s f b t =
    let line : front ≡ s.line = f ∙ ap (take n) s.whole ∙ take_at s.line (c ∷ s.rest) n s.count in
    let tail : back ≡ c ∷ s.rest = b ∙ ap (drop n) s.whole ∙ ap (λ m. drop m (s.line ++ c ∷ s.rest)) (sym s.count) ∙ drop-append_seam s.line (c ∷ s.rest) in
    let rest : behind ≡ s.rest = t ∙ ap (drop 1) tail in
    (subst (Lacks c) (sym line) s.lacks, s.whole ∙ ap (λ l. l ++ c ∷ s.rest) (sym line) ∙ ap (λ l. front ++ c ∷ l) (sym rest))

-- the first such byte, of which none is among the first bytes
pub first_behind : (c : ℕ) (bytes fresh : List ℕ) (seen index : ℕ) → fresh ≡ drop seen bytes → seen ≤ length bytes → Lacks c (take seen bytes)
    → IsFirstByte (is_byte c) fresh (Some index) → SplitsAt c bytes (seen + index)
first_behind c bytes fresh seen index e within none (before, is) =
    let s = splits_at_first c fresh index before.high before.before is in
    let size : length (take seen bytes) ≡ seen = length-take-le seen bytes within in
    let joined : take seen bytes ++ fresh ≡ bytes = ap (λ l. take seen bytes ++ l) e ∙ take-append-drop seen bytes in
    record {
      line = take seen bytes ++ s.line;
      rest = s.rest;
      lacks = Lacks-append c (take seen bytes) s.line none s.lacks;
      count = length-append (take seen bytes) s.line ∙ ap (λ n. n + length s.line) size ∙ ap (λ n. seen + n) s.count;
      whole = sym joined ∙ ap (λ l. take seen bytes ++ l) s.whole ∙ sym (append_assoc (take seen bytes) s.line (c ∷ s.rest));
    }

pub none_behind : (c : ℕ) (bytes fresh : List ℕ) (seen : ℕ) → fresh ≡ drop seen bytes → Lacks c (take seen bytes) → IsFirstByte (is_byte c) fresh None → Lacks c bytes
none_behind c bytes fresh seen e none nowhere =
    let joined : take seen bytes ++ fresh ≡ bytes = ap (λ l. take seen bytes ++ l) e ∙ take-append-drop seen bytes in
    subst (Lacks c) joined (Lacks-append c (take seen bytes) fresh none (nowhere_lacks c fresh nowhere))
