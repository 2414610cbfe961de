-- Words of 64 bits compare by the first in which they differ.
use Rattle.std.proofs.Common.{ℕ, suc, zero, ◌≡◌, ◌≢◌, ◌<◌, ◌+◌, ◌*◌, ◌^◌, List, [], ◌∷◌, ◌++◌, length, get_or, refl, sym, ◌∙◌, ap, arith}
use Rattle.std.specs.Ordering.{nat_cmp, ordering_then}
use Rattle.std.specs.declared.cmp.Ordering.{Ordering}
use Rattle.std.specs.declared.cmp.Ordering.TheVariants.{Less, Equal, Greater}
use Rattle.std.specs.Cmp.{tied_itself}
use Rattle.std.specs.Cmp.Lexicographic.{slice_cmp, nat_list_cmp_total}
use Rattle.std.proofs.lemmas.List.{ext_get_or}
use Rattle.ov_base.specs.Sets.{bytes_of, bytes_cmp, set_cmp}
use Rattle.ov_base.specs.Words.{set_of_words}
use Rattle.ov_base.proofs.SetBytes.{length-bytes_of, bytes_of-two}
use Rattle.ov_base.proofs.SetOrder.{same_bytes, set_cmp-bytes}
use Rattle.ov_base.proofs.WordBits.{AllFit}
use Rattle.ov_base.proofs.WordBytes.{words_below}

then_then : (r s t : Ordering) → ordering_then r (ordering_then s t) ≡ ordering_then (ordering_then r s) t
then_then Less s t = refl
then_then Equal s t = refl
then_then Greater s t = refl

first_tells : (r s : Ordering) → r ≢ Equal → ordering_then r s ≡ r
first_tells Less s e = refl
first_tells Equal s e = absurd (e refl)
first_tells Greater s e = refl

-- two lists in two parts
in_parts : (xs ys us vs : List ℕ) → length xs ≡ length ys → slice_cmp nat_cmp (xs ++ us) (ys ++ vs) ≡ ordering_then (slice_cmp nat_cmp xs ys) (slice_cmp nat_cmp us vs)
in_parts [] [] us vs e = refl
in_parts [] (y ∷ ys) us vs e = absurd (omega arith)
in_parts (x ∷ xs) [] us vs e = absurd (omega arith)
in_parts (x ∷ xs) (y ∷ ys) us vs e =
    ap (ordering_then (nat_cmp x y)) (in_parts xs ys us vs (omega arith))
    ∙ then_then (nat_cmp x y) (slice_cmp nat_cmp xs ys) (slice_cmp nat_cmp us vs)

-- the first words of two sets, and then the others
word_first : (w v a b count : ℕ) → w < 2 ^ 64 → v < 2 ^ 64 → bytes_cmp (8 + count) (a * 2 ^ 64 + w) (b * 2 ^ 64 + v) ≡ ordering_then (bytes_cmp 8 w v) (bytes_cmp count a b)
word_first w v a b count low_w low_v =
    let of_w : bytes_of (8 + count) (a * 256 ^ 8 + w) ≡ bytes_of 8 w ++ bytes_of count a = bytes_of-two 8 count w a low_w in
    let of_v : bytes_of (8 + count) (b * 256 ^ 8 + v) ≡ bytes_of 8 v ++ bytes_of count b = bytes_of-two 8 count v b low_v in
    rw (of_w, of_v) (in_parts (bytes_of 8 w) (bytes_of 8 v) (bytes_of count a) (bytes_of count b) (length-bytes_of 8 w ∙ sym (length-bytes_of 8 v)))

-- the first word that differs decides
pub first_word : (ws vs : List ℕ) → AllFit ws → AllFit vs → length ws ≡ length vs → (i : ℕ) → i < length ws → ((k : ℕ) → k < i → get_or ws k 0 ≡ get_or vs k 0) → get_or ws i 0 ≢ get_or vs i 0 → bytes_cmp (8 * length ws) (set_of_words ws) (set_of_words vs) ≡ bytes_cmp 8 (get_or ws i 0) (get_or vs i 0)
first_word [] vs fw fv long i h same other = absurd (omega arith)
first_word (w ∷ ws) [] fw fv long i h same other = absurd (omega arith)
first_word (w ∷ ws) (v ∷ vs) fw fv long zero h same other =
    let count : 8 * length (w ∷ ws) ≡ 8 + 8 * length ws = omega arith in
    ap (λ n. bytes_cmp n (set_of_words (w ∷ ws)) (set_of_words (v ∷ vs))) count
    ∙ word_first w v (set_of_words ws) (set_of_words vs) (8 * length ws) (fw 0) (fv 0)
    ∙ first_tells (bytes_cmp 8 w v) _ (λ e. other (same_bytes 8 w v (fw 0) (fv 0) e))
first_word (w ∷ ws) (v ∷ vs) fw fv long (suc i) h same other =
    let count : 8 * length (w ∷ ws) ≡ 8 + 8 * length ws = omega arith in
    let e : w ≡ v = same 0 (omega arith) in
    ap (λ n. bytes_cmp n (set_of_words (w ∷ ws)) (set_of_words (v ∷ vs))) count
    ∙ word_first w v (set_of_words ws) (set_of_words vs) (8 * length ws) (fw 0) (fv 0)
    ∙ ap (λ r. ordering_then r (bytes_cmp (8 * length ws) (set_of_words ws) (set_of_words vs)))
    (ap (λ x. bytes_cmp 8 x v) e ∙ tied_itself nat_list_cmp_total (bytes_of 8 v))
    ∙ first_word ws vs (λ k. fw (suc k)) (λ k. fv (suc k)) (omega arith) i (omega arith) (λ k less. same (suc k) (omega arith)) other

-- words of which none differs
pub same_words : (ws vs : List ℕ) (count : ℕ) → length ws ≡ length vs → ((k : ℕ) → k < length ws → get_or ws k 0 ≡ get_or vs k 0) → bytes_cmp count (set_of_words ws) (set_of_words vs) ≡ Equal
same_words ws vs count long same =
    ap (λ us. bytes_cmp count (set_of_words us) (set_of_words vs)) (ext_get_or 0 ws vs long same)
    ∙ tied_itself nat_list_cmp_total (bytes_of count (set_of_words vs))

-- words compare as sets as their bytes do
pub words_cmp : (ws vs : List ℕ) → AllFit ws → AllFit vs → length ws ≡ length vs → set_cmp (set_of_words ws) (set_of_words vs) ≡ bytes_cmp (8 * length ws) (set_of_words ws) (set_of_words vs)
words_cmp ws vs fw fv long = set_cmp-bytes (8 * length ws) (set_of_words ws) (set_of_words vs) (words_below ws fw) (rw long (words_below vs fv))
