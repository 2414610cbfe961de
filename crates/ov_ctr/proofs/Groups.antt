-- One more group of four blocks.
use Rattle.std.proofs.Common.{◌≡◌, ℕ, ◌+◌, ◌-◌, ◌*◌, ◌/◌, ◌%◌, ◌<◌, ◌≤◌, Bool, true, false, ltb, ltb-true, ltb-false, List, [], ◌++◌, length, take, drop, get_or, bit_xor, refl, ap, ◌∙◌, arith, length-take, length-drop, length-append}
use Rattle.std.proofs.lemmas.List.{get_or-append_right, get_or-drop, get_or-take, get_or_append_left}
use borrow.Rule.Slice.PartMut.{put_mid, post_of}
use Rattle.ov_aes.specs.Aes.{aes256}
use Rattle.ov_aes.specs.Fronts.{with_last}
use Rattle.ov_ctr.specs.Ctr.{counter_block, pad_byte}
use Rattle.ov_ctr.proofs.Places.{counter_with_last, pad_of_block}

-- a byte of a list in which a part has changed
pub before_part : (a k : ℕ) (xs ys : List ℕ) (n : ℕ) → n < a → a ≤ length xs → get_or (put_mid a k xs ys) n 0 ≡ get_or xs n 0
before_part a k xs ys n lt le =
    let long : length (take a xs) ≡ a = simp length-take (omega arith) in
    get_or_append_left (take a xs) (ys ++ post_of a k xs) 0 n (omega (arith, long)) ∙ get_or-take a xs n 0 lt

pub in_part : (a k : ℕ) (xs ys : List ℕ) (n : ℕ) → n < length ys → a ≤ length xs → get_or (put_mid a k xs ys) (a + n) 0 ≡ get_or ys n 0
in_part a k xs ys n lt le =
    let long : length (take a xs) ≡ a = simp length-take (omega arith) in
    let place : a + n - a ≡ n = omega arith in
    get_or-append_right (take a xs) (ys ++ post_of a k xs) a (a + n) 0 long (omega arith)
    ∙ ap (λ t. get_or (ys ++ post_of a k xs) t 0) place
    ∙ get_or_append_left ys (post_of a k xs) 0 n lt

pub after_part : (a k : ℕ) (xs ys : List ℕ) (n : ℕ) → a + k ≤ n → length ys ≡ k → a ≤ length xs → get_or (put_mid a k xs ys) n 0 ≡ get_or xs n 0
after_part a k xs ys n ge len le =
    let long : length (take a xs) ≡ a = simp length-take (omega arith) in
    let place : a + (k + (n - a - k)) ≡ n = omega arith in
    get_or-append_right (take a xs) (ys ++ post_of a k xs) a n 0 long (omega arith)
    ∙ get_or-append_right ys (post_of a k xs) k (n - a) 0 len (omega arith)
    ∙ get_or-drop k (drop a xs) (n - a - k) 0 ∙ get_or-drop a xs (k + (n - a - k)) 0 ∙ ap (λ t. get_or xs t 0) place

pub length_part : (a k : ℕ) (xs ys : List ℕ) → length ys ≡ k → a + k ≤ length xs → length (put_mid a k xs ys) ≡ length xs
length_part a k xs ys len le = simp (length-append, length-take, length-drop) (omega (arith, len))

-- the pad's bytes in a group
pub pad_of_group : (key : List ℕ) (tag file n g : ℕ) (pads : List (List ℕ)) (i : ℕ)
    → ((m : ℕ) → m < 4 → get_or pads m [] ≡ aes256 key (with_last (counter_block tag file n) (n % 256 + 4 * g + m)))
    → n % 256 + 4 * g + 4 ≤ 256 → i < 64
    → get_or (get_or pads (i / 16) []) (i % 16) 0 ≡ pad_byte key tag file (16 * n + (64 * g + i))
pad_of_group key tag file n g pads i pad le lt =
    let m = 4 * g + i / 16 in
    let last : n % 256 + 4 * g + i / 16 ≡ n % 256 + m = omega arith in
    ap (λ t. get_or t (i % 16) 0) (pad (i / 16) (omega arith)
    ∙ ap (aes256 key) (ap (with_last (counter_block tag file n)) last ∙ counter_with_last tag file n m (omega arith)))
    ∙ pad_of_block key tag file (n + m) (i % 16) (16 * n + (64 * g + i)) (omega arith) (omega arith)

at_place : (old now new : List ℕ) (f : ℕ → ℕ) (g k : ℕ) (t : Bool) → ltb k (64 * g) ≡ t
    → length now ≡ length old → 64 * g + 64 ≤ length old → length new ≡ 64
    → ((i : ℕ) → i < 64 * g → get_or now i 0 ≡ bit_xor (get_or old i 0) (f i))
    → ((i : ℕ) → 64 * g ≤ i → get_or now i 0 ≡ get_or old i 0)
    → ((i : ℕ) → i < 64 → get_or new i 0 ≡ bit_xor (get_or now (64 * g + i) 0) (f (64 * g + i)))
    → k < 64 * (g + 1) → get_or (put_mid (64 * g) 64 now new) k 0 ≡ bit_xor (get_or old k 0) (f k)
at_place old now new f g k true e len le size before after group lt =
    let here = ltb-true k (64 * g) e in
    before_part (64 * g) 64 now new k here (omega (arith, len)) ∙ before k here
at_place old now new f g k false e len le size before after group lt =
    let here = ltb-false k (64 * g) e in
    let i = k - 64 * g in
    let place : 64 * g + i ≡ k = omega (arith, here) in
    let there : get_or (put_mid (64 * g) 64 now new) (64 * g + i) 0 ≡ bit_xor (get_or old (64 * g + i) 0) (f (64 * g + i))
    = in_part (64 * g) 64 now new i (omega (arith, size, lt, here)) (omega (arith, len))
    ∙ group i (omega (arith, lt, here)) ∙ ap (λ t. bit_xor t (f (64 * g + i))) (after (64 * g + i) (omega arith)) in
    rw place at there

-- the bytes up to the end of the next group
pub one_more_group : (old now new : List ℕ) (f : ℕ → ℕ) (g k : ℕ)
    → length now ≡ length old → 64 * g + 64 ≤ length old → length new ≡ 64
    → ((i : ℕ) → i < 64 * g → get_or now i 0 ≡ bit_xor (get_or old i 0) (f i))
    → ((i : ℕ) → 64 * g ≤ i → get_or now i 0 ≡ get_or old i 0)
    → ((i : ℕ) → i < 64 → get_or new i 0 ≡ bit_xor (get_or now (64 * g + i) 0) (f (64 * g + i)))
    → k < 64 * (g + 1) → get_or (put_mid (64 * g) 64 now new) k 0 ≡ bit_xor (get_or old k 0) (f k)
one_more_group old now new f g k = at_place old now new f g k (ltb k (64 * g)) refl
