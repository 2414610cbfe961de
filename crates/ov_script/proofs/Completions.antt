-- The shortest texts that make a whole line of what was read.
use Rattle.std.proofs.Common.{◌≡◌, inl, inr, ℕ, zero, suc, ◌+◌, ◌-◌, ◌<◌, ◌≤◌, true, false, List, [], ◌∷◌, ◌++◌, length, drop, refl, sym, ◌∙◌, ap, append-nil, length-append, arith, Option, Some, None}
use Rattle.std.specs.Prelude.{codes}
use Rattle.std.specs.Fmt.{decimal}
use Rattle.std.proofs.lemmas.List.{length-drop}
use Rattle.std.proofs.lemmas.Fmt.{decimal_digit, decimal_nonempty}
use Rattle.ov_base.specs.declared.limits.TheConstants.{MAX_FILE_BYTES}
use Rattle.ov_script.specs.LineEnds.{fewest_after, fewest_behind, fewest_from, fewest_more}
use Rattle.ov_script.specs.LineFronts.{spelling}
use Rattle.ov_script.specs.WrittenLists.{AreNames, with_commas, list_text}
use Rattle.ov_script.specs.declared.front.Word.{Word}
use Rattle.ov_script.specs.declared.front.Word.TheVariants.{Enrol, Create, Grant, Revoke, Remove, Replace, Read, List as Word-List, Epoch}
use Rattle.ov_script.specs.declared.front.Stem.{Stem}
use Rattle.ov_script.specs.declared.front.Stem.TheVariants.{E, R, Re}
use Rattle.ov_script.specs.declared.front.Then.{Then}
use Rattle.ov_script.specs.declared.front.Then.TheVariants.{End, LastName, Readers, Size, NextReader}
use Rattle.ov_script.specs.declared.front.Front.{Front}
use Rattle.ov_script.specs.declared.front.Front.TheVariants.{Start, InStem, InWord, InName, AtReaders, Nobody, InSize, Done, Never}
use Rattle.ov_script.proofs.Fitting.{NameThen, SpaceThen, IsNothing, IsSize, AreReaders, AreMoreReaders, Follows, Behind, RestOfWord, RestOfStem, IsWhole, Fits}
use Rattle.ov_script.proofs.NameFronts.{RestOfName}

-- ---- no text is shorter

size_needs : (text : List ℕ) → IsSize text → 1 ≤ length text
size_needs text (n, low, e) =
    let some : 0 < length (decimal n) = decimal_nonempty n (omega arith) in
    let size : length text ≡ length (decimal n) = ap length e in
    omega arith

space_needs : (P : List ℕ → Type 0) (n : ℕ) (text : List ℕ) → ((rest : List ℕ) → P rest → n ≤ length rest) → SpaceThen P text → n + 1 ≤ length text
space_needs P n text needs (rest, e, p) =
    let some : n ≤ length rest = needs rest p in
    let size : length text ≡ suc (length rest) = ap length e in
    omega arith

-- the rest of a name has a byte, where none came yet
abbrev fewest_named : ℕ → ℕ
fewest_named zero = 1
fewest_named (suc n) = 0

rest_needs : (count : ℕ) (more : List ℕ) → RestOfName count more → fewest_named count ≤ length more
rest_needs zero [] r = absurd (omega arith)
rest_needs zero (b ∷ more) r = omega arith
rest_needs (suc n) more r = omega arith

name_needs : (P : List ℕ → Type 0) (n count : ℕ) (text : List ℕ) → ((rest : List ℕ) → P rest → n ≤ length rest) → NameThen P count text → n + fewest_named count ≤ length text
name_needs P n count text needs (more, rest, e, r, p) =
    let some : n ≤ length rest = needs rest p in
    let named : fewest_named count ≤ length more = rest_needs count more r in
    let size : length text ≡ length more + length rest = ap length e ∙ length-append more rest in
    omega arith

more_readers_need : (text : List ℕ) → AreMoreReaders text → 2 ≤ length text
more_readers_need text (names, rest, are, e, is) =
    let some : 1 ≤ length rest = size_needs rest is in
    let size : length text ≡ length (with_commas names) + suc (length rest) = ap length e ∙ length-append (with_commas names) (32 ∷ rest) in
    omega arith

list_needs : (names : List (List ℕ)) → AreNames names → 1 ≤ length (list_text names)
list_needs [] are = omega arith
list_needs ([] ∷ names) are = let none : false ≡ true = are.0 in absurd (cc)
list_needs ((b ∷ name) ∷ names) are = omega arith

readers_need : (text : List ℕ) → AreReaders text → 3 ≤ length text
readers_need text (names, rest, are, e, is) =
    let some : 1 ≤ length rest = size_needs rest is in
    let list : 1 ≤ length (list_text names) = list_needs names are in
    let size : length text ≡ length (list_text names) + suc (length rest) = ap length e ∙ length-append (list_text names) (32 ∷ rest) in
    omega arith

nothing_needed : (text : List ℕ) → IsNothing text → 0 ≤ length text
nothing_needed text e = omega arith

next_needs : (next : Then) (text : List ℕ) → Follows next text → fewest_after next ≤ length text
next_needs End text p = omega arith
next_needs LastName text p = space_needs (NameThen IsNothing 0) 1 text (λ rest q. name_needs IsNothing 0 0 rest nothing_needed q) p
next_needs Readers text p = space_needs AreReaders 3 text readers_need p
next_needs Size text p = space_needs IsSize 1 text size_needs p
next_needs NextReader text p = more_readers_need text p

behind_needs : (word : Word) (text : List ℕ) → Behind word text → fewest_behind word ≤ length text
behind_needs Enrol text p = name_needs (Follows End) 0 0 text (next_needs End) p
behind_needs Create text p = name_needs (Follows Readers) 4 0 text (next_needs Readers) p
behind_needs Grant text p = name_needs (Follows LastName) 2 0 text (next_needs LastName) p
behind_needs Revoke text p = name_needs (Follows LastName) 2 0 text (next_needs LastName) p
behind_needs Remove text p = name_needs (Follows End) 0 0 text (next_needs End) p
behind_needs Replace text p = name_needs (Follows Size) 2 0 text (next_needs Size) p
behind_needs Read text p = name_needs (Follows LastName) 2 0 text (next_needs LastName) p
behind_needs Word-List text p = name_needs (Follows End) 0 0 text (next_needs End) p
behind_needs Epoch text p = omega arith

word_needs : (word : Word) (count : ℕ) (text : List ℕ) → RestOfWord word count text → length (spelling word) - count + fewest_behind word ≤ length text
word_needs word count text (within, (rest, e, p)) =
    let some : fewest_behind word ≤ length rest = behind_needs word rest p in
    let back : length (drop count (spelling word)) ≡ length (spelling word) - count = length-drop count (spelling word) in
    let size : length text ≡ length (drop count (spelling word)) + length rest = ap length e ∙ length-append (drop count (spelling word)) rest in
    omega arith

stem_needs : (stem : Stem) (text : List ℕ) → RestOfStem stem text → fewest_from stem ≤ length text
stem_needs E text (inl p) = let n : 6 ≤ length text = word_needs Enrol 1 text p in omega arith
stem_needs E text (inr p) = word_needs Epoch 1 text p
stem_needs R text (inl p) = word_needs Read 1 text p
stem_needs R text (inr (inl p)) = word_needs Remove 1 text p
stem_needs R text (inr (inr (inl p))) = let n : 10 ≤ length text = word_needs Replace 1 text p in omega arith
stem_needs R text (inr (inr (inr p))) = let n : 9 ≤ length text = word_needs Revoke 1 text p in omega arith
stem_needs Re text (inl p) = word_needs Read 2 text p
stem_needs Re text (inr (inl p)) = word_needs Remove 2 text p
stem_needs Re text (inr (inr (inl p))) = let n : 9 ≤ length text = word_needs Replace 2 text p in omega arith
stem_needs Re text (inr (inr (inr p))) = let n : 8 ≤ length text = word_needs Revoke 2 text p in omega arith

shortest_word : (word : Word) → 5 ≤ length (spelling word) + fewest_behind word
shortest_word Enrol = omega arith
shortest_word Create = omega arith
shortest_word Grant = omega arith
shortest_word Revoke = omega arith
shortest_word Remove = omega arith
shortest_word Replace = omega arith
shortest_word Read = omega arith
shortest_word Word-List = omega arith
shortest_word Epoch = omega arith

whole_needs : (text : List ℕ) → IsWhole text → 5 ≤ length text
whole_needs text (word, rest, e, p) =
    let some : fewest_behind word ≤ length rest = behind_needs word rest p in
    let size : length text ≡ length (spelling word) + length rest = ap length e ∙ length-append (spelling word) rest in
    let word_size : 5 ≤ length (spelling word) + fewest_behind word = shortest_word word in
    omega arith

-- at least this many bytes
abbrev pub AtLeast : Option ℕ → ℕ → Type 0
AtLeast None count = ⊥
AtLeast (Some n) count = n ≤ count

pub fits_needs : (front : Front) (text : List ℕ) → Fits front text → AtLeast (fewest_more front) (length text)
fits_needs Start text p = whole_needs text p
fits_needs (InStem stem) text p = stem_needs stem text p
fits_needs (InWord word count) text p = word_needs word count text p
fits_needs (InName next zero) text p = name_needs (Follows next) (fewest_after next) 0 text (next_needs next) p
fits_needs (InName next (suc n)) text p = let needs : fewest_after next + 0 ≤ length text = name_needs (Follows next) (fewest_after next) (suc n) text (next_needs next) p in omega arith
fits_needs AtReaders text p = readers_need text p
fits_needs Nobody text p = space_needs IsSize 1 text size_needs p
fits_needs (InSize None) text p = size_needs text p
fits_needs (InSize (Some n)) text p = omega arith
fits_needs Done text p = omega arith
fits_needs Never text p = p

-- ---- and some text has this many bytes

abbrev Followed : (List ℕ → Type 0) → ℕ → Type 0
Followed P n = (text : List ℕ) × P text × (length text ≡ n)

abbrev some_size : Followed IsSize 1
some_size = (48 ∷ [], (0, omega arith, sym (decimal_digit 0 (omega arith))), refl)

some_space : (P : List ℕ → Type 0) (n : ℕ) → Followed P n → Followed (SpaceThen P) (n + 1)
some_space P n (text, p, e) = let size : length text ≡ n = e in (32 ∷ text, (text, refl, p), omega arith)

some_name : (P : List ℕ → Type 0) (n : ℕ) → Followed P n → Followed (NameThen P 0) (n + 1)
some_name P n (text, p, e) = let size : length text ≡ n = e in (97 ∷ text, (97 ∷ [], text, refl, (refl, omega arith), p), omega arith)

some_end : (P : List ℕ → Type 0) (n count : ℕ) → Followed P n → Followed (NameThen P (suc count)) n
some_end P n count (text, p, e) = (text, ([], text, refl, omega arith, p), e)

some_readers : Followed AreReaders 3
some_readers = (codes "-" ++ 32 ∷ some_size.0, ([], some_size.0, tt, refl, some_size.1), refl)

some_next : (next : Then) → Followed (Follows next) (fewest_after next)
some_next End = ([], refl, refl)
some_next LastName = some_space (NameThen IsNothing 0) 1 (some_name IsNothing 0 ([], refl, refl))
some_next Readers = some_space AreReaders 3 some_readers
some_next Size = some_space IsSize 1 some_size
some_next NextReader = (32 ∷ some_size.0, ([], some_size.0, tt, refl, some_size.1), refl)

some_behind : (word : Word) → Followed (Behind word) (fewest_behind word)
some_behind Enrol = some_name (Follows End) 0 (some_next End)
some_behind Create = some_name (Follows Readers) 4 (some_next Readers)
some_behind Grant = some_name (Follows LastName) 2 (some_next LastName)
some_behind Revoke = some_name (Follows LastName) 2 (some_next LastName)
some_behind Remove = some_name (Follows End) 0 (some_next End)
some_behind Replace = some_name (Follows Size) 2 (some_next Size)
some_behind Read = some_name (Follows LastName) 2 (some_next LastName)
some_behind Word-List = some_name (Follows End) 0 (some_next End)
some_behind Epoch = ([], refl, refl)

some_word : (word : Word) (count : ℕ) → count < length (spelling word) → Followed (RestOfWord word count) (length (spelling word) - count + fewest_behind word)
some_word word count within =
    let more = some_behind word in
    let size : length (drop count (spelling word) ++ more.0) ≡ length (drop count (spelling word)) + length more.0 = length-append (drop count (spelling word)) more.0 in
    let back : length (drop count (spelling word)) ≡ length (spelling word) - count = length-drop count (spelling word) in
    let rest : length more.0 ≡ fewest_behind word = more.2 in
    (drop count (spelling word) ++ more.0, (within, (more.0, refl, more.1)), omega arith)

some_stem : (stem : Stem) → Followed (RestOfStem stem) (fewest_from stem)
some_stem E = let w = some_word Epoch 1 (omega arith) in (w.0, inr w.1, w.2)
some_stem R = let w = some_word Read 1 (omega arith) in (w.0, inl w.1, w.2)
some_stem Re = let w = some_word Read 2 (omega arith) in (w.0, inl w.1, w.2)

-- what the digits and the place in a word keep
abbrev pub IsSound : Front → Type 0
IsSound Start = Unit {0}
IsSound (InStem stem) = Unit {0}
IsSound (InWord word count) = count < length (spelling word)
IsSound (InName next count) = Unit {0}
IsSound AtReaders = Unit {0}
IsSound Nobody = Unit {0}
IsSound (InSize None) = Unit {0}
IsSound (InSize (Some n)) = n ≤ MAX_FILE_BYTES
IsSound Done = Unit {0}
IsSound Never = Unit {0}

abbrev pub IfSoMany : Option ℕ → (List ℕ → Type 0) → Type 0
IfSoMany None P = Unit {0}
IfSoMany (Some n) P = (text : List ℕ) × P text × (length text ≡ n)

pub some_text : (front : Front) → IsSound front → IfSoMany (fewest_more front) (Fits front)
some_text Start s = (codes "epoch", (Epoch, [], refl, refl), refl)
some_text (InStem stem) s = some_stem stem
some_text (InWord word count) s = some_word word count s
some_text (InName next zero) s = some_name (Follows next) (fewest_after next) (some_next next)
some_text (InName next (suc n)) s = some_end (Follows next) (fewest_after next) n (some_next next)
some_text AtReaders s = some_readers
some_text Nobody s = some_space IsSize 1 some_size
some_text (InSize None) s = some_size
some_text (InSize (Some n)) s = ([], (s, (n, s, append-nil (decimal n))), refl)
some_text Done s = ([], refl, refl)
some_text Never s = tt
