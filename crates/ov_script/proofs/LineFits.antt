-- Whether bytes begin a line, and whether they are one.
use Rattle.std.proofs.Common.{◌≡◌, ℕ, zero, suc, ◌+◌, ◌*◌, ◌-◌, ◌<◌, ◌≤◌, Bool, true, false, List, [], ◌∷◌, ◌++◌, length, refl, sym, subst, append-nil, length-append, arith, ◌&&◌, ◌==◌, Option, Some, None}
use Rattle.std.specs.Prelude.{nat_lt, nat_le}
use Rattle.std.proofs.lemmas.Bool.{and_parts}
use Rattle.std.proofs.lemmas.Bool.Decides.{nat_tests}
use Rattle.std.proofs.lemmas.List.{nil_from_length}
use Rattle.ov_base.specs.declared.limits.TheConstants.{MAX_FILE_BYTES, MAX_LINE_BYTES}
use Rattle.ov_base.specs.Names.{is_letter_or_digit}
use Rattle.ov_script.specs.LineEnds.{fewest_more, has_room, may_go_on}
use Rattle.ov_script.specs.LineFronts.{spelling, behind, after_name, after_comma, chosen, chosen_by, first_bytes, next_bytes, word_by, is_spelled, end_by, name_by, is_named, readers_by, size_by, is_digit, step, run}
use Rattle.ov_script.specs.declared.front.Word.{Word}
use Rattle.ov_script.specs.declared.front.Word.TheVariants.{Enrol, Create, Grant, Revoke, Remove, Replace, Read, List as Word-List, Epoch}
use Rattle.ov_script.specs.declared.front.Stem.{Stem}
use Rattle.ov_script.specs.declared.front.Stem.TheVariants.{E, R, Re}
use Rattle.ov_script.specs.declared.front.Then.{Then}
use Rattle.ov_script.specs.declared.front.Then.TheVariants.{End, LastName, Readers, Size, NextReader}
use Rattle.ov_script.specs.declared.front.Front.{Front}
use Rattle.ov_script.specs.declared.front.Front.TheVariants.{Start, InStem, InWord, InName, AtReaders, Nobody, InSize, Done, Never}
use Rattle.ov_script.proofs.Completions.{AtLeast, fits_needs, IsSound, IfSoMany, some_text}
use Rattle.ov_script.proofs.Continuations.{fits_run, run_fits}
use Rattle.ov_script.proofs.Decided.{Decided, yes, no'}
use Rattle.ov_script.proofs.Fitting.{Fits}
use Rattle.ov_script.proofs.SizeFronts.{digit_bounds}
use Rattle.ov_script.proofs.WordFits.{word_spells}

-- ---- what is read is sound

sound_behind : (word : Word) → IsSound (behind word)
sound_behind Enrol = tt
sound_behind Create = tt
sound_behind Grant = tt
sound_behind Revoke = tt
sound_behind Remove = tt
sound_behind Replace = tt
sound_behind Read = tt
sound_behind Word-List = tt
sound_behind Epoch = tt

sound_after : (next : Then) → IsSound (after_name next)
sound_after End = tt
sound_after LastName = tt
sound_after Readers = tt
sound_after Size = tt
sound_after NextReader = tt

sound_comma : (next : Then) → IsSound (after_comma next)
sound_comma End = tt
sound_comma LastName = tt
sound_comma Readers = tt
sound_comma Size = tt
sound_comma NextReader = tt

abbrev AreSound : List (ℕ × Front) → Type 0
AreSound [] = Unit {0}
AreSound (choice ∷ choices) = IsSound choice.1 × AreSound choices

sound_by : (same : Bool) (front other : Front) → IsSound front → IsSound other → IsSound (chosen_by same front other)
sound_by true front other p q = p
sound_by false front other p q = q

sound_chosen : (b : ℕ) (choices : List (ℕ × Front)) → AreSound choices → IsSound (chosen b choices)
sound_chosen b [] s = tt
sound_chosen b (choice ∷ choices) s = sound_by (b == choice.0) choice.1 (chosen b choices) s.0 (sound_chosen b choices s.1)

sound_next : (stem : Stem) → AreSound (next_bytes stem)
sound_next E = (omega arith, (omega arith, tt))
sound_next R = (tt, tt)
sound_next Re = (omega arith, (omega arith, (omega arith, (omega arith, tt))))

sound_word : (word : Word) (count b : ℕ) (spelled last : Bool) → is_spelled word count b ≡ spelled → (count + 1 == length (spelling word)) ≡ last → IsSound (word_by spelled last word count)
sound_word word count b false last s l = tt
sound_word word count b true true s l = sound_behind word
sound_word word count b true false s l =
    let spells = word_spells word count b s in
    let not_end : count + 1 ≡ length (spelling word) → ⊥ = λ e. grind (arith, nat_tests) in
    omega (arith, spells.0, not_end)

sound_end : (space comma : Bool) (next : Then) → IsSound (end_by space comma next)
sound_end true comma next = sound_after next
sound_end false true next = sound_comma next
sound_end false false next = tt

sound_name : (next : Then) (count b : ℕ) (named whole : Bool) → IsSound (name_by named whole next count b)
sound_name next count b true whole = tt
sound_name next count b false true = sound_end (b == 32) (b == 44) next
sound_name next count b false false = tt

sound_readers : (letter dash : Bool) → IsSound (readers_by letter dash)
sound_readers true dash = tt
sound_readers false true = tt
sound_readers false false = tt

sound_first : (b : ℕ) (digit : Bool) → is_digit b ≡ digit → IsSound (size_by digit (b - 48))
sound_first b false d = tt
sound_first b true d = let bounds = digit_bounds b d in omega (arith, bounds.1)

sound_size : (n b : ℕ) (test : Bool) → (is_digit b && (nat_lt 0 n && nat_le (n * 10 + (b - 48)) MAX_FILE_BYTES)) ≡ test → IsSound (size_by test (n * 10 + (b - 48)))
sound_size n b false t = tt
sound_size n b true t =
    let outer = and_parts (is_digit b) (nat_lt 0 n && nat_le (n * 10 + (b - 48)) MAX_FILE_BYTES) t in
    let inner = and_parts (nat_lt 0 n) (nat_le (n * 10 + (b - 48)) MAX_FILE_BYTES) outer.1 in
    let fits : nat_le (n * 10 + (b - 48)) MAX_FILE_BYTES ≡ true = inner.1 in
    grind (arith, nat_tests)

sound_step : (front : Front) (b : ℕ) → IsSound (step front b)
sound_step Start b = sound_chosen b first_bytes (omega arith, (tt, (omega arith, (omega arith, (tt, tt)))))
sound_step (InStem stem) b = sound_chosen b (next_bytes stem) (sound_next stem)
sound_step (InWord word count) b = sound_word word count b (is_spelled word count b) (count + 1 == length (spelling word)) refl refl
sound_step (InName next count) b = sound_name next count b (is_named count b) (nat_lt 0 count)
sound_step AtReaders b = sound_readers (is_letter_or_digit b) (b == 45)
sound_step Nobody b = sound_by (b == 32) (InSize None) Never tt tt
sound_step (InSize None) b = sound_first b (is_digit b) refl
sound_step (InSize (Some n)) b = sound_size n b (is_digit b && (nat_lt 0 n && nat_le (n * 10 + (b - 48)) MAX_FILE_BYTES)) refl
sound_step Done b = tt
sound_step Never b = tt

sound_run : (front : Front) (bytes : List ℕ) → IsSound front → IsSound (run front bytes)
sound_run front [] s = s
sound_run front (b ∷ bytes) s = sound_run (step front b) bytes (sound_step front b)

-- ---- whether the bytes are a line

none_or_not : (front : Front) (fewest : Option ℕ) → fewest_more front ≡ fewest → IfSoMany fewest (Fits front) → Decided (Fits front [])
none_or_not front None e some = no' (λ p. subst (λ f. AtLeast f 0) e (fits_needs front [] p))
none_or_not front (Some zero) e (text, p, size) = yes (subst (Fits front) (nil_from_length text size) p)
none_or_not front (Some (suc n)) e some = no' (λ p. let more : suc n ≤ 0 = subst (λ f. AtLeast f 0) e (fits_needs front [] p) in absurd (omega arith))

pub line_or_not : (bytes : List ℕ) → Decided (Fits Start bytes)
line_or_not bytes =
    elim (none_or_not (run Start bytes) (fewest_more (run Start bytes)) refl (some_text (run Start bytes) (sound_run Start bytes tt))) as (λ _. Decided (Fits Start bytes)) [
      | yes p ↦ yes (subst (Fits Start) (append-nil bytes) (run_fits Start bytes [] p))
      | no' none ↦ no' (λ p. none (fits_run Start bytes [] (subst (Fits Start) (sym (append-nil bytes)) p)))
    ]

-- ---- whether they begin one

room_for : (front : Front) (count : ℕ) (fewest : Option ℕ) → IfSoMany fewest (Fits front) → has_room fewest count ≡ true → (text : List ℕ) × Fits front text × (count + length text < MAX_LINE_BYTES)
room_for front count None some room = absurd (cc)
room_for front count (Some n) (text, p, size) room = let less : count + n < MAX_LINE_BYTES = grind (arith, nat_tests) in (text, p, omega arith)

-- where the line may go on, some text makes it whole
pub alive_fits : (bytes : List ℕ) → may_go_on (run Start bytes) (length bytes) ≡ true → (text : List ℕ) × Fits Start (bytes ++ text) × (length (bytes ++ text) < MAX_LINE_BYTES)
alive_fits bytes alive =
    let some = room_for (run Start bytes) (length bytes) (fewest_more (run Start bytes)) (some_text (run Start bytes) (sound_run Start bytes tt)) alive in
    let size : length (bytes ++ some.0) ≡ length bytes + length some.0 = length-append bytes some.0 in
    let room : length bytes + length some.0 < MAX_LINE_BYTES = some.2 in
    (some.0, run_fits Start bytes some.0 some.1, omega arith)

no_room : (count more : ℕ) (fewest : Option ℕ) → AtLeast fewest more → has_room fewest count ≡ false → count + more < MAX_LINE_BYTES → ⊥
no_room count more None needs full less = needs
no_room count more (Some n) needs full less = grind (arith, nat_tests)

-- where the line may not go on, no text makes it whole
pub dead_fits : (bytes text : List ℕ) → may_go_on (run Start bytes) (length bytes) ≡ false → Fits Start (bytes ++ text) → length (bytes ++ text) < MAX_LINE_BYTES → ⊥
dead_fits bytes text dead p short =
    let size : length (bytes ++ text) ≡ length bytes + length text = length-append bytes text in
    no_room (length bytes) (length text) (fewest_more (run Start bytes)) (fits_needs (run Start bytes) text (fits_run Start bytes text p)) dead (omega arith)
