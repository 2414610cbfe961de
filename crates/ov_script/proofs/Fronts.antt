-- What is at the front of a text.
use Rattle.std.proofs.Common.{◌≡◌, ℕ, ◌+◌, ◌<◌, ◌≤◌, Bool, true, false, List, [], ◌∷◌, ◌++◌, length, take, drop, refl, sym, ◌∙◌, ap, subst, append_assoc, length-append, append-nil, arith, Option, Some, None, inl, inr, take-append-drop, Result, Ok, Err}
use Rattle.std.specs.Prelude.{MatchBool}
use Rattle.std.proofs.lemmas.List.{take_at, length-take-le}
use Rattle.std.proofs.lemmas.Bool.{cases_lt}
use Rattle.std.specs.Io.KnownBytes.{IsAtEnd, prepend_known}
use Rattle.ov_script.specs.declared.ended.Ended.{Ended}
use Rattle.ov_script.specs.declared.ended.Ended.TheVariants.{Bad, Long}
use Rattle.ov_script.specs.declared.find.Seen.{Seen}
use Rattle.ov_script.specs.declared.find.Seen.TheVariants.{Open}
use Rattle.ov_script.specs.declared.first_line.FirstLine.{FirstLine}
use Rattle.ov_script.specs.declared.front.Front.{Front}
use Rattle.ov_script.specs.declared.front.Front.TheVariants.{Start}
use Rattle.ov_script.specs.Finding.{Finds, IsSettled, IsOpen}
use Rattle.ov_script.specs.NoItem.{IsWhyNone}
use Rattle.ov_script.specs.ItemLines.{SaysLine}
use Rattle.ov_script.specs.Items.{BeginsWithItem, CanBegin}
use Rattle.ov_script.specs.LineFeeds.{NoLf}
use Rattle.ov_script.specs.LineFronts.{run}
use Rattle.ov_script.specs.LineEnds.{may_go_on}
use Rattle.ov_script.specs.Reading.{IsBad, cut, wrong, IsTooLong}
use Rattle.ov_script.specs.Taking.{IsUnsettled}
use Rattle.ov_script.proofs.Beginning.{alive_can, alive_short, dead_cannot, none_without_lf, CanBegin-front, begins_can}
use Rattle.ov_script.proofs.Continuations.{run-append}
use Rattle.ov_script.proofs.Grammar.{not_at_line, item_past}
use Rattle.ov_script.proofs.Readings.{front_kept}

-- ---- what can't begin an item

nothing_can : (text : List ℕ) → length text ≡ 0 → CanBegin text
nothing_can [] e = alive_can [] refl
nothing_can (b ∷ text) e = absurd (omega arith)

-- a text whose front can't begin an item is bad, where there is room for that front
pub bad_front : (room : ℕ) (front rest : List ℕ) → length front ≤ room → (CanBegin front → ⊥) → IsBad room (front ++ rest)
bad_front room front rest within never =
    let kept = front_kept front rest room within in
    let not_empty : length (front ++ rest) ≡ 0 → ⊥ = λ e. never (CanBegin-front front rest (nothing_can (front ++ rest) e)) in
    elim (cases_lt room (length (front ++ rest))) as (λ _. IsBad room (front ++ rest)) [
      | inl past ↦ wrong past (λ can. never (CanBegin-front front kept.0 (subst CanBegin kept.1 can)))
      | inr fits ↦ cut (omega arith) fits (λ b. never (CanBegin-front front rest (begins_can (front ++ rest) b)))
    ]

pub finds_bad : (room : ℕ) (bytes : List ℕ) (left : Option (List ℕ)) → length bytes ≤ room → (CanBegin bytes → ⊥) → IsWhyNone room (prepend_known bytes left) Bad
finds_bad room bytes None within never = tt
finds_bad room bytes (Some rest) within never = bad_front room bytes rest within never

-- ---- a line that may go on, or not

pub open_front : (room : ℕ) (bytes : List ℕ) → length bytes ≤ room → NoLf bytes → may_go_on (run Start bytes) (length bytes) ≡ true → IsOpen room bytes
open_front room bytes within no_lf alive =
    record { no_lf = no_lf; short = alive_short bytes alive; unsettled = record { within = within; can = alive_can bytes alive; none = none_without_lf bytes no_lf } }

pub dead_front : (room : ℕ) (bytes : List ℕ) (left : Option (List ℕ)) → length bytes ≤ room → NoLf bytes → may_go_on (run Start bytes) (length bytes) ≡ false → IsWhyNone room (prepend_known bytes left) Bad
dead_front room bytes left within no_lf dead = finds_bad room bytes left within (dead_cannot bytes no_lf dead)

-- the fresh bytes are run behind those that were seen
run_fresh : (bytes fresh : List ℕ) (front : Front) (seen : ℕ) → front ≡ run Start (take seen bytes) → fresh ≡ drop seen bytes → run front fresh ≡ run Start bytes
run_fresh bytes fresh front seen e f =
    ap (λ s. run s fresh) e ∙ ap (λ l. run (run Start (take seen bytes)) l) f ∙ sym (run-append Start (take seen bytes) (drop seen bytes)) ∙ ap (run Start) (take-append-drop seen bytes)

settled_by : (room : ℕ) (bytes : List ℕ) (front : Front) (seen : Result Seen Ended) (alive : Bool) → length bytes ≤ room → NoLf bytes → front ≡ run Start bytes → may_go_on front (length bytes) ≡ alive
    → MatchBool alive (seen ≡ Ok (Open front)) (seen ≡ Err Bad) → IsSettled room bytes seen
settled_by room bytes front seen true within no_lf e a is = subst (IsSettled room bytes) (sym is) (e, open_front room bytes within no_lf (ap (λ f. may_go_on f (length bytes)) (sym e) ∙ a))
settled_by room bytes front seen false within no_lf e a is = subst (IsSettled room bytes) (sym is) (λ left. dead_front room bytes left within no_lf (ap (λ f. may_go_on f (length bytes)) (sym e) ∙ a))

-- what is known of the bytes
pub settled_front : (room : ℕ) (bytes fresh : List ℕ) (front : Front) (count : ℕ) (seen : Result Seen Ended) → length bytes ≤ room → NoLf bytes → front ≡ run Start (take count bytes) → fresh ≡ drop count bytes
    → MatchBool (may_go_on (run front fresh) (length bytes)) (seen ≡ Ok (Open (run front fresh))) (seen ≡ Err Bad) → IsSettled room bytes seen
settled_front room bytes fresh front count seen within no_lf e f is =
    settled_by room bytes (run front fresh) seen (may_go_on (run front fresh) (length bytes)) within no_lf (run_fresh bytes fresh front count e f) refl is

-- ---- a whole line

pub finds_no_line : (room end : ℕ) (bytes line rest : List ℕ) (left : Option (List ℕ))
    → NoLf line → length line ≡ end → bytes ≡ line ++ 10 ∷ rest → end < room → ((said : FirstLine) → SaysLine (take end bytes) said → ⊥) → IsWhyNone room (prepend_known bytes left) Bad
finds_no_line room end bytes line rest None no_lf count whole within none = tt
finds_no_line room end bytes line rest (Some more) no_lf count whole within none =
    let front : take end bytes ≡ line = ap (take end) whole ∙ take_at line (10 ∷ rest) end count in
    let size : length (line ++ 10 ∷ []) ≡ length line + 1 = length-append line (10 ∷ []) in
    let joined : (line ++ 10 ∷ []) ++ (rest ++ more) ≡ bytes ++ more = sym (append_assoc (line ++ 10 ∷ []) rest more) ∙ ap (λ b. b ++ more) (append_assoc line (10 ∷ []) rest ∙ sym whole) in
    let never : CanBegin (line ++ 10 ∷ []) → ⊥ =
    λ (after', b). not_at_line line after' no_lf (λ said says. none said (subst (λ t. SaysLine t said) (sym front) says)) (subst BeginsWithItem (append_assoc line (10 ∷ []) after') b) in
    subst (IsBad room) joined (bad_front room (line ++ 10 ∷ []) (rest ++ more) (omega arith) never)

-- ---- more than may be read

too_long : (room : ℕ) (text : List ℕ) → room < length text → NoLf (take room text) → CanBegin (take room text) → IsTooLong room text
too_long room text past no_lf can =
    let size : length (take room text) ≡ room = length-take-le room text (omega arith) in
    record {
      past = past;
      can = can;
      none_fits = λ item rest command e is.
          let beyond : length (take room text) < length item = item_past (take room text) (drop room text) item rest command no_lf (take-append-drop room text ∙ e) is in
          omega arith;
    }

-- more behind the text changes nothing of what may be read
take_more : (room : ℕ) (bytes more : List ℕ) → room < length bytes → take room (bytes ++ more) ≡ take room bytes
take_more room bytes more past =
    let whole : bytes ++ more ≡ take room bytes ++ (drop room bytes ++ more) =
    ap (λ b. b ++ more) (sym (take-append-drop room bytes)) ∙ append_assoc (take room bytes) (drop room bytes) more in
    let size : length (take room bytes) ≡ room = length-take-le room bytes (omega arith) in
    ap (take room) whole ∙ take_at (take room bytes) (drop room bytes ++ more) room size

-- whether a line may go on behind as many bytes as may be read, by their number
full_front : (room : ℕ) (bytes : List ℕ) → room < length bytes → (alive : Bool) → may_go_on (run Start (take room bytes)) room ≡ alive
    → may_go_on (run Start (take room bytes)) (length (take room bytes)) ≡ alive
full_front room bytes past alive e = ap (may_go_on (run Start (take room bytes))) (length-take-le room bytes (omega arith)) ∙ e

pub finds_long : (room : ℕ) (bytes : List ℕ) (left : Option (List ℕ)) → room < length bytes → NoLf (take room bytes) → may_go_on (run Start (take room bytes)) room ≡ true → IsWhyNone room (prepend_known bytes left) Long
finds_long room bytes None past no_lf alive = tt
finds_long room bytes (Some more) past no_lf alive =
    let same : take room (bytes ++ more) ≡ take room bytes = take_more room bytes more past in
    let size : length (bytes ++ more) ≡ length bytes + length more = length-append bytes more in
    too_long room (bytes ++ more) (omega arith) (subst NoLf (sym same) no_lf) (subst CanBegin (sym same) (alive_can (take room bytes) (full_front room bytes past true alive)))

pub finds_never : (room : ℕ) (bytes : List ℕ) (left : Option (List ℕ)) → room < length bytes → NoLf (take room bytes) → may_go_on (run Start (take room bytes)) room ≡ false → IsWhyNone room (prepend_known bytes left) Bad
finds_never room bytes None past no_lf dead = tt
finds_never room bytes (Some more) past no_lf dead =
    let same : take room (bytes ++ more) ≡ take room bytes = take_more room bytes more past in
    let size : length (bytes ++ more) ≡ length bytes + length more = length-append bytes more in
    wrong (omega arith) (λ can. dead_cannot (take room bytes) no_lf (full_front room bytes past false dead) (subst CanBegin same can))

-- ---- the end

pub finds_cut : (room count : ℕ) (bytes : List ℕ) (left : Option (List ℕ)) → (count ≡ 0 → ⊥) → length bytes ≡ count → IsUnsettled room bytes → IsAtEnd left → IsWhyNone room (prepend_known bytes left) Bad
finds_cut room count bytes None some size u end = tt
finds_cut room count bytes (Some rest) some size u end =
    let whole : bytes ≡ bytes ++ rest = sym (ap (λ r. bytes ++ r) end ∙ append-nil bytes) in
    let within : length bytes ≤ room = u.within in
    subst (IsBad room) whole (cut (omega arith) within u.none)
