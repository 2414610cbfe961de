-- Every text has a reading: what is at its front can be decided.
use Rattle.std.proofs.Common.{◌≡◌, inl, inr, ℕ, zero, suc, ◌+◌, ◌-◌, ◌<◌, ◌≤◌, Bool, true, false, List, [], ◌∷◌, ◌++◌, length, take, drop, refl, sym, ◌∙◌, ap, subst, append_assoc, length-append, arith, take-append-drop}
use Rattle.std.proofs.lemmas.Bool.{cases_lt}
use Rattle.std.proofs.lemmas.List.{length-take-le, length-drop}
use Rattle.ov_base.specs.declared.limits.TheConstants.{MAX_LINE_BYTES}
use Rattle.ov_script.specs.declared.command.Command.{Command}
use Rattle.ov_script.specs.declared.first_line.FirstLine.{FirstLine}
use Rattle.ov_script.specs.declared.first_line.FirstLine.TheVariants.{Whole, WithBody}
use Rattle.ov_script.specs.declared.first_line.Head.{Head}
use Rattle.ov_script.specs.declared.front.Front.TheVariants.{Start}
use Rattle.ov_script.specs.ItemLines.{SaysLine, with_body}
use Rattle.ov_script.specs.Items.{IsItem, BeginsWithItem, CanBegin}
use Rattle.ov_script.specs.LineFeeds.{NoLf, lf_count}
use Rattle.ov_script.specs.LineFronts.{run}
use Rattle.ov_script.specs.LineEnds.{may_go_on}
use Rattle.ov_script.specs.Reading.{Reads, cut, wrong, Ending, AtEnd, BadAt, TooLong}
use Rattle.ov_script.proofs.Beginning.{fits_said, said_fits, alive_can, dead_cannot, none_without_lf, begins_can, can_by_body, none_in_body, wrong_behind_body}
use Rattle.ov_script.proofs.LineFits.{line_or_not}
use Rattle.ov_script.proofs.Decided.{Decided, yes, no', same_number}
use Rattle.ov_script.proofs.Grammar.{not_at_line, item_some, item_once, item_from}
use Rattle.ov_script.proofs.LineLaws.{says_short}

-- the line before the first LF, or no LF at all
pub data Split (text : List ℕ) : Type 0 where
  at_lf : (line rest : List ℕ) → NoLf line → text ≡ line ++ 10 ∷ rest → Split text
  no_lf : NoLf text → Split text

split_first : (text : List ℕ) → Split text
split_first [] = no_lf tt
split_first (b ∷ text) =
    elim (same_number b 10) as (λ _. Split (b ∷ text)) [
      | yes e ↦ at_lf [] text tt (ap (λ c. c ∷ text) e)
      | no' n ↦
          elim (split_first text) as (λ _. Split (b ∷ text)) [
            | at_lf line rest p e ↦ at_lf (b ∷ line) rest (n, p) (ap (λ l. b ∷ l) e)
            | no_lf p ↦ no_lf (n, p)
          ]
    ]

-- what a line says
line_says : (line : List ℕ) → Decided ((said : FirstLine) × SaysLine line said)
line_says line =
    elim (line_or_not line) as (λ _. Decided ((said : FirstLine) × SaysLine line said)) [
      | yes p ↦
          elim (cases_lt (length line) MAX_LINE_BYTES) as (λ _. Decided ((said : FirstLine) × SaysLine line said)) [
            | inl short ↦ yes (fits_said line short p)
            | inr long ↦ no' (λ (said, q). let short : length line < MAX_LINE_BYTES = says_short line said q in absurd (omega arith))
          ]
      | no' none ↦ no' (λ (said, p). none (said_fits line said p))
    ]

-- ---- behind the line of a body

-- a text is a body and more, or shorter
pub data Cut (size : ℕ) (text : List ℕ) : Type 0 where
  short : length text ≤ size → Cut size text
  longer : (body rest : List ℕ) (b : ℕ) → length body ≡ size → text ≡ body ++ b ∷ rest → Cut size text

cut_at : (size : ℕ) (text : List ℕ) → Cut size text
cut_at size text = elim (cases_lt size (length text)) as (λ _. Cut size text) [ inl past ↦ further (drop size text) refl past | inr within ↦ short within ] where
  further : (rest : List ℕ) → rest ≡ drop size text → size < length text → Cut size text
  further [] e past =
      let none : length (drop size text) ≡ 0 = sym (ap length e) in
      let size' : length (drop size text) ≡ length text - size = length-drop size text in
      absurd (omega arith)
  further (b ∷ rest) e past = longer (take size text) rest b (length-take-le size text (omega arith)) (sym (take-append-drop size text) ∙ ap (λ t. take size text ++ t) (sym e))

-- whether an item is there, or could
pub record AtBody (line text : List ℕ) : Type 0 where
  pub item : Decided (BeginsWithItem (line ++ 10 ∷ text))
  pub can : Decided (CanBegin (line ++ 10 ∷ text))

whole_body : (line body rest : List ℕ) (head : Head) (size : ℕ) → SaysLine line (WithBody head size) → length body ≡ size → BeginsWithItem (line ++ 10 ∷ (body ++ 10 ∷ rest))
whole_body line body rest head size p count = (
  line ++ 10 ∷ (body ++ 10 ∷ []),
  rest,
  with_body head body,
  ap (λ t. line ++ 10 ∷ t) (sym (append_assoc body (10 ∷ []) rest)) ∙ sym (append_assoc line (10 ∷ (body ++ 10 ∷ [])) rest),
  item_from line (body ++ 10 ∷ []) (WithBody head size) (with_body head body) p (body, count, refl, refl),
)

at_body : (line text : List ℕ) (head : Head) (size : ℕ) → SaysLine line (WithBody head size) → AtBody line text
at_body line text head size p =
    elim (cut_at size text) as (λ _. AtBody line text) [
      | short within ↦ record { item = no' (none_in_body line text head size p within); can = yes (can_by_body line text head size p within) }
      | longer body rest b count e ↦
          elim (same_number b 10) as (λ _. AtBody line text) [
            | yes lf ↦
                let whole : text ≡ body ++ 10 ∷ rest = e ∙ ap (λ c. body ++ c ∷ rest) lf in
                let begins = subst (λ t. BeginsWithItem (line ++ 10 ∷ t)) (sym whole) (whole_body line body rest head size p count) in
                record { item = yes begins; can = yes (begins_can (line ++ 10 ∷ text) begins) }
            | no' differs ↦ record {
              item = no' (λ i. wrong_behind_body line body rest head size b p count differs (subst (λ t. BeginsWithItem (line ++ 10 ∷ t)) e i));
              can = no' (λ (more, i). wrong_behind_body line body (rest ++ more) head size b p count differs
                  (subst BeginsWithItem (append_assoc line (10 ∷ text) more ∙ ap (λ t. line ++ 10 ∷ (t ++ more)) e ∙ ap (λ t. line ++ 10 ∷ t) (append_assoc body (b ∷ rest) more)) i));
            }
          ]
    ]

at_said : (line text : List ℕ) (said : FirstLine) → SaysLine line said → AtBody line text
at_said line text (WithBody head size) p = at_body line text head size p
at_said line text (Whole command) p =
    let begins : BeginsWithItem (line ++ 10 ∷ text) = (line ++ 10 ∷ [], text, command, sym (append_assoc line (10 ∷ []) text), item_from line [] (Whole command) command p (refl, refl)) in
    record { item = yes begins; can = yes (begins_can (line ++ 10 ∷ text) begins) }

at_line : (line text : List ℕ) → NoLf line → AtBody line text
at_line line text lacks =
    elim (line_says line) as (λ _. AtBody line text) [
      | yes s ↦ at_said line text s.0 s.1
      | no' none ↦ record {
        item = no' (not_at_line line text lacks (λ said p. none (said, p)));
        can = no' (λ (more, i). not_at_line line (text ++ more) lacks (λ said p. none (said, p)) (subst BeginsWithItem (append_assoc line (10 ∷ text) more) i));
      }
    ]

-- whether an item is at the front of a text
pub item_or_none : (text : List ℕ) → Decided (BeginsWithItem text)
item_or_none text =
    elim (split_first text) as (λ _. Decided (BeginsWithItem text)) [
      | at_lf line rest p e ↦ subst (λ t. Decided (BeginsWithItem t)) (sym e) (at_line line rest p).item
      | no_lf p ↦ no' (none_without_lf text p)
    ]

-- whether bytes without LF can begin an item
begins_or_not : (text : List ℕ) (alive : Bool) → may_go_on (run Start text) (length text) ≡ alive → NoLf text → Decided (CanBegin text)
begins_or_not text true e p = yes (alive_can text e)
begins_or_not text false e p = no' (dead_cannot text p e)

-- whether a text can begin an item
pub can_or_not : (text : List ℕ) → Decided (CanBegin text)
can_or_not text =
    elim (split_first text) as (λ _. Decided (CanBegin text)) [
      | at_lf line rest p e ↦ subst (λ t. Decided (CanBegin t)) (sym e) (at_line line rest p).can
      | no_lf p ↦ begins_or_not text (may_go_on (run Start text) (length text)) refl p
    ]

-- where no item that fits is here, the reading ends
ends_here : (line room : ℕ) (text : List ℕ) → ((item rest : List ℕ) (command : Command) → text ≡ item ++ rest → IsItem item command → room < length item)
    → 0 < length text → (ending : Ending) × Reads line room text [] ending
ends_here line room text none some =
    elim (cases_lt room (length text)) as (λ _. (ending : Ending) × Reads line room text [] ending) [
      | inl past ↦
          elim (can_or_not (take room text)) as (λ _. (ending : Ending) × Reads line room text [] ending) [
            | yes can ↦ (TooLong, record { past = past; can = can; none_fits = none })
            | no' never ↦ (BadAt line, (refl, wrong past never))
          ]
      | inr fits ↦ (
        BadAt line,
        (
          refl,
          cut some fits (λ (item, rest, command, e, is).
              let longer : room < length item = none item rest command e is in
              let whole : length text ≡ length item + length rest = ap length e ∙ length-append item rest in
              absurd (omega arith)),
        ),
      )
    ]

abbrev Reading : ℕ → ℕ → List ℕ → Type 0
Reading line room text = (commands : List Command) × (ending : Ending) × Reads line room text commands ending

ended : (line room : ℕ) (text : List ℕ) → (ending : Ending) × Reads line room text [] ending → Reading line room text
ended line room text e = ([], e.0, e.1)

-- a text has a reading, where this is no less than what may be read of it
reading : (fuel line room : ℕ) (text : List ℕ) → room ≤ fuel → Reading line room text
reading fuel line room [] enough = ([], AtEnd, refl)
reading zero line room (b ∷ text) enough =
    ended line room (b ∷ text) (ends_here line room (b ∷ text) (λ item rest command e is. let some : 0 < length item = item_some item command is in omega arith) (omega arith))
reading (suc fuel) line room (b ∷ text) enough =
    elim (item_or_none (b ∷ text)) as (λ _. Reading line room (b ∷ text)) [
      | no' none ↦ ended line room (b ∷ text) (ends_here line room (b ∷ text) (λ item rest command e is. absurd (none (item, rest, command, e, is))) (omega arith))
      | yes found ↦
          elim (cases_lt room (length found.0)) as (λ _. Reading line room (b ∷ text)) [
            | inl past ↦ ended line room (b ∷ text) (ends_here line room (b ∷ text)
                (λ item rest command e is.
                let same : item ≡ found.0 = (item_once item found.0 rest found.1 command found.2 (sym e ∙ found.3) is found.4).0 in
                let size : length item ≡ length found.0 = ap length same in
                omega arith)
                (omega arith))
            | inr fits ↦
                let some : 0 < length found.0 = item_some found.0 found.2 found.4 in
                let more = reading fuel (line + lf_count found.0) (room - length found.0) found.1 (omega arith) in
                (found.2 ∷ more.0, more.1, (found.0, found.1, found.3, fits, found.4, more.2))
          ]
    ]

pub every_text_has_a_reading : (line room : ℕ) (text : List ℕ) → Reading line room text
every_text_has_a_reading line room text = reading room line room text (omega arith)
