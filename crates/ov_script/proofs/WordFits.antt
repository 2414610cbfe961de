-- What the first word of a line goes on with.
use Rattle.std.proofs.Common.{◌≡◌, inl, inr, ℕ, ◌+◌, ◌<◌, Bool, true, false, List, [], ◌∷◌, ◌++◌, length, get_or, drop, refl, sym, ◌∙◌, ap, subst, arith, ◌==◌}
use Rattle.std.specs.Prelude.{nat_lt, codes}
use Rattle.std.proofs.Math.Seq.{drop-length}
use Rattle.std.proofs.lemmas.List.{drop_more}
use Rattle.std.proofs.lemmas.Bool.{and_parts, and_from}
use Rattle.std.proofs.lemmas.Bool.Decides.{nat_tests}
use Rattle.ov_script.specs.LineFronts.{spelling, behind, chosen, chosen_by, first_bytes, next_bytes, word_by, is_spelled}
use Rattle.ov_script.specs.declared.front.Word.{Word}
use Rattle.ov_script.specs.declared.front.Word.TheVariants.{Enrol, Create, Grant, Revoke, Remove, Replace, Read, List as Word-List, Epoch}
use Rattle.ov_script.specs.declared.front.Stem.{Stem}
use Rattle.ov_script.specs.declared.front.Stem.TheVariants.{E, R, Re}
use Rattle.ov_script.specs.declared.front.Front.{Front}
use Rattle.ov_script.specs.declared.front.Front.TheVariants.{InWord}
use Rattle.ov_script.proofs.Fitting.{Behind, RestOfStem, IsWhole, Fits}

-- ---- a whole word

behind_fits : (word : Word) (text : List ℕ) → Behind word text → Fits (behind word) text
behind_fits Enrol text p = p
behind_fits Create text p = p
behind_fits Grant text p = p
behind_fits Revoke text p = p
behind_fits Remove text p = p
behind_fits Replace text p = p
behind_fits Read text p = p
behind_fits Word-List text p = p
behind_fits Epoch text p = p

fits_behind : (word : Word) (text : List ℕ) → Fits (behind word) text → Behind word text
fits_behind Enrol text p = p
fits_behind Create text p = p
fits_behind Grant text p = p
fits_behind Revoke text p = p
fits_behind Remove text p = p
fits_behind Replace text p = p
fits_behind Read text p = p
fits_behind Word-List text p = p
fits_behind Epoch text p = p

-- ---- choices among words

-- the first byte
pub fits_first : (word : Word) (b : ℕ) (text rest : List ℕ) → b ∷ text ≡ spelling word ++ rest → Behind word rest → Fits (chosen b first_bytes) text
fits_first Enrol b text rest e p =
    let first : 101 ≡ b = cc in let same : text ≡ codes "nrol " ++ rest = cc in
    subst (λ c. Fits (chosen c first_bytes) text) first (inl (omega arith, (rest, same, p)))
fits_first Create b text rest e p =
    let first : 99 ≡ b = cc in let same : text ≡ codes "reate " ++ rest = cc in
    subst (λ c. Fits (chosen c first_bytes) text) first (omega arith, (rest, same, p))
fits_first Grant b text rest e p =
    let first : 103 ≡ b = cc in let same : text ≡ codes "rant " ++ rest = cc in
    subst (λ c. Fits (chosen c first_bytes) text) first (omega arith, (rest, same, p))
fits_first Revoke b text rest e p =
    let first : 114 ≡ b = cc in let same : text ≡ codes "evoke " ++ rest = cc in
    subst (λ c. Fits (chosen c first_bytes) text) first (inr (inr (inr (omega arith, (rest, same, p)))))
fits_first Remove b text rest e p =
    let first : 114 ≡ b = cc in let same : text ≡ codes "emove " ++ rest = cc in
    subst (λ c. Fits (chosen c first_bytes) text) first (inr (inl (omega arith, (rest, same, p))))
fits_first Replace b text rest e p =
    let first : 114 ≡ b = cc in let same : text ≡ codes "eplace " ++ rest = cc in
    subst (λ c. Fits (chosen c first_bytes) text) first (inr (inr (inl (omega arith, (rest, same, p)))))
fits_first Read b text rest e p =
    let first : 114 ≡ b = cc in let same : text ≡ codes "ead " ++ rest = cc in
    subst (λ c. Fits (chosen c first_bytes) text) first (inl (omega arith, (rest, same, p)))
fits_first Word-List b text rest e p =
    let first : 108 ≡ b = cc in let same : text ≡ codes "ist " ++ rest = cc in
    subst (λ c. Fits (chosen c first_bytes) text) first (omega arith, (rest, same, p))
fits_first Epoch b text rest e p =
    let first : 101 ≡ b = cc in let same : text ≡ codes "poch" ++ rest = cc in
    subst (λ c. Fits (chosen c first_bytes) text) first (inr (omega arith, (rest, same, p)))

-- the next one
pub fits_next : (stem : Stem) (b : ℕ) (text : List ℕ) → RestOfStem stem (b ∷ text) → Fits (chosen b (next_bytes stem)) text
fits_next E b text (inl (within, (rest, e, p))) =
    let first : 110 ≡ b = cc in let same : text ≡ codes "rol " ++ rest = cc in
    subst (λ c. Fits (chosen c (next_bytes E)) text) first (omega arith, (rest, same, p))
fits_next E b text (inr (within, (rest, e, p))) =
    let first : 112 ≡ b = cc in let same : text ≡ codes "och" ++ rest = cc in
    subst (λ c. Fits (chosen c (next_bytes E)) text) first (omega arith, (rest, same, p))
fits_next R b text (inl (within, (rest, e, p))) =
    let first : 101 ≡ b = cc in let same : text ≡ codes "ad " ++ rest = cc in
    subst (λ c. Fits (chosen c (next_bytes R)) text) first (inl (omega arith, (rest, same, p)))
fits_next R b text (inr (inl (within, (rest, e, p)))) =
    let first : 101 ≡ b = cc in let same : text ≡ codes "move " ++ rest = cc in
    subst (λ c. Fits (chosen c (next_bytes R)) text) first (inr (inl (omega arith, (rest, same, p))))
fits_next R b text (inr (inr (inl (within, (rest, e, p))))) =
    let first : 101 ≡ b = cc in let same : text ≡ codes "place " ++ rest = cc in
    subst (λ c. Fits (chosen c (next_bytes R)) text) first (inr (inr (inl (omega arith, (rest, same, p)))))
fits_next R b text (inr (inr (inr (within, (rest, e, p))))) =
    let first : 101 ≡ b = cc in let same : text ≡ codes "voke " ++ rest = cc in
    subst (λ c. Fits (chosen c (next_bytes R)) text) first (inr (inr (inr (omega arith, (rest, same, p)))))
fits_next Re b text (inl (within, (rest, e, p))) =
    let first : 97 ≡ b = cc in let same : text ≡ codes "d " ++ rest = cc in
    subst (λ c. Fits (chosen c (next_bytes Re)) text) first (omega arith, (rest, same, p))
fits_next Re b text (inr (inl (within, (rest, e, p)))) =
    let first : 109 ≡ b = cc in let same : text ≡ codes "ove " ++ rest = cc in
    subst (λ c. Fits (chosen c (next_bytes Re)) text) first (omega arith, (rest, same, p))
fits_next Re b text (inr (inr (inl (within, (rest, e, p))))) =
    let first : 112 ≡ b = cc in let same : text ≡ codes "lace " ++ rest = cc in
    subst (λ c. Fits (chosen c (next_bytes Re)) text) first (omega arith, (rest, same, p))
fits_next Re b text (inr (inr (inr (within, (rest, e, p))))) =
    let first : 118 ≡ b = cc in let same : text ≡ codes "oke " ++ rest = cc in
    subst (λ c. Fits (chosen c (next_bytes Re)) text) first (omega arith, (rest, same, p))

-- each choice leads to such texts
abbrev Leads : (List ℕ → Type 0) → List (ℕ × Front) → Type 0
Leads P [] = Unit {0}
Leads P (choice ∷ choices) = ((text : List ℕ) → Fits choice.1 text → P (choice.0 ∷ text)) × Leads P choices

one_choice : (P : List ℕ → Type 0) (b c : ℕ) (front other : Front) (text : List ℕ) (same : Bool) → (b == c) ≡ same → (Fits front text → P (c ∷ text)) → (Fits other text → P (b ∷ text))
    → Fits (chosen_by same front other) text → P (b ∷ text)
one_choice P b c front other text true is lead more p = let e : c ≡ b = grind (arith, nat_tests) in subst (λ d. P (d ∷ text)) e (lead p)
one_choice P b c front other text false is lead more p = more p

chosen_fits : (P : List ℕ → Type 0) (choices : List (ℕ × Front)) (b : ℕ) (text : List ℕ) → Leads P choices → Fits (chosen b choices) text → P (b ∷ text)
chosen_fits P [] b text leads p = absurd p
chosen_fits P (choice ∷ choices) b text leads p =
    one_choice P b choice.0 choice.1 (chosen b choices) text (b == choice.0) refl (leads.0 text) (chosen_fits P choices b text leads.1) p

lead_to_e : (text : List ℕ) → RestOfStem E text → IsWhole (101 ∷ text)
lead_to_e text (inl (within, (rest, e, p))) = (Enrol, rest, ap (λ t. 101 ∷ t) e, p)
lead_to_e text (inr (within, (rest, e, p))) = (Epoch, rest, ap (λ t. 101 ∷ t) e, p)

lead_to_r : (text : List ℕ) → RestOfStem R text → IsWhole (114 ∷ text)
lead_to_r text (inl (within, (rest, e, p))) = (Read, rest, ap (λ t. 114 ∷ t) e, p)
lead_to_r text (inr (inl (within, (rest, e, p)))) = (Remove, rest, ap (λ t. 114 ∷ t) e, p)
lead_to_r text (inr (inr (inl (within, (rest, e, p))))) = (Replace, rest, ap (λ t. 114 ∷ t) e, p)
lead_to_r text (inr (inr (inr (within, (rest, e, p))))) = (Revoke, rest, ap (λ t. 114 ∷ t) e, p)

lead_to_re : (text : List ℕ) → RestOfStem Re text → RestOfStem R (101 ∷ text)
lead_to_re text (inl (within, (rest, e, p))) = inl (omega arith, (rest, ap (λ t. 101 ∷ t) e, p))
lead_to_re text (inr (inl (within, (rest, e, p)))) = inr (inl (omega arith, (rest, ap (λ t. 101 ∷ t) e, p)))
lead_to_re text (inr (inr (inl (within, (rest, e, p))))) = inr (inr (inl (omega arith, (rest, ap (λ t. 101 ∷ t) e, p))))
lead_to_re text (inr (inr (inr (within, (rest, e, p))))) = inr (inr (inr (omega arith, (rest, ap (λ t. 101 ∷ t) e, p))))

first_leads : Leads IsWhole first_bytes
first_leads = (
  λ text (within, (rest, e, p)). (Create, rest, ap (λ t. 99 ∷ t) e, p),
  (
    lead_to_e,
    (
      λ text (within, (rest, e, p)). (Grant, rest, ap (λ t. 103 ∷ t) e, p),
      (
        λ text (within, (rest, e, p)). (Word-List, rest, ap (λ t. 108 ∷ t) e, p),
        (lead_to_r, tt),
      ),
    ),
  ),
)

next_leads : (stem : Stem) → Leads (RestOfStem stem) (next_bytes stem)
next_leads E = (
  λ text (within, (rest, e, p)). inl (omega arith, (rest, ap (λ t. 110 ∷ t) e, p)),
  (λ text (within, (rest, e, p)). inr (omega arith, (rest, ap (λ t. 112 ∷ t) e, p)), tt),
)
next_leads R = (lead_to_re, tt)
next_leads Re = (
  λ text (within, (rest, e, p)). inl (omega arith, (rest, ap (λ t. 97 ∷ t) e, p)),
  (
    λ text (within, (rest, e, p)). inr (inl (omega arith, (rest, ap (λ t. 109 ∷ t) e, p))),
    (
      λ text (within, (rest, e, p)). inr (inr (inl (omega arith, (rest, ap (λ t. 112 ∷ t) e, p)))),
      (λ text (within, (rest, e, p)). inr (inr (inr (omega arith, (rest, ap (λ t. 118 ∷ t) e, p)))), tt),
    ),
  ),
)

pub first_fits : (b : ℕ) (text : List ℕ) → Fits (chosen b first_bytes) text → IsWhole (b ∷ text)
first_fits b text p = chosen_fits IsWhole first_bytes b text first_leads p

pub next_fits : (stem : Stem) (b : ℕ) (text : List ℕ) → Fits (chosen b (next_bytes stem)) text → RestOfStem stem (b ∷ text)
next_fits stem b text p = chosen_fits (RestOfStem stem) (next_bytes stem) b text (next_leads stem) p

-- ---- one byte of a word

pub word_spells : (word : Word) (count b : ℕ) → is_spelled word count b ≡ true → (count < length (spelling word)) × (get_or (spelling word) count 0 ≡ b)
word_spells word count b p =
    let both = and_parts (nat_lt count (length (spelling word))) (get_or (spelling word) count 0 == b) p in
    let within : nat_lt count (length (spelling word)) ≡ true = both.0 in
    let same : (get_or (spelling word) count 0 == b) ≡ true = both.1 in
    (grind (arith, nat_tests), grind (arith, nat_tests))

word_spelled : (word : Word) (count b : ℕ) → count < length (spelling word) → get_or (spelling word) count 0 ≡ b → is_spelled word count b ≡ true
word_spelled word count b within e =
    let below : nat_lt count (length (spelling word)) ≡ true = grind (arith, nat_tests) in
    let same : (get_or (spelling word) count 0 == b) ≡ true = grind (arith, nat_tests) in
    and_from (nat_lt count (length (spelling word))) (get_or (spelling word) count 0 == b) below same

pub fits_word : (word : Word) (count b : ℕ) (text : List ℕ) (last : Bool) → (count + 1 == length (spelling word)) ≡ last → Fits (InWord word count) (b ∷ text)
    → (is_spelled word count b ≡ true) × Fits (word_by true last word count) text
fits_word word count b text last is_last (within, (rest, e, p)) =
    let whole : b ∷ text ≡ get_or (spelling word) count 0 ∷ (drop (count + 1) (spelling word) ++ rest) = e ∙ ap (λ l. l ++ rest) (drop_more (spelling word) count 0 within) in
    let first : get_or (spelling word) count 0 ≡ b = cc in
    let same : text ≡ drop (count + 1) (spelling word) ++ rest = cc in
    (word_spelled word count b within first, goes_on last is_last same) where
      goes_on : (last : Bool) → (count + 1 == length (spelling word)) ≡ last → text ≡ drop (count + 1) (spelling word) ++ rest → Fits (word_by true last word count) text
      goes_on true is_last same =
          let end : count + 1 ≡ length (spelling word) = grind (arith, nat_tests) in
          let none : drop (count + 1) (spelling word) ≡ [] = ap (λ n. drop n (spelling word)) end ∙ drop-length (spelling word) in
          behind_fits word text (subst (Behind word) (sym (same ∙ ap (λ l. l ++ rest) none)) p)
      goes_on false is_last same =
          let not_end : count + 1 ≡ length (spelling word) → ⊥ = λ e. grind (arith, nat_tests) in
          (omega (arith, within, not_end), (rest, same, p))

pub word_fits : (word : Word) (count b : ℕ) (text : List ℕ) (spelled last : Bool) → is_spelled word count b ≡ spelled → (count + 1 == length (spelling word)) ≡ last
    → Fits (word_by spelled last word count) text → Fits (InWord word count) (b ∷ text)
word_fits word count b text false last is_spelled is_last p = absurd p
word_fits word count b text true true is_spelled is_last p =
    let spells = word_spells word count b is_spelled in
    let end : count + 1 ≡ length (spelling word) = grind (arith, nat_tests) in
    let none : drop (count + 1) (spelling word) ≡ [] = ap (λ n. drop n (spelling word)) end ∙ drop-length (spelling word) in
    let here : drop count (spelling word) ≡ b ∷ [] = drop_more (spelling word) count 0 spells.0 ∙ ap (λ c. c ∷ drop (count + 1) (spelling word)) spells.1 ∙ ap (λ l. b ∷ l) none in
    (spells.0, (text, sym (ap (λ l. l ++ text) here), fits_behind word text p))
word_fits word count b text true false is_spelled is_last (within, (rest, e, p)) =
    let spells = word_spells word count b is_spelled in
    let here : drop count (spelling word) ≡ b ∷ drop (count + 1) (spelling word) = drop_more (spelling word) count 0 spells.0 ∙ ap (λ c. c ∷ drop (count + 1) (spelling word)) spells.1 in
    (spells.0, (rest, ap (λ t. b ∷ t) e ∙ sym (ap (λ l. l ++ rest) here), p))
