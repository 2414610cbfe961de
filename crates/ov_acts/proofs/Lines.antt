-- Words as texts, and which words are lines.
use Rattle.std.proofs.Common.{◌≡◌, ◌⊎◌, ℕ, suc, ◌≤◌, ◌<◌, List, [], ◌∷◌, length, get_or, refl, sym, ◌∙◌, arith, ap, subst, inl, inr, drop}
use Rattle.std.specs.Prelude.{String, string_bytes, codes, map, Option, Some, None, Result, Ok, Err, IfOk, IfNone}
use Rattle.std.specs.declared.alloc.Global.{Global}
use Rattle.ov_base.specs.Names.{IsName}
use Rattle.ov_script.specs.WrittenLists.{IsList}
use Rattle.ov_acts.specs.Words.{IsActLine, IsJobLine, IsLine, IsNoLine, IsWritten}
use Rattle.ov_acts.specs.declared.job.Act.{Act}
use Rattle.ov_acts.specs.declared.job.Act.TheVariants as acts
use Rattle.ov_acts.specs.declared.job.Job.{Job}

-- ---- some words, as texts

two_first : (w v : String Global) (ws : List (String Global)) (a b : String Global) (x y : List ℕ)
    → a ≡ w → b ≡ v → x ≡ string_bytes a → y ≡ string_bytes b
    → map string_bytes (w ∷ v ∷ ws) ≡ x ∷ y ∷ map string_bytes ws
two_first w v ws a b x y p q e f =
    ap (λ t. t ∷ string_bytes v ∷ map string_bytes ws) (sym (e ∙ ap string_bytes p))
    ∙ ap (λ t. x ∷ t ∷ map string_bytes ws) (sym (f ∙ ap string_bytes q))

pub two_texts : (words : List (String Global)) (a b : String Global) (x y : List ℕ)
    → 2 ≤ length words → length words < 3 → a ≡ get_or words 0 a → b ≡ get_or words 1 b
    → x ≡ string_bytes a → y ≡ string_bytes b → map string_bytes words ≡ x ∷ y ∷ []
two_texts [] a b x y low high p q e f = absurd (omega arith)
two_texts (w ∷ []) a b x y low high p q e f = absurd (omega arith)
two_texts (w ∷ v ∷ []) a b x y low high p q e f = two_first w v [] a b x y p q e f
two_texts (w ∷ v ∷ u ∷ ws) a b x y low high p q e f = absurd (omega arith)

pub front_texts : (words rest : List (String Global)) (a b c : String Global) (x y z : List ℕ)
    → 3 ≤ length words → a ≡ get_or words 0 a → b ≡ get_or words 1 b → c ≡ get_or words 2 c
    → rest ≡ drop 3 words → x ≡ string_bytes a → y ≡ string_bytes b → z ≡ string_bytes c
    → map string_bytes words ≡ x ∷ y ∷ z ∷ map string_bytes rest
front_texts [] rest a b c x y z low p q s r e f g = absurd (omega arith)
front_texts (w ∷ []) rest a b c x y z low p q s r e f g = absurd (omega arith)
front_texts (w ∷ v ∷ []) rest a b c x y z low p q s r e f g = absurd (omega arith)
front_texts (w ∷ v ∷ u ∷ ws) rest a b c x y z low p q s r e f g =
    let third : c ≡ u = s in
    two_first w v (u ∷ ws) a b x y p q e f
    ∙ ap (λ t. x ∷ y ∷ t ∷ map string_bytes ws) (sym (g ∙ ap string_bytes third))
    ∙ ap (λ ts. x ∷ y ∷ z ∷ map string_bytes ts) (sym r)

nothing_left : (words : List (String Global)) → length words < 1 → words ≡ []
nothing_left [] none = refl
nothing_left (w ∷ words) none = absurd (omega arith)

short_rest : (words : List (String Global)) → length words < 4 → drop 3 words ≡ []
short_rest [] few = refl
short_rest (w ∷ []) few = refl
short_rest (w ∷ v ∷ []) few = refl
short_rest (w ∷ v ∷ u ∷ ws) few = nothing_left ws (omega arith)

pub three_texts : (words : List (String Global)) (a b c : String Global) (x y z : List ℕ)
    → 3 ≤ length words → length words < 4 → a ≡ get_or words 0 a → b ≡ get_or words 1 b
    → c ≡ get_or words 2 c → x ≡ string_bytes a → y ≡ string_bytes b → z ≡ string_bytes c
    → map string_bytes words ≡ x ∷ y ∷ z ∷ []
three_texts words a b c x y z low high p q s e f g =
    front_texts words [] a b c x y z low p q s (sym (short_rest words high)) e f g

-- how many words there are
pub same_count : (words : List (String Global))
    → length (map string_bytes words) ≡ length words
same_count [] = refl
same_count (w ∷ words) = ap (λ n. suc n) (same_count words)

-- ---- lines of acts

-- three are a file's name, a list and a path
pub three_words : (act : Act) (command first second third path : List ℕ)
    → IsActLine act command (first ∷ second ∷ third ∷ []) path
    → (command ≡ codes "create") × IsName first
    × ((names : List (List ℕ)) × IsWritten second names)
three_words (acts.Enrol user) command first second third path (c, w, p, named) = absurd (cc)
three_words (acts.Grant user file) command first second third path (c, w, p, named, other) = absurd (cc)
three_words (acts.Revoke user file) command first second third path (c, w, p, named, other) = absurd (cc)
three_words (acts.Remove file) command first second third path (c, w, p, named) = absurd (cc)
three_words (acts.Create file list) command first second third path (text, c, w, named, written) =
    let e : file ≡ first = cc in
    let f : text ≡ second = cc in
    (c, subst IsName e named, (list, subst (λ t. IsWritten t list) f written))
three_words (acts.Replace file) command first second third path (c, w, named) = absurd (cc)
three_words (acts.List file) command first second third path (c, w, p, named) = absurd (cc)
three_words (acts.Key user) command first second third path (c, w, p, named) = absurd (cc)
three_words (acts.Read file) command first second third path (c, w, p, named) = absurd (cc)
three_words acts.Check command first second third path is = absurd is

-- an act's line has one, two or three words
pub few_words : (act : Act) (command path : List ℕ) (words : List (List ℕ))
    → IsActLine act command words path
    → (1 ≤ length words) × (length words ≤ 3)
few_words (acts.Enrol user) command path words (c, w, p, named) =
    let e : length words ≡ 1 = ap length w in (omega arith, omega arith)
few_words (acts.Grant user file) command path words (c, w, p, named, other) =
    let e : length words ≡ 2 = ap length w in (omega arith, omega arith)
few_words (acts.Revoke user file) command path words (c, w, p, named, other) =
    let e : length words ≡ 2 = ap length w in (omega arith, omega arith)
few_words (acts.Remove file) command path words (c, w, p, named) =
    let e : length words ≡ 1 = ap length w in (omega arith, omega arith)
few_words (acts.Create file list) command path words (text, c, w, named, written) =
    let e : length words ≡ 3 = ap length w in (omega arith, omega arith)
few_words (acts.Replace file) command path words (c, w, named) =
    let e : length words ≡ 2 = ap length w in (omega arith, omega arith)
few_words (acts.List file) command path words (c, w, p, named) =
    let e : length words ≡ 1 = ap length w in (omega arith, omega arith)
few_words (acts.Key user) command path words (c, w, p, named) =
    let e : length words ≡ 1 = ap length w in (omega arith, omega arith)
few_words (acts.Read file) command path words (c, w, p, named) =
    let e : length words ≡ 1 = ap length w in (omega arith, omega arith)
few_words acts.Check command path words is = absurd is

-- ---- lines of jobs

-- an act's line of three words and more is that of its words behind address and keys
act_of_line : (act : Act) (command address keys a k path : List ℕ) (rest : List (List ℕ))
    → IsLine act a k path (command ∷ address ∷ keys ∷ rest) → IsActLine act command rest path
act_of_line (acts.Enrol user) command address keys a k path rest (c, more, e, is) =
    let f : c ≡ command = cc in
    let g : more ≡ rest = cc in
    subst (λ x. IsActLine (acts.Enrol user) x rest path) f
    (subst (λ x. IsActLine (acts.Enrol user) c x path) g is)
act_of_line (acts.Grant user file) command address keys a k path rest (c, more, e, is) =
    let f : c ≡ command = cc in
    let g : more ≡ rest = cc in
    subst (λ x. IsActLine (acts.Grant user file) x rest path) f
    (subst (λ x. IsActLine (acts.Grant user file) c x path) g is)
act_of_line (acts.Revoke user file) command address keys a k path rest (c, more, e, is) =
    let f : c ≡ command = cc in
    let g : more ≡ rest = cc in
    subst (λ x. IsActLine (acts.Revoke user file) x rest path) f
    (subst (λ x. IsActLine (acts.Revoke user file) c x path) g is)
act_of_line (acts.Remove file) command address keys a k path rest (c, more, e, is) =
    let f : c ≡ command = cc in
    let g : more ≡ rest = cc in
    subst (λ x. IsActLine (acts.Remove file) x rest path) f
    (subst (λ x. IsActLine (acts.Remove file) c x path) g is)
act_of_line (acts.Create file list) command address keys a k path rest (c, more, e, is) =
    let f : c ≡ command = cc in
    let g : more ≡ rest = cc in
    subst (λ x. IsActLine (acts.Create file list) x rest path) f
    (subst (λ x. IsActLine (acts.Create file list) c x path) g is)
act_of_line (acts.Replace file) command address keys a k path rest (c, more, e, is) =
    let f : c ≡ command = cc in
    let g : more ≡ rest = cc in
    subst (λ x. IsActLine (acts.Replace file) x rest path) f
    (subst (λ x. IsActLine (acts.Replace file) c x path) g is)
act_of_line (acts.List file) command address keys a k path rest (c, more, e, is) =
    let f : c ≡ command = cc in
    let g : more ≡ rest = cc in
    subst (λ x. IsActLine (acts.List file) x rest path) f
    (subst (λ x. IsActLine (acts.List file) c x path) g is)
act_of_line (acts.Key user) command address keys a k path rest (c, more, e, is) =
    let f : c ≡ command = cc in
    let g : more ≡ rest = cc in
    subst (λ x. IsActLine (acts.Key user) x rest path) f
    (subst (λ x. IsActLine (acts.Key user) c x path) g is)
act_of_line (acts.Read file) command address keys a k path rest (c, more, e, is) =
    let f : c ≡ command = cc in
    let g : more ≡ rest = cc in
    subst (λ x. IsActLine (acts.Read file) x rest path) f
    (subst (λ x. IsActLine (acts.Read file) c x path) g is)
act_of_line acts.Check command address keys a k path rest (e, same, none) = absurd (cc)

-- where these are no act's words, there is no line
pub no_act_no_line : (command address keys : List ℕ) (rest : List (List ℕ))
    → ((act : Act) (path : List ℕ) → IsActLine act command rest path → ⊥)
    → IsNoLine (command ∷ address ∷ keys ∷ rest)
no_act_no_line command address keys rest none = λ job is. none job.act job.path
    (act_of_line job.act command address keys job.address job.keys job.path rest is)

-- a line of fewer than three words is that of `check`
short_line : (act : Act) (address keys path : List ℕ) (words : List (List ℕ))
    → IsLine act address keys path words
    → (3 ≤ length words) ⊎ (words ≡ codes "check" ∷ keys ∷ [])
short_line (acts.Enrol user) address keys path words (command, rest, e, is) =
    let long : length words ≡ suc (suc (suc (length rest))) = ap length e in inl (omega arith)
short_line (acts.Grant user file) address keys path words (command, rest, e, is) =
    let long : length words ≡ suc (suc (suc (length rest))) = ap length e in inl (omega arith)
short_line (acts.Revoke user file) address keys path words (command, rest, e, is) =
    let long : length words ≡ suc (suc (suc (length rest))) = ap length e in inl (omega arith)
short_line (acts.Remove file) address keys path words (command, rest, e, is) =
    let long : length words ≡ suc (suc (suc (length rest))) = ap length e in inl (omega arith)
short_line (acts.Create file list) address keys path words (command, rest, e, is) =
    let long : length words ≡ suc (suc (suc (length rest))) = ap length e in inl (omega arith)
short_line (acts.Replace file) address keys path words (command, rest, e, is) =
    let long : length words ≡ suc (suc (suc (length rest))) = ap length e in inl (omega arith)
short_line (acts.List file) address keys path words (command, rest, e, is) =
    let long : length words ≡ suc (suc (suc (length rest))) = ap length e in inl (omega arith)
short_line (acts.Key user) address keys path words (command, rest, e, is) =
    let long : length words ≡ suc (suc (suc (length rest))) = ap length e in inl (omega arith)
short_line (acts.Read file) address keys path words (command, rest, e, is) =
    let long : length words ≡ suc (suc (suc (length rest))) = ap length e in inl (omega arith)
short_line acts.Check address keys path words (e, same, none) = inr e

-- other words of fewer than three are none
pub short_no_line : (words : List (List ℕ)) → length words < 3
    → ((keys : List ℕ) → words ≡ codes "check" ∷ keys ∷ [] → ⊥) → IsNoLine words
short_no_line words few none = λ job is.
    elim (short_line job.act job.address job.keys job.path words is) [
      | inl long ↦ absurd (omega (arith, long, few))
      | inr e ↦ none job.keys e
    ]

-- ---- what code finds

-- no list of names is written in the text
pub none_written : {E : Type 0} (found : Result (Option (List (List ℕ))) E) (bytes text : List ℕ)
    → bytes ≡ text
    → IfOk found (λ f. IfNone f ((names : List (List ℕ)) → IsList bytes names → ⊥))
    → IfOk found (λ f. IfNone f ((names : List (List ℕ)) → IsWritten text names → ⊥))
none_written (Ok None) bytes text same none =
    λ names is. none names (subst (λ t. IsList t names) (sym same) is.list)
none_written (Ok (Some names)) bytes text same none = tt
none_written (Err e) bytes text same none = tt

-- a creation by its words
pub created : (act : Act) (command file list path : List ℕ) (words : List (List ℕ))
    → command ≡ codes "create" → words ≡ file ∷ list ∷ path ∷ []
    → ((p : List ℕ) → IsActLine act (codes "create") (file ∷ list ∷ p ∷ []) p)
    → IsActLine act command words path
created act command file list path words e w is =
    subst (λ c. IsActLine act c words path) (sym e)
    (subst (λ ws. IsActLine act (codes "create") ws path) (sym w) (is path))

-- no words, and more than three, are no act's
pub other_count : (words : List (String Global)) → (length words < 1) ⊎ (4 ≤ length words)
    → (act : Act) (command path : List ℕ)
    → IsActLine act command (map string_bytes words) path → ⊥
other_count words count act command path is =
    let few = few_words act command path (map string_bytes words) is in
    let same : length (map string_bytes words) ≡ length words = same_count words in
    elim count [
      | inl none ↦ absurd (omega (arith, few.0, same, none))
      | inr many ↦ absurd (omega (arith, few.1, same, many))
    ]

-- the line of `check`
pub checks : (job : Job) (words : List (List ℕ)) (check keys : List ℕ)
    → words ≡ check ∷ keys ∷ [] → check ≡ codes "check"
    → job ≡ record { address = []; keys = keys; path = []; act = acts.Check }
    → IsJobLine words job
checks job words check keys w c e =
    subst (IsJobLine words) (sym e) (w ∙ ap (λ t. t ∷ keys ∷ []) c, refl, refl)

-- fewer words than two
pub none_short : (words : List (String Global)) → length words < 2
    → IsNoLine (map string_bytes words)
none_short words few =
    let same : length (map string_bytes words) ≡ length words = same_count words in
    short_no_line (map string_bytes words) (omega arith)
    (λ keys e. let count : length (map string_bytes words) ≡ 2 = ap length e in absurd (omega arith))
