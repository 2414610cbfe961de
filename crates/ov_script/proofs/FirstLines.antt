-- How the first line of an item is read word by word.
use Rattle.std.proofs.Common.{◌≡◌, ℕ, ◌≤◌, List, [], ◌∷◌, ◌++◌, sym, ◌∙◌, Option, Some, None, Result, Ok, Err, arith}
use Rattle.std.specs.Prelude.{codes, IfNone, IfOk}
use Rattle.std.specs.Fmt.{decimal}
use Rattle.std.proofs.lemmas.Fmt.{decimal_injective}
use Rattle.std.proofs.lemmas.List.{append_cancel_left}
use Rattle.ov_base.specs.declared.limits.TheConstants.{MAX_FILE_BYTES}
use Rattle.ov_base.specs.Names.{IsName}
use Rattle.ov_script.specs.declared.command.Command.{Command}
use Rattle.ov_script.specs.declared.first_line.FirstLine.{FirstLine}
use Rattle.ov_script.specs.declared.first_line.FirstLine.TheVariants.{Whole, WithBody}
use Rattle.ov_script.specs.declared.first_line.Head.{Head}
use Rattle.ov_script.specs.declared.first_line.Head.TheVariants.{Creation, Replacement}
use Rattle.ov_script.specs.ItemLines.{SaysWhole, SaysCreate, SaysReplace, SaysHead, SaysLine}
use Rattle.ov_script.specs.Items.{spaced}
use Rattle.ov_script.specs.LineFeeds.{Lacks}
use Rattle.ov_script.proofs.ByteTexts.{split_once}
use Rattle.ov_script.proofs.WordBytes.{name_no_space}

-- what holds, holds where there is nothing
pub if_none : {T : Type 0} {P : Type 0} (found : Option T) → P → IfNone found P
if_none None p = p
if_none (Some x) p = tt

-- the words of two names are those that were split off
pub names_once : (text first second a b : List ℕ) → Lacks 32 first → text ≡ first ++ 32 ∷ second → IsName a → text ≡ a ++ 32 ∷ b → (first ≡ a) × (second ≡ b)
names_once text first second a b lacks e named f = split_once 32 first a second b lacks (name_no_space a named) (sym e ∙ f)

-- the words of a `create`
abbrev pub create_text : List ℕ → List ℕ → ℕ → List ℕ
create_text file list size = spaced (codes "create" ∷ file ∷ list ∷ decimal size ∷ [])

-- the words of a `create` behind the first word
pub behind_create : (line text file list : List ℕ) (size : ℕ) → line ≡ codes "create " ++ text → line ≡ create_text file list size → text ≡ file ++ 32 ∷ (list ++ 32 ∷ decimal size)
behind_create line text file list size e p = append_cancel_left (codes "create ") text (file ++ 32 ∷ (list ++ 32 ∷ decimal size)) (sym e ∙ p)

-- the file and the list of a `create` are the words that were split off
pub create_file : (line text word rest file list : List ℕ) (size : ℕ) → line ≡ codes "create " ++ text → Lacks 32 word → text ≡ word ++ 32 ∷ rest → IsName file → line ≡ create_text file list size
    → (word ≡ file) × (rest ≡ list ++ 32 ∷ decimal size)
create_file line text word rest file list size e lacks f named p = names_once text word rest file (list ++ 32 ∷ decimal size) lacks f named (behind_create line text file list size e p)

pub create_list : (line text word rest next digits file list : List ℕ) (size : ℕ) → line ≡ codes "create " ++ text → Lacks 32 word → text ≡ word ++ 32 ∷ rest → Lacks 32 next → rest ≡ next ++ 32 ∷ digits
    → IsName file → Lacks 32 list → line ≡ create_text file list size → (next ≡ list) × (digits ≡ decimal size)
create_list line text word rest next digits file list size e lacks f lacks' g named lacks'' p =
    split_once 32 next list digits (decimal size) lacks' lacks'' (sym g ∙ (create_file line text word rest file list size e lacks f named p).1)

-- a line has one file, list and size
pub record SameWords (f g r s : List ℕ) (n m : ℕ) : Type 0 where
  pub file : f ≡ g
  pub list : r ≡ s
  pub size : n ≡ m

pub create_once : (line f g r s : List ℕ) (n m : ℕ) → IsName f → Lacks 32 r → n ≤ MAX_FILE_BYTES → line ≡ create_text f r n → IsName g → Lacks 32 s → m ≤ MAX_FILE_BYTES → line ≡ create_text g s m → SameWords f g r s n m
create_once line f g r s n m f_named r_lacks n_low e g_named s_lacks m_low e' =
    let first = split_once 32 f g (r ++ 32 ∷ decimal n) (s ++ 32 ∷ decimal m) (name_no_space f f_named) (name_no_space g g_named)
    (append_cancel_left (codes "create ") (f ++ 32 ∷ (r ++ 32 ∷ decimal n)) (g ++ 32 ∷ (s ++ 32 ∷ decimal m)) (sym e ∙ e')) in
    let second = split_once 32 r s (decimal n) (decimal m) r_lacks s_lacks first.1 in
    record { file = first.0; list = second.0; size = decimal_injective n m (omega arith) (omega arith) second.1 }

-- ---- the words of a `replace`

abbrev replace_text : List ℕ → ℕ → List ℕ
replace_text file size = spaced (codes "replace" ∷ file ∷ decimal size ∷ [])

-- the words of a `replace` behind the first word
pub behind_replace : (line text file : List ℕ) (size : ℕ) → line ≡ codes "replace " ++ text → line ≡ replace_text file size → text ≡ file ++ 32 ∷ decimal size
behind_replace line text file size e p = append_cancel_left (codes "replace ") text (file ++ 32 ∷ decimal size) (sym e ∙ p)

-- the file and the digits of a `replace` are the words that were split off
pub replace_file : (line text word digits file : List ℕ) (size : ℕ) → line ≡ codes "replace " ++ text → Lacks 32 word → text ≡ word ++ 32 ∷ digits → IsName file → line ≡ replace_text file size
    → (word ≡ file) × (digits ≡ decimal size)
replace_file line text word digits file size e lacks f named p = names_once text word digits file (decimal size) lacks f named (behind_replace line text file size e p)

-- a line has one file and size
pub replace_once : (line f g : List ℕ) (n m : ℕ) → IsName f → n ≤ MAX_FILE_BYTES → line ≡ replace_text f n → IsName g → m ≤ MAX_FILE_BYTES → line ≡ replace_text g m → (f ≡ g) × (n ≡ m)
replace_once line f g n m f_named n_low e g_named m_low e' =
    let both = split_once 32 f g (decimal n) (decimal m) (name_no_space f f_named) (name_no_space g g_named)
    (append_cancel_left (codes "replace ") (f ++ 32 ∷ decimal n) (g ++ 32 ∷ decimal m) (sym e ∙ e')) in
    (both.0, decimal_injective n m (omega arith) (omega arith) both.1)

-- ---- lines that say nothing

-- what is neither the line of a `create` nor of a `replace` has no body
no_head : (line : List ℕ) → ((file : List ℕ) (size : ℕ) → SaysReplace line file size → ⊥) → ((file : List ℕ) (names : List (List ℕ)) (size : ℕ) → SaysCreate line file names size → ⊥)
    → (head : Head) (size : ℕ) → SaysHead line head size → ⊥
no_head line replace create (Creation file names) size p = create file names size p
no_head line replace create (Replacement file) size p = replace file size p

pub says_no_head : {E : Type 0} (line : List ℕ) (result : Result (Option FirstLine) E) → ((file : List ℕ) (size : ℕ) → SaysReplace line file size → ⊥)
    → IfOk result (λ found. IfNone found ((file : List ℕ) (names : List (List ℕ)) (size : ℕ) → SaysCreate line file names size → ⊥))
    → IfOk result (λ found. IfNone found ((head : Head) (size : ℕ) → SaysHead line head size → ⊥))
says_no_head line (Ok None) replace create = no_head line replace create
says_no_head line (Ok (Some said)) replace create = tt
says_no_head line (Err e) replace create = tt

-- what is neither a whole item nor a line with a body says nothing
says_neither : (line : List ℕ) → ((command : Command) → SaysWhole line command → ⊥) → ((head : Head) (size : ℕ) → SaysHead line head size → ⊥)
    → (said : FirstLine) → SaysLine line said → ⊥
says_neither line none bodied (Whole command) p = none command p
says_neither line none bodied (WithBody head size) p = bodied head size p

pub says_nothing : {E : Type 0} (line : List ℕ) (result : Result (Option FirstLine) E) → ((command : Command) → SaysWhole line command → ⊥)
    → IfOk result (λ found. IfNone found ((head : Head) (size : ℕ) → SaysHead line head size → ⊥))
    → IfOk result (λ found. IfNone found ((said : FirstLine) → SaysLine line said → ⊥))
says_nothing line (Ok None) none bodied = says_neither line none bodied
says_nothing line (Ok (Some said)) none bodied = tt
says_nothing line (Err e) none bodied = tt
