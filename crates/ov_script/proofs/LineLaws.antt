-- Laws of the lines of items: they have no LF, are short, and say one thing.
use Rattle.std.proofs.Common.{◌≡◌, ℕ, suc, ◌+◌, ◌*◌, ◌<◌, ◌≤◌, List, ◌∷◌, ◌++◌, length, get_or, refl, sym, ◌∙◌, ap, subst, length-append, arith}
use Rattle.std.specs.Prelude.{codes}
use Rattle.std.specs.Fmt.{decimal}
use Rattle.std.proofs.lemmas.List.{append_cancel_left}
use Rattle.ov_base.specs.declared.limits.TheConstants.{MAX_LINE_BYTES}
use Rattle.ov_base.specs.Names.{IsName}
use Rattle.ov_script.specs.declared.command.Command.{Command}
use Rattle.ov_script.specs.declared.command.Command.TheVariants.{Enrol, Create, Grant, Revoke, Remove, Replace, Read, List as Command-List, Epoch}
use Rattle.ov_script.specs.declared.first_line.FirstLine.{FirstLine}
use Rattle.ov_script.specs.declared.first_line.FirstLine.TheVariants.{Whole, WithBody}
use Rattle.ov_script.specs.declared.first_line.Head.{Head}
use Rattle.ov_script.specs.declared.first_line.Head.TheVariants.{Creation, Replacement}
use Rattle.ov_script.specs.ItemLines.{SaysWhole, SaysCreate, SaysReplace, SaysHead, SaysLine}
use Rattle.ov_script.specs.LineFeeds.{NoLf}
use Rattle.ov_script.specs.WrittenLists.{IsList}
use Rattle.ov_script.proofs.ByteTexts.{Lacks-append, lacks_by_test, split_once}
use Rattle.ov_script.proofs.FirstLines.{create_once, replace_once}
use Rattle.ov_script.proofs.ListTexts.{list_no_lf, list_no_space, list_once}
use Rattle.ov_script.proofs.WordBytes.{name_no_lf, name_no_space, name_short, size_no_lf, size_short}

-- ---- no LF

two_no_lf : (user file : List ℕ) → IsName user → IsName file → NoLf (user ++ 32 ∷ file)
two_no_lf user file u f = Lacks-append 10 user (32 ∷ file) (name_no_lf user u) (λ e. omega arith, name_no_lf file f)

whole_no_lf : (line : List ℕ) (command : Command) → SaysWhole line command → NoLf line
whole_no_lf line (Enrol user) p = subst NoLf (sym p.1) (Lacks-append 10 (codes "enrol ") user (lacks_by_test 10 (codes "enrol ") refl) (name_no_lf user p.0))
whole_no_lf line (Create file names body) p = absurd p
whole_no_lf line (Grant user file) p = subst NoLf (sym p.2) (Lacks-append 10 (codes "grant ") (user ++ 32 ∷ file) (lacks_by_test 10 (codes "grant ") refl) (two_no_lf user file p.0 p.1))
whole_no_lf line (Revoke user file) p = subst NoLf (sym p.2) (Lacks-append 10 (codes "revoke ") (user ++ 32 ∷ file) (lacks_by_test 10 (codes "revoke ") refl) (two_no_lf user file p.0 p.1))
whole_no_lf line (Remove file) p = subst NoLf (sym p.1) (Lacks-append 10 (codes "remove ") file (lacks_by_test 10 (codes "remove ") refl) (name_no_lf file p.0))
whole_no_lf line (Replace file body) p = absurd p
whole_no_lf line (Read user file) p = subst NoLf (sym p.2) (Lacks-append 10 (codes "read ") (user ++ 32 ∷ file) (lacks_by_test 10 (codes "read ") refl) (two_no_lf user file p.0 p.1))
whole_no_lf line (Command-List file) p = subst NoLf (sym p.1) (Lacks-append 10 (codes "list ") file (lacks_by_test 10 (codes "list ") refl) (name_no_lf file p.0))
whole_no_lf line Epoch p = subst NoLf (sym p) (lacks_by_test 10 (codes "epoch") refl)

create_no_lf : (line file : List ℕ) (names : List (List ℕ)) (size : ℕ) → SaysCreate line file names size → NoLf line
create_no_lf line file names size (list, named, is, low, short, e) =
    subst NoLf (sym e) (Lacks-append 10 (codes "create ") (file ++ 32 ∷ (list ++ 32 ∷ decimal size)) (lacks_by_test 10 (codes "create ") refl)
    (Lacks-append 10 file (32 ∷ (list ++ 32 ∷ decimal size)) (name_no_lf file named)
    (λ e. omega arith, Lacks-append 10 list (32 ∷ decimal size) (list_no_lf list names is) (λ e. omega arith, size_no_lf size low))))

replace_no_lf : (line file : List ℕ) (size : ℕ) → SaysReplace line file size → NoLf line
replace_no_lf line file size (named, low, e) =
    subst NoLf (sym e) (Lacks-append 10 (codes "replace ") (file ++ 32 ∷ decimal size) (lacks_by_test 10 (codes "replace ") refl)
    (Lacks-append 10 file (32 ∷ decimal size) (name_no_lf file named) (λ e. omega arith, size_no_lf size low)))

pub says_no_lf : (line : List ℕ) (said : FirstLine) → SaysLine line said → NoLf line
says_no_lf line (Whole command) p = whole_no_lf line command p
says_no_lf line (WithBody (Creation file names) size) p = create_no_lf line file names size p
says_no_lf line (WithBody (Replacement file) size) p = replace_no_lf line file size p

-- ---- short lines

one_short : (line word name : List ℕ) → length word ≤ 7 → IsName name → line ≡ word ++ name → length line < MAX_LINE_BYTES
one_short line word name low named e =
    let size : length line ≡ length word + length name = ap length e ∙ length-append word name in
    let short : length name ≤ 64 = name_short name named in
    omega arith

two_short : (line word user file : List ℕ) → length word ≤ 7 → IsName user → IsName file → line ≡ word ++ (user ++ 32 ∷ file) → length line < MAX_LINE_BYTES
two_short line word user file low u f e =
    let size : length line ≡ length word + length (user ++ 32 ∷ file) = ap length e ∙ length-append word (user ++ 32 ∷ file) in
    let both : length (user ++ 32 ∷ file) ≡ length user + suc (length file) = length-append user (32 ∷ file) in
    let u_short : length user ≤ 64 = name_short user u in
    let f_short : length file ≤ 64 = name_short file f in
    omega arith

whole_short : (line : List ℕ) (command : Command) → SaysWhole line command → length line < MAX_LINE_BYTES
whole_short line (Enrol user) p = one_short line (codes "enrol ") user (omega arith) p.0 p.1
whole_short line (Create file names body) p = absurd p
whole_short line (Grant user file) p = two_short line (codes "grant ") user file (omega arith) p.0 p.1 p.2
whole_short line (Revoke user file) p = two_short line (codes "revoke ") user file (omega arith) p.0 p.1 p.2
whole_short line (Remove file) p = one_short line (codes "remove ") file (omega arith) p.0 p.1
whole_short line (Replace file body) p = absurd p
whole_short line (Read user file) p = two_short line (codes "read ") user file (omega arith) p.0 p.1 p.2
whole_short line (Command-List file) p = one_short line (codes "list ") file (omega arith) p.0 p.1
whole_short line Epoch p = let size : length line ≡ 5 = ap length p in omega arith

replace_short : (line file : List ℕ) (size : ℕ) → SaysReplace line file size → length line < MAX_LINE_BYTES
replace_short line file size (named, low, e) =
    let whole : length line ≡ 8 + length (file ++ 32 ∷ decimal size) = ap length e ∙ length-append (codes "replace ") (file ++ 32 ∷ decimal size) in
    let words : length (file ++ 32 ∷ decimal size) ≡ length file + suc (length (decimal size)) = length-append file (32 ∷ decimal size) in
    let name : length file ≤ 64 = name_short file named in
    let digits : length (decimal size) ≤ 8 = size_short size low in
    omega arith

pub says_short : (line : List ℕ) (said : FirstLine) → SaysLine line said → length line < MAX_LINE_BYTES
says_short line (Whole command) p = whole_short line command p
says_short line (WithBody (Creation file names) size) p = p.4
says_short line (WithBody (Replacement file) size) p = replace_short line file size p

-- ---- a line says one thing

-- the first three bytes tell the lines apart
abbrev key : List ℕ → ℕ
key line = (get_or line 0 0 * 256 + get_or line 1 0) * 256 + get_or line 2 0

abbrev key_of : Command → ℕ
key_of (Enrol user) = key (codes "enrol")
key_of (Create file names body) = key (codes "create")
key_of (Grant user file) = key (codes "grant")
key_of (Revoke user file) = key (codes "revoke")
key_of (Remove file) = key (codes "remove")
key_of (Replace file body) = key (codes "replace")
key_of (Read user file) = key (codes "read")
key_of (Command-List file) = key (codes "list")
key_of Epoch = key (codes "epoch")

whole_key : (line : List ℕ) (command : Command) → SaysWhole line command → key line ≡ key_of command
whole_key line (Enrol user) p = ap key p.1
whole_key line (Create file names body) p = absurd p
whole_key line (Grant user file) p = ap key p.2
whole_key line (Revoke user file) p = ap key p.2
whole_key line (Remove file) p = ap key p.1
whole_key line (Replace file body) p = absurd p
whole_key line (Read user file) p = ap key p.2
whole_key line (Command-List file) p = ap key p.1
whole_key line Epoch p = ap key p

two_once : (line word u f v g : List ℕ) → IsName u → IsName v → line ≡ word ++ (u ++ 32 ∷ f) → line ≡ word ++ (v ++ 32 ∷ g) → (u ≡ v) × (f ≡ g)
two_once line word u f v g p q e e' =
    split_once 32 u v f g (name_no_space u p) (name_no_space v q) (append_cancel_left word (u ++ 32 ∷ f) (v ++ 32 ∷ g) (sym e ∙ e'))

whole_once : (line : List ℕ) (a b : Command) → SaysWhole line a → SaysWhole line b → a ≡ b
whole_once line (Enrol u) (Enrol v) p q = let same : u ≡ v = append_cancel_left (codes "enrol ") u v (sym p.1 ∙ q.1) in cc
whole_once line (Grant u f) (Grant v g) p q =
    let both = two_once line (codes "grant ") u f v g p.0 q.0 p.2 q.2 in
    let users : u ≡ v = both.0 in let files : f ≡ g = both.1 in cc
whole_once line (Revoke u f) (Revoke v g) p q =
    let both = two_once line (codes "revoke ") u f v g p.0 q.0 p.2 q.2 in
    let users : u ≡ v = both.0 in let files : f ≡ g = both.1 in cc
whole_once line (Remove f) (Remove g) p q = let same : f ≡ g = append_cancel_left (codes "remove ") f g (sym p.1 ∙ q.1) in cc
whole_once line (Read u f) (Read v g) p q =
    let both = two_once line (codes "read ") u f v g p.0 q.0 p.2 q.2 in
    let users : u ≡ v = both.0 in let files : f ≡ g = both.1 in cc
whole_once line (Command-List f) (Command-List g) p q = let same : f ≡ g = append_cancel_left (codes "list ") f g (sym p.1 ∙ q.1) in cc
whole_once line Epoch Epoch p q = refl
whole_once line (Create f ns body) b p q = absurd p
whole_once line a (Create f ns body) p q = absurd q
whole_once line (Replace f body) b p q = absurd p
whole_once line a (Replace f body) p q = absurd q
whole_once line a b p q = absurd (omega (arith, whole_key line a p, whole_key line b q))

create_apart : (line : List ℕ) (a : Command) → SaysWhole line a → key line ≡ key (codes "create") → ⊥
create_apart line (Create f ns body) p e = p
create_apart line (Replace f body) p e = p
create_apart line a p e = absurd (omega (arith, whole_key line a p, e))

replace_apart : (line : List ℕ) (a : Command) → SaysWhole line a → key line ≡ key (codes "replace") → ⊥
replace_apart line (Create f ns body) p e = p
replace_apart line (Replace f body) p e = p
replace_apart line a p e = absurd (omega (arith, whole_key line a p, e))

head_apart : (line : List ℕ) (a : Command) (head : Head) (size : ℕ) → SaysWhole line a → SaysHead line head size → ⊥
head_apart line a (Creation g ms) size p q = create_apart line a p (ap key q.5)
head_apart line a (Replacement g) size p q = replace_apart line a p (ap key q.2)

heads_apart : (line : List ℕ) → key line ≡ key (codes "create") → key line ≡ key (codes "replace") → ⊥
heads_apart line created replaced = absurd (omega (arith, created, replaced))

pub line_once : (line : List ℕ) (a b : FirstLine) → SaysLine line a → SaysLine line b → a ≡ b
line_once line (Whole a) (Whole b) p q = ap Whole (whole_once line a b p q)
line_once line (Whole a) (WithBody head m) p q = absurd (head_apart line a head m p q)
line_once line (WithBody head n) (Whole b) p q = absurd (head_apart line b head n q p)
line_once line (WithBody (Creation f ns) n) (WithBody (Replacement g) m) p q = absurd (heads_apart line (ap key p.5) (ap key q.2))
line_once line (WithBody (Replacement f) n) (WithBody (Creation g ms) m) p q = absurd (heads_apart line (ap key q.5) (ap key p.2))
line_once line (WithBody (Replacement f) n) (WithBody (Replacement g) m) (f_named, n_low, e) (g_named, m_low, e') =
    let once = replace_once line f g n m f_named n_low e g_named m_low e' in
    let files : f ≡ g = once.0 in
    let sizes : n ≡ m = once.1 in
    cc
line_once line (WithBody (Creation f ns) n) (WithBody (Creation g ms) m) (r, f_named, r_is, n_low, r_short, e) (s, g_named, s_is, m_low, s_short, e') =
    let once = create_once line f g r s n m f_named (list_no_space r ns r_is) n_low e g_named (list_no_space s ms s_is) m_low e' in
    let files : f ≡ g = once.file in
    let lists : ns ≡ ms = list_once s ns ms (subst (λ t. IsList t ns) once.list r_is) s_is in
    let sizes : n ≡ m = once.size in
    cc
