-- What can begin an item, and what begins with one.
use Rattle.std.proofs.Common.{◌≡◌, ◌≢◌, ℕ, suc, ◌+◌, ◌-◌, ◌<◌, ◌≤◌, true, false, List, [], ◌∷◌, ◌++◌, length, replicate, refl, sym, ◌∙◌, ap, subst, append_assoc, append-nil, length-append, arith}
use Rattle.std.specs.Prelude.{codes}
use Rattle.std.specs.Fmt.{decimal}
use Rattle.std.proofs.lemmas.List.{length-replicate}
use Rattle.ov_base.specs.declared.limits.TheConstants.{MAX_LINE_BYTES}
use Rattle.ov_base.specs.Names.{IsName}
use Rattle.ov_script.specs.declared.command.Command.{Command}
use Rattle.ov_script.specs.declared.command.Command.TheVariants.{Enrol, Create, Grant, Revoke, Remove, Replace, Read, List as Command-List, Epoch}
use Rattle.ov_script.specs.declared.first_line.FirstLine.{FirstLine}
use Rattle.ov_script.specs.declared.first_line.FirstLine.TheVariants.{Whole, WithBody}
use Rattle.ov_script.specs.declared.first_line.Head.{Head}
use Rattle.ov_script.specs.declared.first_line.Head.TheVariants.{Creation, Replacement}
use Rattle.ov_script.specs.declared.front.Word.TheVariants.{Enrol as Word-Enrol, Create as Word-Create, Grant as Word-Grant, Revoke as Word-Revoke, Remove as Word-Remove, Replace as Word-Replace, Read as Word-Read, List as Word-List, Epoch as Word-Epoch}
use Rattle.ov_script.specs.declared.front.Front.TheVariants.{Start}
use Rattle.ov_script.specs.ItemLines.{SaysWhole, SaysLine, Completes, with_body}
use Rattle.ov_script.specs.Items.{IsItem, BeginsWithItem, CanBegin}
use Rattle.ov_script.specs.LineEnds.{may_go_on}
use Rattle.ov_script.specs.LineFeeds.{NoLf}
use Rattle.ov_script.specs.LineFronts.{run}
use Rattle.ov_script.specs.WrittenLists.{list_text, without_repeats}
use Rattle.ov_base.proofs.Lists.{cut_once}
use Rattle.ov_script.proofs.ByteTexts.{front_before}
use Rattle.ov_script.proofs.Fitting.{NameThen, SpaceThen, IsNothing, Fits}
use Rattle.ov_script.proofs.Grammar.{item_parts, item_from, item_past, behind_line}
use Rattle.ov_script.proofs.LineFits.{alive_fits, dead_fits}
use Rattle.ov_script.proofs.LineLaws.{says_short}
use Rattle.ov_script.proofs.NameFronts.{rest_of_name, name_of_rest}

-- ---- lines are what fits from their start

one_name : (name : List ℕ) → IsName name → NameThen IsNothing 0 name
one_name name p = (name, [], sym (append-nil name), rest_of_name name p, refl)

two_names : (user file : List ℕ) → IsName user → IsName file → NameThen (SpaceThen (NameThen IsNothing 0)) 0 (user ++ 32 ∷ file)
two_names user file u f = (user, 32 ∷ file, refl, rest_of_name user u, (file, refl, one_name file f))

whole_fits : (line : List ℕ) (command : Command) → SaysWhole line command → Fits Start line
whole_fits line (Enrol user) (u, e) = (Word-Enrol, user, e, one_name user u)
whole_fits line (Create file names body) p = absurd p
whole_fits line (Grant user file) (u, f, e) = (Word-Grant, user ++ 32 ∷ file, e, two_names user file u f)
whole_fits line (Revoke user file) (u, f, e) = (Word-Revoke, user ++ 32 ∷ file, e, two_names user file u f)
whole_fits line (Remove file) (f, e) = (Word-Remove, file, e, one_name file f)
whole_fits line (Replace file body) p = absurd p
whole_fits line (Read user file) (u, f, e) = (Word-Read, user ++ 32 ∷ file, e, two_names user file u f)
whole_fits line (Command-List file) (f, e) = (Word-List, file, e, one_name file f)
whole_fits line Epoch e = (Word-Epoch, [], e, refl)

pub said_fits : (line : List ℕ) (said : FirstLine) → SaysLine line said → Fits Start line
said_fits line (Whole command) p = whole_fits line command p
said_fits line (WithBody (Creation file names) size) (list, named, (said, are, f, once), low, short, e) = (
  Word-Create,
  file ++ 32 ∷ (list ++ 32 ∷ decimal size),
  e,
  (
    file,
    32 ∷ (list ++ 32 ∷ decimal size),
    refl,
    rest_of_name file named,
    (list ++ 32 ∷ decimal size, refl, (said, decimal size, are, ap (λ l. l ++ 32 ∷ decimal size) f, (size, low, refl))),
  ),
)
said_fits line (WithBody (Replacement file) size) (named, low, e) =
    (Word-Replace, file ++ 32 ∷ decimal size, e, (file, 32 ∷ decimal size, refl, rest_of_name file named, (decimal size, refl, (size, low, refl))))

-- a text that is one name, or two
is_one_name : (text : List ℕ) → NameThen IsNothing 0 text → IsName text
is_one_name text (name, end, e, r, none) = subst IsName (sym (e ∙ ap (λ l. name ++ l) none ∙ append-nil name)) (name_of_rest name r)

record TwoNames (text : List ℕ) : Type 0 where
  user : List ℕ
  file : List ℕ
  user_named : IsName user
  file_named : IsName file
  whole : text ≡ user ++ 32 ∷ file

are_two_names : (text : List ℕ) → NameThen (SpaceThen (NameThen IsNothing 0)) 0 text → TwoNames text
are_two_names text (user, tail, e, r, (file, f, p)) =
    record { user = user; file = file; user_named = name_of_rest user r; file_named = is_one_name file p; whole = e ∙ ap (λ l. user ++ l) f }

pub fits_said : (line : List ℕ) → length line < MAX_LINE_BYTES → Fits Start line → (said : FirstLine) × SaysLine line said
fits_said line short (Word-Enrol, rest, e, p) = (Whole (Enrol rest), (is_one_name rest p, e))
fits_said line short (Word-Grant, rest, e, p) =
    let t = are_two_names rest p in (Whole (Grant t.user t.file), (t.user_named, t.file_named, e ∙ ap (λ l. codes "grant " ++ l) t.whole))
fits_said line short (Word-Revoke, rest, e, p) =
    let t = are_two_names rest p in (Whole (Revoke t.user t.file), (t.user_named, t.file_named, e ∙ ap (λ l. codes "revoke " ++ l) t.whole))
fits_said line short (Word-Remove, rest, e, p) = (Whole (Remove rest), (is_one_name rest p, e))
fits_said line short (Word-Replace, rest, e, (file, tail, f, n, (digits, g, (size, low, h)))) =
    (WithBody (Replacement file) size, (name_of_rest file n, low, e ∙ ap (λ l. codes "replace " ++ l) (f ∙ ap (λ l. file ++ l) (g ∙ ap (λ l. 32 ∷ l) h))))
fits_said line short (Word-Read, rest, e, p) =
    let t = are_two_names rest p in (Whole (Read t.user t.file), (t.user_named, t.file_named, e ∙ ap (λ l. codes "read " ++ l) t.whole))
fits_said line short (Word-List, rest, e, p) = (Whole (Command-List rest), (is_one_name rest p, e))
fits_said line short (Word-Epoch, rest, e, none) = (Whole Epoch, e ∙ ap (λ l. codes "epoch" ++ l) none)
fits_said line short (Word-Create, rest, e, (file, tail, f, n, (more, g, (said, digits, are, h, (size, low, i))))) = (
  WithBody (Creation file (without_repeats said)) size,
  (
    list_text said,
    name_of_rest file n,
    (said, are, refl, refl),
    low,
    short,
    e ∙ ap (λ l. codes "create " ++ l) (f ∙ ap (λ l. file ++ l) (g ∙ ap (λ l. 32 ∷ l) (h ∙ ap (λ l. list_text said ++ 32 ∷ l) i))),
  ),
)

-- ---- what completes a line

-- the body, or nothing, of a line that nothing follows yet
some_tail : (said : FirstLine) (line : List ℕ) → SaysLine line said → (tail : List ℕ) × (command : Command) × Completes said tail command
some_tail (Whole command) line p = ([], command, (refl, refl))
some_tail (WithBody head size) line p = (replicate size 0 ++ 10 ∷ [], with_body head (replicate size 0), (replicate size 0, length-replicate size 0, refl, refl))

pub can_by_item : (text more item rest : List ℕ) (command : Command) → text ++ more ≡ item ++ rest → IsItem item command → CanBegin text
can_by_item text more item rest command e is = (more, (item, rest, command, e, is))

-- what begins a line can begin an item
pub can_by_line : (front text : List ℕ) (said : FirstLine) → SaysLine (front ++ text) said → CanBegin front
can_by_line front text said p =
    let t = some_tail said (front ++ text) p in
    can_by_item front (text ++ 10 ∷ t.0) ((front ++ text) ++ 10 ∷ t.0) [] t.1
    (sym (append_assoc front text (10 ∷ t.0)) ∙ sym (append-nil ((front ++ text) ++ 10 ∷ t.0))) (item_from (front ++ text) t.0 said t.1 p t.2)

pub CanBegin-front : (xs ys : List ℕ) → CanBegin (xs ++ ys) → CanBegin xs
CanBegin-front xs ys (more, b) = (ys ++ more, subst BeginsWithItem (append_assoc xs ys more) b)

pub begins_can : (text : List ℕ) → BeginsWithItem text → CanBegin text
begins_can text b = ([], subst BeginsWithItem (sym (append-nil text)) b)

-- ---- fronts of lines

-- what may go on can begin an item
pub alive_can : (front : List ℕ) → may_go_on (run Start front) (length front) ≡ true → CanBegin front
alive_can front alive =
    let more = alive_fits front alive in
    let line = fits_said (front ++ more.0) more.2 more.1 in
    can_by_line front more.0 line.0 line.1

-- what may go on is shorter than the longest line
pub alive_short : (front : List ℕ) → may_go_on (run Start front) (length front) ≡ true → length front < MAX_LINE_BYTES
alive_short front alive =
    let more = alive_fits front alive in
    let short : length (front ++ more.0) < MAX_LINE_BYTES = more.2 in
    let size : length (front ++ more.0) ≡ length front + length more.0 = length-append front more.0 in
    omega arith

-- what may not go on can't
pub dead_cannot : (front : List ℕ) → NoLf front → may_go_on (run Start front) (length front) ≡ false → CanBegin front → ⊥
dead_cannot front no_lf dead (more, (item, rest, command, e, is)) =
    let p = item_parts item command is in
    let joined : front ++ more ≡ p.line ++ 10 ∷ (p.tail ++ rest) = e ∙ ap (λ i. i ++ rest) p.whole ∙ append_assoc p.line (10 ∷ p.tail) rest in
    let z = front_before 10 front p.line more (p.tail ++ rest) no_lf joined in
    dead_fits front z.0 dead (subst (Fits Start) z.1 (said_fits p.line p.said p.says)) (subst (λ l. length l < MAX_LINE_BYTES) z.1 (says_short p.line p.said p.says))

-- no item begins with bytes that have no LF
pub none_without_lf : (bytes : List ℕ) → NoLf bytes → BeginsWithItem bytes → ⊥
none_without_lf bytes no_lf (item, rest, command, e, is) =
    let past : length bytes < length item = item_past bytes [] item rest command no_lf (append-nil bytes ∙ e) is in
    let size : length bytes ≡ length item + length rest = ap length e ∙ length-append item rest in
    absurd (omega arith)

-- ---- behind a line

-- a front of a body can go on
pub can_by_body : (line text : List ℕ) (head : Head) (size : ℕ) → SaysLine line (WithBody head size) → length text ≤ size → CanBegin (line ++ 10 ∷ text)
can_by_body line text head size p within =
    let pad : List ℕ = replicate (size - length text) 0 in
    let count : length (text ++ pad) ≡ size =
    (let n : length (text ++ pad) ≡ length text + length pad = length-append text pad in let m : length pad ≡ size - length text = length-replicate (size - length text) 0 in omega arith) in
    let item : IsItem (line ++ 10 ∷ ((text ++ pad) ++ 10 ∷ [])) (with_body head (text ++ pad)) =
    item_from line ((text ++ pad) ++ 10 ∷ []) (WithBody head size) (with_body head (text ++ pad)) p (text ++ pad, count, refl, refl) in
    let joined : (line ++ 10 ∷ text) ++ (pad ++ 10 ∷ []) ≡ (line ++ 10 ∷ ((text ++ pad) ++ 10 ∷ [])) ++ [] =
    append_assoc line (10 ∷ text) (pad ++ 10 ∷ []) ∙ ap (λ t. line ++ 10 ∷ t) (sym (append_assoc text pad (10 ∷ []))) ∙ sym (append-nil (line ++ 10 ∷ ((text ++ pad) ++ 10 ∷ []))) in
    can_by_item (line ++ 10 ∷ text) (pad ++ 10 ∷ []) (line ++ 10 ∷ ((text ++ pad) ++ 10 ∷ [])) [] (with_body head (text ++ pad)) joined item

-- an item that begins behind the line of a body has its bytes and LF
pub body_behind : (line text item rest : List ℕ) (head : Head) (size : ℕ) (command : Command) → SaysLine line (WithBody head size) → line ++ 10 ∷ text ≡ item ++ rest → IsItem item command
    → (body : List ℕ) × (length body ≡ size) × (text ≡ body ++ 10 ∷ rest) × (length item ≡ length line + 1 + size + 1)
body_behind line text item rest head size command p e is =
    let b = behind_line line text item rest (WithBody head size) command p e is in
    let body = b.completes.0 in
    let tail : b.tail ≡ b.completes.0 ++ 10 ∷ [] = b.completes.2 in
    let count : length b.completes.0 ≡ size = b.completes.1 in
    let whole : length item ≡ length line + suc (length b.tail) = ap length b.item ∙ length-append line (10 ∷ b.tail) in
    let tail_size : length b.tail ≡ length b.completes.0 + 1 = ap length tail ∙ length-append b.completes.0 (10 ∷ []) in
    (b.completes.0, count, b.behind ∙ ap (λ t. t ++ rest) tail ∙ append_assoc b.completes.0 (10 ∷ []) rest, omega arith)

-- fewer bytes than the body and its LF hold no item
pub none_in_body : (line text : List ℕ) (head : Head) (size : ℕ) → SaysLine line (WithBody head size) → length text ≤ size → BeginsWithItem (line ++ 10 ∷ text) → ⊥
none_in_body line text head size p within (item, rest, command, e, is) =
    let b = body_behind line text item rest head size command p e is in
    let count : length b.0 ≡ size = b.1 in
    let whole : length text ≡ length b.0 + suc (length rest) = ap length b.2 ∙ length-append b.0 (10 ∷ rest) in
    absurd (omega arith)

-- no item goes on with another byte in the place of the LF behind its body
pub wrong_behind_body : (line body more : List ℕ) (head : Head) (size b : ℕ) → SaysLine line (WithBody head size) → length body ≡ size → b ≢ 10
    → BeginsWithItem (line ++ 10 ∷ (body ++ b ∷ more)) → ⊥
wrong_behind_body line body more head size b p count differs (item, rest, command, e, is) =
    let f = body_behind line (body ++ b ∷ more) item rest head size command p e is in
    let tails : b ∷ more ≡ 10 ∷ rest = (cut_once body f.0 (b ∷ more) (10 ∷ rest) (count ∙ sym f.1) f.2).1 in
    let lf : b ≡ 10 = cc in
    differs lf
