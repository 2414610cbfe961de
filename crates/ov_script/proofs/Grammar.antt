-- Laws of the grammar of scripts: what an item is made of, and that no item begins another one.
use Rattle.std.proofs.Common.{◌≡◌, ℕ, suc, ◌+◌, ◌<◌, ◌≤◌, List, [], ◌∷◌, ◌++◌, length, refl, sym, ◌∙◌, ap, subst, append_assoc, append-nil, length-append, arith}
use Rattle.std.specs.Prelude.{codes}
use Rattle.std.specs.Fmt.{decimal}
use Rattle.std.proofs.lemmas.List.{append_cancel_left}
use Rattle.ov_script.specs.declared.command.Command.{Command}
use Rattle.ov_script.specs.declared.command.Command.TheVariants.{Enrol, Create, Grant, Revoke, Remove, Replace, Read, List as Command-List, Epoch}
use Rattle.ov_script.specs.declared.first_line.FirstLine.{FirstLine}
use Rattle.ov_script.specs.declared.first_line.FirstLine.TheVariants.{Whole, WithBody}
use Rattle.ov_script.specs.declared.first_line.Head.{Head}
use Rattle.ov_script.specs.declared.first_line.Head.TheVariants.{Creation, Replacement}
use Rattle.ov_script.specs.ItemLines.{SaysWhole, SaysCreate, SaysReplace, SaysHead, SaysLine, Completes, with_body}
use Rattle.ov_script.specs.Items.{IsItem, BeginsWithItem, spaced, create_line}
use Rattle.ov_script.specs.LineFeeds.{NoLf}
use Rattle.ov_base.proofs.Lists.{cut_once}
use Rattle.ov_script.proofs.ByteTexts.{split_once, past_front}
use Rattle.ov_script.proofs.LineLaws.{says_no_lf, line_once}

-- an item is a line, LF and what completes it
pub record Parts (item : List ℕ) (command : Command) : Type 0 where
  pub line : List ℕ
  pub tail : List ℕ
  pub said : FirstLine
  pub says : SaysLine line said
  pub whole : item ≡ line ++ 10 ∷ tail
  pub completes : Completes said tail command

with_tail : (line body : List ℕ) → (line ++ 10 ∷ []) ++ body ++ 10 ∷ [] ≡ line ++ 10 ∷ (body ++ 10 ∷ [])
with_tail line body = append_assoc (line ++ 10 ∷ []) body (10 ∷ []) ∙ append_assoc line (10 ∷ []) (body ++ 10 ∷ [])

pub item_parts : (item : List ℕ) (command : Command) → IsItem item command → Parts item command
item_parts item (Enrol user) p =
    record { line = spaced (codes "enrol" ∷ user ∷ []); tail = []; said = Whole (Enrol user); says = (p.0, refl); whole = p.1; completes = (refl, refl) }
item_parts item (Create file names body) (list, named, is, low, short, e) =
    let line = spaced (codes "create" ∷ file ∷ list ∷ decimal (length body) ∷ []) in
    let size : length (create_line file list (length body)) ≡ length line + 1 = length-append line (10 ∷ []) in
    record {
      line = spaced (codes "create" ∷ file ∷ list ∷ decimal (length body) ∷ []);
      tail = body ++ 10 ∷ [];
      said = WithBody (Creation file names) (length body);
      says = (list, named, is, low, omega arith, refl);
      whole = e ∙ with_tail line body;
      completes = (body, refl, refl, refl);
    }
item_parts item (Grant user file) p =
    record { line = spaced (codes "grant" ∷ user ∷ file ∷ []); tail = []; said = Whole (Grant user file); says = (p.0, p.1, refl); whole = p.2; completes = (refl, refl) }
item_parts item (Revoke user file) p =
    record { line = spaced (codes "revoke" ∷ user ∷ file ∷ []); tail = []; said = Whole (Revoke user file); says = (p.0, p.1, refl); whole = p.2; completes = (refl, refl) }
item_parts item (Remove file) p =
    record { line = spaced (codes "remove" ∷ file ∷ []); tail = []; said = Whole (Remove file); says = (p.0, refl); whole = p.1; completes = (refl, refl) }
item_parts item (Replace file body) (named, low, e) =
    record {
      line = spaced (codes "replace" ∷ file ∷ decimal (length body) ∷ []);
      tail = body ++ 10 ∷ [];
      said = WithBody (Replacement file) (length body);
      says = (named, low, refl);
      whole = e ∙ with_tail (spaced (codes "replace" ∷ file ∷ decimal (length body) ∷ [])) body;
      completes = (body, refl, refl, refl);
    }
item_parts item (Read user file) p =
    record { line = spaced (codes "read" ∷ user ∷ file ∷ []); tail = []; said = Whole (Read user file); says = (p.0, p.1, refl); whole = p.2; completes = (refl, refl) }
item_parts item (Command-List file) p =
    record { line = spaced (codes "list" ∷ file ∷ []); tail = []; said = Whole (Command-List file); says = (p.0, refl); whole = p.1; completes = (refl, refl) }
item_parts item Epoch p = record { line = codes "epoch"; tail = []; said = Whole Epoch; says = refl; whole = p; completes = (refl, refl) }

whole_item : (line : List ℕ) (command : Command) → SaysWhole line command → IsItem (line ++ 10 ∷ []) command
whole_item line (Enrol user) p = (p.0, ap (λ l. l ++ 10 ∷ []) p.1)
whole_item line (Create file names body) p = absurd p
whole_item line (Grant user file) p = (p.0, p.1, ap (λ l. l ++ 10 ∷ []) p.2)
whole_item line (Revoke user file) p = (p.0, p.1, ap (λ l. l ++ 10 ∷ []) p.2)
whole_item line (Remove file) p = (p.0, ap (λ l. l ++ 10 ∷ []) p.1)
whole_item line (Replace file body) p = absurd p
whole_item line (Read user file) p = (p.0, p.1, ap (λ l. l ++ 10 ∷ []) p.2)
whole_item line (Command-List file) p = (p.0, ap (λ l. l ++ 10 ∷ []) p.1)
whole_item line Epoch p = ap (λ l. l ++ 10 ∷ []) p

create_item : (line file body : List ℕ) (names : List (List ℕ)) → SaysCreate line file names (length body) → IsItem (line ++ 10 ∷ (body ++ 10 ∷ [])) (Create file names body)
create_item line file body names (list, named, is, low, short, e) =
    let whole : create_line file list (length body) ≡ line ++ 10 ∷ [] = ap (λ l. l ++ 10 ∷ []) (sym e) in
    let size : length (create_line file list (length body)) ≡ length line + 1 = ap length whole ∙ length-append line (10 ∷ []) in
    (list, named, is, low, omega arith, sym (with_tail line body) ∙ ap (λ l. l ++ body ++ 10 ∷ []) (sym whole))

replace_item : (line file body : List ℕ) → SaysReplace line file (length body) → IsItem (line ++ 10 ∷ (body ++ 10 ∷ [])) (Replace file body)
replace_item line file body (named, low, e) = (named, low, sym (with_tail line body) ∙ ap (λ l. (l ++ 10 ∷ []) ++ body ++ 10 ∷ []) e)

head_item : (line body : List ℕ) (head : Head) → SaysHead line head (length body) → IsItem (line ++ 10 ∷ (body ++ 10 ∷ [])) (with_body head body)
head_item line body (Creation file names) p = create_item line file body names p
head_item line body (Replacement file) p = replace_item line file body p

pub item_from : (line tail : List ℕ) (said : FirstLine) (command : Command) → SaysLine line said → Completes said tail command → IsItem (line ++ 10 ∷ tail) command
item_from line tail (Whole said) command p (t, c) = subst (λ z. IsItem (line ++ 10 ∷ z) command) (sym t) (subst (IsItem (line ++ 10 ∷ [])) (sym c) (whole_item line said p))
item_from line tail (WithBody head size) command p (body, count, t, c) =
    let item = head_item line body head (subst (SaysHead line head) (sym count) p) in
    subst (λ z. IsItem (line ++ 10 ∷ z) command) (sym t) (subst (IsItem (line ++ 10 ∷ (body ++ 10 ∷ []))) (sym c) item)

-- of what follows the line of an item, its tail is the front
pub record Behind (line z whole rest : List ℕ) (said : FirstLine) (command : Command) : Type 0 where
  pub tail : List ℕ
  pub completes : Completes said tail command
  pub item : whole ≡ line ++ 10 ∷ tail
  pub behind : z ≡ tail ++ rest

-- an item that begins a text has the text's first line
pub same_line : (line z item rest : List ℕ) (command : Command) → NoLf line → line ++ 10 ∷ z ≡ item ++ rest → (p : Parts item command) → (line ≡ p.line) × (z ≡ p.tail ++ rest)
same_line line z item rest command no_lf e p =
    split_once 10 line p.line z (p.tail ++ rest) no_lf (says_no_lf p.line p.said p.says) (e ∙ ap (λ i. i ++ rest) p.whole ∙ append_assoc p.line (10 ∷ p.tail) rest)

pub behind_line : (line z item rest : List ℕ) (said : FirstLine) (command : Command) → SaysLine line said → line ++ 10 ∷ z ≡ item ++ rest → IsItem item command
    → Behind line z item rest said command
behind_line line z item rest said command says e is =
    let p = item_parts item command is in
    let same = same_line line z item rest command (says_no_lf line said says) e p in
    let saids : said ≡ p.said = line_once line said p.said says (subst (λ l. SaysLine l p.said) (sym same.0) p.says) in
    record {
      tail = p.tail;
      completes = subst (λ s. Completes s p.tail command) (sym saids) p.completes;
      item = p.whole ∙ ap (λ l. l ++ 10 ∷ p.tail) (sym same.0);
      behind = same.1;
    }

-- what completes a line does so once
same_tail : (said : FirstLine) (s t x y : List ℕ) (c d : Command) → Completes said s c → Completes said t d → s ++ x ≡ t ++ y → (s ≡ t) × (x ≡ y) × (c ≡ d)
same_tail (Whole said) s t x y c d p q e =
    let tails : s ≡ t = p.0 ∙ sym q.0 in
    (tails, append_cancel_left t x y (ap (λ l. l ++ x) (sym tails) ∙ e), p.1 ∙ sym q.1)
same_tail (WithBody head size) s t x y c d p q e =
    let joined : p.0 ++ (10 ∷ x) ≡ q.0 ++ (10 ∷ y) =
    sym (ap (λ l. l ++ x) p.2 ∙ append_assoc p.0 (10 ∷ []) x) ∙ e ∙ ap (λ l. l ++ y) q.2 ∙ append_assoc q.0 (10 ∷ []) y in
    let bodies = cut_once p.0 q.0 (10 ∷ x) (10 ∷ y) (p.1 ∙ sym q.1) joined in
    let rests : x ≡ y = let t : 10 ∷ x ≡ 10 ∷ y = bodies.1 in cc in
    (p.2 ∙ ap (λ b. b ++ 10 ∷ []) bodies.0 ∙ sym q.2, rests, p.3 ∙ ap (with_body head) bodies.0 ∙ sym q.3)

-- two items that begin one text are one
pub item_once : (a b x y : List ℕ) (c d : Command) → a ++ x ≡ b ++ y → IsItem a c → IsItem b d → (a ≡ b) × (x ≡ y) × (c ≡ d)
item_once a b x y c d e is js =
    let p = item_parts a c is in
    let joined : p.line ++ 10 ∷ (p.tail ++ x) ≡ b ++ y = sym (ap (λ i. i ++ x) p.whole ∙ append_assoc p.line (10 ∷ p.tail) x) ∙ e in
    let q = behind_line p.line (p.tail ++ x) b y p.said d p.says joined js in
    let same = same_tail p.said p.tail q.tail x y c d p.completes q.completes q.behind in
    (p.whole ∙ ap (λ t. p.line ++ 10 ∷ t) same.0 ∙ sym q.item, same.1, same.2)

-- where a whole line says nothing, no item begins
pub not_at_line : (line z : List ℕ) → NoLf line → ((said : FirstLine) → SaysLine line said → ⊥) → BeginsWithItem (line ++ 10 ∷ z) → ⊥
not_at_line line z no_lf none (item, rest, command, e, is) =
    let p = item_parts item command is in
    let same = same_line line z item rest command no_lf e p in
    none p.said (subst (λ l. SaysLine l p.said) (sym same.0) p.says)

-- an item ends past any front that has no LF
pub item_past : (line z item rest : List ℕ) (command : Command) → NoLf line → line ++ z ≡ item ++ rest → IsItem item command → length line < length item
item_past line z item rest command no_lf e is =
    let p = item_parts item command is in
    let joined : p.line ++ 10 ∷ (p.tail ++ rest) ≡ line ++ z = sym (e ∙ ap (λ i. i ++ rest) p.whole ∙ append_assoc p.line (10 ∷ p.tail) rest) in
    let past : length line ≤ length p.line = past_front 10 p.line line (p.tail ++ rest) z no_lf joined in
    let size : length item ≡ length p.line + suc (length p.tail) = ap length p.whole ∙ length-append p.line (10 ∷ p.tail) in
    omega arith

-- an item has a byte
pub item_some : (item : List ℕ) (command : Command) → IsItem item command → 0 < length item
item_some item command is = let past : 0 < length item = item_past [] item item [] command tt (sym (append-nil item)) is in past
