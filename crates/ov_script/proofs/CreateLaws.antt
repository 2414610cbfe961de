-- Laws of the lists and bodies of `create` and `replace`: the names are names, and they are few.
use Rattle.std.proofs.Common.{◌≡◌, ℕ, suc, ◌+◌, ◌*◌, ◌<◌, ◌≤◌, Bool, true, false, List, [], ◌∷◌, ◌++◌, length, refl, sym, ap, subst, length-append, arith}
use Rattle.std.specs.Prelude.{codes}
use Rattle.std.specs.Fmt.{decimal}
use Rattle.std.specs.List.{list_any, AllByRecursion}
use Rattle.std.specs.Str.{bytes_eq}
use Rattle.std.proofs.lemmas.Bool.{or_parts}
use Rattle.std.proofs.lemmas.Map.Keys.{IsDistinct-head, IsDistinct-tail, IsDistinct-cons}
use Rattle.std.proofs.lemmas.Map.Made.{IsDistinct-from_AllPairs}
use Rattle.std.proofs.lemmas.Slice.Eq.{bytes_eq-Decides}
use Rattle.ov_base.specs.declared.limits.TheConstants.{MAX_FILE_BYTES, MAX_LINE_BYTES}
use Rattle.ov_base.specs.NameLists.{is_among, appended, with_name, AreDistinct}
use Rattle.ov_base.specs.Names.{IsName}
use Rattle.ov_script.specs.Items.{IsItem, create_line}
use Rattle.ov_script.specs.WrittenLists.{AreNames, with_commas, list_text, with_names, IsList}
use Rattle.ov_script.specs.declared.command.Command.TheVariants.{Create, Replace}
use Rattle.ov_script.proofs.ListTexts.{AreNames-append}

-- ---- names

appended_named : (among : Bool) (names : List (List ℕ)) (name : List ℕ) → AreNames names → IsName name → AreNames (appended among names name)
appended_named true names name are named = are
appended_named false names name are named = AreNames-append names (name ∷ []) are (named, tt)

with_names_named : (names others : List (List ℕ)) → AreNames names → AreNames others → AreNames (with_names names others)
with_names_named names [] are more = are
with_names_named names (name ∷ others) are more = with_names_named (with_name names name) others (appended_named (is_among name names) names name are more.0) more.1

pub list_names : (text : List ℕ) (names : List (List ℕ)) → IsList text names → AreNames names
list_names text names (said, are, e, once) = subst AreNames (sym once) (with_names_named [] said tt are)

-- ---- few and short

-- how many bytes the names have, each behind a comma
abbrev commas : List (List ℕ) → ℕ
commas names = length (with_commas names)

commas-cons : (name : List ℕ) (names : List (List ℕ)) → commas (name ∷ names) ≡ 1 + length name + commas names
commas-cons name names = let parts : length (name ++ with_commas names) ≡ length name + commas names = length-append name (with_commas names) in omega arith

commas-append : (names others : List (List ℕ)) → commas (names ++ others) ≡ commas names + commas others
commas-append [] others = let same : commas ([] ++ others) ≡ commas others = refl in omega arith
commas-append (name ∷ names) others =
    let rest : commas (names ++ others) ≡ commas names + commas others = commas-append names others in
    let all : commas (name ∷ (names ++ others)) ≡ 1 + length name + commas (names ++ others) = commas-cons name (names ++ others) in
    let first : commas (name ∷ names) ≡ 1 + length name + commas names = commas-cons name names in
    omega arith

appended_short : (among : Bool) (names : List (List ℕ)) (name : List ℕ) → commas (appended among names name) ≤ commas names + 1 + length name
appended_short true names name = omega arith
appended_short false names name =
    let both : commas (names ++ name ∷ []) ≡ commas names + commas (name ∷ []) = commas-append names (name ∷ []) in
    let last : commas (name ∷ []) ≡ 1 + length name + 0 = commas-cons name [] in
    omega arith

with_names_short : (names others : List (List ℕ)) → commas (with_names names others) ≤ commas names + commas others
with_names_short names [] = omega arith
with_names_short names (name ∷ others) =
    let one : commas (with_name names name) ≤ commas names + 1 + length name = appended_short (is_among name names) names name in
    let rest : commas (with_names (with_name names name) others) ≤ commas (with_name names name) + commas others = with_names_short (with_name names name) others in
    let first : commas (name ∷ others) ≡ 1 + length name + commas others = commas-cons name others in
    omega arith

text_short : (names : List (List ℕ)) → commas names ≤ length (list_text names) + 1
text_short [] = omega arith
text_short (name ∷ names) = omega arith

-- the names of a list have fewer bytes than its text, but for the first comma
pub list_short : (text : List ℕ) (names : List (List ℕ)) → IsList text names → length (with_commas names) ≤ length text + 1
list_short text names (said, are, e, once) =
    let short : commas (with_names [] said) ≤ 0 + commas said = with_names_short [] said in
    let same : commas names ≡ commas (with_names [] said) = ap commas once in
    let all : commas said ≤ length (list_text said) + 1 = text_short said in
    let size : length text ≡ length (list_text said) = ap length e in
    omega arith

named_some : (name : List ℕ) → IsName name → 0 < length name
named_some [] p = absurd (cc)
named_some (b ∷ name) p = omega arith

-- names have a byte each, at least
pub commas_long : (names : List (List ℕ)) → AreNames names → length names * 2 ≤ length (with_commas names)
commas_long [] are = omega arith
commas_long (name ∷ names) are =
    let some : 0 < length name = named_some name are.0 in
    let rest : length names * 2 ≤ commas names = commas_long names are.1 in
    let first : commas (name ∷ names) ≡ 1 + length name + commas names = commas-cons name names in
    omega arith

list_in_line : (file list : List ℕ) (size : ℕ) → length list + 1 ≤ length (create_line file list size)
list_in_line file list size =
    let line : length (create_line file list size) ≡ length (codes "create " ++ (file ++ 32 ∷ (list ++ 32 ∷ decimal size))) + 1 =
    length-append (codes "create " ++ (file ++ 32 ∷ (list ++ 32 ∷ decimal size))) (10 ∷ []) in
    let words : length (codes "create " ++ (file ++ 32 ∷ (list ++ 32 ∷ decimal size))) ≡ 7 + length (file ++ 32 ∷ (list ++ 32 ∷ decimal size)) =
    length-append (codes "create ") (file ++ 32 ∷ (list ++ 32 ∷ decimal size)) in
    let first : length (file ++ 32 ∷ (list ++ 32 ∷ decimal size)) ≡ length file + suc (length (list ++ 32 ∷ decimal size)) = length-append file (32 ∷ (list ++ 32 ∷ decimal size)) in
    let second : length (list ++ 32 ∷ decimal size) ≡ length list + suc (length (decimal size)) = length-append list (32 ∷ decimal size) in
    omega arith

-- ---- what a `create` has

pub create_names : (item file body : List ℕ) (names : List (List ℕ)) → IsItem item (Create file names body) → AreNames names
create_names item file body names (list, named, is, low, short, e) = list_names list names is

-- the names of a list have fewer bytes than a line, each with a comma
pub create_short_names : (item file body : List ℕ) (names : List (List ℕ)) → IsItem item (Create file names body) → length (with_commas names) ≤ MAX_LINE_BYTES
create_short_names item file body names (list, named, is, low, short, e) =
    let few : length (with_commas names) ≤ length list + 1 = list_short list names is in
    let line : length list + 1 ≤ length (create_line file list (length body)) = list_in_line file list (length body) in
    let within : length (create_line file list (length body)) ≤ MAX_LINE_BYTES = short in
    omega arith

pub create_size : (item file body : List ℕ) (names : List (List ℕ)) → IsItem item (Create file names body) → length body ≤ MAX_FILE_BYTES
create_size item file body names (list, named, is, low, short, e) = low

-- ---- what a `replace` has

pub replace_size : (item file body : List ℕ) → IsItem item (Replace file body) → length body ≤ MAX_FILE_BYTES
replace_size item file body (named, low, e) = low
