-- Files by number and by name, as they are kept and as the catalogue has them.
use Rattle.std.proofs.Common.{cond, subst, Bor, ◌≡◌, ℕ, zero, suc, ◌+◌, ◌<◌, Bool, true, false, List, [], ◌∷◌, ◌++◌, length, refl, sym, ◌∙◌, ap, arith}
use Rattle.std.specs.Prelude.{if◌then◌else◌, is_some, nat_lt, IfSome, option_map, slice_index_or, slice_set, Option, Some, None, Result, Ok, Err, OnOk, IsOk}
use Rattle.std.specs.List.{AllByRecursion, IsDistinct}
use Rattle.std.specs.Map.{keys_of, lookup, remove_entry}
use Rattle.std.specs.Option.{option_copied}
use Rattle.std.specs.Str.{bytes_eq}
use Rattle.std.proofs.lemmas.Bool.{or_parts, true≢false}
use Rattle.std.proofs.lemmas.List.{get_or_default, get_or_past}
use Rattle.std.proofs.lemmas.Map.Keys.{IsDistinct-head, IsDistinct-tail}
use Rattle.std.proofs.lemmas.Slice.Eq.{bytes_eq-Decides}
use Rattle.indexmap.specs.IndexMap.{insert_entry}
use Rattle.ov_base.specs.NameLists.{is_among}
use Rattle.ov_base.specs.Names.{IsName}
use Rattle.ov_history.specs.Places.{change_at, gone, here_or_after, living_at, place_of, IsNumber}
use Rattle.std.specs.Prelude.{unwrap_or}
use Rattle.ov_history.specs.Catalogue.{Filed, Catalogue, filed_at, no_filed}
use Rattle.ov_state.specs.Changes.{entry_rewritten, rewritten}
use Rattle.ov_state.specs.Entries.{filed_name, filed_names, numbered, plain_file, plain_files, HasName}
use Rattle.ov_state.specs.declared.change.Rewrite.{Rewrite}
use Rattle.ov_state.specs.declared.files.FileEntry.{FileEntry}
use Rattle.ov_base.proofs.Tests.{ge_of_false, lt_of_true}

-- what a look-up gives among this many names, of which the first has this number
abbrev pub IsNumberFrom : ℕ → ℕ → ℕ → Option ℕ → Type 0
IsNumberFrom number n place None = place ≡ n
IsNumberFrom number n place (Some found) = (found ≡ number + place) × (place < n)

pub length-plain : (files : List (Option FileEntry)) → length (plain_files files) ≡ length files
length-plain [] = refl
length-plain (f ∷ files) = ap suc (length-plain files)

pub plain-append : (files : List (Option FileEntry)) (f : FileEntry) → plain_files (files ++ Some f ∷ []) ≡ plain_files files ++ Some (plain_file f) ∷ []
plain-append [] f = refl
plain-append (first ∷ files) f = ap (λ (fs : List (Option Filed)). option_map plain_file first ∷ fs) (plain-append files f)

pub get-plain : (files : List (Option FileEntry)) (file : ℕ) → living_at (plain_files files) file ≡ option_map plain_file (living_at files file)
get-plain [] file = refl
get-plain (f ∷ files) zero = refl
get-plain (f ∷ files) (suc file) = get-plain files file

-- a file that is borrowed is the same as the catalogue has it
plain-copied : (r : Option (Bor FileEntry)) → option_map (λ f. plain_file f.now) r ≡ option_map plain_file (option_copied r)
plain-copied None = refl
plain-copied (Some f) = refl

-- a file that is looked up by a number that was given out
pub plain-got : (list : List (Option FileEntry)) (file : ℕ) (r : Option (Bor (Option FileEntry))) (o : Bor (Option FileEntry)) (f : Option (Bor FileEntry))
    → is_some r ≡ nat_lt file (length list) → IfSome r (λ e. e.now ≡ slice_index_or list file e.now) → r ≡ Some o → option_copied f ≡ o.now
    → option_map (λ f. plain_file f.now) f ≡ living_at (plain_files list) file
plain-got list file r o f found is some copied =
    let low : file < length list =
    lt_of_true file (length list) (sym found ∙ ap (λ (e : Option (Bor (Option FileEntry))). is_some e) some) in
    let read : o.now ≡ slice_index_or list file o.now =
    subst (λ (e : Option (Bor (Option FileEntry))). IfSome e (λ e. e.now ≡ slice_index_or list file e.now)) some is in
    plain-copied f ∙ ap (option_map plain_file) (copied ∙ read ∙ get_or_default list file o.now None low) ∙ sym (get-plain list file)

-- no file is there of a number that wasn't given out
pub plain-missed : (list : List (Option FileEntry)) (file : ℕ) (r : Option (Bor (Option FileEntry)))
    → is_some r ≡ nat_lt file (length list) → r ≡ None → None ≡ living_at (plain_files list) file
plain-missed list file r found none =
    let test : nat_lt file (length list) ≡ false = sym found ∙ ap (λ (e : Option (Bor (Option FileEntry))). is_some e) none in
    sym (get_or_past (plain_files list) file None (omega (arith, length-plain list, ge_of_false file (length list) test)))

-- a file that is written over
pub plain-set : (files : List (Option FileEntry)) (place : ℕ) (f now : Option FileEntry) (change : Option Filed → Option Filed) → place < length files
    → f ≡ slice_index_or files place f → option_map plain_file now ≡ change (option_map plain_file f)
    → plain_files (slice_set files place now) ≡ change_at change place (plain_files files)
plain-set [] place f now change low is same = absurd (omega arith)
plain-set (first ∷ files) zero f now change low is same =
    ap (λ (g : Option Filed). g ∷ plain_files files) (same ∙ ap (λ (g : Option FileEntry). change (option_map plain_file g)) is)
plain-set (first ∷ files) (suc place) f now change low is same =
    ap (λ (fs : List (Option Filed)). option_map plain_file first ∷ fs) (plain-set files place f now change (omega arith) is same)

-- a file that gets another surface
pub plain-refiled : (files : List (Option FileEntry)) (place epoch : ℕ) (r : Rewrite) (old now : Option FileEntry) → place < length files
    → old ≡ slice_index_or files place old → now ≡ option_map (entry_rewritten epoch r) old
    → plain_files (slice_set files place now) ≡ change_at (option_map (rewritten epoch r)) place (plain_files files)
plain-refiled files place epoch r old now low is made =
    plain-set files place old now (option_map (rewritten epoch r)) low is (ap (option_map plain_file) made ∙ alike old) where
      alike : (f : Option FileEntry) → option_map plain_file (option_map (entry_rewritten epoch r) f) ≡ option_map (rewritten epoch r) (option_map plain_file f)
      alike None = refl
      alike (Some f) = refl

-- a file that goes
pub plain-gone : (files : List (Option FileEntry)) (place : ℕ) (old : Option FileEntry) → place < length files
    → old ≡ slice_index_or files place old → plain_files (slice_set files place None) ≡ change_at gone place (plain_files files)
plain-gone files place old low is = plain-set files place old None gone low is refl

-- a file that is there is the one of its number
pub filed-at : (s : Catalogue) (file : ℕ) (f : Filed) → living_at s.files file ≡ Some f → filed_at s file ≡ f
filed-at s file f is = ap (λ (o : Option Filed). unwrap_or o no_filed) is

-- a file that is there is the one of its number
pub filed-there : (s : Catalogue) (file : ℕ) → is_some (living_at s.files file) ≡ true → living_at s.files file ≡ Some (filed_at s file)
filed-there s file there = by_file (living_at s.files file) there where
  by_file : (o : Option Filed) → is_some o ≡ true → o ≡ Some (unwrap_or o no_filed)
  by_file None there = absurd (cc)
  by_file (Some f) there = refl

-- ---- names

-- a new name leads to the number behind the last
pub numbered-inserted : (number : ℕ) (files : List (Option Filed)) (f : Filed) → is_among f.name (filed_names files) ≡ false
    → insert_entry bytes_eq (numbered number files) f.name (number + length files) ≡ numbered number (files ++ Some f ∷ [])
numbered-inserted number [] f absent =
    let n : number + 0 ≡ number = omega arith in
    ap (λ n. (f.name, n) ∷ []) n
numbered-inserted number (None ∷ files) f absent =
    let parts = or_parts (bytes_eq f.name []) (is_among f.name (filed_names files)) absent in
    let n : number + suc (length files) ≡ number + 1 + length files = omega arith in
    ap (λ n. insert_entry bytes_eq (numbered (number + 1) files) f.name n) n
    ∙ numbered-inserted (number + 1) files f parts.1
numbered-inserted number (Some first ∷ files) f absent =
    let parts = or_parts (bytes_eq f.name first.name) (is_among f.name (filed_names files)) absent in
    let n : number + suc (length files) ≡ number + 1 + length files = omega arith in
    ap (λ t. if t then (first.name, number + suc (length files)) ∷ numbered (number + 1) files
    else (first.name, number) ∷ insert_entry bytes_eq (numbered (number + 1) files) f.name (number + suc (length files))) parts.0
    ∙ ap (λ n. (first.name, number) ∷ insert_entry bytes_eq (numbered (number + 1) files) f.name n) n
    ∙ ap (λ (rest : List (List ℕ × ℕ)). (first.name, number) ∷ rest) (numbered-inserted (number + 1) files f parts.1)

-- a new name that is kept with the others leads to the number behind the last
pub numbered_then : (list : List (Option FileEntry)) (f : FileEntry) (entries new : List (List ℕ × ℕ)) (name : List ℕ) (number : ℕ)
    → entries ≡ numbered 0 (plain_files list) → name ≡ f.name → number ≡ length list
    → (files : List (Option Filed)) → plain_files list ≡ files → is_among f.name (filed_names files) ≡ false
    → new ≡ insert_entry bytes_eq entries name number
    → new ≡ numbered 0 (plain_files list ++ Some (plain_file f) ∷ [])
numbered_then list f entries new name number are named counted files is absent inserted =
    let n : number ≡ 0 + length (plain_files list) = omega (arith, counted, length-plain list) in
    inserted
    ∙ ap (λ (es : List (List ℕ × ℕ)). insert_entry bytes_eq es name number) are
    ∙ ap (λ (k : List ℕ). insert_entry bytes_eq (numbered 0 (plain_files list)) k number) named
    ∙ ap (λ n. insert_entry bytes_eq (numbered 0 (plain_files list)) f.name n) n
    ∙ numbered-inserted 0 (plain_files list) (plain_file f)
    (ap (λ (fs : List (Option Filed)). is_among f.name (filed_names fs)) is ∙ absent)

-- files of the same names have the same numbers
pub numbered-alike : (number : ℕ) (files : List (Option Filed)) (change : Filed → Filed) (place : ℕ) → ((f : Filed) → (change f).name ≡ f.name)
    → numbered number (change_at (option_map change) place files) ≡ numbered number files
numbered-alike number [] change place same = refl
numbered-alike number (None ∷ files) change zero same = refl
numbered-alike number (Some f ∷ files) change zero same = ap (λ name. (name, number) ∷ numbered (number + 1) files) (same f)
numbered-alike number (None ∷ files) change (suc place) same = numbered-alike (number + 1) files change place same
numbered-alike number (Some f ∷ files) change (suc place) same =
    ap (λ (rest : List (List ℕ × ℕ)). (f.name, number) ∷ rest) (numbered-alike (number + 1) files change place same)

-- no name after the first is the same, where all are distinct
pub apart : (name : List ℕ) (number : ℕ) (files : List (Option Filed)) (place : ℕ) (f : Filed) → living_at files place ≡ Some f
    → AllByRecursion (λ other. bytes_eq name other ≡ false) (keys_of (numbered number files)) → bytes_eq name f.name ≡ false
apart name number [] place f is all = absurd (cc)
apart name number (None ∷ files) zero f is all = absurd (cc)
apart name number (Some first ∷ files) zero f is all =
    let same : first ≡ f = cc in
    subst (λ (g : Filed). bytes_eq name g.name ≡ false) same all.0
apart name number (None ∷ files) (suc place) f is all = apart name (number + 1) files place f is all
apart name number (Some first ∷ files) (suc place) f is all = apart name (number + 1) files place f is all.1

-- two names differ whichever comes first
pub apart-back : (one other : List ℕ) (b : Bool) → bytes_eq other one ≡ b → bytes_eq one other ≡ false → b ≡ false
apart-back one other false is not = refl
apart-back one other true is not =
    absurd (true≢false (sym ((bytes_eq-Decides one other).1 (sym ((bytes_eq-Decides other one).0 is))) ∙ not))

-- the name of a file that is gone leads to no number, and all other names lead to theirs
pub numbered-gone : (number : ℕ) (files : List (Option Filed)) (place : ℕ) (f : Filed) → living_at files place ≡ Some f
    → IsDistinct bytes_eq (keys_of (numbered number files))
    → remove_entry (bytes_eq f.name) (numbered number files) ≡ numbered number (change_at gone place files)
numbered-gone number [] place f is distinct = absurd (cc)
numbered-gone number (None ∷ files) zero f is distinct = absurd (cc)
numbered-gone number (Some first ∷ files) zero f is distinct =
    let same : first ≡ f = cc in
    let own : bytes_eq f.name first.name ≡ true = (bytes_eq-Decides f.name first.name).1 (ap (λ (g : Filed). g.name) (sym same)) in
    ap (λ b. cond b (numbered (number + 1) files) ((first.name, number) ∷ remove_entry (bytes_eq f.name) (numbered (number + 1) files))) own
numbered-gone number (None ∷ files) (suc place) f is distinct = numbered-gone (number + 1) files place f is distinct
numbered-gone number (Some first ∷ files) (suc place) f is distinct =
    let rest : List (List ℕ) = keys_of (numbered (number + 1) files) in
    let other : bytes_eq f.name first.name ≡ false =
    apart-back first.name f.name (bytes_eq f.name first.name) refl
    (apart first.name (number + 1) files place f is (IsDistinct-head bytes_eq first.name rest distinct)) in
    ap (λ b. cond b (numbered (number + 1) files) ((first.name, number) ∷ remove_entry (bytes_eq f.name) (numbered (number + 1) files))) other
    ∙ ap (λ (entries : List (List ℕ × ℕ)). (first.name, number) ∷ entries)
    (numbered-gone (number + 1) files place f is (IsDistinct-tail bytes_eq first.name rest distinct))

-- the name of a file that goes is taken out of those that are kept
pub gone_then : (files : List (Option Filed)) (entries new : List (List ℕ × ℕ)) (name : List ℕ) (place : ℕ)
    → entries ≡ numbered 0 files → IsDistinct bytes_eq (keys_of entries) → is_some (living_at files place) ≡ true → HasName files place name
    → new ≡ remove_entry (bytes_eq name) entries → new ≡ numbered 0 (change_at gone place files)
gone_then files entries new name place are distinct there named taken = by_file (living_at files place) refl there where
  by_file : (o : Option Filed) → living_at files place ≡ o → is_some o ≡ true → new ≡ numbered 0 (change_at gone place files)
  by_file None is there = absurd (cc)
  by_file (Some f) is there =
      taken
      ∙ ap (λ (es : List (List ℕ × ℕ)). remove_entry (bytes_eq name) es) are
      ∙ ap (λ (k : List ℕ). remove_entry (bytes_eq k) (numbered 0 files)) (named f is)
      ∙ numbered-gone 0 files place f is (subst (λ (es : List (List ℕ × ℕ)). IsDistinct bytes_eq (keys_of es)) are distinct)

-- where a test says whether the first has the name
number_step : (b : Bool) (number n place : ℕ) (r : Option ℕ) → IsNumberFrom (number + 1) n place r
    → IsNumberFrom number (suc n) (here_or_after b place) (cond b (Some number) r)
number_step true number n place r is = (omega arith, omega arith)
number_step false number n place None is = omega (arith, is)
number_step false number n place (Some found) (is, low) = (omega (arith, is), omega (arith, low))

-- a name isn't the empty one
pub not_empty : (name : List ℕ) → IsName name → bytes_eq name [] ≡ false
not_empty [] form = absurd (true≢false (sym form))
not_empty (x ∷ name) form = refl

-- a name is looked up by its number
pub looked_up : (number : ℕ) (files : List (Option Filed)) (name : List ℕ) → bytes_eq name [] ≡ false
    → IsNumberFrom number (length (filed_names files)) (place_of name (filed_names files)) (lookup (bytes_eq name) (numbered number files))
looked_up number [] name named = refl
looked_up number (None ∷ files) name named =
    ap_number (bytes_eq name []) named (lookup (bytes_eq name) (numbered (number + 1) files)) (looked_up (number + 1) files name named) where
      ap_number : (b : Bool) → b ≡ false → (r : Option ℕ)
          → IsNumberFrom (number + 1) (length (filed_names files)) (place_of name (filed_names files)) r
          → IsNumberFrom number (suc (length (filed_names files))) (here_or_after b (place_of name (filed_names files))) r
      ap_number true is r at = absurd (true≢false is)
      ap_number false is None at = omega (arith, at)
      ap_number false is (Some found) (at, low) = (omega (arith, at), omega (arith, low))
looked_up number (Some f ∷ files) name named =
    number_step (bytes_eq name f.name) number (length (filed_names files)) (place_of name (filed_names files))
    (lookup (bytes_eq name) (numbered (number + 1) files)) (looked_up (number + 1) files name named)

from_first : (n place : ℕ) (r : Option ℕ) (names : List (List ℕ)) (name : List ℕ) → n ≡ length names → place ≡ place_of name names
    → IsNumberFrom 0 n place r → IsNumber names name r
from_first n place None names name many at is = sym at ∙ is ∙ many
from_first n place (Some found) names name many at (is, low) = (omega (arith, is, at), omega (arith, low, many))

pub number-found : (files : List (Option Filed)) (name : List ℕ) (entries : List (List ℕ × ℕ)) (r : Option ℕ)
    → bytes_eq name [] ≡ false → entries ≡ numbered 0 files → r ≡ lookup (bytes_eq name) entries → IsNumber (filed_names files) name r
number-found files name entries r named are is =
    subst (λ (o : Option ℕ). IsNumber (filed_names files) name o) (sym (is ∙ ap (lookup (bytes_eq name)) are))
    (from_first _ _ _ (filed_names files) name refl refl (looked_up 0 files name named))

-- ---- names that lead to a file

-- a name that is found is that of a file that is there, since it isn't the empty one
place-there : (files : List (Option Filed)) (name : List ℕ) → bytes_eq name [] ≡ false
    → place_of name (filed_names files) < length (filed_names files)
    → is_some (living_at files (place_of name (filed_names files))) ≡ true
place-there [] name named low = absurd (omega arith)
place-there (f ∷ files) name named low = step f (bytes_eq name (filed_name f)) refl (place-there files name named) low where
  step : (f : Option Filed) (b : Bool) → bytes_eq name (filed_name f) ≡ b
      → (place_of name (filed_names files) < length (filed_names files) → is_some (living_at files (place_of name (filed_names files))) ≡ true)
      → here_or_after b (place_of name (filed_names files)) < suc (length (filed_names files))
      → is_some (living_at (f ∷ files) (here_or_after b (place_of name (filed_names files)))) ≡ true
  step None true is rest low = absurd (true≢false (sym is ∙ named))
  step (Some f) true is rest low = refl
  step None false is rest low = rest (omega arith)
  step (Some f) false is rest low = rest (omega arith)

pub number-there : (files : List (Option Filed)) (name : List ℕ) (r : Option ℕ) → bytes_eq name [] ≡ false
    → IsNumber (filed_names files) name r → IfSome r (λ file. is_some (living_at files file) ≡ true)
number-there files name None named is = tt
number-there files name (Some file) named (is, low) =
    subst (λ n. is_some (living_at files n) ≡ true) (sym is) (place-there files name named (omega (arith, is, low)))

-- what holds on success, of a result that is one
pub on_ok : {T E : Type 0} {P : Type 0} (r : Result T E) → IsOk r → OnOk r P → P
on_ok (Ok x) ok p = p
on_ok (Err x) ok p = absurd (true≢false (sym ok))
