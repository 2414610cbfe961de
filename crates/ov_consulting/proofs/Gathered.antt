-- Users and files, gathered one by one.
use Rattle.std.proofs.Common.{◌≡◌, ◌∙◌, ℕ, zero, suc, ◌+◌, ◌<◌, Bool, true, false, List, [], ◌∷◌, ◌++◌, length, map, take, refl, sym, ap, arith, take_all}
use Rattle.std.specs.Prelude.{Option, Some, None, option_map, slice_get, not}
use Rattle.std.proofs.lemmas.List.{append-nil, map-append}
use Rattle.ov_base.specs.Names.{IsName}
use Rattle.ov_base.specs.declared.refusal.Refusal.{Refusal}
use Rattle.ov_base.specs.declared.refusal.Refusal.TheVariants.{NoFile}
use Rattle.ov_base.proofs.NamePlaces.{take_push}
use Rattle.ov_history.specs.Asking.{file_named}
use Rattle.ov_history.specs.Catalogue.{Catalogue, Filed, file_shown, matrix_shown, outline}
use Rattle.ov_history.specs.History.{File, Matrix}
use Rattle.ov_history.specs.Lists.{is_file, name_left}
use Rattle.ov_history.specs.Places.{living_at}
use Rattle.ov_history.specs.Refusals.{first_of_tests, list_refusal}
use Rattle.ov_history.proofs.NamesOnce.{named_there}
use Rattle.ov_history.proofs.SoundTests.{files_shown-length, shown_there}
use Rattle.ov_listing.specs.Listings.{listed, living_names}
use Rattle.ov_listing.specs.declared.listing.Listed.{Listed}
use Rattle.ov_consulting.specs.Gathering.{files_before}

next_is : (n : ℕ) → n + 1 ≡ suc n
next_is n = omega arith

-- ---- users

-- the first users, and this one
pub next_user : (users : List (List ℕ)) (n : ℕ) (name : List ℕ) (so_far new : List (List ℕ))
    → slice_get users n ≡ Some name → so_far ≡ take n users → new ≡ so_far ++ name ∷ []
    → new ≡ take (n + 1) users
next_user users n name so_far new at_n before is =
    is ∙ ap (λ xs. xs ++ name ∷ []) before ∙ sym (take_push users n name at_n).0
    ∙ ap (λ k. take k users) (sym (next_is n))

-- ---- files

-- the name of a file that isn't gone
abbrev named_or : Option File → List (List ℕ)
named_or None = []
named_or (Some f) = f.name ∷ []

-- the name, where there is one
abbrev names_in_option : Option (List ℕ) → List (List ℕ)
names_in_option None = []
names_in_option (Some name) = name ∷ []

one_name : (x : Option File) → living_names (x ∷ []) ≡ named_or x
one_name None = refl
one_name (Some f) = refl

behind : (x : Option File) (more fewer : List (Option File)) (last : List (List ℕ))
    → living_names more ≡ living_names fewer ++ last
    → living_names (x ∷ more) ≡ living_names (x ∷ fewer) ++ last
behind None more fewer last is = is
behind (Some f) more fewer last is = ap (λ xs. f.name ∷ xs) is

living_next : (files : List (Option File)) (n : ℕ) → n < length files
    → living_names (take (suc n) files) ≡ living_names (take n files) ++ named_or (living_at files n)
living_next [] n low = absurd (omega (arith, low))
living_next (x ∷ files) zero low = one_name x
living_next (x ∷ files) (suc n) low =
    behind x (take (suc n) files) (take n files) (named_or (living_at files n))
    (living_next files n (omega (arith, low)))

-- the files before the next number are those before this one, and this one where it isn't gone
next_files : (c : Catalogue) (n : ℕ) → n < length c.files
    → files_before (n + 1) c
    ≡ files_before n c ++ map (listed (matrix_shown c)) (named_or (living_at (matrix_shown c).files n))
next_files c n low =
    let m : Matrix = matrix_shown c in
    let inside : n < length m.files = omega (arith, low, files_shown-length (outline c) c.files) in
    ap (λ k. map (listed m) (living_names (take k m.files))) (next_is n)
    ∙ ap (λ names. map (listed m) names) (living_next m.files n inside)
    ∙ map-append (listed m) (living_names (take n m.files)) (named_or (living_at m.files n))

shown_name : (c : Catalogue) (n : ℕ) (o : Option (List ℕ))
    → o ≡ option_map (λ (f : Filed). f.name) (living_at c.files n)
    → o ≡ option_map (λ (f : File). f.name) (living_at (matrix_shown c).files n)
shown_name c n o is =
    is ∙ same (living_at c.files n)
    ∙ ap (λ (x : Option File). option_map (λ (f : File). f.name) x) (sym (shown_there (outline c) c.files n))
  where
    same : (x : Option Filed)
        → option_map (λ (f : Filed). f.name) x
        ≡ option_map (λ (f : File). f.name) (option_map (file_shown (outline c)) x)
    same None = refl
    same (Some f) = refl

name_of : (x : Option File) (o : Option (List ℕ)) → o ≡ option_map (λ (f : File). f.name) x
    → named_or x ≡ names_in_option o
name_of x o is = sym (ap names_in_option is ∙ same x) where
  same : (y : Option File) → names_in_option (option_map (λ (f : File). f.name) y) ≡ named_or y
  same None = refl
  same (Some f) = refl

-- a file that is gone adds nothing
pub gone_file : (c : Catalogue) (n : ℕ) (files : List Listed) → n < length c.files
    → None ≡ option_map (λ (f : Filed). f.name) (living_at c.files n)
    → files ≡ files_before n c → files ≡ files_before (n + 1) c
gone_file c n files low gone before =
    let m : Matrix = matrix_shown c in
    before ∙ sym (append-nil (files_before n c))
    ∙ ap (λ names. files_before n c ++ map (listed m) names)
    (sym (name_of (living_at m.files n) None (shown_name c n None gone)))
    ∙ sym (next_files c n low)

-- a file of this name adds its list
pub next_file : (c : Catalogue) (n : ℕ) (name : List ℕ) (files new : List Listed) (one : Listed)
    → n < length c.files → Some name ≡ option_map (λ (f : Filed). f.name) (living_at c.files n)
    → files ≡ files_before n c → new ≡ files ++ one ∷ [] → one ≡ listed (matrix_shown c) name
    → new ≡ files_before (n + 1) c
next_file c n name files new one low there before is same =
    let m : Matrix = matrix_shown c in
    is ∙ ap (λ xs. xs ++ one ∷ []) before ∙ ap (λ x. files_before n c ++ x ∷ []) same
    ∙ ap (λ names. files_before n c ++ map (listed m) names)
    (sym (name_of (living_at m.files n) (Some name) (shown_name c n (Some name) there)))
    ∙ sym (next_files c n low)

-- ---- a file that is shown has a list

some_name : (x : Option File) (name : List ℕ) → Some name ≡ option_map (λ (f : File). f.name) x
    → (f : File) × (x ≡ Some f) × (f.name ≡ name)
some_name None name is = absurd (cc)
some_name (Some f) name is = (f, refl, cc)

-- the name of a file that isn't gone
pub named_file : (c : Catalogue) (n : ℕ) (name : List ℕ)
    → Some name ≡ option_map (λ (f : Filed). f.name) (living_at c.files n)
    → name_left (living_at (matrix_shown c).files n) ≡ name
named_file c n name there =
    let found = some_name (living_at (matrix_shown c).files n) name (shown_name c n (Some name) there) in
    ap name_left found.1 ∙ found.2

-- one that is gone has none
pub unnamed_file : (c : Catalogue) (n : ℕ)
    → None ≡ option_map (λ (f : Filed). f.name) (living_at c.files n)
    → name_left (living_at (matrix_shown c).files n) ≡ []
unnamed_file c n gone = none (living_at (matrix_shown c).files n) (shown_name c n None gone) where
  none : (x : Option File) → None ≡ option_map (λ (f : File). f.name) x → name_left x ≡ []
  none None is = refl
  none (Some f) is = absurd (cc is)

no_name : (name : List ℕ) → IsName name → name ≡ [] → ⊥
no_name [] is none = absurd (cc is)
no_name (b ∷ name) is none = absurd (cc)

refused_not : (m : Matrix) (file : ℕ) (why : Refusal) → is_file m file ≡ true
    → list_refusal m file ≡ Some why → ⊥
refused_not m file why there refused = tested (is_file m file) there refused where
  tested : (b : Bool) → b ≡ true → first_of_tests ((NoFile, not b) ∷ []) ≡ Some why → ⊥
  tested true is refused = absurd (cc)
  tested false is refused = absurd (cc is)

-- the list of a file that isn't gone isn't refused
pub list_is_there : (c : Catalogue) (n : ℕ) (name : List ℕ) (why : Refusal) → IsName name
    → Some name ≡ option_map (λ (f : Filed). f.name) (living_at c.files n)
    → list_refusal (matrix_shown c) (file_named c name) ≡ Some why → ⊥
list_is_there c n name why is there refused =
    let m : Matrix = matrix_shown c in
    let found = some_name (living_at m.files n) name (shown_name c n (Some name) there) in
    refused_not m (file_named c name) why
    (named_there m.files name (no_name name is) n found.0 found.1 found.2) refused

-- all files are those before their number
pub all_files : (c : Catalogue) (files : List Listed) → files ≡ files_before (length c.files) c
    → files ≡ map (listed (matrix_shown c)) (living_names (matrix_shown c).files)
all_files c files is =
    let m : Matrix = matrix_shown c in
    let all : take (length c.files) m.files ≡ m.files =
    take_all (length c.files) m.files (omega (arith, files_shown-length (outline c) c.files)) in
    is ∙ ap (λ (fs : List (Option File)). map (listed m) (living_names fs)) all
