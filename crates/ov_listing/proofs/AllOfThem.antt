-- Names and lists, one after another.
use Rattle.std.proofs.Common.{◌≡◌, ◌∙◌, ℕ, zero, suc, ◌+◌, ◌<◌, List, [], ◌∷◌, ◌++◌, length, take}
use Rattle.std.proofs.Common.{map, Bool, Option, Some, None, Result, Ok, Err, refl, sym, ap}
use Rattle.std.proofs.Common.{add-one, get_or}
use Rattle.std.specs.Prelude.{Vec, option_map, slice_get, true}
use Rattle.std.specs.Str.{bytes_eq}
use Rattle.std.specs.declared.alloc.Global.{Global}
use Rattle.std.proofs.lemmas.List.{append-nil, append_assoc, map-append}
use Rattle.std.proofs.lemmas.List.Folds.{list_any_at}
use Rattle.std.proofs.lemmas.Option.{same_Some, slice_get-get_or}
use Rattle.std.proofs.Math.Seq.{take-length}
use Rattle.std.proofs.lemmas.Slice.Eq.{bytes_eq-Decides}
use Rattle.ov_base.proofs.NamePlaces.{take_push}
use Rattle.ov_base.specs.NameLists.{is_among}
use Rattle.ov_history.specs.History.{File, Matrix}
use Rattle.ov_protocol.specs.Serving.{Service}
use Rattle.ov_listing.specs.Listings.{files_wanted, listed, living_names}
use Rattle.ov_listing.specs.Questions.{AreFilesAt, AreListsAt, HasNoFile, IsListAt, IsShownAt}
use Rattle.ov_listing.specs.Questions.{matrix_at, name_of_file, name_shown, named}
use Rattle.ov_listing.specs.Questions.{names_by_number, names_in_part}
use Rattle.ov_listing.specs.Telling.{Told, ToldOfOne}
use Rattle.ov_listing.specs.declared.fault.ListingFault.{ListingFault}
use Rattle.ov_listing.specs.declared.listing.Listed.{Listed}
use Rattle.ov_listing.specs.declared.listing.Wanted.{Wanted}
use Rattle.ov_listing.specs.declared.listing.Wanted.TheVariants as wants
use Rattle.ov_listing.specs.declared.part.Part.{Part}
use Rattle.ov_listing.specs.declared.part.Part.TheVariants as parts
use Rattle.ov_listing.specs.declared.shown.Shown.{Shown}
use Rattle.ov_listing.proofs.Meanwhile.{Meanwhile, also, behind, of_one}

-- ---- names

-- the names that there are
abbrev pub all_named : List (Option (List ℕ)) → List (List ℕ)
all_named [] = []
all_named (name ∷ names) = named name ++ all_named names

-- the names among the first so many of a part
abbrev pub AreFirst : Part → ℕ → List (List ℕ) → Service → Type 0
AreFirst part n names w = names ≡ all_named (take n (names_by_number part (matrix_at w)))

taken_all : (names : List (Option (List ℕ))) (n : ℕ) → slice_get names n ≡ None
    → take n names ≡ names
taken_all [] zero none = refl
taken_all [] (suc n) none = refl
taken_all (name ∷ names) zero none = absurd (cc none)
taken_all (name ∷ names) (suc n) none =
    ap (λ (xs : List (Option (List ℕ))). name ∷ xs) (taken_all names n none)

-- the names with that of the next number
named_next : (names : List (Option (List ℕ))) (n : ℕ) (name : Option (List ℕ))
    → slice_get names n ≡ Some name
    → all_named (take n names) ++ named name ≡ all_named (take (suc n) names)
named_next [] n name is = absurd (cc is)
named_next (first ∷ names) zero name is =
    ap named (sym (same_Some first name is)) ∙ sym (append-nil (named first))
named_next (first ∷ names) (suc n) name is =
    append_assoc (named first) (all_named (take n names)) (named name)
    ∙ ap (λ (xs : List (List ℕ)). named first ++ xs) (named_next names n name is)

users_named : (users : List (List ℕ)) → all_named (map Some users) ≡ users
users_named [] = refl
users_named (user ∷ users) = ap (λ (xs : List (List ℕ)). user ∷ xs) (users_named users)

files_named : (files : List (Option File))
    → all_named (map (option_map name_of_file) files) ≡ living_names files
files_named [] = refl
files_named (None ∷ files) = files_named files
files_named (Some file ∷ files) =
    ap (λ (xs : List (List ℕ)). file.name ∷ xs) (files_named files)

-- all names of a part
part_named : (part : Part) (m : Matrix) → all_named (names_by_number part m) ≡ names_in_part part m
part_named parts.Users m = users_named m.users
part_named parts.Files m = files_named m.files

module _ (alone : Bool) (v : Service) (Mid Then : Service → Type 0) (part : Part) (n : ℕ)
    (names : List (List ℕ)) (so_far : Meanwhile alone v Mid (AreFirst part n names v)) where
  pub one_more : (shown : Shown)
      → ((w : Service) → Mid w → Told alone w Then (IsShownAt part n) (Ok (Some shown)))
      → Meanwhile alone v Then (AreFirst part (n + 1) (names ++ named (name_shown shown)) v)
  one_more shown told =
      let all = names_by_number part (matrix_at v) in
      let name = name_shown shown in
      also alone v Then
      (AreFirst part n names v × IsShownAt part n (Some shown) v)
      (AreFirst part (n + 1) (names ++ named name) v)
      (behind alone v Mid Then (AreFirst part n names v) (IsShownAt part n (Some shown)) so_far
      (λ w mid. of_one alone w Then (IsShownAt part n) (Some shown) (told w mid)))
      (λ (first, there).
      ap (λ (xs : List (List ℕ)). xs ++ named name) first
      ∙ named_next all n name there
      ∙ ap (λ (k : ℕ). all_named (take k all)) (sym (add-one n)))

  pub no_more : ((w : Service) → Mid w → Told alone w Then (IsShownAt part n) (Ok None))
      → Meanwhile alone v Then (names ≡ names_in_part part (matrix_at v))
  no_more told =
      let all = names_by_number part (matrix_at v) in
      also alone v Then
      (AreFirst part n names v × IsShownAt part n None v)
      (names ≡ names_in_part part (matrix_at v))
      (behind alone v Mid Then (AreFirst part n names v) (IsShownAt part n None) so_far
      (λ w mid. of_one alone w Then (IsShownAt part n) None (told w mid)))
      (λ (first, there).
      first ∙ ap all_named (taken_all all n there) ∙ part_named part (matrix_at v))

-- ---- lists

-- the first so many of these files with their lists
abbrev pub AreListed : List (List ℕ) → ℕ → List Listed → Service → Type 0
AreListed files n lists w = lists ≡ map (listed (matrix_at w)) (take n files)

more_listed : (m : Matrix) (files : List (List ℕ)) (n : ℕ) (file : List ℕ) (lists : List Listed)
    (names : List (List ℕ))
    → n < length files → file ≡ get_or files n file
    → lists ≡ map (listed m) (take n files) → names ≡ (listed m file).names
    → lists ++ record { file = file; names = names } ∷ [] ≡ map (listed m) (take (n + 1) files)
more_listed m files n file lists names low is so_far right =
    let there : slice_get files n ≡ Some file =
    slice_get-get_or files n file low ∙ ap Some (sym is) in
    ap (λ (xs : List Listed). xs ++ record { file = file; names = names } ∷ []) so_far
    ∙ ap (λ (ns : List (List ℕ)). map (listed m) (take n files) ++ record { file = file; names = ns } ∷ []) right
    ∙ sym (map-append (listed m) (take n files) (file ∷ []))
    ∙ ap (map (listed m)) (sym (take_push files n file there).0)
    ∙ ap (λ (k : ℕ). map (listed m) (take k files)) (sym (add-one n))

module _ (alone : Bool) (v : Service) (Mid Then : Service → Type 0) (files : List (List ℕ)) (n : ℕ)
    (lists : List Listed) (so_far : Meanwhile alone v Mid (AreListed files n lists v)) where
  pub one_listed : (file : List ℕ) (names : List (List ℕ))
      → n < length files → file ≡ get_or files n file
      → ((w : Service) → Mid w → Told alone w Then (IsListAt file) (Ok (Some names)))
      → Meanwhile alone v Then
      (AreListed files (n + 1) (lists ++ record { file = file; names = names } ∷ []) v)
  one_listed file names low is told =
      also alone v Then
      (AreListed files n lists v × IsListAt file (Some names) v)
      (AreListed files (n + 1) (lists ++ record { file = file; names = names } ∷ []) v)
      (behind alone v Mid Then (AreListed files n lists v) (IsListAt file (Some names)) so_far
      (λ w mid. of_one alone w Then (IsListAt file) (Some names) (told w mid)))
      (λ (first, right). more_listed (matrix_at v) files n file lists names low is first right)

  pub none_listed : (file : List ℕ) → n < length files → file ≡ get_or files n file
      → ((w : Service) → Mid w → Told alone w Then (IsListAt file) (Ok None))
      → Meanwhile alone v Then (AreListsAt files None v)
  none_listed file low is told =
      let same : bytes_eq file (get_or files n file) ≡ true =
      (bytes_eq-Decides file (get_or files n file)).1 is in
      let among : is_among file files ≡ true = list_any_at (bytes_eq file) files n file low same in
      also alone v Then (AreListed files n lists v × HasNoFile file v) (AreListsAt files None v)
      (behind alone v Mid Then (AreListed files n lists v) (HasNoFile file) so_far
      (λ w mid. of_one alone w Then (IsListAt file) None (told w mid)))
      (λ (first, none). (file, among, none))

-- ---- the files that are wanted

pub files_told : (alone : Bool) (v : Service) (Mid Then : Service → Type 0) (wanted : Wanted)
    (names files : List (List ℕ)) (result : Result (Option (Vec Listed Global)) ListingFault)
    → wanted ≡ wants.Files → files ≡ names
    → Meanwhile alone v Mid (names ≡ names_in_part parts.Files (matrix_at v))
    → ((w : Service) → Mid w → ToldOfOne alone w Then (AreListsAt files) result)
    → ToldOfOne alone v Then (AreFilesAt wanted) result
files_told alone v Mid Then wanted names files (Err fault) is same so_far told = tt
files_told alone v Mid Then wanted names files (Ok None) is same so_far told =
    let m = matrix_at v in
    also alone v Then
    ((names ≡ names_in_part parts.Files m) × AreListsAt files None v) (AreFilesAt wanted None v)
    (behind alone v Mid Then (names ≡ names_in_part parts.Files m) (AreListsAt files None)
    so_far told)
    (λ (all, missing).
    let (file, among, none) = missing in
    absurd (cc (sym among ∙ ap (is_among file) (same ∙ all) ∙ none)))
files_told alone v Mid Then wanted names files (Ok (Some lists)) is same so_far told =
    let m = matrix_at v in
    also alone v Then
    ((names ≡ names_in_part parts.Files m) × AreListsAt files (Some lists) v)
    (AreFilesAt wanted (Some lists) v)
    (behind alone v Mid Then (names ≡ names_in_part parts.Files m) (AreListsAt files (Some lists))
    so_far told)
    (λ (all, each).
    each ∙ ap (map (listed m)) (same ∙ all) ∙ ap (λ (x : Wanted). files_wanted x m) (sym is))
