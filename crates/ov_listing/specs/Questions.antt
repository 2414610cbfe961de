-- Inner, but for `IsWelcomeAt` and for what `Reasons` names. What is taken of one answer, and of
-- several.
use Rattle.std.specs.Prelude.{◌≡◌, ◌≢◌, ℕ, List, [], ◌∷◌, ◌++◌, map, slice_get, Vec, true, false}
use Rattle.std.specs.Prelude.{Option, Some, None, option_map, Result, Ok, Err}
use Rattle.std.specs.declared.alloc.Global.{Global}
use Rattle.ov_base.specs.NameLists.{is_among}
use Rattle.ov_base.specs.Names.{IsName}
use Rattle.ov_base.specs.declared.refusal.Refusal.TheVariants.{NoFile}
use Rattle.ov_base.specs.declared.limits.TheConstants.{MAX_FILES, MAX_USERS}
use Rattle.ov_fields.specs.Spelling.{name_field}
use Rattle.ov_history.specs.Catalogue.{matrix_shown}
use Rattle.ov_history.specs.History.{File, Matrix}
use Rattle.ov_protocol.specs.Answers.{welcome_of}
use Rattle.ov_protocol.specs.Serving.{Service, served}
use Rattle.ov_wire.specs.declared.answer.Welcome.{Welcome}
use Rattle.ov_wire.specs.declared.answer.Answer.{Answer}
use Rattle.ov_wire.specs.declared.answer.Answer.TheVariants as answers
use Rattle.ov_listing.specs.Listings.{IsListingAt, files_wanted, listed, living_names}
use Rattle.ov_listing.specs.declared.fault.ListingFault.{ListingFault}
use Rattle.ov_listing.specs.declared.fault.ListingFault.TheVariants.{BadReply, Memory}
use Rattle.ov_listing.specs.declared.listing.Listed.{Listed}
use Rattle.ov_listing.specs.declared.listing.Listing.{Listing}
use Rattle.ov_listing.specs.declared.listing.Wanted.{Wanted}
use Rattle.ov_listing.specs.declared.part.Part.{Part}
use Rattle.ov_listing.specs.declared.part.Part.TheVariants.{Files, Users}
use Rattle.ov_listing.specs.declared.shown.Shown.{Shown}
use Rattle.ov_listing.specs.declared.shown.Shown.TheVariants.{Gone, Named}

-- ---- one answer

-- what a Welcome says, or why there is none
abbrev pub welcome_in : Answer → Result Welcome ListingFault
welcome_in (answers.Welcome welcome) = Ok welcome
welcome_in answers.NoMemory = Err Memory
welcome_in answer = Err (BadReply 0)

-- the names that are listed, or none where there is no such file; or why neither is told
abbrev pub listed_in : Answer → Result (Option (List (List ℕ))) ListingFault
listed_in (answers.Listed names) = Ok (Some names)
listed_in (answers.Refused NoFile) = Ok None
listed_in answers.NoMemory = Err Memory
listed_in answer = Err (BadReply 0)

-- the entry begins with no name
abbrev pub HasNoName : List ℕ → Type 0
HasNoName entry = (name rest : List ℕ) → IsName name → entry ≡ name_field name ++ rest → ⊥

-- the entry is that of a file that is gone, or another one that begins with this name; or neither
abbrev pub ShownBy : List ℕ → Option Shown → Type 0
ShownBy entry (Some Gone) = entry ≡ 0 ∷ []
ShownBy entry (Some (Named name)) =
    (entry ≢ 0 ∷ []) × (rest : List ℕ) × (entry ≡ name_field name ++ rest)
ShownBy entry None = (entry ≢ 0 ∷ []) × HasNoName entry

-- Nothing is told of the answer to a question for a page: it is of another kind, which is wrong at
-- 0, or the entry shows neither a name nor that a file is gone, which is wrong at 2.
abbrev pub IsNoPage : Answer → ℕ → Type 0
IsNoPage (answers.PageOf (Some entry)) place = (place ≡ 2) × ShownBy entry None
IsNoPage (answers.PageOf None) place = ⊥
IsNoPage answers.NoMemory place = ⊥
IsNoPage answer place = place ≡ 0

-- the page's entry shows this, or there is no page; or why neither is told
abbrev pub ShownIn : Answer → Result (Option Shown) ListingFault → Type 0
ShownIn answer (Ok (Some shown)) =
    (entry : List ℕ) × (answer ≡ answers.PageOf (Some entry)) × ShownBy entry (Some shown)
ShownIn answer (Ok None) = answer ≡ answers.PageOf None
ShownIn answer (Err (BadReply place)) = IsNoPage answer place
ShownIn answer (Err Memory) = answer ≡ answers.NoMemory
ShownIn answer (Err fault) = ⊥

-- the name that is shown, where there is one
abbrev pub name_shown : Shown → Option (List ℕ)
name_shown (Named name) = Some name
name_shown Gone = None

-- the name, where there is one
abbrev pub named : Option (List ℕ) → List (List ℕ)
named None = []
named (Some name) = name ∷ []

-- the number of a part in a request
abbrev pub part_number : Part → ℕ
part_number Users = 1
part_number Files = 5

-- how many names a store can have in a part
abbrev pub most_in : Part → ℕ
most_in Users = MAX_USERS
most_in Files = MAX_FILES

-- ---- by the matrix that is shown

-- mode, epoch and check value are those that are served
abbrev pub IsWelcomeAt : Welcome → Service → Type 0
IsWelcomeAt welcome w = welcome ≡ welcome_of (served w)

-- the matrix that a server of this history shows
abbrev pub matrix_at : Service → Matrix
matrix_at w = matrix_shown (served w).catalogue

-- the names of the users, or of the files that aren't gone, in the order of their numbers
abbrev pub names_in_part : Part → Matrix → List (List ℕ)
names_in_part Users m = m.users
names_in_part Files m = living_names m.files

-- the name of a file
abbrev pub name_of_file : File → List ℕ
name_of_file file = file.name

-- the names of the users, or of the files, by number; a file that is gone has none
abbrev pub names_by_number : Part → Matrix → List (Option (List ℕ))
names_by_number Users m = map Some m.users
names_by_number Files m = map (option_map name_of_file) m.files

-- this has the number, or nothing has it
abbrev pub IsShownAt : Part → ℕ → Option Shown → Service → Type 0
IsShownAt part number shown w =
    slice_get (names_by_number part (matrix_at w)) number ≡ option_map name_shown shown

-- all names of the part
abbrev pub AreNamesAt : Part → List (List ℕ) → Service → Type 0
AreNamesAt part names w = names ≡ names_in_part part (matrix_at w)

-- no file has this name
abbrev pub HasNoFile : List ℕ → Service → Type 0
HasNoFile file w = is_among file (living_names (matrix_at w).files) ≡ false

-- the names in the file's list, or none where no file has this name
abbrev pub IsListAt : List ℕ → Option (List (List ℕ)) → Service → Type 0
IsListAt file (Some names) w = names ≡ (listed (matrix_at w) file).names
IsListAt file None w = HasNoFile file w

-- each of these files with its list, or none where no file has the name of one of them
abbrev pub AreListsAt : List (List ℕ) → Option (Vec Listed Global) → Service → Type 0
AreListsAt files (Some lists) w = lists.items ≡ map (listed (matrix_at w)) files
AreListsAt files None w = (file : List ℕ) × (is_among file files ≡ true) × HasNoFile file w

-- the files that are wanted; they aren't missing
abbrev pub AreFilesAt : Wanted → Option (Vec Listed Global) → Service → Type 0
AreFilesAt wanted (Some files) w = files.items ≡ files_wanted wanted (matrix_at w)
AreFilesAt wanted None w = ⊥

-- a listing of the history that is served, or none
abbrev pub IsTryAt : Wanted → Option Listing → Service → Type 0
IsTryAt wanted (Some listing) w = IsListingAt wanted listing w
IsTryAt wanted None w = Unit {0}
