-- The users, files and access lists of the matrix, by number and by name.
use Rattle.std.specs.Prelude.{ℕ, ◌+◌, ◌-◌, ◌^◌, Bool, true, false, nat_lt, List, [], ◌∷◌, ◌++◌}
use Rattle.std.specs.Prelude.{length, Option, Some, None, is_some}
use Rattle.ov_base.specs.Sets.{empty as nobody, has, with}
use Rattle.ov_history.specs.History.{File, Matrix}
use Rattle.ov_history.specs.Places.{living_at, place_of}
pub use Rattle.ov_history.specs.History.{file_at, no_file}

-- the name of a file; one that is gone has the empty one, which is no file's name
abbrev pub name_left : Option File → List ℕ
name_left None = []
name_left (Some file) = file.name

-- the names of these files
abbrev pub file_names : List (Option File) → List (List ℕ)
file_names [] = []
file_names (file ∷ files) = name_left file ∷ file_names files

-- The number of a user by name. Of a name that isn't there it is one past the last number.
abbrev pub user_number : Matrix → List ℕ → ℕ
user_number m name = place_of name m.users

-- The number of a file by name. Of a name that isn't there it is one past the last number.
abbrev pub file_number : Matrix → List ℕ → ℕ
file_number m name = place_of name (file_names m.files)

-- whether there is a user of this number
abbrev pub is_user : Matrix → ℕ → Bool
is_user m user = nat_lt user (length m.users)

-- whether there is a file of this number, which isn't gone
abbrev pub is_file : Matrix → ℕ → Bool
is_file m file = is_some (living_at m.files file)

-- whether the user is in the file's list
abbrev pub is_listed : Matrix → ℕ → ℕ → Bool
is_listed m user file = has (file_at m file).list user

-- The set of this many users, numbered from 0. A set that has another number isn't within it.
abbrev pub everyone : ℕ → ℕ
everyone users = (2 ^ users) - 1

-- the set, and the users of these names; a name that isn't there counts as the number past the last
abbrev pub set_with : List (List ℕ) → ℕ → List (List ℕ) → ℕ
set_with users set [] = set
set_with users set (name ∷ names) = set_with users (with set (place_of name users)) names

-- the users of these names
abbrev pub set_named : List (List ℕ) → List (List ℕ) → ℕ
set_named users names = set_with users nobody names

-- the name, where the test says so
abbrev pub name_if : Bool → List ℕ → List (List ℕ)
name_if true name = name ∷ []
name_if false name = []

-- the names of the users in the set, in order of number; the first of these names has this number
abbrev pub names_from : ℕ → ℕ → List (List ℕ) → List (List ℕ)
names_from set number [] = []
names_from set number (name ∷ names) =
    name_if (has set number) name ++ names_from set (number + 1) names

-- the names of the users in the set, in order of number
abbrev pub names_in : ℕ → List (List ℕ) → List (List ℕ)
names_in set users = names_from set 0 users

-- the bytes of a file, of which none are left where it is gone
abbrev pub bytes_left : Option File → ℕ
bytes_left None = 0
bytes_left (Some file) = file.length

-- the bytes of all files together
abbrev pub byte_sum : List (Option File) → ℕ
byte_sum [] = 0
byte_sum (file ∷ files) = bytes_left file + byte_sum files
