-- The lines of a listing.
use Rattle.std.specs.Prelude.{ℕ, List, [], ◌∷◌, ◌++◌, codes, if◌then◌else◌}
use Rattle.std.specs.List.{flat_map}
use Rattle.ov_base.specs.NameLists.{is_among}
use Rattle.ov_base.specs.declared.mode.Mode.{Mode}
use Rattle.ov_base.specs.declared.mode.Mode.TheVariants.{Delta, Full}
use Rattle.ov_script.specs.Lines.{reply_line}
use Rattle.ov_script.specs.declared.reply.Reply.TheVariants.{Epoch, List as ListNames}
use Rattle.ov_listing.specs.declared.listing.Listed.{Listed}

-- the line of a mode
abbrev pub mode_line : Mode → List ℕ
mode_line Full = codes "mode full\n"
mode_line Delta = codes "mode delta\n"

-- mode and epoch, a line each
abbrev pub epoch_text : Mode → ℕ → List ℕ
epoch_text mode epoch = mode_line mode ++ reply_line (Epoch epoch)

-- a name and LF
abbrev pub name_line : List ℕ → List ℕ
name_line name = name ++ 10 ∷ []

-- the names, a line each
abbrev pub users_text : List (List ℕ) → List ℕ
users_text names = flat_map name_line names

-- the line on a file and its list
abbrev pub file_line : Listed → List ℕ
file_line f = reply_line (ListNames f.file f.names)

-- the files with their lists, a line each
abbrev pub files_text : List Listed → List ℕ
files_text files = flat_map file_line files

-- the line of the file, where the user is in its list
abbrev pub line_if_listed : List ℕ → Listed → List ℕ
line_if_listed user f = if is_among user f.names then name_line f.file else []

-- the names of the files that list the user, a line each
abbrev pub files_of_text : List ℕ → List Listed → List ℕ
files_of_text user files = flat_map (line_if_listed user) files
