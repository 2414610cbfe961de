-- The line on what is pending in a book.
use Rattle.std.specs.Prelude.{ℕ, List, [], ◌∷◌, ◌++◌, codes, slice_get, unwrap_or}
use Rattle.std.specs.Prelude.{Option, Some, None}
use Rattle.std.specs.Fmt.{decimal}
use Rattle.ov_record.specs.Briefs.{Brief as SpelledBrief, BriefCreate, BriefEnrol, BriefGrant}
use Rattle.ov_record.specs.Briefs.{BriefRemove, BriefReplace, BriefRevoke}
use Rattle.ov_history.specs.History.{Matrix}
use Rattle.ov_history.specs.Lists.{name_left, names_in}
use Rattle.ov_history.specs.Places.{living_at}
use Rattle.ov_script.specs.WrittenLists.{list_text}

-- the name of the user of this number, and nothing where there is none
abbrev pub user_name : Matrix → ℕ → List ℕ
user_name m user = unwrap_or (slice_get m.users user) []

-- the name of the file of this number, and nothing where there is none
abbrev pub file_name : Matrix → ℕ → List ℕ
file_name m file = name_left (living_at m.files file)

-- The words of an update at this matrix, as those by which `own` makes it, but for a path: the names
-- of the users and the file are the matrix's.
abbrev pub update_words : Matrix → SpelledBrief → List ℕ
update_words m (BriefEnrol user) = codes "enrol " ++ user
update_words m (BriefCreate file list tokens tag size) =
    codes "create " ++ file ++ 32 ∷ list_text (names_in list m.users)
update_words m (BriefGrant user file token) =
    codes "grant " ++ user_name m user ++ 32 ∷ file_name m file
update_words m (BriefRevoke user file) =
    codes "revoke " ++ user_name m user ++ 32 ∷ file_name m file
update_words m (BriefRemove file) = codes "remove " ++ file_name m file
update_words m (BriefReplace file tokens tag size) = codes "replace " ++ file

-- The line on what is pending behind this epoch and this matrix: the epoch and the words of the
-- update; or that all is settled.
abbrev pub pending_line : Matrix → ℕ → Option SpelledBrief → List ℕ
pending_line m epoch None = codes "settled " ++ decimal epoch ++ 10 ∷ []
pending_line m epoch (Some u) =
    codes "pending " ++ decimal epoch ++ 32 ∷ update_words m u ++ 10 ∷ []
