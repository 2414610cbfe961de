-- What a state answers of its catalogue.
use Rattle.std.specs.Prelude.{◌≡◌, ℕ, List, length, Some, None, Result, Ok, Err}
use Rattle.ov_base.specs.declared.refusal.Refusal.{Refusal}
use Rattle.ov_history.specs.Asking.{file_named, user_named}
use Rattle.ov_history.specs.Lists.{byte_sum, file_at}
use Rattle.ov_history.specs.Refusals.{list_refusal, read_refusal}
use Rattle.ov_history.specs.Catalogue.{Catalogue, matrix_shown}
use Rattle.ov_state.specs.declared.queries.Sizes.{Sizes}

-- how many users, nodes and access tokens there are, how many numbers were given to files, and the
-- bytes of all files that are there
abbrev pub sizes_of : Catalogue → Sizes
sizes_of c = record {
  users = length c.users;
  files = length c.files;
  base_nodes = length c.base.sets;
  surface_nodes = length c.surface.sets;
  grants = length c.grants;
  bytes = byte_sum (matrix_shown c).files;
}

-- the list of the file of this name, or why there is none
abbrev pub AnswersList : Catalogue → List ℕ → Result ℕ Refusal → Type 0
AnswersList c name (Ok list) =
    (list_refusal (matrix_shown c) (file_named c name) ≡ None)
    × (list ≡ (file_at (matrix_shown c) (file_named c name)).list)
AnswersList c name (Err why) = list_refusal (matrix_shown c) (file_named c name) ≡ Some why

-- the numbers of a user and a file of these names where the user may read the file, or why not
abbrev pub AnswersReader : Catalogue → List ℕ → List ℕ → Result (ℕ × ℕ) Refusal → Type 0
AnswersReader c user file (Ok (reader, number)) =
    (read_refusal (matrix_shown c) reader number ≡ None)
    × (reader ≡ user_named c user) × (number ≡ file_named c file)
AnswersReader c user file (Err why) =
    read_refusal (matrix_shown c) (user_named c user) (file_named c file) ≡ Some why
