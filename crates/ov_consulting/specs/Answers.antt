-- What the owner's book says to a question.
use Rattle.std.specs.Prelude.{ℕ, List, [], ◌∷◌, length, not}
use Rattle.std.specs.Prelude.{Option, Some, None, Result, Ok, Err}
use Rattle.ov_base.specs.declared.refusal.Refusal.{Refusal}
use Rattle.ov_base.specs.declared.refusal.Refusal.TheVariants.{NoUser}
use Rattle.ov_books.specs.Books.{Booked, outline_of, settled_of}
use Rattle.ov_client.specs.KeyLines.{key_line}
use Rattle.ov_client.specs.Readers.{Reader}
use Rattle.ov_history.specs.History.{History, Matrix, matrix_of}
use Rattle.ov_history.specs.Layers.{Layers, layers_of, root_of}
use Rattle.ov_history.specs.Lists.{file_number, is_user, user_number}
use Rattle.ov_history.specs.Masters.{Masters}
use Rattle.ov_history.specs.Refusals.{first_of_tests, list_refusal}
use Rattle.ov_listing.specs.Listings.{files_wanted, listed}
use Rattle.ov_listing.specs.Texts.{files_of_text, files_text, users_text}
use Rattle.ov_listing.specs.declared.listing.Wanted.TheVariants.{Files as WithFiles}
use Rattle.ov_record.specs.Briefs.{Brief as SpelledBrief}
use Rattle.ov_script.specs.Lines.{reply_line}
use Rattle.ov_script.specs.declared.reply.Reply.TheVariants as replies
use Rattle.ov_tokens.specs.Keys.{node_key}
use Rattle.ov_tokens.specs.declared.label.Kind.TheVariants.{Derive, Surface}
use Rattle.ov_consulting.specs.Pending.{pending_line}
use Rattle.ov_consulting.specs.declared.job.Question.{Question}
use Rattle.ov_consulting.specs.declared.job.Question.TheVariants.{Epoch, Files, FilesOf, Key}
use Rattle.ov_consulting.specs.declared.job.Question.TheVariants.{List as ListNames, Pending, Users}

-- the bytes that are put, or why there are none
abbrev pub Answer : Type 0
Answer = Result (List ℕ) Refusal

-- these bytes, unless the question is refused
abbrev pub unless : Option Refusal → List ℕ → Answer
unless None bytes = Ok bytes
unless (Some why) bytes = Err why

-- why a question about the user of this name is refused, if it is
abbrev pub user_refusal : Matrix → List ℕ → Option Refusal
user_refusal m name = first_of_tests ((NoUser, not (is_user m (user_number m name))) ∷ [])

-- ---- the questions, by a matrix and its layers

-- The reader of this name: the number of the user's own root in each layer, and the root's key under
-- the masters.
abbrev pub reader_by : Masters → Layers → ℕ → List ℕ → Reader
reader_by k y user name = record {
  name = name;
  base_root = root_of y.base user;
  base = node_key Derive k.base (root_of y.base user);
  surface_root = root_of y.surface user;
  surface = node_key Surface k.surface (root_of y.surface user);
}

-- the key line of a user
abbrev pub key_answer : Masters → Matrix → Layers → List ℕ → Answer
key_answer k m y name =
    unless (user_refusal m name) (key_line (reader_by k y (user_number m name) name))

-- the line on the list of a file
abbrev pub list_answer : Matrix → List ℕ → Answer
list_answer m file =
    unless (list_refusal m (file_number m file))
    (reply_line (replies.List file (listed m file).names))

-- the names of the files that list a user
abbrev pub files_of_answer : Matrix → List ℕ → Answer
files_of_answer m user =
    unless (user_refusal m user) (files_of_text user (files_wanted WithFiles m))

-- the answer to a question by matrix, layers and epoch, with this update pending
abbrev pub answer_at : Masters → Matrix → Layers → ℕ → Option SpelledBrief → Question → Answer
answer_at k m y epoch pending (Key user) = key_answer k m y user
answer_at k m y epoch pending (ListNames file) = list_answer m file
answer_at k m y epoch pending Users = Ok (users_text m.users)
answer_at k m y epoch pending Files = Ok (files_text (files_wanted WithFiles m))
answer_at k m y epoch pending (FilesOf user) = files_of_answer m user
answer_at k m y epoch pending Epoch = Ok (reply_line (replies.Epoch epoch))
answer_at k m y epoch pending Pending = Ok (pending_line m epoch pending)

-- ---- by a book

-- What a book says: all of it is of the history of its settled intents. Of the pending one only the
-- question for it tells, whose names are those of that history too.
abbrev pub answer_by : Masters → Booked → Question → Answer
answer_by k b q =
    let h : History = outline_of (settled_of b) in
    answer_at k (matrix_of h) (layers_of h) (length b.settled) b.pending q
