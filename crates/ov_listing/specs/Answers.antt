-- The text that answers a question.
use Rattle.std.specs.Prelude.{◌≡◌, ℕ, List, Option, Some, None, Result, Ok, Err}
use Rattle.std.specs.Prelude.{if◌then◌else◌}
use Rattle.ov_base.specs.NameLists.{is_among}
use Rattle.ov_base.specs.declared.memory.Memory.{Memory as Refused}
use Rattle.ov_history.specs.History.{History, epoch_of, matrix_of}
use Rattle.ov_history.specs.Sealed.{IsSealed, outer_of}
use Rattle.ov_protocol.specs.Serving.{Service}
use Rattle.ov_listing.specs.Listings.{files_wanted}
use Rattle.ov_listing.specs.Texts.{epoch_text, files_of_text, files_text, users_text}
use Rattle.ov_listing.specs.declared.answering.Question.{Question}
use Rattle.ov_listing.specs.declared.answering.Question.TheVariants as questions
use Rattle.ov_listing.specs.declared.fault.ListingFault.{ListingFault}
use Rattle.ov_listing.specs.declared.fault.ListingFault.TheVariants.{Memory}
use Rattle.ov_listing.specs.declared.listing.Listed.{Listed}
use Rattle.ov_listing.specs.declared.listing.Wanted.TheVariants.{Files}

-- the files with their lists, or the names of those that list this user; nothing where that isn't
-- one of the users
abbrev pub files_answer : Option (List ℕ) → List (List ℕ) → List Listed → Option (List ℕ)
files_answer None users files = Some (files_text files)
files_answer (Some user) users files =
    if is_among user users then Some (files_of_text user files) else None

-- the text that answers the question at this history
abbrev pub text_of : Question → History → Option (List ℕ)
text_of questions.Epoch h = Some (epoch_text h.mode (epoch_of h))
text_of questions.Users h = Some (users_text (matrix_of h).users)
text_of (questions.Files user) h =
    files_answer user (matrix_of h).users (files_wanted Files (matrix_of h))

-- the text is that of the history which is served, where none of its updates is refused
abbrev pub IsTextAt : Question → Option (List ℕ) → Service → Type 0
IsTextAt question text w = IsSealed w.history → text ≡ text_of question (outer_of w.history)

-- inner: a text that was made, or that memory was refused for it
abbrev pub given_text : Result (List ℕ) Refused → Result (Option (List ℕ)) ListingFault
given_text (Ok text) = Ok (Some text)
given_text (Err refused) = Err Memory
