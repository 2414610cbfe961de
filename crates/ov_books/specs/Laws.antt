-- What holds of all books.
use Rattle.std.specs.Prelude.{◌≡◌, ℕ, ◌≤◌, List, [], ◌∷◌, ◌++◌, length, Some, None}
use Rattle.ov_base.specs.declared.mode.Mode.{Mode}
use Rattle.ov_disk.specs.Disk.{Image}
use Rattle.ov_journal.specs.Book.{contents_of, with_body}
use Rattle.ov_record.specs.Briefs.{Brief as SpelledBrief, text_size}
use Rattle.ov_record.specs.Forms.{second_form}
use Rattle.ov_record.specs.Stored.{HasBriefForm}
use Rattle.ov_history.specs.Catalogue.{Catalogue, catalogue_after, file_names_shown, numbered_at}
use Rattle.ov_history.specs.Masters.{Masters}
use Rattle.ov_history.specs.Sealed.{HasParts, refusal_shown}
use Rattle.ov_history.specs.Catalogue.{outline}
use Rattle.ov_history.specs.Texts.{BriefHistory, IsSealedBriefly, StandsBriefly}
use Rattle.ov_books.specs.Books.{Booked, history_of, intent_body, names_of, settled_of, settling_body}
use Rattle.ov_books.specs.Books.{with_intent, with_next, with_settling}
use Rattle.ov_books.specs.Images.{BeginsWithText, Keeps}

-- a catalogue that stands for a history shows the names of its files
abbrev pub NamesAreShownBriefly : Type 0
NamesAreShownBriefly =
    (master : List ℕ) (c : Catalogue) (h : BriefHistory)
    → StandsBriefly master c h → file_names_shown c ≡ names_of h

-- A catalogue that stands for a history takes an update that is spelled so exactly where the longer
-- history is sealed, and stands for that then.
abbrev pub SpelledGoOn : Type 0
SpelledGoOn =
    (master : List ℕ) (c : Catalogue) (h : BriefHistory) (u : SpelledBrief)
    → StandsBriefly master c h
    → refusal_shown c (numbered_at c u) ≡ None → HasParts (outline c) (numbered_at c u)
    → StandsBriefly master (catalogue_after master c (numbered_at c u)) (with_next h u)

-- where the longer history is sealed, the catalogue refuses the update for nothing, and it has its parts
abbrev pub SpelledStop : Type 0
SpelledStop =
    (master : List ℕ) (c : Catalogue) (h : BriefHistory) (u : SpelledBrief)
    → StandsBriefly master c h → IsSealedBriefly (with_next h u)
    → (refusal_shown c (numbered_at c u) ≡ None) × HasParts (outline c) (numbered_at c u)

-- an image with the same contents of Book and the same bytes of the pending update's file keeps the
-- same book
abbrev pub SameContentsKeepTheSame : Type 0
SameContentsKeepTheSame =
    (k : Masters) (b : Booked) (i c : Image)
    → Keeps k b i → contents_of c.book ≡ contents_of i.book
    → BeginsWithText b.pending b.text c.blobs → Keeps k b c

-- where no intent is pending, the bytes of Blobs are free
abbrev pub BlobsAreFree : Type 0
BlobsAreFree =
    (k : Masters) (b : Booked) (i c : Image)
    → b.pending ≡ None → Keeps k b i → contents_of c.book ≡ contents_of i.book → Keeps k b c

-- with one intent more, and Blobs beginning with its text, the image keeps the book with the intent
abbrev pub IntentsGoOn : Type 0
IntentsGoOn =
    (k : Masters) (b : Booked) (u : SpelledBrief) (text : List ℕ) (i c : Image)
    → Keeps k b i → b.pending ≡ None
    → HasBriefForm second_form u → length text ≡ text_size u
    → IsSealedBriefly (with_next (settled_of b) u)
    → contents_of c.book ≡ with_body (intent_body u) (contents_of i.book)
    → BeginsWithText (Some u) text c.blobs
    → Keeps k (with_intent b u text) c

-- with a settling more it keeps the book whose intent is settled
abbrev pub SettlingsGoOn : Type 0
SettlingsGoOn =
    (k : Masters) (b : Booked) (u : SpelledBrief) (i c : Image)
    → Keeps k b i → b.pending ≡ Some u
    → contents_of c.book ≡ with_body settling_body (contents_of i.book)
    → Keeps k (with_settling b) c
