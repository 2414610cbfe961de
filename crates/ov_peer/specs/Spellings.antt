-- The spellings of the updates that an answerer accepted, and updates in which its disk failed.
use Rattle.std.specs.Prelude.{◌≡◌, ℕ, ◌==◌, ◌&&◌, Bool, true, false, List, [], ◌∷◌, ◌++◌, Result, Ok, Err}
use Rattle.ov_wire.specs.declared.request.Request.{Request}
use Rattle.ov_wire.specs.declared.request.Request.TheVariants as requests
use Rattle.ov_wire.specs.RequestReading.{request_of}

-- the spelling in what a frame is, and no bytes where it is no Update
abbrev pub spelling_in : Result Request ℕ → List ℕ
spelling_in (Ok (requests.Update epoch spelling tag)) = spelling
spelling_in (Ok request) = []
spelling_in (Err place) = []

-- the spelling of the update that a frame has, and no bytes where it has none
abbrev pub spelling_of : List ℕ → List ℕ
spelling_of request = spelling_in (request_of request)

-- the frame is an Update
abbrev pub IsUpdate : List ℕ → Type 0
IsUpdate request =
    (epoch : ℕ) × (spelling : List ℕ) × (tag : List ℕ)
    × (request_of request ≡ Ok (requests.Update epoch spelling tag))

-- whether a reply is an Accepted, by its kind byte
abbrev pub says_accepted : List ℕ → Bool
says_accepted [] = false
says_accepted (kind ∷ body) = kind == 0x84

-- the list, with one more where the test says so
abbrev pub longer_if : Bool → List (List ℕ) → List ℕ → List (List ℕ)
longer_if true list spelling = list ++ spelling ∷ []
longer_if false list spelling = list

-- the spellings so far, with that of the request where its reply is an Accepted
abbrev pub with_accepted : List (List ℕ) → List ℕ → List ℕ → List (List ℕ)
with_accepted list request reply = longer_if (says_accepted reply) list (spelling_of request)

-- ---- updates in which the disk failed

-- whether what a frame is is an Update
abbrev pub reads_update : Result Request ℕ → Bool
reads_update (Ok (requests.Update epoch spelling tag)) = true
reads_update (Ok request) = false
reads_update (Err place) = false

-- whether a reply says that the disk failed, by its kind byte
abbrev pub says_failed : List ℕ → Bool
says_failed [] = false
says_failed (kind ∷ body) = kind == 0x8d

-- whether the request is an Update, and its reply says that the disk failed in one
abbrev pub fails_update : List ℕ → List ℕ → Bool
fails_update request reply = says_failed reply && reads_update (request_of request)
