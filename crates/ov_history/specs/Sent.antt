-- Updates as a history has them: they name their files by number.
use Rattle.std.specs.Prelude.{ℕ, List, [], Option, slice_index_or}
use Rattle.ov_tokens.specs.declared.token.Token.{Token}
use Rattle.ov_record.specs.Updates.{SealedUpdate as SpelledUpdate, SealedEnrol as SpelledEnrol}
use Rattle.ov_record.specs.Updates.{SealedCreate as SpelledCreate, SealedGrant as SpelledGrant}
use Rattle.ov_record.specs.Updates.{SealedRevoke as SpelledRevoke, SealedRemove as SpelledRemove}
use Rattle.ov_record.specs.Updates.{SealedReplace as SpelledReplace}
use Rattle.ov_history.specs.Places.{place_of}

-- An update as its owner sends it: the list of a new file as a set of users, and with what the
-- owner adds to it, which are the tokens, the file's tag, and its bytes in the base layer.
pub data SealedUpdate : Type 0 where
  SealedEnrol : (user : List ℕ) → SealedUpdate
  SealedCreate : (file : List ℕ) → (list : ℕ) → (tokens : List Token) → (tag text : List ℕ)
      → SealedUpdate
  SealedGrant : (user file : ℕ) → (token : Option Token) → SealedUpdate
  SealedRevoke : (user file : ℕ) → SealedUpdate
  SealedRemove : (file : ℕ) → SealedUpdate
  SealedReplace : (file : ℕ) → (tokens : List Token) → (tag text : List ℕ) → SealedUpdate

-- The update that is spelled so, in a store whose files have these names by number. A replacement
-- is spelled with the name of its file; of a name that isn't there it has one past the last number.
abbrev pub numbered : List (List ℕ) → SpelledUpdate → SealedUpdate
numbered names (SpelledEnrol user) = SealedEnrol user
numbered names (SpelledCreate file list tokens tag text) = SealedCreate file list tokens tag text
numbered names (SpelledGrant user file token) = SealedGrant user file token
numbered names (SpelledRevoke user file) = SealedRevoke user file
numbered names (SpelledRemove file) = SealedRemove file
numbered names (SpelledReplace name tokens tag text) =
    SealedReplace (place_of name names) tokens tag text

-- the spelling of an update in a store whose files have these names by number
abbrev pub spelled : List (List ℕ) → SealedUpdate → SpelledUpdate
spelled names (SealedEnrol user) = SpelledEnrol user
spelled names (SealedCreate file list tokens tag text) = SpelledCreate file list tokens tag text
spelled names (SealedGrant user file token) = SpelledGrant user file token
spelled names (SealedRevoke user file) = SpelledRevoke user file
spelled names (SealedRemove file) = SpelledRemove file
spelled names (SealedReplace file tokens tag text) =
    SpelledReplace (slice_index_or names file []) tokens tag text
