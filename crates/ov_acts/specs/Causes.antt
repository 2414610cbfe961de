-- Why an act stops at its files, or for a fault.
use Rattle.std.specs.Prelude.{◌≡◌, ◌⊎◌, ℕ, ◌<◌, ◌+◌, List, length, Option, IfSome, Result, Err, ⊤}
use Rattle.ov_base.specs.declared.limits.TheConstants.{MAX_FILE_BYTES}
use Rattle.ov_client.specs.KeyLines.{IsLineOf}
use Rattle.ov_client.specs.Readers.{Reader}
use Rattle.ov_io.specs.Calls.{TakesWhile}
use Rattle.ov_io.specs.Tells.{SourceTells}
use Rattle.ov_keyfile.specs.KeyFile.{HasMasters}
use Rattle.ov_acts.specs.declared.job.Act.{Act}
use Rattle.ov_acts.specs.declared.job.Act.TheVariants.{Create, Read, Replace}
use Rattle.ov_acts.specs.declared.stop.Stop.{Stop}
use Rattle.ov_acts.specs.declared.stop.Stop.TheVariants as stops

-- the file is of the form that the act reads its keys of: a user key line for a read, and a key
-- file for any other
abbrev pub HasKeys : Act → List ℕ → Type 0
HasKeys (Read file) bytes = (r : Reader) × IsLineOf bytes r
HasKeys act bytes = HasMasters bytes

-- the act has bytes to store, and the file has more than may be stored
abbrev pub StoresTooMany : Act → Option (List ℕ) → Type 0
StoresTooMany (Create file list) body = IfSome body (λ bytes. MAX_FILE_BYTES < length bytes)
StoresTooMany (Replace file) body = IfSome body (λ bytes. MAX_FILE_BYTES < length bytes)
StoresTooMany act body = ⊥

-- A file is said not to have been read only where a count of what is read rose, the link to have
-- failed only where the peer's count did, and a file not to be of its form only where it isn't.
pub record StopsFor {T : Type 0} (reads links no_keys too_long : Type 0) (result : Result T Stop)
    : Type 0 where
  pub read : result ≡ Err stops.Read → reads
  pub link : result ≡ Err stops.Link → links
  pub keys : result ≡ Err stops.BadKeys → no_keys
  pub long : result ≡ Err stops.TooLong → too_long

-- The causes of a status: 5 comes only where the count of one of the two files rose, 6 where that
-- of standard output did, 8 where the peer's did, 10 where the file of keys isn't of its form, and
-- 14 where the file to be stored has too many bytes.
pub record EndsFor (status : ℕ) (reads writes links no_keys too_long : Type 0) : Type 0 where
  pub read : status ≡ 5 → reads
  pub write : status ≡ 6 → writes
  pub link : status ≡ 8 → links
  pub keys : status ≡ 10 → no_keys
  pub long : status ≡ 14 → too_long

-- Where the file of keys isn't of its form nothing is asked, and the act ends with the status of
-- that, or of a read that failed.
abbrev pub NeedsKeys : {P : Type 0} → Act → Option (List ℕ) → P → P → ℕ → Type 0
NeedsKeys act keys p q status =
    IfSome keys (λ bytes. (HasKeys act bytes → ⊥) → (q ≡ p) × ((status ≡ 10) ⊎ (status ≡ 5)))

-- the act stores the bytes of a file
abbrev pub StoresFile : Act → Type 0
StoresFile (Create file list) = Unit {0}
StoresFile (Replace file) = Unit {0}
StoresFile act = ⊥

-- one byte more than the longest user key line has
abbrev pub past_key_line : ℕ
past_key_line = 208

-- one byte more than the longest key file has
abbrev pub past_key_file : ℕ
past_key_file = 131

-- how many bytes of a file of keys are taken at most
abbrev pub most_keys : Act → ℕ
most_keys (Read file) = past_key_line
most_keys act = past_key_file

-- how many bytes of a file to be stored are taken at most
abbrev pub most_bytes : ℕ
most_bytes = MAX_FILE_BYTES + 1

-- a source is taken from only while this many bytes haven't come, and not again once it gave
-- nothing
abbrev pub TakesUpTo : {S : Type 0} → SourceTells S → ℕ → S → S → Type 0
TakesUpTo tells most old new = TakesWhile tells (λ seen. length seen < most) ⊤ ⊥ old new

-- The file to be stored is taken from only for a creation or a replacement, and only once the file
-- of keys was found to be of its form.
abbrev pub TakesBody : {S : Type 0} → SourceTells S → Act → Option (List ℕ) → S → S → Type 0
TakesBody tells act keys old new =
    (new ≡ old)
    ⊎ (StoresFile act × IfSome keys (HasKeys act) × TakesUpTo tells most_bytes old new)

-- what an act takes of its two files
pub record TakesFiles {K B : Type 0} (keys_tells : SourceTells K) (body_tells : SourceTells B)
    (act : Act) (k k_after : K) (b b_after : B) : Type 0 where
  pub keys : TakesUpTo keys_tells (most_keys act) k k_after
  pub body : TakesBody body_tells act (keys_tells.left k) b b_after
