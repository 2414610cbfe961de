-- What is found in the files that an act reads, or why it stops there.
use Rattle.std.specs.Prelude.{◌≡◌, ℕ, ◌<◌, ◌≤◌, List, [], length, Option}
use Rattle.std.specs.Prelude.{IfSome, Result, Ok, Err}
use Rattle.std.specs.List.{flat_map}
use Rattle.ov_base.specs.declared.limits.TheConstants.{MAX_FILE_BYTES}
use Rattle.ov_fields.specs.Spelling.{name_field}
use Rattle.ov_client.specs.KeyLines.{IsLineOf}
use Rattle.ov_client.specs.Readers.{Reader}
use Rattle.ov_history.specs.Masters.{Masters}
use Rattle.ov_keyfile.specs.KeyFile.{HasMasters, IsKeyFile}
use Rattle.ov_keyfile.specs.declared.masters.Masters.{Masters as ReadMasters}
use Rattle.ov_owner.specs.declared.limits.TheConstants.{MAX_LIST_BYTES, MAX_LIST_NAMES}
use Rattle.ov_acts.specs.declared.job.Act.{Act}
use Rattle.ov_acts.specs.declared.job.Act.TheVariants.{Check, Create, Read, Replace}
use Rattle.ov_acts.specs.declared.stop.Stop.{Stop}
use Rattle.ov_acts.specs.declared.stop.Stop.TheVariants.{BadKeys, Memory, TooLong}
use Rattle.ov_acts.specs.declared.stop.Stop.TheVariants.{Read as ReadFault}

-- the masters that were read
abbrev pub plain_masters : ReadMasters → Masters
plain_masters masters = record { base = masters.base.bytes; surface = masters.surface.bytes }

-- the file, where its bytes are told, is a key file of these masters
abbrev pub AreMastersOf : Option (List ℕ) → Masters → Type 0
AreMastersOf keys k = IfSome keys (λ file. IsKeyFile file k.base k.surface)

-- The masters of the key file, or why there are none: the file isn't one, or it wasn't read.
abbrev pub FindsMasters : Option (List ℕ) → Result ReadMasters Stop → Type 0
FindsMasters keys (Ok masters) = AreMastersOf keys (plain_masters masters)
FindsMasters keys (Err BadKeys) = IfSome keys (λ file. HasMasters file → ⊥)
FindsMasters keys (Err ReadFault) = Unit {0}
FindsMasters keys (Err stop) = ⊥

-- the file, where its bytes are told, is a user key line of this reader
abbrev pub IsReadersLine : Option (List ℕ) → Reader → Type 0
IsReadersLine keys r = IfSome keys (λ line. IsLineOf line r)

-- The reader of the user key line, or why there is none: the file isn't one, or it wasn't read.
abbrev pub FindsReader : Option (List ℕ) → Result Reader Stop → Type 0
FindsReader keys (Ok r) = IsReadersLine keys r
FindsReader keys (Err BadKeys) = IfSome keys (λ line. (r : Reader) → IsLineOf line r → ⊥)
FindsReader keys (Err ReadFault) = Unit {0}
FindsReader keys (Err stop) = ⊥

-- these are all bytes of the file, where they are told, and no more than a file may have
pub record IsBodyOf (body : Option (List ℕ)) (bytes : List ℕ) : Type 0 where
  pub few : length bytes ≤ MAX_FILE_BYTES
  pub all : IfSome body (λ file. file ≡ bytes)

-- The bytes of a file, or why there are none: they are too many, the file wasn't read, or memory
-- was refused.
abbrev pub FindsBytes : Option (List ℕ) → Result (List ℕ) Stop → Type 0
FindsBytes body (Ok bytes) = IsBodyOf body bytes
FindsBytes body (Err TooLong) = IfSome body (λ file. MAX_FILE_BYTES < length file)
FindsBytes body (Err ReadFault) = Unit {0}
FindsBytes body (Err Memory) = Unit {0}
FindsBytes body (Err stop) = ⊥

-- the bytes that an act stores: those of the file for a creation or a replacement, and none for any
-- other
abbrev pub FindsBody : Act → Option (List ℕ) → Result (List ℕ) Stop → Type 0
FindsBody (Create file list) body found = FindsBytes body found
FindsBody (Replace file) body found = FindsBytes body found
FindsBody act body found = found ≡ Ok []

-- the act is one of an owner at a server
abbrev pub IsOwners : Act → Type 0
IsOwners (Read file) = ⊥
IsOwners Check = ⊥
IsOwners act = Unit {0}

-- an owner can send these names: they are few and have few bytes in all
abbrev pub HasLimits : List (List ℕ) → Type 0
HasLimits names =
    (length names ≤ MAX_LIST_NAMES) × (length (flat_map name_field names) ≤ MAX_LIST_BYTES)

-- an owner can send the list of a file that the act creates
abbrev pub HasListLimits : Act → Type 0
HasListLimits (Create file list) = HasLimits list
HasListLimits act = Unit {0}
