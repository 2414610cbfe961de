-- Which bytes are a settings file, and of which settings.
use Rattle.std.specs.Prelude.{◌≡◌, ◌≤◌, ◌<◌, ◌⊎◌, ⊤, ℕ, ℤ, pos, List, length, codes}
use Rattle.std.specs.Prelude.{Option, Some, None, IfSome, option_and_then, Result, Ok, Err}
use Rattle.std.specs.Prelude.{String, IsUtf8}
use Rattle.std.specs.declared.alloc.Global.{Global}
use Rattle.ov_base.specs.declared.mode.Mode.{Mode}
use Rattle.ov_base.specs.Modes.{mode_word}
use Rattle.ov_keyfile.specs.KeyFile.{IsKeyLine}
use Rattle.toml.specs.Data.{Members, as_integer, as_str, get_member}
use Rattle.toml.specs.Parse.{parse_document}
use Rattle.ov_settings.specs.declared.settings.Settings.{Settings}
use Rattle.ov_settings.specs.declared.fault.SettingsFault.{SettingsFault}
use Rattle.ov_settings.specs.declared.fault.SettingsFault.TheVariants.{Read, Memory, TooLong}
use Rattle.ov_settings.specs.declared.fault.SettingsFault.TheVariants.{NotToml, Address}
use Rattle.ov_settings.specs.declared.fault.SettingsFault.TheVariants.{Mode as ModeKey, Surface}
use Rattle.ov_settings.specs.declared.fault.SettingsFault.TheVariants.{BaseCheck, Book, Blobs}
use Rattle.ov_settings.specs.declared.fault.SettingsFault.TheVariants.{Sessions, Workers}
use Rattle.ov_settings.specs.declared.settings.TheConstants.{DEFAULT_WORKERS, MAX_SESSIONS}
use Rattle.ov_settings.specs.declared.settings.TheConstants.{MAX_WORKERS}
use Rattle.ov_settings.specs.declared.reading.TheConstants.{ENOUGH, LONGEST}
use Rattle.ov_io.specs.Calls.{TakesWhile}
use Rattle.ov_io.specs.Tells.{SourceTells}

-- ---- the keys of a document

-- the text at a key, where there is one
abbrev pub text_at : Members → List ℕ → Option (List ℕ)
text_at document key = option_and_then as_str (get_member key document)

-- the integer at a key, where there is one
abbrev pub integer_at : Members → List ℕ → Option ℤ
integer_at document key = option_and_then as_integer (get_member key document)

-- the key has this text
abbrev pub HoldsText : Members → List ℕ → List ℕ → Type 0
HoldsText document key text = text_at document key ≡ Some text

-- the mode of the store is named
abbrev pub HoldsMode : Members → Mode → Type 0
HoldsMode document mode = HoldsText document (codes "mode") (mode_word mode)

-- the key has 64 hexadecimal digits, in either case, which are these bytes
abbrev pub HoldsDigits : Members → List ℕ → List ℕ → Type 0
HoldsDigits document key bytes =
    (text : List ℕ) × HoldsText document key text × IsKeyLine text bytes

-- the key has this number, which is from 1 to a limit
pub record HoldsNumber (document : Members) (key : List ℕ) (limit number : ℕ) : Type 0 where
  pub is : integer_at document key ≡ Some (pos number)
  pub some : 1 ≤ number
  pub most : number ≤ limit

-- this number of sessions is wanted, and is one that a server takes
abbrev pub HoldsSessions : Members → ℕ → Type 0
HoldsSessions document sessions = HoldsNumber document (codes "sessions") MAX_SESSIONS sessions

-- the document doesn't have the key
abbrev pub IsMissing : Members → List ℕ → Type 0
IsMissing document key = get_member key document ≡ None

-- So many sessions are to run at the same time: the key has this number, from 1 to 64; or it is
-- missing, and the number is 4.
abbrev pub HoldsWorkers : Members → ℕ → Type 0
HoldsWorkers document workers =
    HoldsNumber document (codes "workers") MAX_WORKERS workers
    ⊎ (IsMissing document (codes "workers") × (workers ≡ DEFAULT_WORKERS))

-- the document has each key as it should be, and these are the values
pub record AreSettings (document : Members) (s : Settings) : Type 0 where
  pub address : HoldsText document (codes "address") s.address
  pub mode : HoldsMode document s.mode
  pub surface : HoldsDigits document (codes "surface") s.surface.bytes
  pub base_check : HoldsDigits document (codes "base_check") s.base_check
  pub book : HoldsText document (codes "book") s.book
  pub blobs : HoldsText document (codes "blobs") s.blobs
  pub sessions : HoldsSessions document s.sessions
  pub workers : HoldsWorkers document s.workers

-- ---- a settings file

-- the bytes are the text of this TOML document
pub record IsDocument (bytes : List ℕ) (document : Members) : Type 0 where
  pub text : IsUtf8 bytes
  pub reads : parse_document bytes ≡ Some document

-- the bytes are the text of a TOML document that has these settings, and aren't too many
pub record IsSettingsFile (bytes : List ℕ) (s : Settings) : Type 0 where
  pub short : length bytes ≤ LONGEST
  pub document : Members
  pub is : IsDocument bytes document
  pub values : AreSettings document s

-- the bytes are the text of no settings
abbrev pub IsNoSettingsFile : List ℕ → Type 0
IsNoSettingsFile bytes = (s : Settings) → IsSettingsFile bytes s → ⊥

-- ---- what is read

-- a value is found that is so, or no value is
abbrev pub Finds : {T : Type 0} → (T → Type 0) → Option T → Type 0
Finds IsSo (Some value) = IsSo value
Finds {T} IsSo None = (value : T) → IsSo value → ⊥

-- the status for a fault: 5 where a read failed, 7 where memory was refused, and else 2
abbrev pub fault_code : SettingsFault → ℕ
fault_code Read = 5
fault_code Memory = 7
fault_code TooLong = 2
fault_code NotToml = 2
fault_code Address = 2
fault_code ModeKey = 2
fault_code Surface = 2
fault_code BaseCheck = 2
fault_code Book = 2
fault_code Blobs = 2
fault_code Sessions = 2
fault_code Workers = 2

-- A value is found that is so; or no value is, or memory was refused. It isn't said of a read.
abbrev pub FindsOr : {T : Type 0} → (T → Type 0) → Result T SettingsFault → Type 0
FindsOr IsSo (Ok value) = IsSo value
FindsOr {T} IsSo (Err fault) =
    (fault ≡ Memory) ⊎ ((fault_code fault ≡ 2) × ((value : T) → IsSo value → ⊥))

-- the words behind the program's name are one word
abbrev pub IsOneWord : List (String Global) → Type 0
IsOneWord words = length words ≡ 1

-- What is read from a source that has this left, where it tells that. At Ok these are the settings
-- of a file, whose bytes are all that is left; 2 is said only where that is a file of none.
abbrev pub IsReadAs : {E : Type 0} → (E → ℕ) → Option (List ℕ) → Result Settings E → Type 0
IsReadAs code_of left (Ok s) =
    (bytes : List ℕ) × IsSettingsFile bytes s × IfSome left (λ all. all ≡ bytes)
IsReadAs code_of left (Err fault) = code_of fault ≡ 2 → IfSome left IsNoSettingsFile

-- A call takes from a source until the longest settings file was exceeded or nothing was given, and
-- may have failed then.
abbrev pub TakesEnough : {S : Type 0} → SourceTells S → Type 0 → S → S → Type 0
TakesEnough tells failed old new =
    TakesWhile tells (λ seen. length seen < ENOUGH) ⊤ failed old new

-- one of the statuses with which there are no settings
abbrev pub IsSettingsStatus : ℕ → Type 0
IsSettingsStatus code = (code ≡ 2) ⊎ ((code ≡ 5) ⊎ (code ≡ 7))
