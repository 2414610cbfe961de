-- That the premises of completeness are those of each legal store and of right files.
use Rattle.std.specs.Prelude.{◌≡◌, ℕ, ◌≤◌, List, length, Option, Some}
use Rattle.ov_base.specs.declared.limits.TheConstants.{MAX_FILE_BYTES}
use Rattle.ov_tokens.specs.Keys.{check_value_of}
use Rattle.ov_client.specs.KeyLines.{IsLineOf}
use Rattle.ov_client.specs.Readers.{Reader}
use Rattle.ov_history.specs.Masters.{Masters}
use Rattle.ov_history.specs.Plain.{PlainHistory, history_of}
use Rattle.ov_history.specs.Refusals.{IsLegal}
use Rattle.ov_history.specs.Sealing.{IsSealedAs, sealed}
use Rattle.ov_history.specs.Sealed.{SealedHistory}
use Rattle.ov_keyfile.specs.KeyFile.{IsKeyFile}
use Rattle.ov_owner.specs.Clients.{IsReaderAt}
use Rattle.ov_protocol.specs.Serving.{Service}
use Rattle.ov_acts.specs.Completeness.{HasOwnersFiles, HasReadersLine, IsStoreOf}
use Rattle.ov_acts.specs.Machine.{StoresBytes}
use Rattle.ov_acts.specs.declared.job.Act.{Act}

-- what is served of this sealed history under these masters
abbrev pub service_under : Masters → SealedHistory → Service
service_under k g = record {
  history = g;
  surface = k.surface;
  base_check = check_value_of k.base;
}

-- A legal history is a store of any masters, as these seal it, and with any tags and bytes of the
-- files that are gone.
pub record LegalIsStore : Type 0 where
  pub each : (k : Masters) (h : PlainHistory) (g : SealedHistory)
      → IsLegal (history_of h) → IsSealedAs k h g → IsStoreOf k h (service_under k g)
  pub own : (k : Masters) (h : PlainHistory)
      → IsLegal (history_of h) → IsStoreOf k h (service_under k (sealed k h))

-- A key file of the masters, and few enough bytes where the act stores some, are all that an owner's
-- act reads.
abbrev pub KeyFilesAreEnough : Type 0
KeyFilesAreEnough =
    (act : Act) (file bytes : List ℕ) (body : Option (List ℕ)) (k : Masters)
    → IsKeyFile file k.base k.surface → StoresBytes act body bytes
    → length bytes ≤ MAX_FILE_BYTES → HasOwnersFiles act (Some file) body k

-- A line of the keys of a user who is there is all that a read by this user reads.
abbrev pub LinesAreEnough : Type 0
LinesAreEnough =
    (k : Masters) (h : PlainHistory) (user line : List ℕ) (r : Reader)
    → IsReaderAt k h user r → IsLineOf line r → HasReadersLine (Some line) k h
