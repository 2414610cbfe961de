-- The intent that an act by the book is.
use Rattle.std.specs.Prelude.{◌≡◌, ℕ, List, [], Option, Some, None, Result, Ok, Err}
use Rattle.ov_acts.specs.Files.{FindsBytes}
use Rattle.ov_acts.specs.declared.stop.Stop.{Stop}
use Rattle.ov_book.specs.declared.intent.Intent.{Intent}
use Rattle.ov_book.specs.declared.intent.Intent.TheVariants as intents
use Rattle.ov_owning.specs.declared.job.OwnAct.{OwnAct}
use Rattle.ov_owning.specs.declared.job.OwnAct.TheVariants.{Create, Enrol, Grant, Remove, Replace}
use Rattle.ov_owning.specs.declared.job.OwnAct.TheVariants.{Resume, Revoke}

-- the act stores the bytes of a file
abbrev pub StoresFile : OwnAct → Type 0
StoresFile (Create file list) = Unit {0}
StoresFile (Replace file) = Unit {0}
StoresFile act = ⊥

-- the intent of an act with these bytes; one that resumes has none
abbrev pub intent_by : OwnAct → List ℕ → Option Intent
intent_by (Enrol user) bytes = Some (intents.Enrol user)
intent_by (Grant user file) bytes = Some (intents.Grant user file)
intent_by (Revoke user file) bytes = Some (intents.Revoke user file)
intent_by (Remove file) bytes = Some (intents.Remove file)
intent_by (Create file list) bytes = Some (intents.Create file list bytes)
intent_by (Replace file) bytes = Some (intents.Replace file bytes)
intent_by Resume bytes = None

-- the bytes that an act stores, or why there are none
abbrev pub FindsStored : OwnAct → Option (List ℕ) → Result (List ℕ) Stop → Type 0
FindsStored (Create file list) body taken = FindsBytes body taken
FindsStored (Replace file) body taken = FindsBytes body taken
FindsStored act body taken = taken ≡ Ok []

-- the intent of an act with the bytes that were found, or why there is none
abbrev pub intent_with : OwnAct → Result (List ℕ) Stop → Result (Option Intent) Stop
intent_with act (Ok bytes) = Ok (intent_by act bytes)
intent_with act (Err stop) = Err stop

-- The intent of an act, with the bytes of the file that it stores; or why they aren't read.
abbrev pub FindsIntent : OwnAct → Option (List ℕ) → Result (Option Intent) Stop → Type 0
FindsIntent act body found =
    (taken : Result (List ℕ) Stop) × FindsStored act body taken × (found ≡ intent_with act taken)
