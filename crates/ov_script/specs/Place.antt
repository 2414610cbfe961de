-- How far the reading of a script is.
use Rattle.std.specs.Prelude.{◌≡◌, ℕ, List, [], Option, None, Some, Result, Ok, Err, MatchOption}
use Rattle.std.specs.Io.KnownBytes.{prepend_known}
use Rattle.ov_base.specs.declared.limits.TheConstants.{MAX_SCRIPT_BYTES}
use Rattle.ov_io.specs.Tells.{SourceTells}
use Rattle.ov_script.specs.declared.ended.Ended.{Ended}
use Rattle.ov_script.specs.declared.ended.Ended.TheVariants.{End as Ended-End, Bad, Long as Ended-Long, Fault}
use Rattle.ov_script.specs.declared.next.Next.{Next}
use Rattle.ov_script.specs.declared.next.Next.TheVariants.{Command, End, BadLine, Long}
use Rattle.ov_script.specs.declared.next.ScriptFault.{ScriptFault}

-- The source, the bytes that were taken from it and not yet used, the line on which the next item's
-- first byte is, how many bytes of the script may still be read, and how the reading ended, if
-- it has.
pub record Place (S : Type 0) : Type 0 where
  pub source : S
  pub pending : List ℕ
  pub line : ℕ
  pub room : ℕ
  pub ended : Option (Result Next ScriptFault)

-- The start of a script, of which nothing was taken yet.
abbrev pub start : {S : Type 0} → S → Place S
start source = record {
  source = source;
  pending = [];
  line = 1;
  room = MAX_SCRIPT_BYTES;
  ended = None;
}

-- What is still to be read, where the source tells it.
abbrev pub text_left : {S : Type 0} → SourceTells S → Place S → Option (List ℕ)
text_left tells place = prepend_known place.pending (tells.left place.source)

-- What each call answers once the reading has ended so, with the next item's line at this one.
abbrev pub answer_of : ℕ → Ended → Result Next ScriptFault
answer_of line Ended-End = Ok End
answer_of line Bad = Ok (BadLine line)
answer_of line Ended-Long = Ok Long
answer_of line (Fault fault) = Err fault

-- Whether this answer ends the reading, and is given from then on.
abbrev pub ends_with : Result Next ScriptFault → Option (Result Next ScriptFault)
ends_with (Ok (Command command)) = None
ends_with (Ok End) = Some (Ok End)
ends_with (Ok (BadLine line)) = Some (Ok (BadLine line))
ends_with (Ok Long) = Some (Ok Long)
ends_with (Err fault) = Some (Err fault)

-- A reading that had ended answers the same again and stays as it is; one that had not ends with
-- this answer, unless that is a command.
abbrev pub PlaceGoesOn : {S : Type 0} → Place S → Result Next ScriptFault → Place S → Type 0
PlaceGoesOn old result new =
    MatchOption old.ended
    (new.ended ≡ ends_with result)
    (λ answer. (result ≡ answer) × (new ≡ old))
