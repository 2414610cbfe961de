-- How far a script may be taken before its replies are put.
use Rattle.std.specs.Prelude.{ℕ, List, ◌++◌, Option, ⊤}
use Rattle.std.specs.Io.KnownBytes.{Appends}
use Rattle.ov_base.specs.declared.limits.TheConstants.{MAX_SCRIPT_BYTES}
use Rattle.ov_io.specs.Calls.{TakesWhile}
use Rattle.ov_io.specs.Tells.{SourceTells}
use Rattle.ov_script.specs.declared.command.Command.{Command}
use Rattle.ov_script.specs.Reading.{BeginsWith}
use Rattle.ov_script.specs.Taking.{IsUnsettled}
use Rattle.ov_history.specs.Plain.{PlainHistory}
use Rattle.ov_model.specs.Lines.{lines}

-- These bytes of a script are commands whose reply lines were all put, and behind them bytes that
-- leave it unsettled what item is there: no whole command is among them that wasn't answered.
pub record AwaitsMore (p : PlainHistory) (seen : List ℕ) (old new : Option (List ℕ))
    : Type 0 where
  pub commands : List Command
  pub line : ℕ
  pub room : ℕ
  pub rest : List ℕ
  pub begins : BeginsWith 1 MAX_SCRIPT_BYTES seen commands line room rest
  pub unsettled : IsUnsettled room rest
  pub more : List ℕ
  pub put : Appends old new (lines p commands ++ more)

-- A reply is put before more of the script is taken than its command needs: each take was made
-- only while what was taken before it awaited more, and none behind one that gave nothing. This
-- speaks of the end alone, and orders all takes and puts, since any put may be the one that fails
-- and ends a run.
abbrev pub IsPaced : {S : Type 0} → SourceTells S → PlainHistory → S → S
    → Option (List ℕ) → Option (List ℕ) → Type 0
IsPaced tells p old new put_old put_new =
    TakesWhile tells (λ seen. AwaitsMore p seen put_old put_new) ⊤ ⊥ old new
