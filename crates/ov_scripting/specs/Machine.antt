-- A script over a server that nobody else updates: its lines are the access-matrix machine's.
use Rattle.std.specs.Prelude.{◌≡◌, ℕ, List, [], ◌∷◌, ◌++◌, take, Option, Some}
use Rattle.std.specs.Io.KnownBytes.{Appends}
use Rattle.ov_script.specs.Lines.{reply_line}
use Rattle.ov_script.specs.Reading.{AtEnd, BadAt, TooLong}
use Rattle.ov_script.specs.declared.command.Command.{Command}
use Rattle.ov_keyfile.specs.KeyFile.{IsKeyFile}
use Rattle.ov_history.specs.History.{epoch_of}
use Rattle.ov_history.specs.Masters.{Masters}
use Rattle.ov_history.specs.Plain.{PlainHistory, history_of}
use Rattle.ov_model.specs.Lines.{lines}
use Rattle.ov_model.specs.Step.{after_all, reply_to}
use Rattle.ov_protocol.specs.Serving.{Service}
use Rattle.ov_peer.specs.Alone.{IsAlone}
use Rattle.ov_peer.specs.Tells.{PeerTells}
use Rattle.ov_client.specs.Completeness.{FailsDisk, IsStoreUnder}
use Rattle.ov_acts.specs.Completeness.{IsStoreOf}
use Rattle.ov_acts.specs.declared.stop.Stop.{Stop}
use Rattle.ov_acts.specs.declared.stop.Stop.TheVariants as stops
use Rattle.ov_scripting.specs.Answering.{Begins, Finishes, IsAll}
use Rattle.ov_scripting.specs.declared.ended.Ended.{Ended}
use Rattle.ov_scripting.specs.declared.ended.Ended.TheVariants.{BadLine, Done, Long, Stopped}
use Rattle.ov_scripting.specs.declared.ended.Ended.TheVariants.{Unwritten}

module _ {P : Type 0} (peer : PeerTells P) (k : Masters) where
  -- a store of this history is served, right under these masters
  abbrev pub ServesStore : PlainHistory → P → Type 0
  ServesStore h q = (v : Service) × peer.serves q v × IsStoreUnder k h v

  -- why a script may stop there: the server replied that its disk failed, a read or the link did, or
  -- memory was refused
  abbrev pub MayStop : P → Stop → Type 0
  MayStop q stops.Device = (m : P) × FailsDisk peer m q
  MayStop q stops.Read = Unit {0}
  MayStop q stops.Link = Unit {0}
  MayStop q stops.Memory = Unit {0}
  MayStop q stop = ⊥

  -- What was put before the last line, from this history on: the machine's line for each command of
  -- the script, and what is served then is the store after them. Or, where the script stopped, its
  -- lines for some first commands, and where a line wasn't put whole, a front of the next.
  abbrev pub HaltsAsMachine : PlainHistory → Option (List ℕ) → P → Option (List ℕ)
      → Option (List ℕ) → Ended → Type 0
  HaltsAsMachine h text q old new (Done epoch) =
      (commands : List Command) × IsAll text commands AtEnd × Appends old new (lines h commands)
      × (epoch ≡ epoch_of (history_of (after_all h commands)))
      × ServesStore (after_all h commands) q
  HaltsAsMachine h text q old new (BadLine n) =
      (commands : List Command) × IsAll text commands (BadAt n) × Appends old new (lines h commands)
      × ServesStore (after_all h commands) q
  HaltsAsMachine h text q old new Long =
      (commands : List Command) × IsAll text commands TooLong × Appends old new (lines h commands)
      × ServesStore (after_all h commands) q
  HaltsAsMachine h text q old new Unwritten =
      (commands : List Command) × (command : Command) × (n : ℕ)
      × Begins text (commands ++ command ∷ [])
      × Appends old new
      (lines h commands ++ take n (reply_line (reply_to (after_all h commands) command)))
      × ServesStore (after_all h (commands ++ command ∷ [])) q
  HaltsAsMachine h text q old new (Stopped stop) =
      (commands : List Command) × Begins text commands × Appends old new (lines h commands)
      × MayStop q stop

  -- So the script ended, and then its last line was put; or it stopped before its first item.
  pub data EndsAsMachine (h : PlainHistory) (text : Option (List ℕ)) (q : P)
      (old new : Option (List ℕ)) (ended : Ended) : Type 0 where
    answered : (halted : Ended) → (mid : Option (List ℕ)) → HaltsAsMachine h text q old mid halted
        → Finishes halted mid new ended → EndsAsMachine h text q old new ended
    unbegun : (stop : Stop) → ended ≡ Stopped stop → Appends old new [] → MayStop q stop
        → EndsAsMachine h text q old new ended

-- Over a server that nobody else updates, and whose store is right under the masters of the key file,
-- the lines are the machine's at the history of the store.
abbrev pub AnswersAsMachine : {P : Type 0} → PeerTells P → Option (List ℕ) → Option (List ℕ)
    → P → P → Option (List ℕ) → Option (List ℕ) → Ended → Type 0
AnswersAsMachine peer keys text p q old new ended =
    (file : List ℕ) (k : Masters) (h : PlainHistory) (v : Service)
    → keys ≡ Some file → IsKeyFile file k.base k.surface
    → IsAlone peer → peer.serves p v → IsStoreOf k h v
    → EndsAsMachine peer k h text q old new ended
