-- What the answering of a script comes to, command by command.
use Rattle.std.specs.Prelude.{◌≡◌, ◌⊎◌, ℕ, List, [], ◌∷◌, ◌++◌, take, codes}
use Rattle.std.specs.Prelude.{Option, Some, None, IfSome, Ok, Err}
use Rattle.std.specs.Fmt.{decimal}
use Rattle.std.specs.Io.KnownBytes.{Appends, Keeps}
use Rattle.ov_script.specs.Lines.{reply_line}
use Rattle.ov_script.specs.Reading.{IsScript, BeginsScript, Ending, AtEnd, BadAt, TooLong}
use Rattle.ov_script.specs.declared.command.Command.{Command}
use Rattle.ov_script.specs.declared.command.Command.TheVariants.{Epoch as AskEpoch}
use Rattle.ov_script.specs.declared.reply.Reply.{Reply}
use Rattle.ov_script.specs.declared.reply.Reply.TheVariants.{End as EndReply, Epoch as EpochIs}
use Rattle.ov_history.specs.Masters.{Masters}
use Rattle.ov_peer.specs.Tells.{PeerTells}
use Rattle.ov_acts.specs.declared.stop.Stop.{Stop}
use Rattle.ov_acts.specs.declared.stop.Stop.TheVariants as stops
use Rattle.ov_scripting.specs.Performing.{Does}
use Rattle.ov_scripting.specs.declared.ended.Ended.{Ended}
use Rattle.ov_scripting.specs.declared.ended.Ended.TheVariants.{BadLine, Done, Long, Stopped}
use Rattle.ov_scripting.specs.declared.ended.Ended.TheVariants.{Unwritten}

-- ---- lines

-- the reply lines of these replies, in turn
abbrev pub reply_lines : List Reply → List ℕ
reply_lines [] = []
reply_lines (reply ∷ replies) = reply_line reply ++ reply_lines replies

-- the line that names a bad line of the script
abbrev pub bad_line : ℕ → List ℕ
bad_line n = codes "error line " ++ decimal n ++ 10 ∷ []

-- the line on a script that is too long
abbrev pub long_line : List ℕ
long_line = codes "error long" ++ 10 ∷ []

-- a reply line was put; or a front of it, or memory was refused for it and nothing was
abbrev pub PutsOr : List ℕ → Option (List ℕ) → Option (List ℕ) → Option Ended → Type 0
PutsOr line old new None = Appends old new line
PutsOr line old new (Some Unwritten) = (n : ℕ) × Appends old new (take n line)
PutsOr line old new (Some (Stopped stop)) = (stop ≡ stops.Memory) × Keeps old new
PutsOr line old new (Some (Done epoch)) = ⊥
PutsOr line old new (Some (BadLine n)) = ⊥
PutsOr line old new (Some Long) = ⊥

-- ---- the script

-- the script, where its text is told, is these commands, and its reading ends so
abbrev pub IsAll : Option (List ℕ) → List Command → Ending → Type 0
IsAll text commands ending = IfSome text (λ t. IsScript t commands ending)

-- the script, where its text is told, begins with these commands
abbrev pub Begins : Option (List ℕ) → List Command → Type 0
Begins text commands = IfSome text (λ t. BeginsScript t commands)

-- ---- commands

module _ {P : Type 0} (peer : PeerTells P) (k : Masters) where
  -- these commands were performed in turn, and each had this reply
  abbrev pub DoesAll : List Command → List Reply → P → P → Type 0
  DoesAll [] [] p q = p ≡ q
  DoesAll [] (reply ∷ replies) p q = ⊥
  DoesAll (command ∷ commands) [] p q = ⊥
  DoesAll (command ∷ commands) (reply ∷ replies) p q =
      (m : P) × Does peer k command p m (Ok reply) × DoesAll commands replies m q

  -- Some commands were performed in turn, and a reply line was put for each, and then this.
  pub record Answered (p q : P) (last : List ℕ) (old new : Option (List ℕ)) : Type 0 where
    pub commands : List Command
    pub replies : List Reply
    pub does : DoesAll commands replies p q
    pub put : Appends old new (reply_lines replies ++ last)

  -- one command was performed, and its reply line put; or a front of it, or why not
  abbrev pub Answers : Command → P → P → Option (List ℕ) → Option (List ℕ) → Option Ended → Type 0
  Answers command p q old new None =
      (reply : Reply) × Does peer k command p q (Ok reply) × Appends old new (reply_line reply)
  Answers command p q old new (Some Unwritten) =
      (reply : Reply) × Does peer k command p q (Ok reply)
      × ((n : ℕ) × Appends old new (take n (reply_line reply)))
  Answers command p q old new (Some (Stopped stop)) =
      Keeps old new
      × (Does peer k command p q (Err stop)
      ⊎ ((stop ≡ stops.Memory) × ((reply : Reply) × Does peer k command p q (Ok reply))))
  Answers command p q old new (Some (Done epoch)) = ⊥
  Answers command p q old new (Some (BadLine n)) = ⊥
  Answers command p q old new (Some Long) = ⊥

  -- ---- the end

  -- the epoch was told, or why the script ends without
  abbrev pub AsksEnd : P → P → Ended → Type 0
  AsksEnd p q (Done epoch) = Does peer k AskEpoch p q (Ok (EpochIs epoch))
  AsksEnd p q (Stopped stop) = Does peer k AskEpoch p q (Err stop)
  AsksEnd p q ended = ⊥

  -- Why the answering stopped behind these commands. No item was read; or one was, and wasn't
  -- answered, or memory was refused for its line; or the script ended, and the epoch wasn't told.
  pub data StopsBehind (text : Option (List ℕ)) (commands : List Command) (p q : P) (stop : Stop)
      : Type 0 where
    unread : q ≡ p → (stop ≡ stops.Read) ⊎ (stop ≡ stops.Memory)
        → StopsBehind text commands p q stop
    unanswered : (command : Command) → Begins text (commands ++ command ∷ [])
        → Does peer k command p q (Err stop) → StopsBehind text commands p q stop
    unsaid : (command : Command) (reply : Reply) → Begins text (commands ++ command ∷ [])
        → stop ≡ stops.Memory → Does peer k command p q (Ok reply)
        → StopsBehind text commands p q stop
    unended : IsAll text commands AtEnd → Does peer k AskEpoch p q (Err stop)
        → StopsBehind text commands p q stop

  -- What was asked for a script, and what was put before its last line, where it ended so: for each
  -- of its commands the reply line; or, at a stop, for each of its first commands.
  abbrev pub Halts : Option (List ℕ) → P → P → Option (List ℕ) → Option (List ℕ) → Ended → Type 0
  Halts text p q old new (Done epoch) =
      (m : P) × (a : Answered p m [] old new) × IsAll text a.commands AtEnd
      × Does peer k AskEpoch m q (Ok (EpochIs epoch))
  Halts text p q old new (BadLine n) =
      (a : Answered p q [] old new) × IsAll text a.commands (BadAt n)
  Halts text p q old new Long = (a : Answered p q [] old new) × IsAll text a.commands TooLong
  Halts text p q old new Unwritten =
      (m : P) × (command : Command) × (reply : Reply) × (n : ℕ)
      × (a : Answered p m (take n (reply_line reply)) old new)
      × Begins text (a.commands ++ command ∷ []) × Does peer k command m q (Ok reply)
  Halts text p q old new (Stopped stop) =
      (m : P) × (a : Answered p m [] old new) × Begins text a.commands
      × StopsBehind text a.commands m q stop

-- ---- the last line

-- This line was put, and the script ended so; or a front of it was put, or memory was refused for
-- it, and the script ended for that.
abbrev pub PutsLine : List ℕ → Ended → Option (List ℕ) → Option (List ℕ) → Ended → Type 0
PutsLine line ended old new result =
    ((result ≡ ended) × Appends old new line)
    ⊎ ((result ≡ Unwritten) × ((n : ℕ) × Appends old new (take n line)))
    ⊎ ((result ≡ Stopped stops.Memory) × Keeps old new)

-- The last line says that the script ended and at which epoch, or where it is bad. After a fault
-- there is none.
abbrev pub Finishes : Ended → Option (List ℕ) → Option (List ℕ) → Ended → Type 0
Finishes (Done epoch) old new result =
    PutsLine (reply_line (EndReply epoch)) (Done epoch) old new result
Finishes (BadLine n) old new result = PutsLine (bad_line n) (BadLine n) old new result
Finishes Long old new result = PutsLine long_line Long old new result
Finishes Unwritten old new result = (result ≡ Unwritten) × Keeps old new
Finishes (Stopped stop) old new result = (result ≡ Stopped stop) × Keeps old new
