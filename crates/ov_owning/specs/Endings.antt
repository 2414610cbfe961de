-- Why a call by the owner's book ends as it does.
use Rattle.std.specs.Prelude.{◌≡◌, ◌≢◌, ◌⊎◌, ◌≤◌, ℕ, ◌+◌, List, Option, Some, None, IsSome, Result, Ok, Err}
use Rattle.ov_base.specs.Causes.{Rose}
use Rattle.ov_base.specs.declared.mode.Mode.{Mode}
use Rattle.ov_wire.specs.declared.answer.Answer.{Answer}
use Rattle.ov_wire.specs.declared.answer.Answer.TheVariants as answers
use Rattle.ov_wire.specs.declared.answer.Welcome.{Welcome}
use Rattle.ov_peer.specs.declared.fault.ExchangeFault.{ExchangeFault}
use Rattle.ov_peer.specs.declared.fault.ExchangeFault.TheVariants as exchange
use Rattle.ov_acts.specs.declared.stop.Stop.{Stop}
use Rattle.ov_acts.specs.declared.stop.Stop.TheVariants as files
use Rattle.ov_book.specs.declared.fault.BookBegin.{BookBegin}
use Rattle.ov_book.specs.declared.fault.BookBegin.TheVariants as begins
use Rattle.ov_book.specs.Opened.{Opened}
use Rattle.ov_book.specs.Planning.{refusal_to}
use Rattle.ov_book.specs.declared.fault.IntendFault.{IntendFault}
use Rattle.ov_book.specs.declared.fault.IntendFault.TheVariants as intends
use Rattle.ov_book.specs.declared.fault.SettleFault.{SettleFault}
use Rattle.ov_book.specs.declared.fault.SettleFault.TheVariants as settles
use Rattle.ov_book.specs.declared.fault.SpellFault.{SpellFault}
use Rattle.ov_book.specs.declared.fault.SpellFault.TheVariants as spells
use Rattle.ov_book.specs.declared.intent.Intent.{Intent}
use Rattle.ov_owning.specs.declared.stop.OwnStop.{OwnStop}
use Rattle.ov_owning.specs.declared.stop.OwnStop.TheVariants as stops

-- how a call ends: with the epoch, or for this reason
abbrev pub End : Type 0
End = Result ℕ OwnStop

-- the exit status
abbrev pub own_code : OwnStop → ℕ
own_code (stops.Refused why) = 3
own_code stops.Device = 4
own_code stops.Read = 5
own_code stops.Memory = 7
own_code stops.Link = 8
own_code stops.OtherKeys = 9
own_code stops.BadKeys = 10
own_code stops.BadReply = 11
own_code stops.TooLong = 14
own_code (stops.Pending kept) = 15
own_code (stops.Differs told kept) = 16
own_code stops.Disk = 17
own_code stops.NoBook = 18
own_code (stops.ServerRefused why) = 19

-- why a call ends whose files aren't read so
abbrev pub unread : Stop → OwnStop
unread files.BadKeys = stops.BadKeys
unread files.Memory = stops.Memory
unread files.TooLong = stops.TooLong
unread stop = stops.Read

-- why a call ends whose book isn't begun
abbrev pub unbegun : BookBegin → OwnStop
unbegun begins.Disk = stops.Disk
unbegun begins.NotAStore = stops.NoBook
unbegun (begins.Damaged place) = stops.NoBook
unbegun (begins.BaseDiffers stored given) = stops.OtherKeys
unbegun (begins.SurfaceDiffers stored given) = stops.OtherKeys
unbegun (begins.ModeDiffers stored given) = stops.OtherKeys
unbegun begins.Memory = stops.Memory

-- why a call ends whose intent isn't written down
abbrev pub unwritten : ℕ → IntendFault → OwnStop
unwritten kept intends.Pending = stops.Pending kept
unwritten kept (intends.Refused why) = stops.Refused why
unwritten kept intends.Disk = stops.Disk
unwritten kept intends.Failed = stops.Disk
unwritten kept intends.Memory = stops.Memory

-- why a call ends whose update isn't spelled
abbrev pub unspelled : SpellFault → OwnStop
unspelled spells.Disk = stops.Disk
unspelled spells.Memory = stops.Memory

-- why a call ends whose intent isn't settled
abbrev pub unsettled : SettleFault → OwnStop
unsettled (settles.Differs told kept) = stops.Differs told kept
unsettled settles.Disk = stops.Disk
unsettled settles.Failed = stops.Disk
unsettled settles.Memory = stops.Memory

-- why a call ends whose ask has no answer
abbrev pub unanswered : ExchangeFault → OwnStop
unanswered exchange.Link = stops.Link
unanswered (exchange.BadReply place) = stops.BadReply
unanswered exchange.Memory = stops.Memory

-- ---- Hello

-- the store is one of this base master's check value and of this mode
abbrev pub IsOurs : List ℕ → Mode → Welcome → Type 0
IsOurs check mode w = (w.base_check ≡ check) × (w.mode ≡ mode)

-- the epoch that was told in answer to Hello, or why the call ends there
abbrev pub Greeted : List ℕ → Mode → Result Answer ExchangeFault → End → Type 0
Greeted check mode (Ok (answers.Welcome w)) end =
    (IsOurs check mode w × (end ≡ Ok w.epoch))
    ⊎ ((IsOurs check mode w → ⊥) × (end ≡ Err stops.OtherKeys))
Greeted check mode (Ok answers.NoMemory) end = end ≡ Err stops.Memory
Greeted check mode (Ok answer) end = end ≡ Err stops.BadReply
Greeted check mode (Err fault) end = end ≡ Err (unanswered fault)

-- ---- Update

-- the epoch that was made by an Update at this epoch, by its answer, or why the call ends there
abbrev pub made_by : ℕ → Result Answer ExchangeFault → End
made_by kept (Ok (answers.Accepted epoch)) = Ok epoch
made_by kept (Ok (answers.Stale epoch)) = Err (stops.Differs epoch kept)
made_by kept (Ok (answers.Refused why)) = Err (stops.ServerRefused why)
made_by kept (Ok answers.BadTag) = Err stops.OtherKeys
made_by kept (Ok answers.DeviceFault) = Err stops.Device
made_by kept (Ok answers.NoMemory) = Err stops.Memory
made_by kept (Ok answer) = Err stops.BadReply
made_by kept (Err fault) = Err (unanswered fault)

-- the epoch that was told is the one after the book's, which its pending update makes
abbrev pub TellsNext : ℕ → End → Type 0
TellsNext kept told = told ≡ Ok (kept + 1)

-- how a call ends by a book at this epoch that was told, as an epoch that its pending update made,
-- this one: only the next one is settled
abbrev pub SettlesAt : ℕ → ℕ → End → Type 0
SettlesAt kept told (Ok epoch) = (told ≡ kept + 1) × (epoch ≡ told)
SettlesAt kept told (Err (stops.Differs said at)) =
    (told ≢ kept + 1) × (said ≡ told) × (at ≡ kept)
SettlesAt kept told (Err stops.Disk) = told ≡ kept + 1
SettlesAt kept told (Err stops.Memory) = told ≡ kept + 1
SettlesAt kept told (Err stop) = ⊥

-- how a call ends that has sent an Update, by what came of it
abbrev pub EndsSent : ℕ → End → End → Type 0
EndsSent kept (Ok told) end = SettlesAt kept told end
EndsSent kept (Err stop) end = end ≡ Err stop

-- nothing was sent, since the book's disk or memory failed
abbrev pub IsUnsent : End → Type 0
IsUnsent end = (end ≡ Err stops.Disk) ⊎ (end ≡ Err stops.Memory)

-- ---- between

-- an epoch at which the book's update may be sent, or at which it was made already
abbrev pub IsExpected : {D : Type 0} → Opened D → ℕ → Type 0
IsExpected s told =
    (told ≡ s.settled.epoch) ⊎ (IsSome s.pending × (told ≡ s.settled.epoch + 1))

-- How a call ends that was told this epoch and sent no Update, by what is intended: the epoch isn't
-- expected, the machine refuses the intent, or the book's disk or memory failed; or nothing was to
-- be sent, since nothing is pending, or since what is pending was made already.
abbrev pub EndsTold : {D : Type 0} → Opened D → Option Intent → ℕ → End → Type 0
EndsTold s intent told (Ok epoch) =
    (intent ≡ None) × (epoch ≡ told) × (((s.pending ≡ None) × (told ≡ s.settled.epoch))
    ⊎ (IsSome s.pending × (told ≡ s.settled.epoch + 1)))
EndsTold s intent told (Err (stops.Differs said kept)) =
    (IsExpected s told → ⊥) × (said ≡ told) × (kept ≡ s.settled.epoch)
EndsTold s intent told (Err (stops.Refused why)) =
    (told ≡ s.settled.epoch)
    × ((i : Intent) × (intent ≡ Some i) × (refusal_to s.settled i ≡ Some why))
EndsTold s intent told (Err stops.Disk) = IsExpected s told
EndsTold s intent told (Err stops.Memory) = IsExpected s told
EndsTold s intent told (Err stop) = ⊥

-- how a call ends that greeted the server and sent no Update
abbrev pub EndsGreeted : {D : Type 0} → Opened D → Option Intent → End → End → Type 0
EndsGreeted s intent (Ok told) end = EndsTold s intent told end
EndsGreeted s intent (Err stop) end = end ≡ Err stop

-- ---- faults

-- The link failed only where the count of its faults rose, and a call of the book's disk only where
-- that of the disk's did. Memory may be refused at any time. No file is read, and the book is there.
abbrev pub IsOwnCause : {T : Type 0} → ℕ → ℕ → ℕ → ℕ → Result T OwnStop → Type 0
IsOwnCause p q d e (Err stops.Link) = Rose p q
IsOwnCause p q d e (Err stops.Disk) = Rose d e
IsOwnCause p q d e (Err stops.Read) = ⊥
IsOwnCause p q d e (Err stops.BadKeys) = ⊥
IsOwnCause p q d e (Err stops.TooLong) = ⊥
IsOwnCause p q d e (Err stops.NoBook) = ⊥
IsOwnCause p q d e end = Unit {0}

-- no count falls, and a call ended so only where the count rose
pub record HasOwnCause {T : Type 0} (p q d e : ℕ) (end : Result T OwnStop) : Type 0 where
  pub links : p ≤ q
  pub disks : d ≤ e
  pub cause : IsOwnCause p q d e end
