-- What was told of the front of a text, said of the place.
use Rattle.std.proofs.Common.{◌≡◌, ℕ, ◌+◌, ◌-◌, ◌≤◌, List, sym, ap, subst, Option, Some, None, Ok, Err}
use Rattle.std.specs.Prelude.{IfSome}
use Rattle.std.specs.Io.KnownBytes.{Consumes}
use Rattle.ov_io.specs.Tells.{SourceTells}
use Rattle.ov_script.specs.declared.ended.Ended.{Ended}
use Rattle.ov_script.specs.declared.ended.Ended.TheVariants.{End, Bad, Long, Fault}
use Rattle.ov_script.specs.declared.item.Item.{Item}
use Rattle.ov_script.specs.declared.next.Next.{Next}
use Rattle.ov_script.specs.declared.next.ScriptFault.{ScriptFault}
use Rattle.ov_script.specs.declared.next.Next.TheVariants.{Command as Next-Command}
use Rattle.ov_script.specs.Feed.{Fed, text_of}
use Rattle.ov_script.specs.Finding.{Tells}
use Rattle.ov_script.specs.Place.{Place, text_left, answer_of}
use Rattle.ov_script.specs.Saying.{Says}
use Rattle.ov_script.specs.Taking.{EndsReading, TakesWhatItNeeds}
use Rattle.ov_script.proofs.Using.{text_used}

-- an item
pub says_item : {S : Type 0} (tells : SourceTells S) (line room : ℕ) (old new : Fed S) (item : Item) → Tells tells room old new (Ok item)
    → IfSome (text_of tells old) (λ text. Says line room text (Next-Command item.command) (line + item.lines) (room - item.size) (text_of tells new))
says_item tells line room old new item (bytes, is, count, within, lfs, uses) = told (text_of tells old) (text_used tells old new bytes uses) where
  told : (x : Option (List ℕ)) → Consumes x (text_of tells new) bytes → IfSome x (λ text. Says line room text (Next-Command item.command) (line + item.lines) (room - item.size) (text_of tells new))
  told None c = tt
  told (Some text) c = (bytes, is, c, subst (λ n. n ≤ room) (sym count) within, ap (λ n. line + n) (sym lfs), ap (λ n. room - n) (sym count))

-- what is said of the fields is said of the place
pub said_at : {S : Type 0} (tells : SourceTells S) (inside place : Place S) (next : Next) (line' room' : ℕ) (rest : Option (List ℕ)) → inside ≡ place
    → IfSome (text_left tells inside) (λ text. Says inside.line inside.room text next line' room' rest)
    → IfSome (text_left tells place) (λ text. Says place.line place.room text next line' room' rest)
said_at tells inside place next line' room' rest e p = subst (λ (q : Place _). IfSome (text_left tells q) (λ text. Says q.line q.room text next line' room' rest)) e p

pub needed_at : {S : Type 0} (tells : SourceTells S) (ended failed : Type 0) (inside place : Place S) (new : S) → inside ≡ place
    → TakesWhatItNeeds tells inside.room inside.pending ended failed inside.source new → TakesWhatItNeeds tells place.room place.pending ended failed place.source new
needed_at tells ended failed inside place new e p = subst (λ (q : Place _). TakesWhatItNeeds tells q.room q.pending ended failed q.source new) e p

-- a fault is answered only where the reading ended with it
pub fault_answered : (line : ℕ) (ended : Ended) (fault : ScriptFault) → answer_of line ended ≡ Err fault → ended ≡ Fault fault
fault_answered line End fault e = absurd (cc)
fault_answered line Bad fault e = absurd (cc)
fault_answered line Long fault e = absurd (cc)
fault_answered line (Fault other) fault e = cc

-- no way that the reading ended is a command
pub ends_reading : (line : ℕ) (ended : Ended) → EndsReading (answer_of line ended)
ends_reading line End = tt
ends_reading line Bad = tt
ends_reading line Long = tt
ends_reading line (Fault other) = tt
