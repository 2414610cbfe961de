-- What a script says of the end of a run over it: by its last line, and where nothing of it was taken.
use Rattle.std.proofs.Common.{◌≡◌, inl, inr, ℕ, ◌+◌, ◌-◌, List, [], ◌∷◌, ◌++◌, length, refl, sym, subst, arith, Option, Some, None}
use Rattle.std.specs.Prelude.{IfSome}
use Rattle.std.specs.Io.KnownBytes.{Appends, prepend_known}
use Rattle.ov_base.specs.declared.limits.TheConstants.{MAX_SCRIPT_BYTES}
use Rattle.ov_script.specs.declared.command.Command.{Command}
use Rattle.ov_script.specs.declared.command.Command.TheVariants.{Read as AskRead}
use Rattle.ov_script.specs.declared.reply.Reply.TheVariants.{End as EndReply}
use Rattle.ov_script.specs.LineFeeds.{lf_count}
use Rattle.ov_script.specs.Lines.{reply_line}
use Rattle.ov_script.specs.Reading.{BeginsWith, Ending, AtEnd, BadAt, TooLong}
use Rattle.ov_script.proofs.Readings.{Reads-begins}
use Rattle.ov_store.specs.declared.fault.BeginFault.{BeginFault}
use Rattle.ov_store.specs.declared.fault.BeginFault.TheVariants.{Disk as BeginDisk, NotAStore, Damaged, BaseDiffers, SurfaceDiffers, ModeDiffers, Memory as BeginMemory}
use Rattle.ov_report.specs.Ends.{EndsIn, EndsOr}
use Rattle.ov_report.specs.Faults.{disk_line, fault_line, fault_status, memory_line}
use Rattle.ov_machine.specs.Machine.{AreOtherTags}
use Rattle.ov_machine.specs.declared.fault.BadTag.{BadTag}
use Rattle.ov_answering.specs.Answering.{Finishes}
use Rattle.ov_answering.specs.ByScript.{EndsAmid, EndsAt, EndsAtRead, EndsByScript, StopsByScript}
use Rattle.ov_answering.specs.Faults.{tag_line}
use Rattle.ov_answering.specs.Printing.{bad_line, keys_line, long_line, read_line, usage_line}
use Rattle.ov_answering.specs.declared.answer.Stop.{Stop}
use Rattle.ov_answering.specs.declared.answer.Stop.TheVariants.{End, BadLine, Long, Read, Write, Disk, Trace, Memory, Tag}
use Rattle.ov_answering.proofs.ByScript.{none_put_yet, then_put}

-- ---- the last line

-- Of a code that is none of a script, of the disk, of a read or of memory the script says nothing.
by_other : (text : List ℕ) (code : ℕ) (old new : Option (List ℕ)) → (code ≡ 0 → ⊥) → (code ≡ 3 → ⊥) → (code ≡ 11 → ⊥) → (code ≡ 12 → ⊥)
    → (code ≡ 4 → ⊥) → (code ≡ 5 → ⊥) → (code ≡ 7 → ⊥) → EndsByScript text code old new
by_other text code old new zero three eleven twelve four five seven = record {
  done = λ e. absurd (zero e);
  bad_line = λ e. absurd (three e);
  long = λ e. absurd (eleven e);
  tag = λ e. absurd (twelve e);
  disk = λ e. absurd (four e);
  read = λ e. absurd (five e);
  memory = λ e. absurd (seven e);
}

by_six : (text : List ℕ) (old new : Option (List ℕ)) → EndsByScript text 6 old new
by_six text old new =
    by_other text 6 old new (λ e. omega arith) (λ e. omega arith) (λ e. omega arith) (λ e. omega arith) (λ e. omega arith) (λ e. omega arith) (λ e. omega arith)

by_disk : (text : List ℕ) (old new : Option (List ℕ)) → EndsAmid text disk_line old new → EndsByScript text 4 old new
by_disk text old new amid = record {
  done = λ e. absurd (omega arith);
  bad_line = λ e. absurd (omega arith);
  long = λ e. absurd (omega arith);
  tag = λ e. absurd (omega arith);
  disk = λ _. amid;
  read = λ e. absurd (omega arith);
  memory = λ e. absurd (omega arith);
}

by_read : (text : List ℕ) (old new : Option (List ℕ)) → EndsAmid text read_line old new → EndsByScript text 5 old new
by_read text old new amid = record {
  done = λ e. absurd (omega arith);
  bad_line = λ e. absurd (omega arith);
  long = λ e. absurd (omega arith);
  tag = λ e. absurd (omega arith);
  disk = λ e. absurd (omega arith);
  read = λ _. amid;
  memory = λ e. absurd (omega arith);
}

by_memory : (text : List ℕ) (old new : Option (List ℕ)) → EndsAmid text memory_line old new → EndsByScript text 7 old new
by_memory text old new amid = record {
  done = λ e. absurd (omega arith);
  bad_line = λ e. absurd (omega arith);
  long = λ e. absurd (omega arith);
  tag = λ e. absurd (omega arith);
  disk = λ e. absurd (omega arith);
  read = λ e. absurd (omega arith);
  memory = λ _. amid;
}

by_end : (text : List ℕ) (old new : Option (List ℕ)) (epoch : ℕ) → EndsAt text AtEnd (reply_line (EndReply epoch)) old new → EndsByScript text 0 old new
by_end text old new epoch at = record {
  done = λ _. (epoch, at);
  bad_line = λ e. absurd (omega arith);
  long = λ e. absurd (omega arith);
  tag = λ e. absurd (omega arith);
  disk = λ e. absurd (omega arith);
  read = λ e. absurd (omega arith);
  memory = λ e. absurd (omega arith);
}

by_bad_line : (text : List ℕ) (old new : Option (List ℕ)) (n : ℕ) → EndsAt text (BadAt n) (bad_line n) old new → EndsByScript text 3 old new
by_bad_line text old new n at = record {
  done = λ e. absurd (omega arith);
  bad_line = λ _. (n, at);
  long = λ e. absurd (omega arith);
  tag = λ e. absurd (omega arith);
  disk = λ e. absurd (omega arith);
  read = λ e. absurd (omega arith);
  memory = λ e. absurd (omega arith);
}

by_long : (text : List ℕ) (old new : Option (List ℕ)) → EndsAt text TooLong long_line old new → EndsByScript text 11 old new
by_long text old new at = record {
  done = λ e. absurd (omega arith);
  bad_line = λ e. absurd (omega arith);
  long = λ _. at;
  tag = λ e. absurd (omega arith);
  disk = λ e. absurd (omega arith);
  read = λ e. absurd (omega arith);
  memory = λ e. absurd (omega arith);
}

by_tag : (text : List ℕ) (old new : Option (List ℕ)) (bad : BadTag) → AreOtherTags bad → EndsAtRead text bad.file (tag_line bad) old new → EndsByScript text 12 old new
by_tag text old new bad differ at = record {
  done = λ e. absurd (omega arith);
  bad_line = λ e. absurd (omega arith);
  long = λ e. absurd (omega arith);
  tag = λ _. (bad, differ, at);
  disk = λ e. absurd (omega arith);
  read = λ e. absurd (omega arith);
  memory = λ e. absurd (omega arith);
}

-- the whole line was put, or the write of it failed
ends_in : (text : List ℕ) (old mid new : Option (List ℕ)) (line : List ℕ) (code status : ℕ) → (Appends mid new line → EndsByScript text code old new)
    → EndsIn line code mid new status → EndsByScript text status old new
ends_in text old mid new line code status then (inl (is, put)) = subst (λ (n : ℕ). EndsByScript text n old new) (sym is) (then put)
ends_in text old mid new line code status then (inr (is, part)) = subst (λ (n : ℕ). EndsByScript text n old new) (sym is) (by_six text old new)

-- ---- the end of a run

-- what begins with these commands and one more begins with these
begins_front : (line room : ℕ) (text : List ℕ) (commands : List Command) (next : Command) (line' room' : ℕ) (rest : List ℕ)
    → BeginsWith line room text (commands ++ next ∷ []) line' room' rest
    → (line'' room'' : ℕ) × (rest' : List ℕ) × BeginsWith line room text commands line'' room'' rest'
begins_front line room text [] next line' room' rest b = (line, room, text, (refl, refl, refl))
begins_front line room text (c ∷ commands) next line' room' rest b =
    let more = begins_front (line + lf_count b.0) (room - length b.0) b.1 commands next line' room' rest b.5 in
    (more.0, more.1, more.2, (b.0, b.1, b.2, b.3, b.4, more.3))

module _ (text : List ℕ) (old mid new : Option (List ℕ)) (status : ℕ) where
  amid_then : (line : List ℕ) → EndsAmid text [] old mid → Appends mid new line → EndsAmid text line old new
  amid_then line (commands, begins, put) more = (commands, begins, then_put commands line old mid new put more)

  at_then : (ending : Ending) (line : List ℕ) → EndsAt text ending [] old mid → Appends mid new line → EndsAt text ending line old new
  at_then ending line (commands, reads, put) more = (commands, reads, then_put commands line old mid new put more)

  read_then : (file line : List ℕ) → EndsAtRead text file [] old mid → Appends mid new line → EndsAtRead text file line old new
  read_then file line (commands, user, begins, put) more = (commands, user, begins, then_put commands line old mid new put more)

  -- the first commands of a whole script, and of one that goes on with a read
  amid_of : (ending : Ending) → EndsAt text ending [] old mid → EndsAmid text [] old mid
  amid_of ending (commands, reads, put) = (commands, Reads-begins 1 MAX_SCRIPT_BYTES text commands ending reads, put)

  amid_before : (file : List ℕ) → EndsAtRead text file [] old mid → EndsAmid text [] old mid
  amid_before file (commands, user, begins, put) =
      (commands, begins_front 1 MAX_SCRIPT_BYTES text commands (AskRead user file) begins.0 begins.1 begins.2 begins.3, put)

  in_memory : EndsAmid text [] old mid → EndsIn memory_line 7 mid new status → EndsByScript text status old new
  in_memory amid = ends_in text old mid new memory_line 7 status (λ put. by_memory text old new (amid_then memory_line amid put))

  in_write : status ≡ 6 → EndsByScript text status old new
  in_write six = subst (λ (n : ℕ). EndsByScript text n old new) (sym six) (by_six text old new)

  by_stop : (stop : Stop) (n : ℕ) → StopsByScript text stop old mid → Finishes stop n mid new status
      → ((bad : BadTag) → stop ≡ Tag bad → AreOtherTags bad) → EndsByScript text status old new
  by_stop End n at (inl e) tag =
      ends_in text old mid new (reply_line (EndReply n)) 0 status (λ put. by_end text old new n (at_then AtEnd (reply_line (EndReply n)) at put)) e
  by_stop End n at (inr e) tag = in_memory (amid_of AtEnd at) e
  by_stop (BadLine m) n at (inl e) tag =
      ends_in text old mid new (bad_line m) 3 status (λ put. by_bad_line text old new m (at_then (BadAt m) (bad_line m) at put)) e
  by_stop (BadLine m) n at (inr e) tag = in_memory (amid_of (BadAt m) at) e
  by_stop Long n at e tag = ends_in text old mid new long_line 11 status (λ put. by_long text old new (at_then TooLong long_line at put)) e
  by_stop Read n amid e tag = ends_in text old mid new read_line 5 status (λ put. by_read text old new (amid_then read_line amid put)) e
  by_stop Disk n amid e tag = ends_in text old mid new disk_line 4 status (λ put. by_disk text old new (amid_then disk_line amid put)) e
  by_stop Memory n amid e tag = in_memory amid e
  by_stop Write n at (six, same) tag = in_write six
  by_stop Trace n amid (six, same) tag = in_write six
  by_stop (Tag bad) n at (inl e) tag =
      ends_in text old mid new (tag_line bad) 12 status (λ put. by_tag text old new bad (tag bad refl) (read_then bad.file (tag_line bad) at put)) e
  by_stop (Tag bad) n at (inr e) tag = in_memory (amid_before bad.file at) e

-- nothing of the script was taken before
pub finish_by_script : (input old mid new : Option (List ℕ)) (stop : Stop) (n status : ℕ) → IfSome (prepend_known [] input) (λ text. StopsByScript text stop old mid)
    → Finishes stop n mid new status → ((bad : BadTag) → stop ≡ Tag bad → AreOtherTags bad) → IfSome input (λ text. EndsByScript text status old new)
finish_by_script None old mid new stop n status at ends tag = tt
finish_by_script (Some text) old mid new stop n status at ends tag = by_stop text old mid new status stop n at ends tag

-- ---- runs that take nothing of the script

none_taken : (text : List ℕ) (out : Option (List ℕ)) → EndsAmid text [] out out
none_taken text out = ([], (1, MAX_SCRIPT_BYTES, text, (refl, refl, refl)), none_put_yet out)

each_text : (input : Option (List ℕ)) (P : List ℕ → Type 0) → ((text : List ℕ) → P text) → IfSome input P
each_text None P all = tt
each_text (Some text) P all = all text

module _ (input old new : Option (List ℕ)) (status : ℕ) where
  abbrev AreEnds : Type 0
  AreEnds = IfSome input (λ text. EndsByScript text status old new)

  -- a line with this code, of which the script says nothing
  other_at_once : (line : List ℕ) (code : ℕ) → ((text : List ℕ) → EndsByScript text code old new) → EndsIn line code old new status → AreEnds
  other_at_once line code says e =
      each_text input (λ text. EndsByScript text status old new) (λ text. ends_in text old old new line code status (λ put. says text) e)

  pub memory_at_once : EndsIn memory_line 7 old new status → AreEnds
  memory_at_once e =
      each_text input (λ text. EndsByScript text status old new) (λ text. in_memory text old old new status (none_taken text old) e)

  pub read_at_once : EndsIn read_line 5 old new status → AreEnds
  read_at_once e =
      each_text input (λ text. EndsByScript text status old new) (λ text.
      ends_in text old old new read_line 5 status (λ put. by_read text old new (amid_then text old old new status read_line (none_taken text old) put)) e)

  disk_at_once : EndsIn disk_line 4 old new status → AreEnds
  disk_at_once e =
      each_text input (λ text. EndsByScript text status old new) (λ text.
      ends_in text old old new disk_line 4 status (λ put. by_disk text old new (amid_then text old old new status disk_line (none_taken text old) put)) e)

  pub keys_at_once : EndsIn keys_line 10 old new status → AreEnds
  keys_at_once = other_at_once keys_line 10 (λ text.
      by_other text 10 old new (λ e. omega arith) (λ e. omega arith) (λ e. omega arith) (λ e. omega arith) (λ e. omega arith) (λ e. omega arith) (λ e. omega arith))

  pub usage_at_once : EndsIn usage_line 2 old new status → AreEnds
  usage_at_once = other_at_once usage_line 2 (λ text.
      by_other text 2 old new (λ e. omega arith) (λ e. omega arith) (λ e. omega arith) (λ e. omega arith) (λ e. omega arith) (λ e. omega arith) (λ e. omega arith))

  eight_at_once : (line : List ℕ) → EndsIn line 8 old new status → AreEnds
  eight_at_once line = other_at_once line 8 (λ text.
      by_other text 8 old new (λ e. omega arith) (λ e. omega arith) (λ e. omega arith) (λ e. omega arith) (λ e. omega arith) (λ e. omega arith) (λ e. omega arith))

  nine_at_once : (line : List ℕ) → EndsIn line 9 old new status → AreEnds
  nine_at_once line = other_at_once line 9 (λ text.
      by_other text 9 old new (λ e. omega arith) (λ e. omega arith) (λ e. omega arith) (λ e. omega arith) (λ e. omega arith) (λ e. omega arith) (λ e. omega arith))

  by_line : (fault : BeginFault) → EndsIn (fault_line fault) (fault_status fault) old new status → AreEnds
  by_line BeginDisk e = disk_at_once e
  by_line NotAStore e = eight_at_once (fault_line NotAStore) e
  by_line (Damaged area place) e = eight_at_once (fault_line (Damaged area place)) e
  by_line (BaseDiffers stored given) e = nine_at_once (fault_line (BaseDiffers stored given)) e
  by_line (SurfaceDiffers stored given) e = nine_at_once (fault_line (SurfaceDiffers stored given)) e
  by_line (ModeDiffers stored given) e = nine_at_once (fault_line (ModeDiffers stored given)) e
  by_line BeginMemory e = memory_at_once e

  -- the disk didn't open
  pub fault_at_once : (fault : BeginFault) → EndsOr (fault_line fault) (fault_status fault) old new status → AreEnds
  fault_at_once fault (inl e) = by_line fault e
  fault_at_once fault (inr e) = memory_at_once e
