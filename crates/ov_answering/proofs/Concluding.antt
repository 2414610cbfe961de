-- What the last line and the status say of the whole script.
use Rattle.std.proofs.Common.{◌≡◌, ◌⊎◌, inl, inr, ℕ, ◌+◌, List, [], ◌∷◌, ◌++◌, length, take, drop, refl, sym, ◌∙◌, ap, subst, arith, append_assoc, take-append-drop, Option}
use Rattle.std.proofs.Math.Seq.{take-append-add, take-append_seam}
use Rattle.std.specs.Io.KnownBytes.{Appends, Keeps}
use Rattle.std.proofs.KnownBytes.{Appends-trans, Appends-kept, Appends-nil}
use Rattle.std.proofs.lemmas.List.{append-nil}
use Rattle.ov_base.specs.declared.limits.TheConstants.{MAX_SCRIPT_BYTES}
use Rattle.ov_disk.specs.Tells.{DiskTells}
use Rattle.ov_script.specs.declared.command.Command.{Command}
use Rattle.ov_script.specs.declared.reply.Reply.TheVariants.{End as EndReply}
use Rattle.ov_script.specs.Lines.{reply_line}
use Rattle.ov_script.specs.Reading.{IsScript, BeginsScript, Ending, AtEnd, BadAt, TooLong}
use Rattle.ov_script.proofs.Readings.{one_reading, Reads-begins}
use Rattle.ov_history.specs.History.{epoch_of}
use Rattle.ov_history.specs.Masters.{Masters}
use Rattle.ov_history.specs.Plain.{PlainHistory, history_of}
use Rattle.ov_model.specs.Lines.{lines}
use Rattle.ov_model.specs.Step.{after_all, reply_to}
use Rattle.ov_model.proofs.Runs.{lines-more}
use Rattle.ov_report.specs.Ends.{EndsIn, EndsOr}
use Rattle.ov_report.specs.Faults.{disk_line, memory_line}
use Rattle.ov_machine.specs.Machine.{KeptOn}
use Rattle.ov_machine.proofs.Stepping.{shows}
use Rattle.ov_answering.specs.Answering.{AnsweredAll, AnsweredFirst, AnsweredPart, Finishes, Stops}
use Rattle.ov_answering.specs.Ending.{Concluded, whole, part}
use Rattle.ov_answering.specs.Printing.{Outcome, Answered, DiskFault, ReadFault, OutOfMemory, status_of, last_line, read_line, IsPrinted, Prints, PrintsFront, IsFault}
use Rattle.ov_answering.specs.declared.answer.Stop.{Stop}
use Rattle.ov_answering.specs.declared.answer.Stop.TheVariants.{End, BadLine, Long, Read, Write, Disk, Trace, Memory, Tag}

-- the lines so far and then the last one
then_last : (h : PlainHistory) → (text first last : List ℕ) (outcome : Outcome) (code : ℕ) (old mid new : Option (List ℕ)) (status : ℕ)
    → IsPrinted h text outcome (first ++ last) → code ≡ status_of outcome → Appends old mid first → EndsIn last code mid new status → Concluded h text old new status
then_last h text first last outcome code old mid new status is e p (inl q) =
    whole outcome (q.0 ∙ e) (first ++ last, is, Appends-trans old mid new first last p q.1)
then_last h text first last outcome code old mid new status is e p (inr q) =
    let front : take (length first + q.1.0) (first ++ last) ≡ first ++ take q.1.0 last = take-append-add first last q.1.0 in
    part q.0 (outcome, first ++ last, is, (length first + q.1.0, subst (Appends old new) (sym front) (Appends-trans old mid new first (take q.1.0 last) p q.1.1)))

-- the commands of a reading are its first
pub first_of : (text : List ℕ) (commands : List Command) (ending : Ending) → IsScript text commands ending → BeginsScript text commands
first_of text commands ending reads = Reads-begins 1 MAX_SCRIPT_BYTES text commands ending reads

-- a front of the lines is a front of what a read fault prints
part_of : (h : PlainHistory) (text : List ℕ) (commands : List Command) → BeginsScript text commands → (n : ℕ) (old new : Option (List ℕ)) (status : ℕ) → status ≡ 6
    → Appends old new (take n (lines h commands)) → Concluded h text old new status
part_of h text commands begins n old new status six puts =
    let all = lines h commands in
    let split : all ++ read_line ≡ take n all ++ (drop n all ++ read_line) =
    ap (λ l. l ++ read_line) (sym (take-append-drop n all)) ∙ append_assoc (take n all) (drop n all) read_line in
    let front : take (length (take n all)) (all ++ read_line) ≡ take n all =
    ap (take (length (take n all))) split ∙ take-append_seam (take n all) (drop n all ++ read_line) in
    part six (ReadFault, all ++ read_line, (commands, begins, refl), (length (take n all), subst (Appends old new) (sym front) puts))

module _ {D : Type 0} (tells : DiskTells D) (k : Masters) (h : PlainHistory) (text : List ℕ)
    (old mid new : Option (List ℕ)) (first last : KeptOn D) (status : ℕ) where
  whole_or : (end : List ℕ) (ending : Ending) (a : AnsweredAll tells k h text ending old mid first last)
      → end ≡ last_line (after_all h a.commands) ending → EndsOr end (status_of (Answered ending)) mid new status → Concluded h text old new status
  whole_or end ending a e (inl q) =
      then_last h text (lines h a.commands) end (Answered ending) (status_of (Answered ending)) old mid new status
      (a.commands, a.read, ap (λ l. lines h a.commands ++ l) e) refl a.put q
  whole_or end ending a e (inr q) =
      then_last h text (lines h a.commands) memory_line OutOfMemory 7 old mid new status (a.commands, first_of text a.commands ending a.read, refl) refl a.put q

  first_in : (end : List ℕ) (outcome : Outcome) (a : AnsweredFirst tells k h text old mid first last)
      → ((commands : List Command) → BeginsScript text commands → IsPrinted h text outcome (lines h commands ++ end))
      → EndsIn end (status_of outcome) mid new status → Concluded h text old new status
  first_in end outcome a printed q = then_last h text (lines h a.commands) end outcome (status_of outcome) old mid new status (printed a.commands a.begins) refl a.put q

  -- no last line was put
  first_only : AnsweredFirst tells k h text old mid first last → status ≡ 6 → Keeps mid new → Concluded h text old new status
  first_only a six kept =
      let all = lines h a.commands in
      let front : take (length all + 0) (all ++ []) ≡ all ++ take 0 [] = take-append-add all [] 0 in
      let whole : take (length all + 0) all ≡ all =
      ap (take (length all + 0)) (sym (append-nil all)) ∙ front ∙ append-nil all in
      part_of h text a.commands a.begins (length all + 0) old new status six
      (subst (Appends old new) (sym whole) (Appends-kept old mid new all a.put kept))

  part_in : AnsweredPart tells k h text old mid first last → status ≡ 6 → Keeps mid new → Concluded h text old new status
  part_in a six kept =
      let line = reply_line (reply_to (after_all h a.commands) a.next) in
      let all = lines h a.commands in
      let front : take (length all + a.count) (lines h (a.commands ++ a.next ∷ [])) ≡ all ++ take a.count line =
      ap (take (length all + a.count)) (lines-more h a.commands a.next) ∙ take-append-add all line a.count in
      part_of h text (a.commands ++ a.next ∷ []) a.begins_next (length all + a.count) old new status six
      (subst (Appends old new) (sym front) (Appends-kept old mid new (all ++ take a.count line) a.put kept))

  pub concluded_at : (stop : Stop) (n : ℕ) → Stops tells k h text stop old mid first last → Finishes stop n mid new status
      → n ≡ last.kept.catalogue.epoch → Concluded h text old new status
  concluded_at End n a f count =
      let same : n ≡ epoch_of (history_of (after_all h a.commands)) = count ∙ (shows last.kept (after_all h a.commands) a.stands).epoch in
      whole_or (reply_line (EndReply n)) AtEnd a (ap (λ m. reply_line (EndReply m)) same) f
  concluded_at (BadLine m) n a f count = whole_or (last_line h (BadAt m)) (BadAt m) a refl f
  concluded_at Long n a f count = whole_or (last_line h TooLong) TooLong a refl (inl f)
  concluded_at Read n a f count = first_in read_line ReadFault a (λ commands begins. (commands, begins, refl)) f
  concluded_at Disk n a f count = first_in disk_line DiskFault a (λ commands begins. (commands, begins, refl)) f
  concluded_at Memory n a f count = first_in memory_line OutOfMemory a (λ commands begins. (commands, begins, refl)) f
  concluded_at Write n a f count = part_in a f.0 f.1
  concluded_at Trace n a f count = first_only a f.0 f.1
  concluded_at (Tag bad) n a f count = absurd a

-- nothing of the script was taken: a line alone
pub at_once : (h : PlainHistory) (text line : List ℕ) (outcome : Outcome) (old new : Option (List ℕ)) (status : ℕ) → IsPrinted h text outcome line
    → EndsIn line (status_of outcome) old new status → Concluded h text old new status
at_once h text line outcome old new status printed e = then_last h text [] line outcome (status_of outcome) old old new status printed refl (Appends-nil old) e

-- no command of a script
pub none_read : (text : List ℕ) → BeginsScript text []
none_read text = (1, MAX_SCRIPT_BYTES, text, (refl, refl, refl))

pub read_printed : (h : PlainHistory) (text : List ℕ) → IsPrinted h text ReadFault read_line
read_printed h text = ([], none_read text, refl)

pub disk_printed : (h : PlainHistory) (text : List ℕ) → IsPrinted h text DiskFault disk_line
disk_printed h text = ([], none_read text, refl)

pub memory_printed : (h : PlainHistory) (text : List ℕ) → IsPrinted h text OutOfMemory memory_line
memory_printed h text = ([], none_read text, refl)

-- ---- by status

pub is_done : (h : PlainHistory) (text : List ℕ) (old new : Option (List ℕ)) (status : ℕ) → status ≡ 0 → Concluded h text old new status → Prints h text (Answered AtEnd) old new
is_done h text old new status e (whole (Answered AtEnd) s p) = p
is_done h text old new status e (whole (Answered (BadAt n)) s p) = absurd (omega arith)
is_done h text old new status e (whole (Answered TooLong) s p) = absurd (omega arith)
is_done h text old new status e (whole DiskFault s p) = absurd (omega arith)
is_done h text old new status e (whole ReadFault s p) = absurd (omega arith)
is_done h text old new status e (whole OutOfMemory s p) = absurd (omega arith)
is_done h text old new status e (part s p) = absurd (omega arith)

pub is_bad : (h : PlainHistory) (text : List ℕ) (old new : Option (List ℕ)) (status : ℕ) → status ≡ 3 → Concluded h text old new status → (n : ℕ) × Prints h text (Answered (BadAt n)) old new
is_bad h text old new status e (whole (Answered AtEnd) s p) = absurd (omega arith)
is_bad h text old new status e (whole (Answered (BadAt n)) s p) = (n, p)
is_bad h text old new status e (whole (Answered TooLong) s p) = absurd (omega arith)
is_bad h text old new status e (whole DiskFault s p) = absurd (omega arith)
is_bad h text old new status e (whole ReadFault s p) = absurd (omega arith)
is_bad h text old new status e (whole OutOfMemory s p) = absurd (omega arith)
is_bad h text old new status e (part s p) = absurd (omega arith)

pub is_long : (h : PlainHistory) (text : List ℕ) (old new : Option (List ℕ)) (status : ℕ) → status ≡ 11 → Concluded h text old new status → Prints h text (Answered TooLong) old new
is_long h text old new status e (whole (Answered AtEnd) s p) = absurd (omega arith)
is_long h text old new status e (whole (Answered (BadAt n)) s p) = absurd (omega arith)
is_long h text old new status e (whole (Answered TooLong) s p) = p
is_long h text old new status e (whole DiskFault s p) = absurd (omega arith)
is_long h text old new status e (whole ReadFault s p) = absurd (omega arith)
is_long h text old new status e (whole OutOfMemory s p) = absurd (omega arith)
is_long h text old new status e (part s p) = absurd (omega arith)

pub is_disk : (h : PlainHistory) (text : List ℕ) (old new : Option (List ℕ)) (status : ℕ) → status ≡ 4 → Concluded h text old new status → Prints h text DiskFault old new
is_disk h text old new status e (whole (Answered AtEnd) s p) = absurd (omega arith)
is_disk h text old new status e (whole (Answered (BadAt n)) s p) = absurd (omega arith)
is_disk h text old new status e (whole (Answered TooLong) s p) = absurd (omega arith)
is_disk h text old new status e (whole DiskFault s p) = p
is_disk h text old new status e (whole ReadFault s p) = absurd (omega arith)
is_disk h text old new status e (whole OutOfMemory s p) = absurd (omega arith)
is_disk h text old new status e (part s p) = absurd (omega arith)

pub is_read : (h : PlainHistory) (text : List ℕ) (old new : Option (List ℕ)) (status : ℕ) → status ≡ 5 → Concluded h text old new status → Prints h text ReadFault old new
is_read h text old new status e (whole (Answered AtEnd) s p) = absurd (omega arith)
is_read h text old new status e (whole (Answered (BadAt n)) s p) = absurd (omega arith)
is_read h text old new status e (whole (Answered TooLong) s p) = absurd (omega arith)
is_read h text old new status e (whole DiskFault s p) = absurd (omega arith)
is_read h text old new status e (whole ReadFault s p) = p
is_read h text old new status e (whole OutOfMemory s p) = absurd (omega arith)
is_read h text old new status e (part s p) = absurd (omega arith)

pub is_memory : (h : PlainHistory) (text : List ℕ) (old new : Option (List ℕ)) (status : ℕ) → status ≡ 7 → Concluded h text old new status → Prints h text OutOfMemory old new
is_memory h text old new status e (whole (Answered AtEnd) s p) = absurd (omega arith)
is_memory h text old new status e (whole (Answered (BadAt n)) s p) = absurd (omega arith)
is_memory h text old new status e (whole (Answered TooLong) s p) = absurd (omega arith)
is_memory h text old new status e (whole DiskFault s p) = absurd (omega arith)
is_memory h text old new status e (whole ReadFault s p) = absurd (omega arith)
is_memory h text old new status e (whole OutOfMemory s p) = p
is_memory h text old new status e (part s p) = absurd (omega arith)

not_six : (outcome : Outcome) → status_of outcome ≡ 6 → ⊥
not_six (Answered AtEnd) e = absurd (omega arith)
not_six (Answered (BadAt n)) e = absurd (omega arith)
not_six (Answered TooLong) e = absurd (omega arith)
not_six DiskFault e = absurd (omega arith)
not_six ReadFault e = absurd (omega arith)
not_six OutOfMemory e = absurd (omega arith)

pub is_write : (h : PlainHistory) (text : List ℕ) (old new : Option (List ℕ)) (status : ℕ) → status ≡ 6 → Concluded h text old new status → PrintsFront h text old new
is_write h text old new status e (whole outcome s p) = absurd (not_six outcome (sym s ∙ e))
is_write h text old new status e (part s p) = p

-- ---- the script decides

pub exact : (h : PlainHistory) (text : List ℕ) (old new : Option (List ℕ)) (status : ℕ) → Concluded h text old new status → (commands : List Command) (ending : Ending) → IsScript text commands ending
    → (status ≡ status_of (Answered ending)) ⊎ IsFault status
exact h text old new status (whole (Answered other) s p) commands ending reads =
    let same : other ≡ ending = (one_reading 1 MAX_SCRIPT_BYTES text p.1.0 commands other ending p.1.1 reads).1 in
    inl (s ∙ ap (λ e. status_of (Answered e)) same)
exact h text old new status (whole DiskFault s p) commands ending reads = inr (inr (inr (inr s)))
exact h text old new status (whole ReadFault s p) commands ending reads = inr (inl s)
exact h text old new status (whole OutOfMemory s p) commands ending reads = inr (inr (inr (inl s)))
exact h text old new status (part s p) commands ending reads = inr (inr (inl s))

-- where nothing fails, only memory is left
pub complete : (status wanted : ℕ) → (status ≡ wanted) ⊎ IsFault status → (status ≡ 4 → ⊥) → (status ≡ 5 → ⊥) → (status ≡ 6 → ⊥) → (status ≡ wanted) ⊎ (status ≡ 7)
complete status wanted (inl same) no_disk no_read no_write = inl same
complete status wanted (inr (inl five)) no_disk no_read no_write = absurd (no_read five)
complete status wanted (inr (inr (inl six))) no_disk no_read no_write = absurd (no_write six)
complete status wanted (inr (inr (inr (inl seven)))) no_disk no_read no_write = inr seven
complete status wanted (inr (inr (inr (inr four)))) no_disk no_read no_write = absurd (no_disk four)

pub neither : (A B : Type 0) → (A → ⊥) → (B → ⊥) → A ⊎ B → ⊥
neither A B a b (inl x) = a x
neither A B a b (inr y) = b y
