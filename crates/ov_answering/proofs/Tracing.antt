-- What is put to the sink of frames, command by command.
use Rattle.std.proofs.Common.{◌≡◌, ◌⊎◌, inl, inr, ℕ, ◌+◌, ◌-◌, ◌≤◌, List, [], ◌∷◌, ◌++◌, length, take, refl, sym, ◌∙◌, ap, subst, arith, append_assoc, Option, Some, None}
use Rattle.std.specs.Prelude.{IfSome}
use Rattle.std.specs.Io.KnownBytes.{Appends, Keeps, prepend_known}
use Rattle.std.proofs.KnownBytes.{Appends-trans, Appends-kept, Appends-nil}
use Rattle.std.proofs.lemmas.List.{append-nil}
use Rattle.ov_base.specs.declared.limits.TheConstants.{MAX_SCRIPT_BYTES}
use Rattle.ov_script.specs.declared.command.Command.{Command}
use Rattle.ov_script.specs.declared.command.Command.TheVariants.{Epoch as AskEpoch}
use Rattle.ov_script.specs.declared.next.Next.TheVariants.{Command as Next-Command}
use Rattle.ov_script.specs.declared.reply.Reply.{Reply}
use Rattle.ov_script.specs.Items.{IsItem}
use Rattle.ov_script.specs.LineFeeds.{lf_count}
use Rattle.ov_script.specs.Lines.{reply_line}
use Rattle.ov_script.specs.Reading.{Reads, IsScript, BeginsScript, BeginsWith, Ending, AtEnd, BadAt, TooLong}
use Rattle.ov_script.specs.Saying.{Says}
use Rattle.ov_script.proofs.Readings.{BeginsWith-more, BeginsWith-ends}
use Rattle.ov_history.specs.Masters.{Masters}
use Rattle.ov_history.specs.Plain.{PlainHistory}
use Rattle.ov_model.specs.Lines.{lines}
use Rattle.ov_model.specs.Step.{after, after_all, reply_to}
use Rattle.ov_model.proofs.Runs.{after_all-more, lines-more}
use Rattle.ov_report.specs.Ends.{EndsIn, EndsOr}
use Rattle.ov_report.specs.Faults.{disk_line, memory_line}
use Rattle.ov_transcript.specs.Transcripts.{Transcribed, Transcripts}
use Rattle.ov_machine.specs.Frames.{BreaksOff, TranscribesFront, Transcribes}
use Rattle.ov_machine.specs.Machine.{Kept, StandsFor}
use Rattle.ov_machine.specs.declared.fault.StepFault.{StepFault}
use Rattle.ov_machine.specs.declared.fault.StepFault.TheVariants.{Disk as NoDisk, Memory as NoMemory, Tag as WrongTag, Trace as NoTrace}
use Rattle.ov_machine.proofs.Transcripts.{front_of, whole_is_front}
use Rattle.ov_answering.specs.Answering.{Finishes, PutsOr, stop_for}
use Rattle.ov_answering.specs.Lasting.{HasAnswered}
use Rattle.ov_answering.specs.Printing.{read_line}
use Rattle.ov_answering.specs.Tracing.{TracedAll, TracedFirst, TracedPart, TracedSoFar, TracesAs, TracesLine, TracesSoFar, TracesTo, TranscribesAll, TranscribesFirst, asked_by}
use Rattle.ov_answering.specs.declared.answer.Stop.{Stop}
use Rattle.ov_answering.specs.declared.answer.Stop.TheVariants.{End, BadLine, Long, Read, Write, Disk, Trace, Memory, Tag}
use Rattle.ov_answering.proofs.Answering.{kept}
use Rattle.ov_answering.proofs.Concluding.{first_of}
use Rattle.ov_answering.proofs.Statuses.{not_code_or}
use Rattle.ov_answering.proofs.Surviving.{answered_error, answered_whole, front_put, none_put, part_answered, some_put}

-- ---- transcripts

-- the transcripts of some commands and of one more
one_more : (k : Masters) (p : PlainHistory) (commands : List Command) (command : Command) (bytes one : List ℕ)
    → Transcripts k p commands bytes → Transcribed k (after_all p commands) command one → Transcripts k p (commands ++ command ∷ []) (bytes ++ one)
one_more k p [] command bytes one none traced =
    (one, [], traced, refl, ap (λ b. b ++ one) none ∙ sym (append-nil one))
one_more k p (c ∷ commands) command bytes one (front, more, first, rest, is) traced = (
  front,
  more ++ one,
  first,
  one_more k (after p c) commands command more one rest traced,
  ap (λ b. b ++ one) is ∙ append_assoc front more one,
)

-- the transcript of the last of some commands
last_one : (k : Masters) (p : PlainHistory) (commands : List Command) (command : Command) (bytes : List ℕ)
    → Transcripts k p (commands ++ command ∷ []) bytes
    → (before : List ℕ) × (one : List ℕ) × Transcripts k p commands before × Transcribed k (after_all p commands) command one × (bytes ≡ before ++ one)
last_one k p [] command bytes (one, more, first, rest, is) = ([], one, refl, first, is ∙ ap (λ b. one ++ b) rest ∙ append-nil one)
last_one k p (c ∷ commands) command bytes (front, more, first, rest, is) =
    let (before, one, all, traced, same) = last_one k (after p c) commands command more rest in
    (front ++ before, one, (front, before, first, all, refl), traced, is ∙ ap (λ b. front ++ b) same ∙ sym (append_assoc front before one))

module _ (k : Masters) (p : PlainHistory) (text : List ℕ) (commands : List Command) where
  pub all_more : (command : Command) (old mid new : Option (List ℕ)) → TranscribesAll k p commands old mid → Transcribes k (after_all p commands) command mid new
      → TranscribesAll k p (commands ++ command ∷ []) old new
  all_more command old mid new (bytes, all, put) (one, traced, more) =
      (bytes ++ one, one_more k p commands command bytes one all traced, Appends-trans old mid new bytes one put more)

  -- the transcripts of these commands were put, and no more
  first_none : (old new : Option (List ℕ)) → TranscribesAll k p commands old new → TranscribesFirst k p text commands old new
  first_none old new (bytes, all, put) = (bytes, [], all, inl refl, subst (Appends old new) (sym (append-nil bytes)) put)

  -- the transcripts of these commands were put, and a front of what comes next
  first_more : (next : Command) → BeginsScript text (commands ++ next ∷ []) ⊎ ((next ≡ AskEpoch) × IsScript text commands AtEnd) → (old mid new : Option (List ℕ))
      → TranscribesAll k p commands old mid → TranscribesFront k (after_all p commands) next mid new → TranscribesFirst k p text commands old new
  first_more next comes old mid new (bytes, all, put) (front, is, more) =
      (bytes, front, all, inr (next, comes, is), Appends-trans old mid new bytes front put more)

  -- the transcripts of these commands and of the next one were put, the last of them as a front
  first_of_more : (next : Command) → BeginsScript text (commands ++ next ∷ []) ⊎ ((next ≡ AskEpoch) × IsScript text commands AtEnd) → (old new : Option (List ℕ))
      → TranscribesAll k p (commands ++ next ∷ []) old new → TranscribesFirst k p text commands old new
  first_of_more next comes old new (bytes, all, put) =
      let (before, one, some, traced, same) = last_one k p commands next bytes all in
      (before, one, some, inr (next, comes, whole_is_front k (after_all p commands) next one traced), subst (Appends old new) same put)

-- ---- one command

module _ (k : Masters) (p : PlainHistory) (command : Command) (old new t_old t_new : Option (List ℕ)) where
  -- the command was answered, and its line was put or not
  pub line_traced : (r : Option Stop) (reply : Reply) → PutsOr r old new (reply_line reply) → reply ≡ reply_to p command → Transcribes k p command t_old t_new
      → TracesLine k p command r old new t_old t_new
  line_traced None reply puts is traced = (subst (λ (r : Reply). Appends old new (reply_line r)) is puts, traced)
  line_traced (Some Write) reply (n, puts) is traced = ((n, subst (λ (r : Reply). Appends old new (take n (reply_line r))) is puts), traced)
  line_traced (Some Memory) reply puts is (bytes, traced, put) = (puts, (bytes, whole_is_front k p command bytes traced, put))
  line_traced (Some Disk) reply puts is traced = absurd puts
  line_traced (Some Trace) reply puts is traced = absurd puts
  line_traced (Some End) reply puts is traced = absurd puts
  line_traced (Some (BadLine n)) reply puts is traced = absurd puts
  line_traced (Some Long) reply puts is traced = absurd puts
  line_traced (Some Read) reply puts is traced = absurd puts
  line_traced (Some (Tag bad)) reply puts is traced = absurd puts

-- the command wasn't answered
pub fault_traced : (k : Masters) (p : PlainHistory) (command : Command) (Made : Type 0) (fault : StepFault) (out t_old t_new : Option (List ℕ))
    → BreaksOff k p command Made t_old t_new → TracesLine k p command (Some (stop_for fault)) out out t_old t_new
fault_traced k p command Made NoDisk out t_old t_new traced = (kept out, front_of k p command Made t_old t_new traced)
fault_traced k p command Made NoTrace out t_old t_new traced = (kept out, front_of k p command Made t_old t_new traced)
fault_traced k p command Made NoMemory out t_old t_new traced = (kept out, front_of k p command Made t_old t_new traced)
fault_traced k p command Made (WrongTag bad) out t_old t_new traced = (kept out, front_of k p command Made t_old t_new traced)

-- ---- the loop

-- nothing was put to the trace yet
pub none_traced : (k : Masters) (p : PlainHistory) (first : Kept) (line room : ℕ) (input out trace : Option (List ℕ)) → StandsFor first p → line ≡ 1 → room ≡ MAX_SCRIPT_BYTES
    → IfSome input (λ text. TracesSoFar k p text input line room first out out trace trace)
none_traced k p first line room None out trace stands l r = tt
none_traced k p first line room (Some text) out trace stands l r = record {
  commands = [];
  begins = (l, r, refl);
  stands = stands;
  put = Appends-nil out;
  traced = ([], refl, Appends-nil trace);
}

module _ (k : Masters) (p : PlainHistory) (mid : Kept) (masters : mid.masters ≡ k) (old now t_old t_now : Option (List ℕ)) (line room : ℕ) where
  abbrev SoFar : List ℕ → Option (List ℕ) → Type 0
  SoFar text rest = TracesSoFar k p text rest line room mid old now t_old t_now

  -- the reading ends at what is no command
  pub traced_whole : (input rest : Option (List ℕ)) (ending : Ending) → ((commands : List Command) → asked_by commands ending ≡ commands)
      → IfSome input (λ text. SoFar text rest) → IfSome rest (λ t. Reads line room t [] ending)
      → IfSome input (λ text. TracedAll k p text ending old now t_old t_now)
  traced_whole None rest ending none s says = tt
  traced_whole (Some text) None ending none s says = absurd s
  traced_whole (Some text) (Some t) ending none s says = record {
    commands = s.commands;
    read = BeginsWith-ends 1 MAX_SCRIPT_BYTES text s.commands line room t ending s.begins says;
    put = s.put;
    traced = subst (λ (all : List Command). TranscribesAll k p all t_old t_now) (sym (none s.commands)) s.traced;
  }

  -- a failed read or refused memory ends the script
  pub traced_first : (input rest : Option (List ℕ)) → IfSome input (λ text. SoFar text rest) → IfSome input (λ text. TracedFirst k p text old now t_old t_now)
  traced_first None rest s = tt
  traced_first (Some text) None s = absurd s
  traced_first (Some text) (Some t) s = record {
    commands = s.commands;
    begins = (line, room, t, s.begins);
    put = s.put;
    traced = first_none k p text s.commands t_old t_now s.traced;
  }

  -- the epoch was asked for at the end
  pub traced_end : (input rest : Option (List ℕ)) (t_new : Option (List ℕ)) → IfSome input (λ text. SoFar text rest) → IfSome rest (λ t. Reads line room t [] AtEnd)
      → ((q : PlainHistory) → StandsFor mid q → Transcribes mid.masters q AskEpoch t_now t_new)
      → IfSome input (λ text. TracedAll k p text AtEnd old now t_old t_new)
  traced_end None rest t_new s says traces = tt
  traced_end (Some text) None t_new s says traces = absurd s
  traced_end (Some text) (Some t) t_new s says traces = record {
    commands = s.commands;
    read = BeginsWith-ends 1 MAX_SCRIPT_BYTES text s.commands line room t AtEnd s.begins says;
    put = s.put;
    traced = all_more k p text s.commands AskEpoch t_old t_now t_new s.traced
        (subst (λ (x : Masters). Transcribes x (after_all p s.commands) AskEpoch t_now t_new) masters (traces (after_all p s.commands) s.stands));
  }

  end_fault : (text t : List ℕ) (fault : StepFault) (t_new : Option (List ℕ)) → TracedFirst k p text old now t_old t_new → TracesTo k p text (stop_for fault) old now t_old t_new
  end_fault text t NoDisk t_new first = first
  end_fault text t NoTrace t_new first = first
  end_fault text t NoMemory t_new first = first
  end_fault text t (WrongTag bad) t_new first = first

  pub traced_end_stops : (input rest : Option (List ℕ)) (stop : Stop) (fault : StepFault) → stop ≡ stop_for fault → (t_new : Option (List ℕ)) → IfSome input (λ text. SoFar text rest) → IfSome rest (λ t. Reads line room t [] AtEnd)
      → (Made : PlainHistory → Type 0)
      → ((q : PlainHistory) → StandsFor mid q → BreaksOff mid.masters q AskEpoch (Made q) t_now t_new)
      → IfSome input (λ text. TracesTo k p text stop old now t_old t_new)
  traced_end_stops None rest stop fault same t_new s says Made traces = tt
  traced_end_stops (Some text) None stop fault same t_new s says Made traces = absurd s
  traced_end_stops (Some text) (Some t) stop fault same t_new s says Made traces = subst (λ (x : Stop). TracesTo k p text x old now t_old t_new) (sym same) (end_fault text t fault t_new (record {
    commands = s.commands;
    begins = (line, room, t, s.begins);
    put = s.put;
    traced = first_more k p text s.commands AskEpoch (inr (refl, BeginsWith-ends 1 MAX_SCRIPT_BYTES text s.commands line room t AtEnd s.begins says)) t_old t_now t_new s.traced
        (subst (λ (x : Masters). TranscribesFront x (after_all p s.commands) AskEpoch t_now t_new) masters
        (front_of mid.masters (after_all p s.commands) AskEpoch (Made (after_all p s.commands)) t_now t_new
        (traces (after_all p s.commands) s.stands)));
  }))

  module _ (last : Kept) (now' t_now' : Option (List ℕ)) (command : Command) where
    module _ (text t more item : List ℕ) (s : TracedSoFar k p text t line room mid old now t_old t_now)
        (e : t ≡ item ++ more) (fits : length item ≤ room) (is : IsItem item command) where
      abbrev q : PlainHistory
      q = after_all p s.commands

      begins_more : BeginsWith 1 MAX_SCRIPT_BYTES text (s.commands ++ command ∷ []) (line + lf_count item) (room - length item) more
      begins_more = BeginsWith-more 1 MAX_SCRIPT_BYTES text s.commands line room t item more command s.begins e fits is

      begins_script : BeginsScript text (s.commands ++ command ∷ [])
      begins_script = (line + lf_count item, room - length item, more, begins_more)

      more_so : StandsFor last (after q command) → TracesLine k q command None now now' t_now t_now'
          → TracedSoFar k p text more (line + lf_count item) (room - length item) last old now' t_old t_now'
      more_so stands traces = record {
        commands = s.commands ++ command ∷ [];
        begins = begins_more;
        stands = subst (StandsFor last) (sym (after_all-more p s.commands command)) stands;
        put = subst (Appends old now') (sym (lines-more p s.commands command))
            (Appends-trans old now now' (lines p s.commands) (reply_line (reply_to q command)) s.put traces.0);
        traced = all_more k p text s.commands command t_old t_now t_now' s.traced traces.1;
      }

      stops_so : Keeps now now' → TranscribesFront k q command t_now t_now' → TracedFirst k p text old now' t_old t_now'
      stops_so keeps traces = record {
        commands = s.commands;
        begins = (line, room, t, s.begins);
        put = Appends-kept old now now' (lines p s.commands) s.put keeps;
        traced = first_more k p text s.commands command (inl begins_script) t_old t_now t_now' s.traced traces;
      }

      stopped : (stop : Stop) → TracesLine k q command (Some stop) now now' t_now t_now' → TracesTo k p text stop old now' t_old t_now'
      stopped End a = absurd a
      stopped (BadLine n) a = absurd a
      stopped Long a = absurd a
      stopped Read a = absurd a
      stopped Memory a = stops_so a.0 a.1
      stopped Disk a = stops_so a.0 a.1
      stopped Trace a = stops_so a.0 a.1
      stopped (Tag bad) a = stops_so a.0 a.1
      stopped Write a = record {
        commands = s.commands;
        next = command;
        begins = (line, room, t, s.begins);
        begins_next = begins_script;
        count = a.0.0;
        put = Appends-trans old now now' (lines p s.commands) (take a.0.0 (reply_line (reply_to q command))) s.put a.0.1;
        traced = all_more k p text s.commands command t_old t_now t_now' s.traced a.1;
      }

    lines_of : (r : Option Stop) → ((q : PlainHistory) → StandsFor mid q → TracesLine mid.masters q command r now now' t_now t_now')
        → (q : PlainHistory) → StandsFor mid q → TracesLine k q command r now now' t_now t_now'
    lines_of r traces q stands = subst (λ (x : Masters). TracesLine x q command r now now' t_now t_now') masters (traces q stands)

    -- one more command is answered
    pub traced_more : (input rest rest' : Option (List ℕ)) (line' room' : ℕ) → IfSome input (λ text. SoFar text rest)
        → IfSome rest (λ t. Says line room t (Next-Command command) line' room' rest')
        → ((q : PlainHistory) → StandsFor mid q → StandsFor last (after q command))
        → ((q : PlainHistory) → StandsFor mid q → TracesLine mid.masters q command None now now' t_now t_now')
        → IfSome input (λ text. TracesSoFar k p text rest' line' room' last old now' t_old t_now')
    traced_more None rest rest' line' room' s says stands traces = tt
    traced_more (Some text) None rest' line' room' s says stands traces = absurd s
    traced_more (Some text) (Some t) None line' room' s says stands traces = absurd says.2
    traced_more (Some text) (Some t) (Some more) line' room' s says stands traces =
        let q = after_all p s.commands in
        let made = more_so text t more says.0 s says.2 says.3 says.1 (stands q s.stands) (lines_of None traces q s.stands) in
        subst (λ l. TracedSoFar k p text more l room' last old now' t_old t_now') (sym says.4)
        (subst (λ r. TracedSoFar k p text more (line + lf_count says.0) r last old now' t_old t_now') (sym says.5) made)

    -- an answer that stops
    pub traced_stops : (input rest rest' : Option (List ℕ)) (line' room' : ℕ) (stop : Stop) → IfSome input (λ text. SoFar text rest)
        → IfSome rest (λ t. Says line room t (Next-Command command) line' room' rest')
        → ((q : PlainHistory) → StandsFor mid q → TracesLine mid.masters q command (Some stop) now now' t_now t_now')
        → IfSome input (λ text. TracesTo k p text stop old now' t_old t_now')
    traced_stops None rest rest' line' room' stop s says traces = tt
    traced_stops (Some text) None rest' line' room' stop s says traces = absurd s
    traced_stops (Some text) (Some t) None line' room' stop s says traces = absurd says.2
    traced_stops (Some text) (Some t) (Some more) line' room' stop s says traces =
        stopped text t more says.0 s says.2 says.3 says.1 stop (lines_of (Some stop) traces (after_all p s.commands) s.stands)

-- ---- with the last line

module _ (k : Masters) (p : PlainHistory) (text : List ℕ) (old mid new t_old t_new : Option (List ℕ)) (status : ℕ) where
  module _ (ending : Ending) (a : TracedAll k p text ending old mid t_old t_new) (more : (rest : List ℕ) × Appends mid new rest) where
    first_by : (ending : Ending) → IsScript text a.commands ending → TranscribesAll k p (asked_by a.commands ending) t_old t_new
        → TranscribesFirst k p text a.commands t_old t_new
    first_by AtEnd read traced = first_of_more k p text a.commands AskEpoch (inr (refl, read)) t_old t_new traced
    first_by (BadAt n) read traced = first_none k p text a.commands t_old t_new traced
    first_by TooLong read traced = first_none k p text a.commands t_old t_new traced

    as_whole : TracesAs k p text status old new t_old t_new
    as_whole = record {
      whole = λ _. (a.commands, ending, a.read, a.traced);
      first = (
        a.commands,
        first_of text a.commands ending a.read,
        answered_whole p text a.commands old mid new a.put ending a.read more,
        first_by ending a.read a.traced,
      );
    }

  as_first : (error : List ℕ) → ((status ≡ 0) ⊎ ((status ≡ 3) ⊎ (status ≡ 11)) → ⊥) → TracedFirst k p text old mid t_old t_new
      → (n : ℕ) × Appends mid new (take n (101 ∷ 114 ∷ error)) → TracesAs k p text status old new t_old t_new
  as_first error never a more = record {
    whole = λ e. absurd (never e);
    first = (a.commands, a.begins, answered_error p text a.commands old mid new a.put error more, a.traced);
  }

  as_part : ((status ≡ 0) ⊎ ((status ≡ 3) ⊎ (status ≡ 11)) → ⊥) → TracedPart k p text old mid t_old t_new → Keeps mid new → TracesAs k p text status old new t_old t_new
  as_part never a keeps = record {
    whole = λ e. absurd (never e);
    first = by_line (part_answered p text a.commands a.next old new a.begins_next a.count
        (Appends-kept old mid new (lines p a.commands ++ take a.count (reply_line (reply_to (after_all p a.commands) a.next))) a.put keeps));
  } where
    by_line : HasAnswered p text a.commands old new ⊎ HasAnswered p text (a.commands ++ a.next ∷ []) old new
        → (commands : List Command) × BeginsScript text commands × HasAnswered p text commands old new × TranscribesFirst k p text commands t_old t_new
    by_line (inl answered) = (a.commands, a.begins, answered, first_of_more k p text a.commands a.next (inl a.begins_next) t_old t_new a.traced)
    by_line (inr answered) = (a.commands ++ a.next ∷ [], a.begins_next, answered, first_none k p text (a.commands ++ a.next ∷ []) t_old t_new a.traced)

  -- no status of a whole script
  six_never : status ≡ 6 → (status ≡ 0) ⊎ ((status ≡ 3) ⊎ (status ≡ 11)) → ⊥
  six_never six (inl e) = omega arith
  six_never six (inr (inl e)) = omega arith
  six_never six (inr (inr e)) = omega arith

  code_never : (line : List ℕ) (code : ℕ) → (code ≡ 0 → ⊥) → (code ≡ 3 → ⊥) → (code ≡ 11 → ⊥) → EndsOr line code mid new status
      → (status ≡ 0) ⊎ ((status ≡ 3) ⊎ (status ≡ 11)) → ⊥
  code_never line code a b c ends (inl e) = not_code_or line code 0 mid new status ends a (λ z. omega arith) (λ z. omega arith) e
  code_never line code a b c ends (inr (inl e)) = not_code_or line code 3 mid new status ends b (λ z. omega arith) (λ z. omega arith) e
  code_never line code a b c ends (inr (inr e)) = not_code_or line code 11 mid new status ends c (λ z. omega arith) (λ z. omega arith) e

  -- a line on a wrong tag, or on memory
  by_tag : (error : List ℕ) → TracedFirst k p text old mid t_old t_new → EndsOr (101 ∷ 114 ∷ error) 12 mid new status → TracesAs k p text status old new t_old t_new
  by_tag error a (inl e) =
      as_first error (code_never (101 ∷ 114 ∷ error) 12 (λ z. omega arith) (λ z. omega arith) (λ z. omega arith) (inl e)) a (front_put (101 ∷ 114 ∷ error) 12 mid new status e)
  by_tag error a (inr e) =
      as_first _ (code_never (101 ∷ 114 ∷ error) 12 (λ z. omega arith) (λ z. omega arith) (λ z. omega arith) (inr e)) a (front_put memory_line 7 mid new status e)

  pub traced_at : (stop : Stop) (n : ℕ) → TracesTo k p text stop old mid t_old t_new → Finishes stop n mid new status → TracesAs k p text status old new t_old t_new
  traced_at End n a f = as_whole AtEnd a (some_put _ 0 mid new status f)
  traced_at (BadLine m) n a f = as_whole (BadAt m) a (some_put _ 3 mid new status f)
  traced_at Long n a f = as_whole TooLong a (some_put _ 11 mid new status (inl f))
  traced_at Read n a f =
      as_first _ (code_never read_line 5 (λ z. omega arith) (λ z. omega arith) (λ z. omega arith) (inl f)) a (front_put read_line 5 mid new status f)
  traced_at Disk n a f =
      as_first _ (code_never disk_line 4 (λ z. omega arith) (λ z. omega arith) (λ z. omega arith) (inl f)) a (front_put disk_line 4 mid new status f)
  traced_at Memory n a f =
      as_first _ (code_never memory_line 7 (λ z. omega arith) (λ z. omega arith) (λ z. omega arith) (inl f)) a (front_put memory_line 7 mid new status f)
  traced_at Trace n a f = as_first [] (six_never f.0) a (0, none_put mid new f.1)
  traced_at Write n a f = as_part (six_never f.0) a f.1
  traced_at (Tag bad) n a f = by_tag _ a f

-- nothing was taken of the script, and no frame was put
module _ (k : Masters) (p : PlainHistory) (text : List ℕ) (old new trace : Option (List ℕ)) (status : ℕ) where
  nothing : TracedFirst k p text old old trace trace
  nothing = record {
    commands = [];
    begins = (1, MAX_SCRIPT_BYTES, text, (refl, refl, refl));
    put = Appends-nil old;
    traced = ([], [], refl, inl refl, Appends-nil trace);
  }

  pub untraced : (stop : Stop) → ((a : TracedFirst k p text old old trace trace) → TracesTo k p text stop old old trace trace)
      → Finishes stop 0 old new status → TracesAs k p text status old new trace trace
  untraced stop so f = traced_at k p text old old new trace trace status stop 0 (so nothing) f

-- where the script is told
pub untraced_all : (k : Masters) (p : PlainHistory) (input : Option (List ℕ)) (old new trace : Option (List ℕ)) (status : ℕ) (stop : Stop)
    → ((text : List ℕ) → TracedFirst k p text old old trace trace → TracesTo k p text stop old old trace trace)
    → Finishes stop 0 old new status → IfSome input (λ text. TracesAs k p text status old new trace trace)
untraced_all k p None old new trace status stop so f = tt
untraced_all k p (Some text) old new trace status stop so f = untraced k p text old new trace status stop (so text) f

-- nothing of the script was taken before
pub traced_all : (k : Masters) (p : PlainHistory) (input : Option (List ℕ)) (old mid new t_old t_new : Option (List ℕ)) (stop : Stop) (n status : ℕ)
    → IfSome (prepend_known [] input) (λ text. TracesTo k p text stop old mid t_old t_new) → Finishes stop n mid new status
    → IfSome input (λ text. TracesAs k p text status old new t_old t_new)
traced_all k p None old mid new t_old t_new stop n status a f = tt
traced_all k p (Some text) old mid new t_old t_new stop n status a f = traced_at k p text old mid new t_old t_new status stop n a f

-- the disk didn't open, for a fault of its or for lack of memory
pub untraced_fault : (k : Masters) (p : PlainHistory) (input : Option (List ℕ)) (old new trace : Option (List ℕ)) (status : ℕ)
    → EndsIn disk_line 4 old new status ⊎ EndsIn memory_line 7 old new status → IfSome input (λ text. TracesAs k p text status old new trace trace)
untraced_fault k p input old new trace status (inl e) = untraced_all k p input old new trace status Disk (λ text first. first) e
untraced_fault k p input old new trace status (inr e) = untraced_all k p input old new trace status Memory (λ text first. first) e
