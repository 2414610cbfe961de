-- What a script says of how its answering ends, whatever its disk tells.
use Rattle.std.proofs.Common.{◌≡◌, ℕ, ◌+◌, ◌-◌, List, [], ◌∷◌, ◌++◌, length, length-append, refl, sym, ◌∙◌, ap, subst, append_assoc, Option, Some, None}
use Rattle.std.specs.Prelude.{IfSome}
use Rattle.std.specs.Io.KnownBytes.{Appends, Keeps}
use Rattle.std.proofs.KnownBytes.{Appends-trans, Appends-kept, Appends-nil}
use Rattle.std.proofs.lemmas.List.{append-nil}
use Rattle.ov_base.specs.declared.limits.TheConstants.{MAX_SCRIPT_BYTES}
use Rattle.ov_script.specs.declared.command.Command.{Command}
use Rattle.ov_script.specs.declared.command.Command.TheVariants.{Epoch as AskEpoch}
use Rattle.ov_script.specs.declared.next.Next.TheVariants.{Command as Next-Command}
use Rattle.ov_script.specs.declared.reply.Reply.{Reply}
use Rattle.ov_script.specs.LineFeeds.{lf_count}
use Rattle.ov_script.specs.Lines.{reply_line}
use Rattle.ov_script.specs.Reading.{Reads, BeginsScript, BeginsWith, Ending}
use Rattle.ov_script.specs.Saying.{Says}
use Rattle.ov_script.proofs.Readings.{BeginsWith-more, BeginsWith-ends}
use Rattle.ov_machine.specs.Steps.{IsReadOf}
use Rattle.ov_machine.specs.declared.fault.BadTag.{BadTag}
use Rattle.ov_machine.specs.declared.fault.StepFault.{StepFault}
use Rattle.ov_machine.specs.declared.fault.StepFault.TheVariants.{Disk as NoDisk, Memory as NoMemory, Tag as WrongTag, Trace as NoTrace}
use Rattle.ov_answering.specs.Answering.{PutsOr, stop_for}
use Rattle.ov_answering.specs.ByScript.{EndsAmid, EndsAt, EndsAtRead, PutsFor, PutsReply, StopsByScript, reply_lines}
use Rattle.ov_answering.specs.declared.answer.Stop.{Stop}
use Rattle.ov_answering.specs.declared.answer.Stop.TheVariants.{End, BadLine, Long, Read, Write, Disk, Trace, Memory, Tag}
use Rattle.ov_answering.proofs.Answering.{kept}

-- ---- one command

-- it was answered, and then its line was put or not
pub replied_puts : (command : Command) (reply : Reply) (r : Option Stop) (old new : Option (List ℕ)) → PutsOr r old new (reply_line reply) → PutsReply command r old new
replied_puts command reply None old new puts = (reply, puts)
replied_puts command reply (Some Write) old new (n, puts) = (reply, n, puts)
replied_puts command reply (Some Memory) old new puts = puts
replied_puts command reply (Some Disk) old new puts = absurd puts
replied_puts command reply (Some Trace) old new puts = absurd puts
replied_puts command reply (Some End) old new puts = absurd puts
replied_puts command reply (Some (BadLine n)) old new puts = absurd puts
replied_puts command reply (Some Long) old new puts = absurd puts
replied_puts command reply (Some Read) old new puts = absurd puts
replied_puts command reply (Some (Tag bad)) old new puts = absurd puts

-- it wasn't
by_fault : (command : Command) (fault : StepFault) (out : Option (List ℕ)) → ((bad : BadTag) → fault ≡ WrongTag bad → IsReadOf bad.file command)
    → PutsReply command (Some (stop_for fault)) out out
by_fault command NoDisk out tag = kept out
by_fault command NoTrace out tag = kept out
by_fault command NoMemory out tag = kept out
by_fault command (WrongTag bad) out tag = (tag bad refl, kept out)

pub unanswered_puts : (command : Command) (fault : StepFault) (stop : Stop) (out : Option (List ℕ)) → stop ≡ stop_for fault
    → ((bad : BadTag) → fault ≡ WrongTag bad → IsReadOf bad.file command) → PutsReply command (Some stop) out out
unanswered_puts command fault stop out is tag =
    subst (λ (s : Stop). PutsReply command (Some s) out out) (sym is) (by_fault command fault out tag)

-- ---- lines

-- one reply more
lines_more : (replies : List Reply) (reply : Reply) → reply_lines (replies ++ reply ∷ []) ≡ reply_lines replies ++ reply_line reply
lines_more [] reply = append-nil (reply_line reply)
lines_more (first ∷ replies) reply =
    ap (λ l. reply_line first ++ l) (lines_more replies reply) ∙ sym (append_assoc (reply_line first) (reply_lines replies) (reply_line reply))

pub none_put_yet : (out : Option (List ℕ)) → PutsFor [] [] out out
none_put_yet out = ([], refl, Appends-nil out)

-- behind the replies this was put
pub then_put : (commands : List Command) (last : List ℕ) (old mid new : Option (List ℕ)) → PutsFor commands [] old mid → Appends mid new last → PutsFor commands last old new
then_put commands last old mid new (replies, each, put) more = (
  replies,
  each,
  subst (Appends old new) (ap (λ l. l ++ last) (append-nil (reply_lines replies)))
      (Appends-trans old mid new (reply_lines replies ++ []) last put more),
)

-- nothing more was put
still_put : (commands : List Command) (old mid new : Option (List ℕ)) → PutsFor commands [] old mid → Keeps mid new → PutsFor commands [] old new
still_put commands old mid new (replies, each, put) same = (replies, each, Appends-kept old mid new (reply_lines replies ++ []) put same)

-- one reply line more was put
put_more : (commands : List Command) (command : Command) (reply : Reply) (old mid new : Option (List ℕ)) → PutsFor commands [] old mid → Appends mid new (reply_line reply)
    → PutsFor (commands ++ command ∷ []) [] old new
put_more commands command reply old mid new (replies, each, put) more = (
  replies ++ reply ∷ [],
  length-append replies (reply ∷ []) ∙ ap (λ n. n + 1) each ∙ sym (length-append commands (command ∷ [])),
  subst (Appends old new)
      (ap (λ l. l ++ reply_line reply) (append-nil (reply_lines replies)) ∙ sym (lines_more replies reply)
      ∙ sym (append-nil (reply_lines (replies ++ reply ∷ []))))
      (Appends-trans old mid new (reply_lines replies ++ []) (reply_line reply) put more),
)

-- ---- the loop

-- So far these commands were read, and a reply line was put for each; this line, room and rest are
-- left.
pub record ReadSoFar (text rest : List ℕ) (line room : ℕ) (old now : Option (List ℕ)) : Type 0 where
  pub commands : List Command
  pub begins : BeginsWith 1 MAX_SCRIPT_BYTES text commands line room rest
  pub put : PutsFor commands [] old now

-- so it is where what is left is told
abbrev pub IsReadSoFar : List ℕ → Option (List ℕ) → ℕ → ℕ → Option (List ℕ) → Option (List ℕ) → Type 0
IsReadSoFar text None line room old now = ⊥
IsReadSoFar text (Some rest) line room old now = ReadSoFar text rest line room old now

pub none_read_yet : (line room : ℕ) (input out : Option (List ℕ)) → line ≡ 1 → room ≡ MAX_SCRIPT_BYTES
    → IfSome input (λ text. IsReadSoFar text input line room out out)
none_read_yet line room None out l r = tt
none_read_yet line room (Some text) out l r = record { commands = []; begins = (l, r, refl); put = none_put_yet out }

module _ (input rest : Option (List ℕ)) (line room : ℕ) (old now : Option (List ℕ)) where
  -- the reading ends
  pub read_ends : (ending : Ending) → IfSome input (λ text. IsReadSoFar text rest line room old now) → IfSome rest (λ t. Reads line room t [] ending)
      → IfSome input (λ text. EndsAt text ending [] old now)
  read_ends ending so_far says = by input rest so_far says where
    by : (i r : Option (List ℕ)) → IfSome i (λ text. IsReadSoFar text r line room old now) → IfSome r (λ t. Reads line room t [] ending)
        → IfSome i (λ text. EndsAt text ending [] old now)
    by None r s says = tt
    by (Some text) None s says = absurd s
    by (Some text) (Some t) s says = (s.commands, BeginsWith-ends 1 MAX_SCRIPT_BYTES text s.commands line room t ending s.begins says, s.put)

  -- it stops between two commands
  pub read_first : IfSome input (λ text. IsReadSoFar text rest line room old now) → IfSome input (λ text. EndsAmid text [] old now)
  read_first so_far = by input rest so_far where
    by : (i r : Option (List ℕ)) → IfSome i (λ text. IsReadSoFar text r line room old now) → IfSome i (λ text. EndsAmid text [] old now)
    by None r s = tt
    by (Some text) None s = absurd s
    by (Some text) (Some t) s = (s.commands, (line, room, t, s.begins), s.put)

  -- the epoch isn't answered, which reads no file
  pub end_unanswered : (fault : StepFault) (stop : Stop) → stop ≡ stop_for fault → IfSome input (λ text. IsReadSoFar text rest line room old now)
      → ((bad : BadTag) → fault ≡ WrongTag bad → IsReadOf bad.file AskEpoch)
      → IfSome input (λ text. StopsByScript text stop old now)
  end_unanswered fault stop is so_far tag = subst (λ (s : Stop). IfSome input (λ text. StopsByScript text s old now)) (sym is) (by_case fault refl) where
    by_case : (f : StepFault) → fault ≡ f → IfSome input (λ text. StopsByScript text (stop_for f) old now)
    by_case NoDisk at = read_first so_far
    by_case NoTrace at = read_first so_far
    by_case NoMemory at = read_first so_far
    by_case (WrongTag bad) at = let (user, other) = tag bad at in absurd (cc other)

  module _ (rest' : Option (List ℕ)) (line' room' : ℕ) (command : Command) (now' : Option (List ℕ)) where
    -- one more command is answered
    pub read_more : IfSome input (λ text. IsReadSoFar text rest line room old now)
        → IfSome rest (λ t. Says line room t (Next-Command command) line' room' rest')
        → PutsReply command None now now' → IfSome input (λ text. IsReadSoFar text rest' line' room' old now')
    read_more so_far says puts = by input rest rest' so_far says where
      by : (i r r' : Option (List ℕ)) → IfSome i (λ text. IsReadSoFar text r line room old now)
          → IfSome r (λ t. Says line room t (Next-Command command) line' room' r')
          → IfSome i (λ text. IsReadSoFar text r' line' room' old now')
      by None r r' s says = tt
      by (Some text) None r' s says = absurd s
      by (Some text) (Some t) None s says = absurd says.2
      by (Some text) (Some t) (Some more) s says = record {
        commands = s.commands ++ command ∷ [];
        begins = subst (λ l. BeginsWith 1 MAX_SCRIPT_BYTES text (s.commands ++ command ∷ []) l room' more) (sym says.4)
            (subst (λ r. BeginsWith 1 MAX_SCRIPT_BYTES text (s.commands ++ command ∷ []) (line + lf_count says.0) r more) (sym says.5)
            (BeginsWith-more 1 MAX_SCRIPT_BYTES text s.commands line room t says.0 more command s.begins says.2 says.3 says.1));
        put = put_more s.commands command puts.0 old now now' s.put puts.1;
      }

    -- one isn't
    module _ (text t more : List ℕ) (s : ReadSoFar text t line room old now) (says : Says line room t (Next-Command command) line' room' (Some more)) where
      amid : Keeps now now' → EndsAmid text [] old now'
      amid same = (s.commands, (line, room, t, s.begins), still_put s.commands old now now' s.put same)

      at_read : (file : List ℕ) → IsReadOf file command → Keeps now now' → EndsAtRead text file [] old now'
      at_read file (user, is) same = (
        s.commands,
        user,
        subst (λ (c : Command). BeginsScript text (s.commands ++ c ∷ [])) is (
          line + lf_count says.0,
          room - length says.0,
          more,
          BeginsWith-more 1 MAX_SCRIPT_BYTES text s.commands line room t says.0 more command s.begins says.2 says.3 says.1,
        ),
        still_put s.commands old now now' s.put same,
      )

      stops : (stop : Stop) → PutsReply command (Some stop) now now' → StopsByScript text stop old now'
      stops End puts = absurd puts
      stops (BadLine n) puts = absurd puts
      stops Long puts = absurd puts
      stops Read puts = absurd puts
      stops Write puts = tt
      stops Memory puts = amid puts
      stops Disk puts = amid puts
      stops Trace puts = amid puts
      stops (Tag bad) puts = at_read bad.file puts.0 puts.1

    pub read_stops : (stop : Stop) → IfSome input (λ text. IsReadSoFar text rest line room old now)
        → IfSome rest (λ t. Says line room t (Next-Command command) line' room' rest')
        → PutsReply command (Some stop) now now' → IfSome input (λ text. StopsByScript text stop old now')
    read_stops stop so_far says puts = by input rest rest' so_far says where
      by : (i r r' : Option (List ℕ)) → IfSome i (λ text. IsReadSoFar text r line room old now)
          → IfSome r (λ t. Says line room t (Next-Command command) line' room' r')
          → IfSome i (λ text. StopsByScript text stop old now')
      by None r r' s says = tt
      by (Some text) None r' s says = absurd s
      by (Some text) (Some t) None s says = absurd says.2
      by (Some text) (Some t) (Some more) s says = stops text t more s says stop puts
