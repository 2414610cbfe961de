-- The commands of a script, one behind the other.
use Rattle.std.proofs.Common.{◌≡◌, ◌∙◌, inl, inr, ℕ, ◌+◌, List, [], ◌∷◌, ◌++◌, refl, sym, ap, subst, append-nil, append_assoc, Option, Some, None}
use Rattle.std.specs.Prelude.{◌⊎◌, IfSome, MatchOption, Ok, Result, take}
use Rattle.std.specs.Io.KnownBytes.{Appends, Keeps, prepend_known}
use Rattle.std.proofs.KnownBytes.{Appends-kept, Appends-nil, Appends-trans, prepend_known-nil}
use Rattle.ov_base.specs.declared.limits.TheConstants.{MAX_SCRIPT_BYTES}
use Rattle.ov_script.specs.declared.command.Command.{Command}
use Rattle.ov_script.specs.declared.next.Next.{Next}
use Rattle.ov_script.specs.declared.next.Next.TheVariants.{Command as Next-Command}
use Rattle.ov_script.specs.declared.next.ScriptFault.{ScriptFault}
use Rattle.ov_script.specs.declared.reply.Reply.{Reply}
use Rattle.ov_script.specs.LineFeeds.{lf_count}
use Rattle.ov_script.specs.Lines.{reply_line}
use Rattle.ov_script.specs.Place.{Place, PlaceGoesOn, ends_with, start}
use Rattle.ov_script.specs.Reading.{AtEnd, BadAt, BeginsWith, Ending, Reads, TooLong}
use Rattle.ov_script.specs.Saying.{Says}
use Rattle.ov_script.proofs.Readings.{BeginsWith-ends, BeginsWith-more}
use Rattle.ov_history.specs.Masters.{Masters}
use Rattle.ov_keyfile.specs.declared.masters.Masters.{Masters as ReadMasters}
use Rattle.ov_wire.specs.declared.answer.Welcome.{Welcome}
use Rattle.ov_wire.specs.declared.request.Request.TheVariants as requests
use Rattle.ov_peer.specs.Tells.{PeerTells}
use Rattle.ov_owner.specs.Questions.{AsksOnce, welcome_in}
use Rattle.ov_owner.specs.declared.fault.OwnerFault.{OwnerFault}
use Rattle.ov_acts.specs.Acts.{admitted}
use Rattle.ov_acts.specs.Files.{plain_masters}
use Rattle.ov_acts.specs.declared.stop.Stop.{Stop}
use Rattle.ov_acts.specs.declared.stop.Stop.TheVariants as stops
use Rattle.ov_scripting.specs.Answering.{Answered, Answers, AsksEnd, Begins, DoesAll, Halts, IsAll}
use Rattle.ov_scripting.specs.Answering.{reply_lines, unanswered, unended, unread}
use Rattle.ov_scripting.specs.Answering.{Finishes, PutsLine, bad_line, unsaid}
use Rattle.ov_scripting.specs.Performing.{Does}
use Rattle.ov_scripting.specs.Scripting.{AnswersScript, GoesOn, Greets}
use Rattle.ov_scripting.specs.declared.ended.Ended.{Ended}
use Rattle.ov_scripting.specs.declared.ended.Ended.TheVariants.{BadLine, Done, Long, Stopped}
use Rattle.ov_scripting.specs.declared.ended.Ended.TheVariants.{Unwritten}

-- ---- where the script stands

-- the text, where it is told, begins with these commands, and this line, room and rest are left
abbrev pub IsFront : Option (List ℕ) → Option (List ℕ) → ℕ → ℕ → List Command → Type 0
IsFront None rest line room commands = Unit {0}
IsFront (Some text) None line room commands = ⊥
IsFront (Some text) (Some rest) line room commands =
    BeginsWith 1 MAX_SCRIPT_BYTES text commands line room rest

pub front_none : (text : Option (List ℕ)) (line room : ℕ) → line ≡ 1 → room ≡ MAX_SCRIPT_BYTES
    → IsFront text text line room []
front_none None line room l r = tt
front_none (Some text) line room l r = (l, r, refl)

pub front_begins : (text rest : Option (List ℕ)) (line room : ℕ) (commands : List Command)
    → IsFront text rest line room commands → Begins text commands
front_begins None rest line room commands is = tt
front_begins (Some text) None line room commands is = absurd is
front_begins (Some text) (Some rest) line room commands is = (line, room, rest, is)

pub front_ends : (text rest : Option (List ℕ)) (line room : ℕ) (commands : List Command)
    (ending : Ending) → IsFront text rest line room commands
    → IfSome rest (λ t. Reads line room t [] ending) → IsAll text commands ending
front_ends None rest line room commands ending is ends = tt
front_ends (Some text) None line room commands ending is ends = absurd is
front_ends (Some text) (Some rest) line room commands ending is ends =
    BeginsWith-ends 1 MAX_SCRIPT_BYTES text commands line room rest ending is ends

pub front_more : (text rest rest' : Option (List ℕ)) (line room line' room' : ℕ)
    (commands : List Command) (command : Command) → IsFront text rest line room commands
    → IfSome rest (λ t. Says line room t (Next-Command command) line' room' rest')
    → IsFront text rest' line' room' (commands ++ command ∷ [])
front_more None rest rest' line room line' room' commands command is says = tt
front_more (Some text) None rest' line room line' room' commands command is says = absurd is
front_more (Some text) (Some rest) None line room line' room' commands command is says =
    absurd says.2
front_more (Some text) (Some rest) (Some more) line room line' room' commands command is says =
    let all : List Command = commands ++ command ∷ [] in
    subst (λ l. BeginsWith 1 MAX_SCRIPT_BYTES text all l room' more) (sym says.4)
    (subst (λ r. BeginsWith 1 MAX_SCRIPT_BYTES text all (line + lf_count says.0) r more)
    (sym says.5)
    (BeginsWith-more 1 MAX_SCRIPT_BYTES text commands line room rest says.0 more command is says.2
    says.3 says.1))

-- a script at its start
pub starts_fresh : {S : Type 0} (place : Place S) → place ≡ start place.source
    → (place.line ≡ 1) × (place.room ≡ MAX_SCRIPT_BYTES) × (place.ended ≡ None)
starts_fresh {S} place is = (
  ap (λ (p : Place S). p.line) is,
  ap (λ (p : Place S). p.room) is,
  ap (λ (p : Place S). p.ended) is,
)

-- behind a command the reading goes on
pub goes_on : {S : Type 0} (old new : Place S) (next : Next) (command : Command)
    → old.ended ≡ None → PlaceGoesOn old (Ok next) new → next ≡ Next-Command command
    → new.ended ≡ None
goes_on {S} old new next command none goes is =
    let so : new.ended ≡ ends_with (Ok next) =
    subst
    (λ (o : Option (Result Next ScriptFault)).
    MatchOption o (new.ended ≡ ends_with (Ok next)) (λ answer. (Ok next ≡ answer) × (new ≡ old)))
    none goes in
    so ∙ ap (λ (n : Next). ends_with (Ok n)) is

-- ---- lines

pub lines_more : (replies : List Reply) (reply : Reply)
    → reply_lines (replies ++ reply ∷ []) ≡ reply_lines replies ++ reply_line reply
lines_more [] reply = append-nil (reply_line reply)
lines_more (first ∷ replies) reply =
    ap (λ l. reply_line first ++ l) (lines_more replies reply)
    ∙ sym (append_assoc (reply_line first) (reply_lines replies) (reply_line reply))

-- the line that names a bad line is a last line
pub bad_finishes : (ended result : Ended) (n : ℕ) (text : List ℕ) (old new : Option (List ℕ))
    → ended ≡ BadLine n → text ≡ bad_line n → PutsLine text (BadLine n) old new result
    → Finishes ended old new result
bad_finishes ended result n text old new is says puts =
    subst (λ (e : Ended). Finishes e old new result) (sym is)
    (subst (λ t. PutsLine t (BadLine n) old new result) says puts)

-- ---- what was answered

module _ {P : Type 0} (peer : PeerTells P) (k : Masters) where
  pub does_more : (commands : List Command) (replies : List Reply) (command : Command) (reply : Reply)
      (p m q : P) → DoesAll peer k commands replies p m → Does peer k command m q (Ok reply)
      → DoesAll peer k (commands ++ command ∷ []) (replies ++ reply ∷ []) p q
  does_more [] [] command reply p m q all does =
      (q, subst (λ (x : P). Does peer k command x q (Ok reply)) (sym all) does, refl)
  does_more [] (first ∷ replies) command reply p m q all does = absurd all
  does_more (c ∷ commands) [] command reply p m q all does = absurd all
  does_more (c ∷ commands) (first ∷ replies) command reply p m q (n, one, all) does =
      (n, one, does_more commands replies command reply n m q all does)

  -- nothing was answered yet
  abbrev pub none_answered : (p : P) (out : Option (List ℕ)) → Answered peer k p p [] out out
  none_answered p out = record { commands = []; replies = []; does = refl; put = Appends-nil out }

  module _ (p m : P) (old mid new : Option (List ℕ)) (a : Answered peer k p m [] old mid) where
    abbrev pub put_then : (last : List ℕ) → Appends mid new last
        → Appends old new (reply_lines a.replies ++ last)
    put_then last put =
        subst (Appends old new) (ap (λ l. l ++ last) (append-nil (reply_lines a.replies)))
        (Appends-trans old mid new (reply_lines a.replies ++ []) last a.put put)

    -- and then this was put
    abbrev pub answered_then : (last : List ℕ) → Appends mid new last → Answered peer k p m last old new
    answered_then last put = record {
      commands = a.commands;
      replies = a.replies;
      does = a.does;
      put = put_then last put;
    }

    -- nothing more was put
    abbrev pub answered_kept : Keeps mid new → Answered peer k p m [] old new
    answered_kept same = record {
      commands = a.commands;
      replies = a.replies;
      does = a.does;
      put = Appends-kept old mid new (reply_lines a.replies ++ []) a.put same;
    }

    -- one more command was answered
    abbrev pub answered_more : (q : P) (command : Command) (reply : Reply)
        → Does peer k command m q (Ok reply) → Appends mid new (reply_line reply)
        → Answered peer k p q [] old new
    answered_more q command reply does put = record {
      commands = a.commands ++ command ∷ [];
      replies = a.replies ++ reply ∷ [];
      does = does_more a.commands a.replies command reply p m q a.does does;
      put = subst (Appends old new)
          (sym (lines_more a.replies reply)
          ∙ sym (append-nil (reply_lines (a.replies ++ reply ∷ []))))
          (put_then (reply_line reply) put);
    }

  -- So far these commands were read and answered, and this line, room and rest are left.
  pub record SoFar (text rest : Option (List ℕ)) (line room : ℕ) (p q : P)
      (old now : Option (List ℕ)) : Type 0 where
    pub answered : Answered peer k p q [] old now
    pub front : IsFront text rest line room answered.commands

  pub none_so_far : (text : Option (List ℕ)) (line room : ℕ) (p : P) (out : Option (List ℕ))
      → line ≡ 1 → room ≡ MAX_SCRIPT_BYTES → SoFar text text line room p p out out
  none_so_far text line room p out l r =
      record { answered = none_answered p out; front = front_none text line room l r }

  module _ (text rest : Option (List ℕ)) (line room : ℕ) (p m : P) (old now : Option (List ℕ))
      (s : SoFar text rest line room p m old now) where
    -- ---- the reading ends

    pub halts_bad : (n : ℕ) → IfSome rest (λ t. Reads line room t [] (BadAt n))
        → Halts peer k text p m old now (BadLine n)
    halts_bad n says =
        (s.answered, front_ends text rest line room s.answered.commands (BadAt n) s.front says)

    pub halts_long : IfSome rest (λ t. Reads line room t [] TooLong)
        → Halts peer k text p m old now Long
    halts_long says =
        (s.answered, front_ends text rest line room s.answered.commands TooLong s.front says)

    pub halts_unread : (stop : Stop) → (stop ≡ stops.Read) ⊎ (stop ≡ stops.Memory)
        → Halts peer k text p m old now (Stopped stop)
    halts_unread stop why = (
      m,
      s.answered,
      front_begins text rest line room s.answered.commands s.front,
      unread refl why,
    )

    pub halts_end : (q : P) (ended : Ended) → IfSome rest (λ t. Reads line room t [] AtEnd)
        → AsksEnd peer k m q ended → Halts peer k text p q old now ended
    halts_end q (Done epoch) says asks = (
      m,
      s.answered,
      front_ends text rest line room s.answered.commands AtEnd s.front says,
      asks,
    )
    halts_end q (Stopped stop) says asks = (
      m,
      s.answered,
      front_begins text rest line room s.answered.commands s.front,
      unended (front_ends text rest line room s.answered.commands AtEnd s.front says) asks,
    )
    halts_end q (BadLine n) says asks = absurd asks
    halts_end q Long says asks = absurd asks
    halts_end q Unwritten says asks = absurd asks

    -- ---- one more command

    module _ (rest' : Option (List ℕ)) (line' room' : ℕ) (q : P) (new : Option (List ℕ))
        (command : Command)
        (says : IfSome rest (λ t. Says line room t (Next-Command command) line' room' rest'))
      where
        with_command : IsFront text rest' line' room' (s.answered.commands ++ command ∷ [])
        with_command =
            front_more text rest rest' line room line' room' s.answered.commands command s.front says

        begins_with : Begins text (s.answered.commands ++ command ∷ [])
        begins_with =
            front_begins text rest' line' room' (s.answered.commands ++ command ∷ []) with_command

        pub so_far_more : Answers peer k command m q now new None
            → SoFar text rest' line' room' p q old new
        so_far_more (reply, does, put) = record {
          answered = answered_more p m old now new s.answered q command reply does put;
          front = with_command;
        }

        pub halts_there : (ended : Ended) → Answers peer k command m q now new (Some ended)
            → Halts peer k text p q old new ended
        halts_there Unwritten (reply, does, (n, put)) = (
          m,
          command,
          reply,
          n,
          answered_then p m old now new s.answered (take n (reply_line reply)) put,
          begins_with,
          does,
        )
        halts_there (Stopped stop) (kept, inl does) = (
          m,
          answered_kept p m old now new s.answered kept,
          front_begins text rest line room s.answered.commands s.front,
          unanswered command begins_with does,
        )
        halts_there (Stopped stop) (kept, inr (memory, (reply, does))) = (
          m,
          answered_kept p m old now new s.answered kept,
          front_begins text rest line room s.answered.commands s.front,
          unsaid command reply begins_with memory does,
        )
        halts_there (Done epoch) answers = absurd answers
        halts_there (BadLine n) answers = absurd answers
        halts_there Long answers = absurd answers

  -- ---- the whole script

  -- what is said of a script at its start is said of its source
  pub halts_over : (left : Option (List ℕ)) (p q : P) (old new : Option (List ℕ)) (ended : Ended)
      → Halts peer k (prepend_known [] left) p q old new ended → Halts peer k left p q old new ended
  halts_over left p q old new ended halts =
      subst (λ (text : Option (List ℕ)). Halts peer k text p q old new ended)
      (prepend_known-nil left) halts

-- the greeting was that of the owner's store, and the script was answered
pub greets_so : {P : Type 0} (peer : PeerTells P) (masters : ReadMasters) (owner : Masters)
    (text : Option (List ℕ)) (p m q : P) (old new : Option (List ℕ)) (ended : Ended)
    (greeting : Result Welcome OwnerFault) → owner ≡ plain_masters masters
    → AsksOnce peer p m requests.Hello welcome_in greeting
    → admitted masters.base.bytes greeting ≡ Ok tt
    → AnswersScript peer owner text m q old new ended
    → Greets peer (plain_masters masters) text p q old new ended
greets_so peer masters owner text p m q old new ended greeting is asks admits answers = (
  greeting,
  m,
  asks,
  subst
      (λ (found : Result (Unit {0}) Stop).
      GoesOn found m q old new ended
      (λ _. AnswersScript peer (plain_masters masters) text m q old new ended))
      (sym admits)
      (subst (λ (k : Masters). AnswersScript peer k text m q old new ended) is answers),
)
