-- What was taken of a script is paced by what was put.
use Rattle.std.proofs.Common.{MutBor, ◌≡◌, inl, ℕ, ◌+◌, ◌-◌, List, [], ◌∷◌, ◌++◌, length, refl, sym, ◌∙◌, ap, subst, append_assoc, Option, Some, None}
use Rattle.std.specs.Prelude.{IfSome, Ok, ⊤}
use Rattle.std.specs.Io.KnownBytes.{Appends, Consumes, prepend_known}
use Rattle.std.proofs.KnownBytes.{Appends-trans, Appends-kept, Appends-nil}
use Rattle.std.proofs.lemmas.List.{append_cancel_right}
use Rattle.ov_base.specs.declared.limits.TheConstants.{MAX_SCRIPT_BYTES}
use Rattle.ov_disk.specs.Tells.{DiskTells}
use Rattle.ov_io.specs.Calls.{TakesPieces, no_piece, each_gave, last_gave_none}
use Rattle.ov_io.proofs.Pieces.{pieces_as, pieces_behind, pieces_consumed, while_as, while_behind, while_lent}
use Rattle.ov_io.specs.Tells.{SourceTells}
use Rattle.ov_script.specs.declared.command.Command.{Command}
use Rattle.ov_script.specs.declared.next.Next.{Next}
use Rattle.ov_script.specs.declared.next.Next.TheVariants.{Command as Next-Command}
use Rattle.ov_script.specs.LineFeeds.{lf_count}
use Rattle.ov_script.specs.Place.{Place, start}
use Rattle.ov_script.specs.Reading.{BeginsWith}
use Rattle.ov_script.specs.Taking.{EndsReading, IsUnsettled, TakesWhatItNeeds}
use Rattle.ov_history.specs.Masters.{Masters}
use Rattle.ov_history.specs.Plain.{PlainHistory}
use Rattle.ov_model.specs.Lines.{lines}
use Rattle.ov_machine.specs.Machine.{KeptOn}
use Rattle.ov_machine.specs.Sinks.{Grows}
use Rattle.ov_answering.specs.Answering.{Finishes, SoFar}
use Rattle.ov_answering.specs.Pacing.{AwaitsMore, IsPaced}
use Rattle.ov_answering.specs.declared.answer.Stop.{Stop}
use Rattle.ov_answering.specs.declared.answer.Stop.TheVariants.{End, BadLine, Long, Read, Write, Disk, Trace, Memory, Tag}
use Rattle.ov_answering.proofs.Surviving.{some_put}

-- ---- commands at the front

-- what is left is at the end
begins_front : (line room : ℕ) (text : List ℕ) (commands : List Command) (line' room' : ℕ) (rest : List ℕ)
    → BeginsWith line room text commands line' room' rest → (used : List ℕ) × (text ≡ used ++ rest)
begins_front line room text [] line' room' rest (l, r, t) = ([], t)
begins_front line room text (command ∷ commands) line' room' rest b =
    let more = begins_front (line + lf_count b.0) (room - length b.0) b.1 commands line' room' rest b.5 in
    (b.0 ++ more.0, b.2 ∙ ap (λ t. b.0 ++ t) more.1 ∙ sym (append_assoc b.0 more.0 rest))

-- bytes may follow
begins_behind : (line room : ℕ) (text : List ℕ) (commands : List Command) (line' room' : ℕ) (rest more : List ℕ)
    → BeginsWith line room text commands line' room' rest → BeginsWith line room (text ++ more) commands line' room' (rest ++ more)
begins_behind line room text [] line' room' rest more (l, r, t) = (l, r, ap (λ t. t ++ more) t)
begins_behind line room text (command ∷ commands) line' room' rest more b = (
  b.0,
  b.1 ++ more,
  ap (λ t. t ++ more) b.2 ∙ append_assoc b.0 b.1 more,
  b.3,
  b.4,
  begins_behind (line + lf_count b.0) (room - length b.0) b.1 commands line' room' rest more b.5,
)

-- bytes that follow may be left out
begins_before : (line room : ℕ) (text front behind : List ℕ) (commands : List Command) (line' room' : ℕ) (rest pending : List ℕ)
    → text ≡ front ++ behind → rest ≡ pending ++ behind → BeginsWith line room text commands line' room' rest
    → BeginsWith line room front commands line' room' pending
begins_before line room text front behind [] line' room' rest pending e f (l, r, t) = (l, r, append_cancel_right front pending behind (sym e ∙ t ∙ f))
begins_before line room text front behind (command ∷ commands) line' room' rest pending e f b =
    let used = begins_front (line + lf_count b.0) (room - length b.0) b.1 commands line' room' rest b.5 in
    let more : b.1 ≡ (used.0 ++ pending) ++ behind = used.1 ∙ ap (λ t. used.0 ++ t) f ∙ sym (append_assoc used.0 pending behind) in
    let joined : front ++ behind ≡ (b.0 ++ (used.0 ++ pending)) ++ behind =
    sym e ∙ b.2 ∙ ap (λ t. b.0 ++ t) more ∙ sym (append_assoc b.0 (used.0 ++ pending) behind) in (
      b.0,
      used.0 ++ pending,
      append_cancel_right front (b.0 ++ (used.0 ++ pending)) behind joined,
      b.3,
      b.4,
      begins_before (line + lf_count b.0) (room - length b.0) b.1 (used.0 ++ pending) behind commands line' room' rest pending more f b.5,
    )

-- ---- what was taken and put

-- These bytes were taken: commands whose lines were put, and behind them what is pending.
record Taken (p : PlainHistory) (seen pending : List ℕ) (line room : ℕ) (old new : Option (List ℕ)) : Type 0 where
  commands : List Command
  begins : BeginsWith 1 MAX_SCRIPT_BYTES seen commands line room pending
  put : Appends old new (lines p commands)

-- facts that both hold where something is told
both : (o : Option (List ℕ)) (P Q R : List ℕ → Type 0) → ((text : List ℕ) → P text → Q text → R text) → IfSome o P → IfSome o Q → IfSome o R
both None P Q R then p q = tt
both (Some text) P Q R then p q = then text p q

-- more was put
awaits_on : (p : PlainHistory) (seen : List ℕ) (old mid new : Option (List ℕ)) → AwaitsMore p seen old mid → Grows mid new → AwaitsMore p seen old new
awaits_on p seen old mid new a (bytes, puts) = record {
  commands = a.commands;
  line = a.line;
  room = a.room;
  rest = a.rest;
  begins = a.begins;
  unsettled = a.unsettled;
  more = a.more ++ bytes;
  put = subst (Appends old new) (append_assoc (lines p a.commands) a.more bytes)
      (Appends-trans old mid new (lines p a.commands ++ a.more) bytes a.put puts);
}

-- What was taken so far, in pieces that each awaited more.
abbrev pub IsPacedSoFar : {S : Type 0} → SourceTells S → PlainHistory → S → S
    → Option (List ℕ) → Option (List ℕ) → Type 0
IsPacedSoFar source p old new put_old put_now =
    (seen : List ℕ) × TakesPieces source (λ seen. AwaitsMore p seen put_old put_now) old new seen

module _ {S : Type 0} (source : SourceTells S) (p : PlainHistory) where
  -- nothing was taken
  pub untaken : (s : S) (old new : Option (List ℕ)) → IsPaced source p s s old new
  untaken s old new = each_gave [] (no_piece s refl) (λ none. none)

  pub untouched : (input : Option (List ℕ)) (s : S) (old new : Option (List ℕ)) → IfSome input (λ _. IsPaced source p s s old new)
  untouched None s old new = tt
  untouched (Some text) s old new = untaken s old new

  -- nothing was taken yet
  pub none_yet : (input : Option (List ℕ)) (s : S) (old new : Option (List ℕ)) → IfSome input (λ _. IsPacedSoFar source p s s old new)
  none_yet None s old new = tt
  none_yet (Some text) s old new = ([], no_piece s refl)

  -- more was put
  pieces_on : (first last : S) (seen : List ℕ) (old mid new : Option (List ℕ)) → Grows mid new
      → TakesPieces source (λ seen. AwaitsMore p seen old mid) first last seen → TakesPieces source (λ seen. AwaitsMore p seen old new) first last seen
  pieces_on first last seen old mid new grew t =
      pieces_as source (λ seen. AwaitsMore p seen old mid) (λ seen. AwaitsMore p seen old new) first last seen (λ seen awaits. awaits_on p seen old mid new awaits grew) t

  paced_on : (first last : S) (old mid new : Option (List ℕ)) → IsPaced source p first last old mid → Grows mid new → IsPaced source p first last old new
  paced_on first last old mid new (each_gave seen t ok) grew = each_gave seen (pieces_on first last seen old mid new grew t) ok
  paced_on first last old mid new (last_gave_none at seen t awaits step c end) grew =
      last_gave_none at seen (pieces_on first at seen old mid new grew t) (awaits_on p seen old mid new awaits grew) step c end

  pub paced_then : (input : Option (List ℕ)) (first last : S) (old mid new : Option (List ℕ))
      → IfSome input (λ _. IsPaced source p first last old mid) → Grows mid new → IfSome input (λ _. IsPaced source p first last old new)
  paced_then None first last old mid new paced grew = tt
  paced_then (Some text) first last old mid new paced grew = paced_on first last old mid new paced grew

  -- one item more was read, or not to its end, and then more was put
  module _ (first mid last : S) (pending : List ℕ) (line room : ℕ) (old now new : Option (List ℕ))
      (so : (seen : List ℕ) → Consumes (source.left first) (source.left mid) seen → Taken p seen pending line room old now) (before : IsPacedSoFar source p first mid old now) (grew : Grows now new) where
    awaited : (seen : List ℕ) → IsUnsettled room (pending ++ seen) → AwaitsMore p (before.0 ++ seen) old new
    awaited seen unsettled =
        let a = so before.0 (pieces_consumed source (λ seen. AwaitsMore p seen old now) first mid before.0 before.1) in
        record {
          commands = a.commands;
          line = line;
          room = room;
          rest = pending ++ seen;
          begins = begins_behind 1 MAX_SCRIPT_BYTES before.0 a.commands line room pending seen a.begins;
          unsettled = unsettled;
          more = grew.0;
          put = Appends-trans old now new (lines p a.commands) grew.0 a.put grew.1;
        }

    step : (E F : Type 0) → TakesWhatItNeeds source room pending E F mid last → IsPaced source p first last old new
    step E F needed =
        while_behind source (λ seen. AwaitsMore p seen old new) (λ seen. IsUnsettled room (pending ++ seen)) ⊤ ⊥ first mid last before.0 awaited
        (pieces_on first mid before.0 old now new grew before.1)
        (while_as source (λ seen. IsUnsettled room (pending ++ seen)) E ⊤ F ⊥ mid last (λ e. tt) (λ none. absurd none) needed)

    -- an item that was read ended at no take that gave nothing
    step_on : (E F : Type 0) → (E → ⊥) → TakesWhatItNeeds source room pending E F mid last → IsPacedSoFar source p first last old new
    step_on E F goes (each_gave seen t ok) = (
      before.0 ++ seen,
      pieces_behind source (λ seen. AwaitsMore p seen old new) (λ seen. IsUnsettled room (pending ++ seen)) first mid last before.0 seen awaited
          (pieces_on first mid before.0 old now new grew before.1) t,
    )
    step_on E F goes (last_gave_none at seen t unsettled step c end) = absurd (goes end)

  module _ {D : Type 0} (tells : DiskTells D) (k : Masters) (first_kept mid_kept : KeptOn D) where
    -- what was answered so far is in what was taken
    so_taken : (front pending : List ℕ) (line room : ℕ) (a b old now : Option (List ℕ)) → front ≡ []
        → IfSome (prepend_known front a) (λ text. SoFar tells k p text (prepend_known pending b) line room old now first_kept mid_kept)
        → IfSome (prepend_known front a) (λ _. (seen : List ℕ) → Consumes a b seen → Taken p seen pending line room old now)
    so_taken front pending line room None b old now none s = tt
    so_taken front pending line room (Some xs) None old now none s = absurd s
    so_taken front pending line room (Some xs) (Some ys) old now none s = λ seen c. record {
      commands = s.commands;
      begins = begins_before 1 MAX_SCRIPT_BYTES (front ++ xs) seen ys s.commands line room (pending ++ ys) pending (ap (λ f. f ++ xs) none ∙ c) refl s.begins;
      put = s.put;
    }

    -- one call of `next`, and what was put behind it
    module _ (first mid last : S) (front pending : List ℕ) (line room : ℕ) (E F : Type 0) (old now new : Option (List ℕ)) (none : front ≡ [])
        (s : IfSome (prepend_known front (source.left first)) (λ text. SoFar tells k p text (prepend_known pending (source.left mid)) line room old now first_kept mid_kept))
        (paced : IfSome (prepend_known front (source.left first)) (λ _. IsPacedSoFar source p first mid old now))
        (needed : TakesWhatItNeeds source room pending E F mid last) (grew : Grows now new) where
      pub paced_next : IfSome (prepend_known front (source.left first)) (λ _. IsPaced source p first last old new)
      paced_next =
          both (prepend_known front (source.left first)) (λ _. (seen : List ℕ) → Consumes (source.left first) (source.left mid) seen → Taken p seen pending line room old now)
          (λ _. IsPacedSoFar source p first mid old now) (λ _. IsPaced source p first last old new)
          (λ text so before. step first mid last pending line room old now new so before grew E F needed)
          (so_taken front pending line room (source.left first) (source.left mid) old now none s) paced

      pub paced_more : (E → ⊥) → IfSome (prepend_known front (source.left first)) (λ _. IsPacedSoFar source p first last old new)
      paced_more goes =
          both (prepend_known front (source.left first)) (λ _. (seen : List ℕ) → Consumes (source.left first) (source.left mid) seen → Taken p seen pending line room old now)
          (λ _. IsPacedSoFar source p first mid old now) (λ _. IsPacedSoFar source p first last old new)
          (λ text so before. step_on first mid last pending line room old now new so before grew E F goes needed)
          (so_taken front pending line room (source.left first) (source.left mid) old now none s) paced

-- a command doesn't end the reading
pub command_goes_on : (next : Next) (command : Command) → next ≡ Next-Command command → EndsReading (Ok next) → ⊥
command_goes_on next command is ends = subst (λ (n : Next). EndsReading (Ok n)) is ends

-- at the start of a script nothing is pending
pub none_pending : {S : Type 0} (place : Place S) → place ≡ start place.source → place.pending ≡ []
none_pending {S} place is = ap (λ (p : Place S). p.pending) is

-- ---- behind a loan

-- what a source behind a loan tells
abbrev pub lent_source : {S : Type 0} → SourceTells S → SourceTells (MutBor S)
lent_source source = record {
  left = λ s. source.left s.now;
  faults = λ s. source.faults s.now;
  borrow = λ s. s.ghost_name;
  takes = λ a b. (b.ghost_name ≡ a.ghost_name) × source.takes a.now b.now;
}

-- what is said of a source behind a loan is said of the source
pub paced_lent : {S : Type 0} (source : SourceTells S) (p : PlainHistory) (input : Option (List ℕ))
    (first last : MutBor S) (final : S) (old new : Option (List ℕ)) → last.now ≡ final
    → IfSome (prepend_known [] input) (λ _. IsPaced (lent_source source) p first last old new)
    → IfSome input (λ _. IsPaced source p first.now final old new)
paced_lent {S} source p None first last final old new back paced = tt
paced_lent {S} source p (Some text) first last final old new back paced =
    subst (λ (s : S). IsPaced source p first.now s old new) back
    (while_lent (λ (l : MutBor S). l.now) (lent_source source) source (λ seen. AwaitsMore p seen old new) ⊤ ⊥
    (record { left = λ l. refl; takes = λ a b t. t.1 }) first last paced)

-- ---- the last line

-- some bytes of the last line were put
pub finish_grows : (stop : Stop) (n : ℕ) (old new : Option (List ℕ)) (status : ℕ) → Finishes stop n old new status → Grows old new
finish_grows End n old new status f = some_put _ 0 old new status f
finish_grows (BadLine m) n old new status f = some_put _ 3 old new status f
finish_grows Long n old new status f = some_put _ 11 old new status (inl f)
finish_grows Read n old new status f = some_put _ 5 old new status (inl f)
finish_grows Disk n old new status f = some_put _ 4 old new status (inl f)
finish_grows Memory n old new status f = some_put _ 7 old new status (inl f)
finish_grows (Tag bad) n old new status f = some_put _ 12 old new status f
finish_grows Write n old new status f = ([], Appends-kept old old new [] (Appends-nil old) f.1)
finish_grows Trace n old new status f = ([], Appends-kept old old new [] (Appends-nil old) f.1)
