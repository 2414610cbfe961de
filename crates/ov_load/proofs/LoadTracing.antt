-- What a load puts to the sink of frames, command by command.
use Rattle.std.proofs.Common.{MutBor, ◌≡◌, inl, inr, ℕ, suc, ◌+◌, ◌<◌, ◌≤◌, List, [], ◌∷◌, ◌++◌, refl, sym, ◌∙◌, ap, subst, arith, Option, Some}
use Rattle.std.specs.Prelude.{Result, Ok, Err}
use Rattle.std.specs.Io.KnownBytes.{Appends}
use Rattle.std.proofs.KnownBytes.{Appends-trans, Appends-nil}
use Rattle.std.proofs.lemmas.List.{append-nil}
use Rattle.ov_disk.specs.Disk.{Image}
use Rattle.ov_disk.specs.Tells.{DiskTells}
use Rattle.ov_script.specs.declared.command.Command.{Command}
use Rattle.ov_script.specs.declared.command.Command.TheVariants.{Epoch as AskEpoch}
use Rattle.ov_script.specs.declared.drawn.TheConstants.{WORKLOAD_USERS}
use Rattle.ov_script.specs.declared.reply.Reply.{Reply}
use Rattle.ov_script.specs.Workload.{Gives, Progress, command_at, first_commands}
use Rattle.ov_history.specs.Masters.{Masters}
use Rattle.ov_history.specs.Plain.{PlainHistory}
use Rattle.ov_model.specs.Step.{after}
use Rattle.ov_model.proofs.Runs.{after_all-more}
use Rattle.ov_transcript.specs.Transcripts.{IsTranscriptFront, Transcribed}
use Rattle.ov_machine.specs.Disks.{HasMade, Holds, KeepsPlain, KeepsStep, StandsForPlain}
use Rattle.ov_machine.specs.Frames.{BreaksOff, TracesAt, Transcribes}
use Rattle.ov_machine.specs.Machine.{KeptOn, StandsFor, StepsAt}
use Rattle.ov_machine.specs.declared.fault.StepFault.{StepFault}
use Rattle.ov_machine.specs.declared.fault.StepFault.TheVariants.{Disk, Memory, Tag, Trace}
use Rattle.ov_machine.proofs.PutOn.{transcripts_have_bytes}
use Rattle.ov_machine.proofs.Stays.{holds_each, holds_stands, keeps_stands}
use Rattle.ov_machine.proofs.Transcripts.{whole_is_front}
use Rattle.ov_answering.specs.Tracing.{TranscribesAll}
use Rattle.ov_answering.proofs.Loans.{lent_disk}
use Rattle.ov_answering.proofs.Tracing.{all_more}
use Rattle.ov_load.specs.LoadEnding.{IsFrontAt, IsMadeAt, KeepsAt, LoadTracesAs, TracedTo, TracesLoad, TracesWhole}
use Rattle.ov_load.specs.Loading.{LoadedTo, TalliesAt, after_first, after_load}
use Rattle.ov_load.specs.declared.load_words.Load.{Load}
use Rattle.ov_load.specs.declared.tally.Tally.{Tally}
use Rattle.ov_load.proofs.WorkloadSteps.{first_more}

-- ---- one command

-- a reply for whose line memory was refused was sent all the same
sent_unread : (k : Masters) (h : PlainHistory) (command : Command) (Made : Type 0) (old new : Option (List ℕ))
    → Made → Transcribes k h command old new → BreaksOff k h command Made old new
sent_unread k h command Made old new made (bytes, traced, put) = (bytes, whole_is_front k h command bytes traced, λ whole. made, put)

pub sent_unlined : {T : Type 0} (k : Masters) (h : PlainHistory) (command : Command) (Made : Type 0) (old new : Option (List ℕ)) (result : Result T StepFault) → result ≡ Err Memory
    → Made → Transcribes k h command old new → TracesAt k h command Made old new result
sent_unlined {T} k h command Made old new result is made traced =
    subst (λ (r : Result T StepFault). TracesAt k h command Made old new r) (sym is) (sent_unread k h command Made old new made traced)

-- ---- the commands so far

-- nothing is no whole transcript
nothing_made : (k : Masters) (h : PlainHistory) (load : Load) (place : ℕ) (c : Image) → IsMadeAt k h load place [] c
nothing_made k h load place c = λ low whole.
    absurd (transcripts_have_bytes k (after_first h load place) (command_at load.number place) [] refl whole)

-- no transcript was put yet
pub none_sent : (k : Masters) (h : PlainHistory) (load : Load) (trace : Option (List ℕ)) → TranscribesAll k h (first_commands load.number 0) trace trace
none_sent k h load trace = ([], refl, Appends-nil trace)

module _ {D : Type 0} (tells : DiskTells D) (k : Masters) (h : PlainHistory) (load : Load)
    (first : KeptOn D) where
  -- the transcripts of these commands were put, and no more
  pub stops_behind : (place : ℕ) → place ≤ WORKLOAD_USERS + load.count → (tally : Tally) (mid : KeptOn D) (old now : Option (List ℕ))
      → LoadedTo tells k h load place tally first mid → TranscribesAll k h (first_commands load.number place) old now
      → TracedTo tells k h load mid.disk old now (Holds tells k h h first.disk)
  stops_behind place low tally mid old now s (bytes, all, put) = record {
    place = place;
    low = low;
    bytes = bytes;
    more = [];
    transcripts = all;
    front = inl refl;
    put = subst (Appends old now) (sym (append-nil bytes)) put;
    leaves = λ holds c left. inl (holds_stands tells k h (after_first h load place) mid.disk (s.holds holds) c left);
    made = λ holds c left. nothing_made k h load place c;
  }

  module _ (place : ℕ) (low : place ≤ WORKLOAD_USERS + load.count) (tally : Tally)
      (mid last : KeptOn D) (masters : mid.kept.masters ≡ k) (old now new : Option (List ℕ))
      (s : LoadedTo tells k h load place tally first mid)
      (sent : TranscribesAll k h (first_commands load.number place) old now) where
    abbrev q : PlainHistory
    q = after_first h load place

    -- one more command was answered
    all_on : (command : Command) → ((j : PlainHistory) → StandsFor mid.kept j → Transcribes mid.kept.masters j command now new)
        → TranscribesAll k h (first_commands load.number place ++ command ∷ []) old new
    all_on command traces =
        all_more k h [] (first_commands load.number place) command old now new sent
        (subst (λ (x : Masters). Transcribes x q command now new) masters (traces q s.stands))

    -- one more command wasn't answered
    stops_in : (command : Command) → ((bytes : List ℕ) → IsTranscriptFront k q command bytes → IsFrontAt k h load place bytes)
        → ((bytes : List ℕ) → (Transcribed k q command bytes → HasMade tells k q command mid.disk last.disk)
        → Holds tells k h q mid.disk → (c : Image) → tells.may_leave last.disk c → IsMadeAt k h load place bytes c)
        → ((j : PlainHistory) → StandsFor mid.kept j
        → BreaksOff mid.kept.masters j command (HasMade tells mid.kept.masters j command mid.disk last.disk) now new)
        → (Holds tells k h q mid.disk → (c : Image) → tells.may_leave last.disk c → KeepsAt k h load place c)
        → TracedTo tells k h load last.disk old new (Holds tells k h h first.disk)
    stops_in command is_front is_made traces leaves =
        let (bytes, all, put) = sent in
        let (more, front, whole, put_more) =
        subst (λ (x : Masters). BreaksOff x q command (HasMade tells x q command mid.disk last.disk) now new) masters (traces q s.stands) in record {
          place = place;
          low = low;
          bytes = bytes;
          more = more;
          transcripts = all;
          front = inr (is_front more front);
          put = Appends-trans old now new bytes more put put_more;
          leaves = λ holds. leaves (s.holds holds);
          made = λ holds. is_made more whole (s.holds holds);
        }

  -- ---- by what the workload gives

  module _ (w next : Progress) (command : Command) (numbers : w.number ≡ load.number)
      (counts : w.count ≡ load.count) (gives : Gives w (Some command) next)
      (before now_tally : Tally) (mid last : KeptOn D) (masters : mid.kept.masters ≡ k)
      (old now new : Option (List ℕ)) (s : LoadedTo tells k h load w.place before first mid)
      (sent : TranscribesAll k h (first_commands load.number w.place) old now) where
    command_is : command ≡ command_at load.number w.place
    command_is = gives.1 ∙ ap (λ n. command_at n w.place) numbers

    next_is : next.place ≡ w.place + 1
    next_is = ap (λ (x : Progress). x.place) gives.2

    under : w.place < WORKLOAD_USERS + load.count
    under = omega (arith, gives.0, counts)

    below : w.place ≤ WORKLOAD_USERS + load.count
    below = omega (arith, gives.0, counts)

    pub sent_more : ((j : PlainHistory) → StandsFor mid.kept j → Transcribes mid.kept.masters j command now new)
        → TranscribesAll k h (first_commands load.number next.place) old new
    sent_more traces =
        subst (λ (all : List Command). TranscribesAll k h all old new)
        (ap (λ c. first_commands load.number w.place ++ c ∷ []) command_is ∙ sym (first_more load.number w.place next.place next_is))
        (all_on w.place below before mid last masters old now new s sent command traces)

    after_is : after_first h load (suc w.place) ≡ after (after_first h load w.place) (command_at load.number w.place)
    after_is = after_all-more h (first_commands load.number w.place) (command_at load.number w.place)

    keeps_at : (c : Image) → KeepsStep k h (after_first h load w.place) (command_at load.number w.place) c → KeepsAt k h load w.place c
    keeps_at c (inl keeps) = inl (keeps_stands k h (after_first h load w.place) c keeps)
    keeps_at c (inr keeps) = inr (
      under,
      subst (λ x. StandsForPlain k h x c) (sym after_is)
          (keeps_stands k h (after (after_first h load w.place) (command_at load.number w.place)) c keeps),
    )

    leaves_now : (T : Type 0) (fault : StepFault)
        → TalliesAt tells {T = T} k (after_first h load w.place) (command_at load.number w.place) before now_tally mid last (Err fault)
        → Holds tells k h (after_first h load w.place) mid.disk → (c : Image) → tells.may_leave last.disk c → KeepsAt k h load w.place c
    leaves_now T Disk tallies holds c left = keeps_at c ((tallies h holds).now c left)
    leaves_now T Trace tallies holds c left = keeps_at c ((tallies h holds).now c left)
    leaves_now T Memory tallies holds c left = keeps_at c ((tallies h holds).now c left)
    leaves_now T (Tag bad) tallies holds c left = absurd tallies

    made_at : (bytes : List ℕ)
        → (Transcribed k (after_first h load w.place) command bytes
        → HasMade tells k (after_first h load w.place) command mid.disk last.disk)
        → Holds tells k h (after_first h load w.place) mid.disk → (c : Image) → tells.may_leave last.disk c → IsMadeAt k h load w.place bytes c
    made_at bytes has_made holds c left = λ low whole.
        let there = has_made (subst (λ x. Transcribed k (after_first h load w.place) x bytes) (sym command_is) whole) h holds c left in
        keeps_stands k h (after_first h load (suc w.place)) c
        (subst (λ x. KeepsPlain k h x c) (ap (after (after_first h load w.place)) command_is ∙ sym after_is) there)

    pub sent_stops : {T : Type 0} (r : Result T StepFault) (fault : StepFault) → r ≡ Err fault
        → ((j : Masters) (q : PlainHistory) → mid.kept.masters ≡ j → StandsFor mid.kept q → TalliesAt tells j q command before now_tally mid last r)
        → ((j : PlainHistory) → StandsFor mid.kept j
        → BreaksOff mid.kept.masters j command (HasMade tells mid.kept.masters j command mid.disk last.disk) now new)
        → TracedTo tells k h load last.disk old new (Holds tells k h h first.disk)
    sent_stops {T} r fault at tallies traces =
        stops_in w.place below before mid last masters old now new s sent command
        (λ bytes front. inl (under, subst (λ c. IsTranscriptFront k (after_first h load w.place) c bytes) command_is front)) made_at traces
        (leaves_now T fault (subst (λ c. TalliesAt tells {T = T} k (after_first h load w.place) c before now_tally mid last (Err fault)) command_is
        (subst (λ (x : Result T StepFault). TalliesAt tells k (after_first h load w.place) command before now_tally mid last x) at
        (tallies k (after_first h load w.place) masters s.stands))))

  -- ---- at the end

  pub sent_to_end : (place : ℕ) → place ≡ WORKLOAD_USERS + load.count → (old now : Option (List ℕ)) → TranscribesAll k h (first_commands load.number place) old now
      → TranscribesAll k h (first_commands load.number (WORKLOAD_USERS + load.count)) old now
  sent_to_end place is old now sent = subst (λ (n : ℕ). TranscribesAll k h (first_commands load.number n) old now) is sent

  module _ (tally : Tally) (mid last : KeptOn D) (masters : mid.kept.masters ≡ k)
      (old now new : Option (List ℕ))
      (s : LoadedTo tells k h load (WORKLOAD_USERS + load.count) tally first mid)
      (sent : TranscribesAll k h (first_commands load.number (WORKLOAD_USERS + load.count)) old now) where
    abbrev AreSteps : Result Reply StepFault → Type 0
    AreSteps r = (j : Masters) (q : PlainHistory) → mid.kept.masters ≡ j → StandsFor mid.kept q → StepsAt tells j q AskEpoch mid last r

    keeps_end : (c : Image) → KeepsStep k h (after_load h load) AskEpoch c → KeepsAt k h load (WORKLOAD_USERS + load.count) c
    keeps_end c (inl keeps) = inl (keeps_stands k h (after_load h load) c keeps)
    keeps_end c (inr keeps) = inl (keeps_stands k h (after_load h load) c keeps)

    leaves_end : (fault : StepFault) → StepsAt tells k (after_load h load) AskEpoch mid last (Err fault)
        → Holds tells k h (after_load h load) mid.disk → (c : Image) → tells.may_leave last.disk c → KeepsAt k h load (WORKLOAD_USERS + load.count) c
    leaves_end Disk steps holds c left = keeps_end c ((steps h holds).now c left)
    leaves_end Trace steps holds c left = keeps_end c ((steps h holds).now c left)
    leaves_end Memory steps holds c left = keeps_end c ((steps h holds).now c left)
    leaves_end (Tag bad) steps holds c left = absurd steps

    -- behind the last command no other is made
    none_made : (bytes : List ℕ)
        → (Transcribed k (after_load h load) AskEpoch bytes → HasMade tells k (after_load h load) AskEpoch mid.disk last.disk)
        → Holds tells k h (after_load h load) mid.disk → (c : Image) → tells.may_leave last.disk c → IsMadeAt k h load (WORKLOAD_USERS + load.count) bytes c
    none_made bytes has_made holds c left = λ low whole. absurd (omega (arith, low))

    pub sent_end : (reply : Reply) → AreSteps (Ok reply) → ((j : PlainHistory) → StandsFor mid.kept j → Transcribes mid.kept.masters j AskEpoch now new)
        → TracesWhole k h load old new × TracedTo tells k h load last.disk old new (Holds tells k h h first.disk)
    sent_end reply steps traces = (
      all_on (WORKLOAD_USERS + load.count) (omega arith) tally mid last masters old now new s sent AskEpoch traces,
      stops_in (WORKLOAD_USERS + load.count) (omega arith) tally mid last masters old now new s sent AskEpoch (λ bytes front. inr (refl, front)) none_made
          (λ j stands. sent_unread mid.kept.masters j AskEpoch (HasMade tells mid.kept.masters j AskEpoch mid.disk last.disk) now new
          (λ start holds c left. holds_each tells mid.kept.masters start j last.disk
          ((steps mid.kept.masters j refl stands).1.holds start holds) c left) (traces j stands))
          (λ holds c left. inl (holds_stands tells k h (after_load h load) last.disk
          ((steps k (after_load h load) masters s.stands).1.holds h holds) c left)),
    )

    pub sent_end_stops : (r : Result Reply StepFault) (fault : StepFault) → r ≡ Err fault → AreSteps r
        → ((j : PlainHistory) → StandsFor mid.kept j
        → BreaksOff mid.kept.masters j AskEpoch (HasMade tells mid.kept.masters j AskEpoch mid.disk last.disk) now new)
        → TracedTo tells k h load last.disk old new (Holds tells k h h first.disk)
    sent_end_stops r fault at steps traces =
        stops_in (WORKLOAD_USERS + load.count) (omega arith) tally mid last masters old now new s sent AskEpoch (λ bytes front. inr (refl, front)) none_made traces
        (leaves_end fault (subst (λ (x : Result Reply StepFault). StepsAt tells k (after_load h load) AskEpoch mid last x) at
        (steps k (after_load h load) masters s.stands)))

-- the load ended with this fault
pub as_fault : {D : Type 0} (tells : DiskTells D) (k : Masters) (h : PlainHistory) (load : Load) (last : D) (old new : Option (List ℕ)) (holds : Type 0)
    (result : Result Tally StepFault) (fault : StepFault) → result ≡ Err fault → TracedTo tells k h load last old new holds
    → TracesLoad tells k h load last old new holds result
as_fault tells k h load last old new holds result fault is sent =
    subst (λ (r : Result Tally StepFault). TracesLoad tells k h load last old new holds r) (sym is) sent

fault_or : {T : Type 0} → Result T StepFault → StepFault → StepFault
fault_or (Ok done) other = other
fault_or (Err fault) other = fault

-- a fault that is passed on is the same one
pub same_fault : {S T : Type 0} (r : Result S StepFault) (s : Result T StepFault) (fault : StepFault) → r ≡ Err fault → s ≡ Err fault → s ≡ Err Trace → r ≡ Err Trace
unfolding fault_or
same_fault {S} {T} r s fault at is e =
    at ∙ ap (λ (f : StepFault). Err f) (ap (λ (x : Result T StepFault). fault_or x Memory) (sym is ∙ e))

-- ---- the whole

module _ {D : Type 0} (tells : DiskTells D) (k : Masters) (h : PlainHistory) (load : Load)
    (last : D) (old new : Option (List ℕ)) (holds : Type 0) where
  pub as_sent : (status : ℕ) → TracesWhole k h load old new × TracedTo tells k h load last old new holds → LoadTracesAs tells k h load last old new status holds
  as_sent status sent = record { whole = λ _. sent.0; first = sent.1 }

  pub as_stopped : (status : ℕ) → (status ≡ 0 → ⊥) → TracedTo tells k h load last old new holds → LoadTracesAs tells k h load last old new status holds
  as_stopped status never sent = record { whole = λ zero. absurd (never zero); first = sent }

-- nothing was sent, and the disk stands for the history from before
pub as_unsent : {D : Type 0} (tells : DiskTells D) (k : Masters) (h : PlainHistory) (load : Load) (last : D) (trace : Option (List ℕ)) (holds : Type 0) (status : ℕ)
    → (status ≡ 0 → ⊥) → (holds → (c : Image) → tells.may_leave last c → StandsForPlain k h h c) → LoadTracesAs tells k h load last trace trace status holds
as_unsent tells k h load last trace holds status never stands = record {
  whole = λ zero. absurd (never zero);
  first = record {
    place = 0;
    low = omega arith;
    bytes = [];
    more = [];
    transcripts = refl;
    front = inl refl;
    put = Appends-nil trace;
    leaves = λ held c left. inl (stands held c left);
    made = λ held c left. nothing_made k h load 0 c;
  };
}

-- the disk stands for the history
pub sent_holding : {D : Type 0} (tells : DiskTells D) (k : Masters) (h : PlainHistory) (load : Load) (last : D) (old new : Option (List ℕ)) (holds : Type 0)
    → holds → TracedTo tells k h load last old new holds → TracedTo tells k h load last old new (Unit {0})
sent_holding tells k h load last old new holds held t = record {
  place = t.place;
  low = t.low;
  bytes = t.bytes;
  more = t.more;
  transcripts = t.transcripts;
  front = t.front;
  put = t.put;
  leaves = λ _. t.leaves held;
  made = λ _. t.made held;
}

-- what is said of a disk behind a loan is said of the disk
pub sent_lent : {D : Type 0} (tells : DiskTells D) (k : Masters) (h : PlainHistory) (load : Load) (last : MutBor D) (old new : Option (List ℕ))
    (status : ℕ) (holds : Type 0) → LoadTracesAs (lent_disk tells) k h load last old new status holds
    → LoadTracesAs tells k h load last.now old new status holds
sent_lent tells k h load last old new status holds t = record {
  whole = t.whole;
  first = record {
    place = t.first.place;
    low = t.first.low;
    bytes = t.first.bytes;
    more = t.first.more;
    transcripts = t.first.transcripts;
    front = t.first.front;
    put = t.first.put;
    leaves = t.first.leaves;
    made = t.first.made;
  };
}
