-- A workload that is answered command by command.
use Rattle.std.proofs.Common.{◌≡◌, inl, inr, ℕ, suc, ◌+◌, ◌<◌, ◌≤◌, List, [], ◌∷◌, ◌++◌, refl, sym, ◌∙◌, ap, subst, arith, Option, Some, None}
use Rattle.std.specs.Prelude.{Result, Ok, Err}
use Rattle.sha2.specs.Hashers.{Holds256}
use Rattle.ov_disk.specs.Disk.{Image}
use Rattle.ov_disk.specs.Moments.{LeavesOnly}
use Rattle.ov_disk.proofs.Runs.{started, then_on}
use Rattle.ov_disk.specs.Tells.{DiskTells}
use Rattle.ov_script.specs.declared.command.Command.{Command}
use Rattle.ov_script.specs.declared.command.Command.TheVariants.{Epoch as AskEpoch}
use Rattle.ov_script.specs.declared.drawn.TheConstants.{MAX_WORKLOAD, WORKLOAD_USERS}
use Rattle.ov_script.specs.declared.next.Next.TheVariants.{Command as Next-Command}
use Rattle.ov_script.specs.declared.reply.Reply.{Reply}
use Rattle.ov_script.specs.declared.reply.Reply.TheVariants.{Accepted, Bytes, List as Listed, Epoch as EpochIs, Refused, End}
use Rattle.ov_script.specs.Lines.{reply_line}
use Rattle.ov_script.specs.Workload.{Gives, Progress, command_at, first_commands}
use Rattle.ov_script.proofs.WorkloadItems.{said}
use Rattle.ov_history.specs.Masters.{Masters}
use Rattle.ov_history.specs.Plain.{PlainHistory}
use Rattle.ov_model.specs.Lines.{lines}
use Rattle.ov_model.specs.Step.{after, after_all, reply_to}
use Rattle.ov_model.proofs.Runs.{after_all-more, lines-more}
use Rattle.ov_machine.specs.Disks.{Holds, KeepsStep, StandsForPlain}
use Rattle.ov_machine.specs.Machine.{IsCommand, KeptOn, LeavesStep, StandsFor, StepsAt}
use Rattle.ov_machine.specs.declared.fault.StepFault.{StepFault}
use Rattle.ov_machine.specs.declared.fault.StepFault.TheVariants.{Disk, Memory, Tag, Trace}
use Rattle.ov_machine.proofs.Stays.{holds_stands, keeps_stands}
use Rattle.ov_answering.proofs.Answering.{commands_come}
use Rattle.ov_load.specs.Loading.{KeepsSome, LoadedTo, Loads, TalliesAt, after_first, after_load}
use Rattle.ov_load.specs.Tallying.{AreAtMost, Takes, TalliesNothing, counted, counted_all}
use Rattle.ov_load.specs.declared.load_words.Load.{Load}
use Rattle.ov_load.specs.declared.tally.Counts.{Counts}
use Rattle.ov_load.specs.declared.tally.Tally.{Tally}
use Rattle.ov_load.proofs.Counting.{counted_all-more}

-- ---- counts

-- one more reply adds one at most
counted_low : (n : Counts) (most : ℕ) (r : Reply) → AreAtMost n most → AreAtMost (counted n r) (most + 1)
counted_low n most (Accepted epoch) low =
    record { accepted = omega (arith, low.accepted); refused = omega (arith, low.refused); given = omega (arith, low.given); listed = omega (arith, low.listed) }
counted_low n most (Refused why) low =
    record { accepted = omega (arith, low.accepted); refused = omega (arith, low.refused); given = omega (arith, low.given); listed = omega (arith, low.listed) }
counted_low n most (Bytes user file bytes) low =
    record { accepted = omega (arith, low.accepted); refused = omega (arith, low.refused); given = omega (arith, low.given); listed = omega (arith, low.listed) }
counted_low n most (Listed file names) low =
    record { accepted = omega (arith, low.accepted); refused = omega (arith, low.refused); given = omega (arith, low.given); listed = omega (arith, low.listed) }
counted_low n most (EpochIs epoch) low =
    record { accepted = omega (arith, low.accepted); refused = omega (arith, low.refused); given = omega (arith, low.given); listed = omega (arith, low.listed) }
counted_low n most (End epoch) low =
    record { accepted = omega (arith, low.accepted); refused = omega (arith, low.refused); given = omega (arith, low.given); listed = omega (arith, low.listed) }

pub low_more : (a b : Counts) (most : ℕ) → AreAtMost a most → (reply : Reply) × (b ≡ counted a reply) → AreAtMost b (most + 1)
low_more a b most low (reply, is) = subst (λ (n : Counts). AreAtMost n (most + 1)) (sym is) (counted_low a most reply low)

pub low_none : (n : Counts) → n ≡ Rattle.ov_load.specs.Tallying.none_counted → AreAtMost n 0
low_none n is =
    subst (λ (m : Counts). AreAtMost m 0) (sym is)
    (record { accepted = omega arith; refused = omega arith; given = omega arith; listed = omega arith })

-- what is low stays so below a higher bound
pub low_so : (n : Counts) (most more : ℕ) → AreAtMost n most → most ≤ more → AreAtMost n more
low_so n most more low le = record {
  accepted = omega (arith, low.accepted, le);
  refused = omega (arith, low.refused, le);
  given = omega (arith, low.given, le);
  listed = omega (arith, low.listed, le);
}

-- ---- commands

-- the commands of a workload may come
pub workload_comes : (number place : ℕ) (command : Command) → place < WORKLOAD_USERS + MAX_WORKLOAD → command ≡ command_at number place → IsCommand command
workload_comes number place command low is =
    subst IsCommand (sym is) (commands_come (Next-Command (command_at number place)) (command_at number place) (said number place low) refl)

pub first_more : (number place next : ℕ) → next ≡ place + 1 → first_commands number next ≡ first_commands number place ++ command_at number place ∷ []
first_more number place next is = let one : next ≡ suc place = omega (arith, is) in ap (first_commands number) one

-- a workload that gives no more is at its end
pub ended : (w next : Progress) (given : Option Command) (count : ℕ) → Gives w given next → ((command : Command) → given ≡ Some command → ⊥) → w.count ≡ count
    → w.place ≡ WORKLOAD_USERS + count
ended w next (Some command) count gives none same = absurd (none command refl)
ended w next None count gives none same = gives.0 ∙ ap (λ n. WORKLOAD_USERS + n) same

module _ {D : Type 0} (tells : DiskTells D) where
  -- ---- one command

  module _ (k : Masters) (h : PlainHistory) (command : Command) (before now : Tally) (first last : KeptOn D) where
    -- the command is answered and its reply tallied
    pub tallied : {T : Type 0} (done : T) (reply : Reply) (line : List ℕ) → line ≡ reply_line reply
        → StepsAt tells k h command first last (Ok reply) → Takes before reply line now
        → TalliesAt tells k h command before now first last (Ok done)
    tallied done reply line is (same, goes) takes =
        (subst (λ (r : Reply). Takes before r (reply_line r) now) same (subst (λ (l : List ℕ). Takes before reply l now) is takes), goes)

    -- the command isn't answered
    unanswered : (T : Type 0) (fault : StepFault) → StepsAt tells k h command first last (Err fault)
        → TalliesAt tells {T = T} k h command before now first last (Err fault)
    unanswered T Disk steps = steps
    unanswered T Trace steps = steps
    unanswered T Memory steps = steps
    unanswered T (Tag bad) steps = absurd steps

    pub unanswered_as : {T : Type 0} (result : Result T StepFault) (fault : StepFault) → result ≡ Err fault
        → StepsAt tells k h command first last (Err fault)
        → TalliesAt tells k h command before now first last result
    unanswered_as {T} result fault is steps =
        subst (λ (r : Result T StepFault). TalliesAt tells k h command before now first last r) (sym is)
        (unanswered T fault steps)

    -- the command is answered, but memory is refused for its line
    pub unlined : {T : Type 0} (result : Result T StepFault) (reply : Reply) → result ≡ Err Memory
        → StepsAt tells k h command first last (Ok reply)
        → TalliesAt tells k h command before now first last result
    unlined {T} result reply is steps =
        subst (λ (r : Result T StepFault). TalliesAt tells k h command before now first last r) (sym is) steps.1.leaves

  -- ---- the commands so far

  module _ (k : Masters) (h : PlainHistory) (load : Load) (first : KeptOn D) where
    pub loads_none : (tally : Tally) → TalliesNothing tally → StandsFor first.kept h
        → LoadedTo tells k h load 0 tally first first
    loads_none tally none stands = record {
      counts = none.0;
      hashed = none.1;
      stands = stands;
      holds = λ holds. holds;
      moments = λ holds. started tells first.disk (KeepsSome k h load)
          (λ c left. (0, omega arith, holds_stands tells k h h first.disk holds c left));
    }

    module _ (place next : ℕ) (is : next ≡ place + 1) (low : place < WORKLOAD_USERS + load.count)
        (before : Tally) (mid last : KeptOn D)
        (s : LoadedTo tells k h load place before first mid) where
      abbrev command : Command
      command = command_at load.number place

      abbrev q : PlainHistory
      q = after_first h load place

      after_is : after_first h load next ≡ after q command
      after_is = ap (after_all h) (first_more load.number place next is) ∙ after_all-more h (first_commands load.number place) command

      step_some : (c : Image) → KeepsStep k h q command c → KeepsSome k h load c
      step_some c (inl keeps) = (place, omega (arith, low), keeps_stands k h q c keeps)
      step_some c (inr keeps) = (
        next,
        omega (arith, low, is),
        subst (λ x. StandsForPlain k h x c) (sym after_is) (keeps_stands k h (after q command) c keeps),
      )

      moments_so : LeavesStep tells k h q command mid.disk last.disk → Holds tells k h h first.disk
          → LeavesOnly tells first.disk last.disk (KeepsSome k h load)
      moments_so leaves holds =
          then_on tells first.disk mid.disk last.disk (KeepsSome k h load) (KeepsStep k h q command)
          (s.moments holds) leaves.moments step_some

      -- one more is answered
      pub loads_more : {T : Type 0} (done : T) (now : Tally) → TalliesAt tells k q command before now mid last (Ok done)
          → LoadedTo tells k h load next now first last
      loads_more done now (takes, goes) = record {
        counts = takes.0 ∙ ap (λ (n : Counts). counted n (reply_to q command)) s.counts
            ∙ sym (counted_all-more _ h (first_commands load.number place) command)
            ∙ ap (counted_all _ h) (sym (first_more load.number place next is));
        hashed = subst (λ (l : List ℕ). Holds256 now.hasher l)
            (sym (ap (lines h) (first_more load.number place next is) ∙ lines-more h (first_commands load.number place) command))
            (takes.1 (lines h (first_commands load.number place)) s.hashed);
        stands = subst (StandsFor last.kept) (sym after_is) goes.stands;
        holds = λ holds.
            subst (λ x. Holds tells k h x last.disk) (sym after_is) (goes.holds h (s.holds holds));
        moments = λ holds. moments_so (goes.leaves h (s.holds holds)) holds;
      }

      -- the next command isn't answered
      loads_stop : (T : Type 0) (now : Tally) (fault : StepFault)
          → TalliesAt tells {T = T} k q command before now mid last (Err fault)
          → Loads tells k h load first last (Err fault)
      loads_stop T now Disk stops = λ holds. moments_so (stops h (s.holds holds)) holds
      loads_stop T now Trace stops = λ holds. moments_so (stops h (s.holds holds)) holds
      loads_stop T now Memory stops = λ holds. moments_so (stops h (s.holds holds)) holds
      loads_stop T now (Tag bad) stops = absurd stops

    -- ---- at the end the epoch is asked for

    pub to_end : (place : ℕ) → place ≡ WORKLOAD_USERS + load.count → (tally : Tally) (mid : KeptOn D) → LoadedTo tells k h load place tally first mid
        → LoadedTo tells k h load (WORKLOAD_USERS + load.count) tally first mid
    to_end place is tally mid s = subst (λ (n : ℕ). LoadedTo tells k h load n tally first mid) is s

    module _ (tally : Tally) (mid last : KeptOn D) (masters : mid.kept.masters ≡ k)
        (s : LoadedTo tells k h load (WORKLOAD_USERS + load.count) tally first mid) where
      abbrev AreSteps : Result Reply StepFault → Type 0
      AreSteps r = (j : Masters) (q : PlainHistory) → mid.kept.masters ≡ j → StandsFor mid.kept q → StepsAt tells j q AskEpoch mid last r

      epoch_some : (c : Image) → KeepsStep k h (after_load h load) AskEpoch c → KeepsSome k h load c
      epoch_some c (inl keeps) =
          (WORKLOAD_USERS + load.count, omega arith, keeps_stands k h (after_load h load) c keeps)
      epoch_some c (inr keeps) =
          (WORKLOAD_USERS + load.count, omega arith, keeps_stands k h (after_load h load) c keeps)

      moments_at_end : LeavesStep tells k h (after_load h load) AskEpoch mid.disk last.disk
          → Holds tells k h h first.disk
          → LeavesOnly tells first.disk last.disk (KeepsSome k h load)
      moments_at_end leaves holds =
          then_on tells first.disk mid.disk last.disk (KeepsSome k h load) (KeepsStep k h (after_load h load) AskEpoch)
          (s.moments holds) leaves.moments epoch_some

      pub ends_asked : (reply : Reply) → AreSteps (Ok reply)
          → LoadedTo tells k h load (WORKLOAD_USERS + load.count) tally first last
      ends_asked reply steps =
          let goes = (steps k (after_load h load) masters s.stands).1 in record {
            counts = s.counts;
            hashed = s.hashed;
            stands = goes.stands;
            holds = λ holds. goes.holds h (s.holds holds);
            moments = λ holds. moments_at_end (goes.leaves h (s.holds holds)) holds;
          }

      by_fault : (fault : StepFault) → StepsAt tells k (after_load h load) AskEpoch mid last (Err fault)
          → Loads tells k h load first last (Err fault)
      by_fault Disk steps = λ holds. moments_at_end (steps h (s.holds holds)) holds
      by_fault Trace steps = λ holds. moments_at_end (steps h (s.holds holds)) holds
      by_fault Memory steps = λ holds. moments_at_end (steps h (s.holds holds)) holds
      by_fault (Tag bad) steps = absurd steps

      pub ends_unasked : (r : Result Reply StepFault) (fault : StepFault) → r ≡ Err fault → AreSteps r
          → (result : Result Tally StepFault) → result ≡ Err fault → Loads tells k h load first last result
      ends_unasked r fault at steps result is =
          subst (λ (x : Result Tally StepFault). Loads tells k h load first last x) (sym is)
          (by_fault fault (subst (λ (x : Result Reply StepFault). StepsAt tells k (after_load h load) AskEpoch mid last x) at
          (steps k (after_load h load) masters s.stands)))

    -- ---- by what the workload gives

    module _ (w next : Progress) (command : Command) (numbers : w.number ≡ load.number)
        (counts : w.count ≡ load.count) (gives : Gives w (Some command) next) (before now : Tally)
        (mid last : KeptOn D) (masters : mid.kept.masters ≡ k)
        (s : LoadedTo tells k h load w.place before first mid) where
      abbrev AreTallies : {T : Type 0} → Result T StepFault → Type 0
      AreTallies r =
          (j : Masters) (q : PlainHistory) → mid.kept.masters ≡ j → StandsFor mid.kept q
          → TalliesAt tells j q command before now mid last r

      next_is : next.place ≡ w.place + 1
      next_is = ap (λ (x : Progress). x.place) gives.2

      low : w.place < WORKLOAD_USERS + load.count
      low = omega (arith, gives.0, counts)

      tallies_so : {T : Type 0} (r : Result T StepFault) → AreTallies r
          → TalliesAt tells k (after_first h load w.place) (command_at load.number w.place) before now mid last r
      tallies_so r tallies =
          subst (λ c. TalliesAt tells k (after_first h load w.place) c before now mid last r)
          (gives.1 ∙ ap (λ n. command_at n w.place) numbers) (tallies k (after_first h load w.place) masters s.stands)

      pub goes_on : {T : Type 0} (done : T) → AreTallies (Ok done) → LoadedTo tells k h load next.place now first last
      goes_on done tallies = loads_more w.place next.place next_is low before mid last s done now (tallies_so (Ok done) tallies)

      pub stops : {T : Type 0} (r : Result T StepFault) (fault : StepFault) → r ≡ Err fault → AreTallies r
          → (result : Result Tally StepFault) → result ≡ Err fault → Loads tells k h load first last result
      stops {T} r fault at tallies result is =
          let stopped = subst (λ (x : Result T StepFault). TalliesAt tells k (after_first h load w.place)
          (command_at load.number w.place) before now mid last x) at (tallies_so r tallies) in
          subst (λ (x : Result Tally StepFault). Loads tells k h load first last x) (sym is)
          (loads_stop w.place next.place next_is low before mid last s T now fault stopped)
