-- A step over frames, all in all.
use Rattle.std.proofs.Common.{◌≡◌, ◌∙◌, ℕ, List, false, Option, Result, Ok, Err, refl, sym, ap, subst, inl, inr}
use Rattle.std.specs.Prelude.{◌⊎◌}
use Rattle.ov_base.specs.declared.refusal.Refusal.{Refusal}
use Rattle.ov_disk.specs.Tells.{DiskTells}
use Rattle.ov_script.specs.declared.command.Command.{Command}
use Rattle.ov_script.specs.declared.command.Command.TheVariants as commands
use Rattle.ov_script.specs.declared.reply.Reply.{Reply}
use Rattle.ov_script.specs.declared.reply.Reply.TheVariants as replies
use Rattle.ov_model.specs.Step.{after}
use Rattle.ov_history.specs.Masters.{Masters}
use Rattle.ov_history.specs.Plain.{PlainHistory}
use Rattle.ov_history.specs.Sealed.{SealedHistory}
use Rattle.ov_wire.specs.declared.answer.Answer.{Answer}
use Rattle.ov_wire.specs.declared.answer.Answer.TheVariants as answers
use Rattle.ov_wire.specs.declared.answer.Welcome.{Welcome}
use Rattle.ov_wire.specs.declared.request.Request.TheVariants as requests
use Rattle.ov_wire.specs.Requests.{HasRequestForm}
use Rattle.ov_peer.specs.Tells.{PeerTells}
use Rattle.ov_protocol.specs.Reading.{AnswersList}
use Rattle.ov_history.specs.Asking.{file_named}
use Rattle.ov_store.specs.Opened.{Opened, Serves}
use Rattle.ov_owner.specs.Calls.{Runs}
use Rattle.ov_owner.specs.Errands.{Errand}
use Rattle.ov_owner.specs.Questions.{AsksOnce, names_in, welcome_in}
use Rattle.ov_owner.specs.Steps.{IsErrandFor}
use Rattle.ov_owner.specs.declared.fault.OwnerFault.{OwnerFault}
use Rattle.ov_owner.specs.declared.fault.OwnerFault.TheVariants as faults
use Rattle.ov_server.specs.Locally.{IsServedBy}
use Rattle.ov_transcript.specs.Transcripts.{service_of}
use Rattle.ov_machine.specs.Disks.{HasMade}
use Rattle.ov_machine.specs.Frames.{Traces, TracesAt}
use Rattle.ov_machine.specs.Machine.{IsStep, KeptOn, StandsAsTold, StandsFor, Steps, StepsAt, opened_of}
use Rattle.ov_machine.specs.Replying.{HasOwnFault, change_reply, epoch_reply, fault_reply, names_reply}
use Rattle.ov_machine.specs.Seats.{IsSeat, Stays}
use Rattle.ov_machine.specs.Steps.{IsReadOf, StepsAsTold}
use Rattle.ov_machine.specs.declared.fault.StepFault.{StepFault}
use Rattle.ov_machine.proofs.AsTold.{as_far_as_told, changes_as_told}
use Rattle.ov_machine.proofs.Changed.{Changes, changed_by}
use Rattle.ov_machine.proofs.Ending.{changes_call, changes_proper}
use Rattle.ov_machine.proofs.Errands.{honest}
use Rattle.ov_machine.proofs.Listing.{epoch_is, hello_plain, list_is, list_plain, refused_is}
use Rattle.ov_machine.proofs.Putting.{change_put, question_put}
use Rattle.ov_machine.proofs.Questioning.{IsCutOff, IsTakenOf, once_so}
use Rattle.ov_machine.proofs.Seating.{leads_so, left_so}
use Rattle.ov_machine.proofs.Staying.{EndsThere, HasOwnCause, still_as_told, still_call, still_steps}
use Rattle.ov_machine.proofs.Stepping.{changes_step, has_made, serves_at}
use Rattle.ov_machine.proofs.Transcripts.{traced_with}
use Rattle.ov_machine.proofs.Updating.{still_made}

-- how a list ends
abbrev ListEnds : List ℕ → PlainHistory → Result (List (List ℕ)) OwnerFault → Type 0
ListEnds file p x = EndsThere p (commands.List file) (names_reply file x)

abbrev ListCauses : ℕ → ℕ → List ℕ → Result (List (List ℕ)) OwnerFault → Type 0
ListCauses before now file x = HasOwnCause before now (names_reply file x)

module _ {D : Type 0} (tells : DiskTells D) {P : Type 0} (peer : PeerTells P)
    (server : P → Opened D) (put : P → Option (List ℕ)) (loan : P → ℕ)
    (seat : IsSeat tells peer server put loan) where
  -- all that is said of a step but its count of faults
  pub record IsDone (command : Command) (old new : KeptOn D) (a b : P)
      (r : Result Reply StepFault) : Type 0 where
    pub steps : Steps tells command old new r
    pub traced : Traces tells command old new (put a) (put b) r
    pub as_told : StepsAsTold command old new r
    pub step : IsStep tells old new r

  -- ---- changes

  module _ (k : Masters) (command : Command) (e : Errand) (ours : IsErrandFor k.base command e)
      (a b : P) (g : SealedHistory) (serves : Serves tells g (server a))
      (made : Result ℕ OwnerFault) (runs : Runs peer k.surface e a b made) where
    changed : (server a).keys.surface ≡ k.surface
        → Changes tells k.surface e (honest k.base command e ours) (server a) (server b) made
    changed same =
        let (m, leads, ends) = runs.are_asks in
        changed_by tells k.surface e
        (honest k.base command e ours) (server a) same g serves runs.asks runs.unanswered made
        (server m) (server b) runs.talks
        (leads_so tells peer server put loan seat runs.asks a m leads)
        (left_so tells peer server put loan seat runs.unanswered m b ends)

    -- no other fault comes
    pub change_proper : (server a).keys.surface ≡ k.surface → HasOwnFault made
    change_proper same =
        changes_proper tells k.surface e
        (honest k.base command e ours) (server a) (server b) made (changed same)

  pub change_done : (old new : KeptOn D) (command : Command) (e : Errand)
      (ours : IsErrandFor old.kept.masters.base command e) (a b : P) (g : SealedHistory)
      (serves : Serves tells g (server a)) (made : Result ℕ OwnerFault)
      → Runs peer old.kept.masters.surface e a b made
      → server a ≡ opened_of old → server b ≡ opened_of new
      → new.kept.masters ≡ old.kept.masters → old.failed ≡ false
      → IsDone command old new a b (change_reply made)
  change_done old new command e ours a b g serves made runs at_a at_b masters sound =
      let k = old.kept.masters in
      let is_honest = honest k.base command e ours in
      let surface : (server a).keys.surface ≡ k.surface =
      ap (λ (x : Opened D). x.keys.surface) at_a in
      let at_ab : Changes tells k.surface e is_honest (server a) (server b) made =
      changed k command e ours a b g serves made runs surface in
      let is : Changes tells k.surface e is_honest (opened_of old) (opened_of new) made =
      subst (λ (t : Opened D). Changes tells k.surface e is_honest (opened_of old) t made) at_b
      (subst (λ (s : Opened D). Changes tells k.surface e is_honest s (server b) made) at_a at_ab) in record {
        steps = λ m p same stands.
            subst (λ (x : Masters). StepsAt tells x p command old new (change_reply made)) same
            (changes_step tells old new p
            stands masters sound command e ours is_honest made is);
        traced = λ p stands.
            change_put tells peer server put loan seat
            k p stands.0.0 command e runs.asks runs.unanswered made a b
            (HasMade tells k p command old.disk new.disk)
            (λ last serves comes.
            has_made tells old new p
            stands masters sound command e ours is_honest made is last
            (subst (λ (s : Opened D). IsServedBy s last) at_b serves) comes)
            ours
            (subst (λ (s : Opened D). IsServedBy s (service_of k p)) (sym at_a) (serves_at old p stands))
            runs.are_asks runs.talks;
        as_told = λ p stands.
            changes_as_told tells old new p stands masters command e ours is_honest made is;
        step = changes_call tells k.surface e is_honest old
            new sound masters made is;
      }

  -- ---- questions

  -- a question whose reply is the machine's, and changes nothing but the disk
  pub question_done : (command : Command) (old new : KeptOn D) (a b : P) (r : Result Reply StepFault)
      → server a ≡ opened_of old → server b ≡ opened_of new → Stays tells (server a) (server b)
      → new.kept.masters ≡ old.kept.masters
      → ((p : PlainHistory) → after p command ≡ p)
      → ((p : PlainHistory) → StandsFor old.kept p → EndsThere p command r)
      → ((p : PlainHistory) → StandsAsTold old.kept p
      → ((file : List ℕ) → IsReadOf file command → ⊥) → EndsThere p command r)
      → HasOwnCause (tells.faults old.disk) (tells.faults new.disk) r
      → ((p : PlainHistory) → StandsFor old.kept p → IsServedBy (server a) (service_of old.kept.masters p)
      → TracesAt old.kept.masters p command (Unit {0}) (put a) (put b) r)
      → IsDone command old new a b r
  question_done command old new a b r at_a at_b still masters stay ends as_told cause put_so =
      let stays : Stays tells (opened_of old) (opened_of new) =
      subst (λ (t : Opened D). Stays tells (opened_of old) t) at_b
      (subst (λ (s : Opened D). Stays tells s (server b)) at_a still) in record {
        steps = λ m p is stands.
            subst (λ (x : Masters). StepsAt tells x p command old new r) is
            (still_steps tells old new masters stays p stands command
            (stay p) r (ends p stands));
        traced = λ p stands.
            traced_with old.kept.masters p command (HasMade tells old.kept.masters p command old.disk new.disk)
            (put a) (put b) r
            (still_made tells old.kept.masters p command old.disk new.disk (stay p)
            stays.writes.disk)
            (put_so p stands
            (subst (λ (s : Opened D). IsServedBy s (service_of old.kept.masters p)) (sym at_a) (serves_at old p stands)));
        as_told = λ p stands.
            still_as_told tells old new masters stays p stands command (stay p) r (as_told p stands);
        step = still_call tells old new masters stays r cause;
      }

  -- what is taken of an answer is no fault but these
  cut_proper : {T : Type 0} (told : Result T OwnerFault) → IsCutOff told → HasOwnFault told
  cut_proper told (inl is) = subst HasOwnFault (sym is) tt
  cut_proper told (inr is) = subst HasOwnFault (sym is) tt

  -- ---- the epoch

  hello_taken : (s : Opened D) (told : Result Welcome OwnerFault)
      → IsTakenOf s requests.Hello welcome_in told
      → ((w : Welcome) × (w.epoch ≡ s.catalogue.epoch) × (told ≡ Ok w)) ⊎ IsCutOff told
  hello_taken s told (inl (x, is, so)) =
      inl (_, refl, so ∙ ap welcome_in is)
  hello_taken s told (inr cut) = inr cut

  module _ (a b : P) (told : Result Welcome OwnerFault) (form : HasRequestForm requests.Hello)
      (asks : AsksOnce peer a b requests.Hello welcome_in told) where
    hello_so : Stays tells (server a) (server b) × IsTakenOf (server a) requests.Hello welcome_in told
    hello_so =
        once_so tells peer server put loan seat
        requests.Hello welcome_in (hello_plain form) a b told asks

    pub hello_proper : HasOwnFault told
    hello_proper = by (hello_taken (server a) told hello_so.1) where
      by : ((w : Welcome) × (w.epoch ≡ (server a).catalogue.epoch) × (told ≡ Ok w)) ⊎ IsCutOff told
          → HasOwnFault told
      by (inl (w, is, so)) = subst HasOwnFault (sym so) tt
      by (inr cut) = cut_proper told cut

    pub hello_done : (old new : KeptOn D) → server a ≡ opened_of old → server b ≡ opened_of new
        → new.kept.masters ≡ old.kept.masters
        → IsDone commands.Epoch old new a b (epoch_reply told)
    hello_done old new at_a at_b masters =
        question_done commands.Epoch old new a b (epoch_reply told) at_a at_b hello_so.0 masters
        (λ p. refl)
        (λ p stands.
        ends p (as_far_as_told old.kept p stands) (hello_taken (server a) told hello_so.1))
        (λ p stands other. ends p stands (hello_taken (server a) told hello_so.1))
        (cause (tells.faults old.disk) (tells.faults new.disk)
        (hello_taken (server a) told hello_so.1))
        (λ p stands serves. question_put tells peer
        server put loan seat old.kept.masters p stands.0.0 commands.Epoch form welcome_in told
        (epoch_reply told) a b tt serves asks
        (λ reply is link. no_reply (ap epoch_reply (sym link) ∙ is))
        (λ reply is memory. no_memory (ap epoch_reply (sym memory) ∙ is))) where
          no_reply : {reply : Reply} → fault_reply faults.Link ≡ Ok reply → ⊥
          no_reply is = cc is

          no_memory : {reply : Reply} → fault_reply faults.Memory ≡ Ok reply → ⊥
          no_memory is = cc is

          ends : (p : PlainHistory) → StandsAsTold old.kept p
              → ((w : Welcome) × (w.epoch ≡ (server a).catalogue.epoch) × (told ≡ Ok w)) ⊎ IsCutOff told
              → EndsThere p commands.Epoch (epoch_reply told)
          ends p stands (inl (w, is, so)) =
              subst (λ (x : Result Welcome OwnerFault). EndsThere p commands.Epoch (epoch_reply x)) (sym so)
              (ap replies.Epoch (is ∙ ap (λ (s : Opened D). s.catalogue.epoch) at_a) ∙ epoch_is old.kept p stands)
          ends p stands (inr (inl is)) =
              subst (λ (x : Result Welcome OwnerFault). EndsThere p commands.Epoch (epoch_reply x)) (sym is) tt
          ends p stands (inr (inr is)) =
              subst (λ (x : Result Welcome OwnerFault). EndsThere p commands.Epoch (epoch_reply x)) (sym is) tt

          cause : (before now : ℕ)
              → ((w : Welcome) × (w.epoch ≡ (server a).catalogue.epoch) × (told ≡ Ok w)) ⊎ IsCutOff told
              → HasOwnCause before now (epoch_reply told)
          cause before now (inl (w, is, so)) =
              subst (λ (x : Result Welcome OwnerFault). HasOwnCause before now (epoch_reply x)) (sym so) tt
          cause before now (inr (inl is)) =
              subst (λ (x : Result Welcome OwnerFault). HasOwnCause before now (epoch_reply x)) (sym is) tt
          cause before now (inr (inr is)) =
              subst (λ (x : Result Welcome OwnerFault). HasOwnCause before now (epoch_reply x)) (sym is) tt

  -- ---- lists

  -- names were listed, or the file isn't there
  abbrev IsListed : Opened D → List ℕ → Result (List (List ℕ)) OwnerFault → Type 0
  IsListed s file told =
      ((names : List (List ℕ)) × (told ≡ Ok names)
      × AnswersList s.catalogue (file_named s.catalogue file) (answers.Listed names))
      ⊎ ((why : Refusal) × (told ≡ Err (faults.Refused why))
      × AnswersList s.catalogue (file_named s.catalogue file) (answers.Refused why))

  list_answer : (s : Opened D) (file : List ℕ) (told : Result (List (List ℕ)) OwnerFault) (x : Answer)
      → AnswersList s.catalogue (file_named s.catalogue file) x → told ≡ names_in x
      → IsListed s file told
  list_answer s file told (answers.Listed names) is so = inl (names, so, is)
  list_answer s file told (answers.Refused why) is so = inr (why, so, is)
  list_answer s file told x is so = absurd is

  list_taken : (s : Opened D) (file : List ℕ) (told : Result (List (List ℕ)) OwnerFault)
      → IsTakenOf s (requests.List file) names_in told
      → IsListed s file told ⊎ IsCutOff told
  list_taken s file told (inl (x, is, so)) = inl (list_answer s file told x is so)
  list_taken s file told (inr cut) = inr cut

  module _ (file : List ℕ) (a b : P) (told : Result (List (List ℕ)) OwnerFault)
      (form : HasRequestForm (requests.List file))
      (asks : AsksOnce peer a b (requests.List file) names_in told) where
    list_so : Stays tells (server a) (server b) × IsTakenOf (server a) (requests.List file) names_in told
    list_so =
        once_so tells peer server put loan seat
        (requests.List file) names_in (list_plain file form) a b told asks

    pub list_proper : HasOwnFault told
    list_proper = by (list_taken (server a) file told list_so.1) where
      by : IsListed (server a) file told ⊎ IsCutOff told → HasOwnFault told
      by (inl (inl (names, so, is))) = subst HasOwnFault (sym so) tt
      by (inl (inr (why, so, is))) = subst HasOwnFault (sym so) tt
      by (inr cut) = cut_proper told cut

    pub list_done : (old new : KeptOn D) → server a ≡ opened_of old → server b ≡ opened_of new
        → new.kept.masters ≡ old.kept.masters
        → IsDone (commands.List file) old new a b (names_reply file told)
    list_done old new at_a at_b masters =
        question_done (commands.List file) old new a b (names_reply file told) at_a at_b list_so.0
        masters (λ p. refl)
        (λ p stands.
        ends p (as_far_as_told old.kept p stands) (list_taken (server a) file told list_so.1))
        (λ p stands other. ends p stands (list_taken (server a) file told list_so.1))
        (cause (tells.faults old.disk) (tells.faults new.disk)
        (list_taken (server a) file told list_so.1))
        (λ p stands serves. question_put tells peer
        server put loan seat old.kept.masters p stands.0.0 (commands.List file) form names_in told
        (names_reply file told) a b tt serves asks
        (λ reply is link. no_reply (ap (names_reply file) (sym link) ∙ is))
        (λ reply is memory. no_memory (ap (names_reply file) (sym memory) ∙ is))) where
          no_reply : {reply : Reply} → fault_reply faults.Link ≡ Ok reply → ⊥
          no_reply is = cc is

          no_memory : {reply : Reply} → fault_reply faults.Memory ≡ Ok reply → ⊥
          no_memory is = cc is

          at_old : (x : Answer) → AnswersList (server a).catalogue (file_named (server a).catalogue file) x
              → AnswersList old.kept.catalogue (file_named old.kept.catalogue file) x
          at_old x is =
              subst (λ (s : Opened D). AnswersList s.catalogue (file_named s.catalogue file) x) at_a is

          ends : (p : PlainHistory) → StandsAsTold old.kept p → IsListed (server a) file told ⊎ IsCutOff told
              → ListEnds file p told
          ends p stands (inl (inl (names, so, is))) =
              subst (ListEnds file p) (sym so) (list_is old.kept p stands file names (at_old (answers.Listed names) is))
          ends p stands (inl (inr (why, so, is))) =
              subst (ListEnds file p) (sym so) (refused_is old.kept p stands file why (at_old (answers.Refused why) is))
          ends p stands (inr (inl is)) = subst (ListEnds file p) (sym is) tt
          ends p stands (inr (inr is)) = subst (ListEnds file p) (sym is) tt

          cause : (before now : ℕ) → IsListed (server a) file told ⊎ IsCutOff told
              → ListCauses before now file told
          cause before now (inl (inl (names, so, is))) =
              subst (ListCauses before now file) (sym so) tt
          cause before now (inl (inr (why, so, is))) =
              subst (ListCauses before now file) (sym so) tt
          cause before now (inr (inl is)) = subst (ListCauses before now file) (sym is) tt
          cause before now (inr (inr is)) = subst (ListCauses before now file) (sym is) tt
