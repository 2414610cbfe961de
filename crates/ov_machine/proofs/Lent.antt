-- Steps over a traced peer to which the machine lends its server, and its caller the sink.
use Rattle.std.proofs.Common.{MutBor, ◌≡◌, ◌∙◌, ℕ, ◌+◌, List, false, Option, Result, Err, refl, sym, ap, subst, arith}
use Rattle.std.specs.Io.KnownBytes.{Appends}
use Rattle.ov_io.specs.Tells.{SinkTells}
use Rattle.ov_disk.specs.Tells.{DiskTells}
use Rattle.ov_images.specs.Images.{Keys, keys_of}
use Rattle.ov_script.specs.declared.command.Command.{Command}
use Rattle.ov_script.specs.declared.reply.Reply.{Reply}
use Rattle.ov_history.specs.Masters.{Masters}
use Rattle.ov_history.specs.Sealed.{SealedHistory}
use Rattle.ov_peer.specs.Asks.{AreAsks, Ask}
use Rattle.ov_peer.specs.Tells.{PeerTells, lent_peer}
use Rattle.ov_peer.specs.Traced.{traced_tells}
use Rattle.ov_peer.specs.declared.traced.Traced.{Traced}
use Rattle.ov_store.specs.Opened.{Opened, Serves}
use Rattle.ov_owner.specs.Calls.{Runs}
use Rattle.ov_owner.specs.Causes.{HasOwnerCause}
use Rattle.ov_owner.specs.Errands.{Errand}
use Rattle.ov_owner.specs.Steps.{IsErrandFor}
use Rattle.ov_owner.specs.declared.fault.OwnerFault.{OwnerFault}
use Rattle.ov_owner.specs.declared.fault.OwnerFault.TheVariants as faults
use Rattle.ov_machine.specs.Disks.{HasMade}
use Rattle.ov_machine.specs.Frames.{TracesAt}
use Rattle.ov_machine.specs.Machine.{KeptOn, opened_of}
use Rattle.ov_machine.specs.Replying.{HasOwnFault, change_reply}
use Rattle.ov_machine.specs.Seats.{IsSeat, store_peer}
use Rattle.ov_machine.specs.Sinks.{PutsTo}
use Rattle.ov_machine.specs.Steps.{IsWholeStep}
use Rattle.ov_machine.specs.declared.fault.StepFault.{StepFault}
use Rattle.ov_machine.specs.declared.fault.StepFault.TheVariants.{Trace}
use Rattle.ov_machine.proofs.Done.{change_done, change_proper}
use Rattle.ov_machine.proofs.Ending.{is_link}
use Rattle.ov_machine.proofs.Seating.{grew_so, keys_so, lent_so, traced_seat}
use Rattle.ov_machine.proofs.Stepping.{machine_of}
use Rattle.ov_machine.proofs.TagReplies.{change_names}

-- a store with these keys is that of the machine with these masters
pub opens_as : {D : Type 0} (k : Masters) (s : Opened D) → s.keys ≡ keys_of k
    → s ≡ opened_of (machine_of k s)
opens_as k s is = λ i. record s { keys = is i }

module _ {D T : Type 0} (tells : DiskTells D) (sink : SinkTells T) where
  -- the peer
  abbrev pub Lent : Type 0
  Lent = Traced (MutBor (Opened D)) (MutBor T)

  -- the sink behind its loan
  abbrev pub lent_sink : SinkTells (MutBor T)
  lent_sink = record {
    written = λ s. sink.written s.now;
    faults = λ s. sink.faults s.now;
    borrow = λ s. s.ghost_name;
    puts = λ a b. (b.ghost_name ≡ a.ghost_name) × sink.puts a.now b.now;
  }

  -- what the peer tells
  abbrev pub lent : PeerTells Lent
  lent = traced_tells (lent_peer (store_peer tells)) lent_sink

  abbrev pub store_of : Lent → Opened D
  store_of p = p.peer.now

  abbrev pub put_of : Lent → Option (List ℕ)
  put_of p = sink.written p.sink.now

  abbrev pub loan_of : Lent → ℕ
  loan_of p = p.sink.ghost_name

  pub seat : IsSeat tells lent store_of put_of loan_of
  seat =
      traced_seat tells (lent_peer (store_peer tells)) lent_sink (λ (a : MutBor (Opened D)). a.now)
      (λ p q request reply asks. asks) (λ p q request same. same)

  -- the sink stays lent as it was
  pub stays_lent : (asks : List Ask) (o : Option (List ℕ)) (a b : Lent)
      → AreAsks lent a asks o b → b.sink.ghost_name ≡ a.sink.ghost_name
  stays_lent asks o a b are =
      lent_so tells lent store_of put_of loan_of seat asks o a b are

  pub keeps_keys : (asks : List Ask) (o : Option (List ℕ)) (a b : Lent)
      → AreAsks lent a asks o b → b.peer.now.keys ≡ a.peer.now.keys
  keeps_keys asks o a b are =
      keys_so tells lent store_of put_of loan_of seat asks o a b are

  pub puts_more : (asks : List Ask) (o : Option (List ℕ)) (a b : Lent)
      → AreAsks lent a asks o b
      → (bytes : List ℕ) × Appends (sink.written a.sink.now) (sink.written b.sink.now) bytes
  puts_more asks o a b are =
      grew_so tells lent store_of put_of loan_of seat asks o a b are

  -- all that is said of a step
  abbrev pub IsWhole : Command → KeptOn D → KeptOn D → T → T → Result Reply StepFault → Type 0
  IsWhole command old new t_old t_new r =
      IsWholeStep tells sink command old new t_old t_new r

  -- what was put, where a fault of the trace comes of one of the link
  puts_so : {V : Type 0} (asks : List Ask) (o : Option (List ℕ)) (a b : Lent)
      (made : Result V OwnerFault) (r : Result Reply StepFault)
      → AreAsks lent a asks o b
      → HasOwnerCause (0 + sink.faults a.sink.now) (0 + sink.faults b.sink.now) made
      → (r ≡ Err Trace → made ≡ Err faults.Link)
      → PutsTo sink (r ≡ Err Trace) a.sink.now b.sink.now
  puts_so asks o a b made r are cause link = record {
    grew = puts_more asks o a b are;
    later = omega (arith, cause.later);
    write = λ is. let rose = cause.link (link is) in omega (arith, rose);
  }

  -- ---- changes

  module _ (k : Masters) (command : Command) (e : Errand) (ours : IsErrandFor k.base command e)
      (a b : Lent) (made : Result ℕ OwnerFault) (runs : Runs lent k.surface e a b made)
      (s t : Opened D) (keys : s.keys ≡ keys_of k) (at_a : a.peer.now ≡ s) where
    -- no other fault comes, since the store stands for some history
    pub change_fault : (g : SealedHistory) → Serves tells g s → HasOwnFault made
    change_fault g serves =
        change_proper tells lent store_of put_of loan_of seat k command e ours a b g
        (subst (Serves tells g) (sym at_a) serves) made runs
        (ap (λ (x : Opened D). x.keys.surface) at_a ∙ ap (λ (x : Keys). x.surface) keys)

    pub change_loan : b.sink.ghost_name ≡ a.sink.ghost_name
    change_loan = stays_lent runs.asks runs.unanswered a b runs.are_asks

    pub change_keys : b.peer.now ≡ t → t.keys ≡ keys_of k
    change_keys at_b =
        ap (λ (x : Opened D). x.keys) (sym at_b)
        ∙ keeps_keys runs.asks runs.unanswered a b runs.are_asks
        ∙ ap (λ (x : Opened D). x.keys) at_a ∙ keys

    pub change_whole : (g : SealedHistory) → Serves tells g s
        → (t_old t_new : T) (r : Result Reply StepFault)
        → b.peer.now ≡ t → a.sink.now ≡ t_old → b.sink.now ≡ t_new → s.failed ≡ false
        → HasOwnerCause (0 + sink.faults a.sink.now) (0 + sink.faults b.sink.now) made
        → r ≡ change_reply made
        → IsWhole command (machine_of k s) (machine_of k t) t_old t_new r
    change_whole g serves t_old t_new r at_b put_a put_b sound cause replied =
        let is = change_done tells lent store_of put_of loan_of seat (machine_of k s) (machine_of k t) command e ours a b g
        (subst (Serves tells g) (sym at_a) serves) made runs (at_a ∙ opens_as k s keys) (at_b ∙ opens_as k t (change_keys at_b)) refl sound in
        let puts = puts_so runs.asks runs.unanswered a b made (change_reply made) runs.are_asks cause
        (is_link made (change_fault g serves)) in
        subst (IsWhole command (machine_of k s) (machine_of k t) t_old t_new) (sym replied)
        (record {
          steps = is.steps;
          traced = λ p stands.
              subst (λ (x : T). TracesAt k p command (HasMade tells k p command s.disk t.disk) (sink.written t_old) (sink.written x) (change_reply made)) put_b
              (subst (λ (x : T). TracesAt k p command (HasMade tells k p command s.disk t.disk) (sink.written x) (sink.written b.sink.now) (change_reply made)) put_a
              (is.traced p stands));
          as_told = is.as_told;
          step = is.step;
          sink = subst (λ (x : T). PutsTo sink (change_reply made ≡ Err Trace) t_old x) put_b
              (subst (λ (x : T). PutsTo sink (change_reply made ≡ Err Trace) x b.sink.now) put_a puts);
          tag = change_names command made;
        })

    -- a change by a machine that is seen so is a whole call of it
    pub change_all : (g : SealedHistory) → Serves tells g s
        → (old : KeptOn D) → machine_of k s ≡ old → old.failed ≡ false
        → (t_old t_new : T) (r : Result Reply StepFault)
        → b.peer.now ≡ t → a.sink.now ≡ t_old → b.sink.now ≡ t_new
        → HasOwnerCause (0 + sink.faults a.sink.now) (0 + sink.faults b.sink.now) made
        → r ≡ change_reply made
        → IsWhole command old (machine_of k t) t_old t_new r
    change_all g serves old seen sound t_old t_new r at_b put_a put_b cause replied =
        subst (λ (m : KeptOn D). IsWhole command m (machine_of k t) t_old t_new r) seen
        (change_whole g serves t_old t_new r at_b put_a put_b (ap (λ (m : KeptOn D). m.failed) seen ∙ sound) cause
        replied)
