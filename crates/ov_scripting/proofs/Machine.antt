-- A script over a server that nobody else updates: what was replied is the machine's.
use Rattle.std.proofs.Common.{◌≡◌, ◌∙◌, inl, inr, ℕ, List, [], ◌∷◌, ◌++◌, refl, sym, ap, subst}
use Rattle.std.proofs.Common.{ap₂, append-nil, arith, Bool, true, Option, Some, Result, Ok, Err}
use Rattle.std.proofs.KnownBytes.{Appends-kept, Appends-nil}
use Rattle.std.proofs.lemmas.Slice.Eq.{bytes_eq-Decides}
use Rattle.std.specs.Prelude.{◌⊎◌, bytes_eq, take}
use Rattle.std.specs.Io.KnownBytes.{Appends, Keeps}
use Rattle.ov_script.specs.Lines.{reply_line}
use Rattle.ov_script.specs.declared.command.Command.{Command}
use Rattle.ov_script.specs.declared.command.Command.TheVariants.{Epoch as AskEpoch}
use Rattle.ov_script.specs.declared.reply.Reply.{Reply}
use Rattle.ov_script.specs.declared.reply.Reply.TheVariants.{Epoch as EpochIs}
use Rattle.ov_keyfile.proofs.Parts.{one_pair}
use Rattle.ov_keyfile.specs.KeyFile.{IsKeyFile}
use Rattle.ov_keyfile.specs.declared.masters.Masters.{Masters as ReadMasters}
use Rattle.ov_history.specs.History.{epoch_of}
use Rattle.ov_history.specs.Masters.{Masters}
use Rattle.ov_history.specs.Plain.{PlainHistory, history_of}
use Rattle.ov_model.proofs.Runs.{after_all-more}
use Rattle.ov_model.proofs.Since.{sealed_forms_are_right}
use Rattle.ov_model.specs.Lines.{lines}
use Rattle.ov_model.specs.Step.{after, after_all, reply_to}
use Rattle.ov_wire.specs.Requests.{HasRequestForm}
use Rattle.ov_wire.specs.declared.answer.Welcome.{Welcome}
use Rattle.ov_wire.specs.declared.request.Request.TheVariants as requests
use Rattle.ov_protocol.specs.Answers.{welcome_of}
use Rattle.ov_protocol.specs.Serving.{Service, served}
use Rattle.ov_tokens.specs.Keys.{check_value_of}
use Rattle.ov_peer.specs.Alone.{IsAlone}
use Rattle.ov_peer.specs.Tells.{PeerTells}
use Rattle.ov_client.specs.Completeness.{FailsDisk, IsStoreUnder}
use Rattle.ov_owner.proofs.Answered.{welcome_said}
use Rattle.ov_owner.specs.Completeness.{IsSaidOrCut, IsStoreSince, SaysWelcome}
use Rattle.ov_owner.specs.declared.fault.OwnerFault.{OwnerFault}
use Rattle.ov_owner.specs.declared.fault.OwnerFault.TheVariants as faults
use Rattle.ov_acts.specs.Acts.{admitted, admitted_if}
use Rattle.ov_acts.specs.Completeness.{IsStoreOf}
use Rattle.ov_acts.specs.Files.{FindsMasters, plain_masters}
use Rattle.ov_acts.specs.declared.stop.Stop.{Stop}
use Rattle.ov_acts.specs.declared.stop.Stop.TheVariants as stops
use Rattle.ov_scripting.specs.Answering.{Answered, DoesAll, Halts, StopsBehind, reply_lines}
use Rattle.ov_scripting.specs.Answering.{unanswered, unended, unread, unsaid}
use Rattle.ov_scripting.specs.Machine.{AnswersAsMachine, EndsAsMachine, HaltsAsMachine, MayStop}
use Rattle.ov_scripting.specs.Machine.{ServesStore, answered, unbegun}
use Rattle.ov_scripting.specs.Performing.{Does, StepsOrCut}
use Rattle.ov_scripting.specs.Scripting.{AnswersScript, GoesOn, Greets, Scripts}
use Rattle.ov_scripting.specs.declared.ended.Ended.{Ended}
use Rattle.ov_scripting.specs.declared.ended.Ended.TheVariants.{BadLine, Done, Long, Stopped}
use Rattle.ov_scripting.specs.declared.ended.Ended.TheVariants.{Unwritten}

module _ {P : Type 0} (peer : PeerTells P) (alone : IsAlone peer) (k : Masters) where
  -- ---- commands

  -- what is served after a command is the store after it
  store_after : (h : PlainHistory) (command : Command) (v : Service)
      → IsStoreSince k h (after h command) v → IsStoreUnder k (after h command) v
  store_after h command v since = record {
    surface = since.surface;
    legal = since.legal;
    history = sealed_forms_are_right k h (command ∷ []) v.history since.history;
  }

  -- a command that was replied to is answered as the machine does
  one_reply : (h : PlainHistory) (command : Command) (reply : Reply) (p q : P)
      → ServesStore peer k h p → Does peer k command p q (Ok reply)
      → (reply_to h command ≡ reply) × ServesStore peer k (after h command) q
  one_reply h command reply p q (v, serving, store) does =
      let (same, (now, since, then)) = does.complete h v alone serving store in
      (same, (now, then, store_after h command now since))

  -- and so are commands that were replied to in turn
  all_replies : (h : PlainHistory) (commands : List Command) (replies : List Reply) (p q : P)
      → ServesStore peer k h p → DoesAll peer k commands replies p q
      → (reply_lines replies ≡ lines h commands) × ServesStore peer k (after_all h commands) q
  all_replies h [] [] p q serves all = (refl, subst (ServesStore peer k h) all serves)
  all_replies h [] (reply ∷ replies) p q serves all = absurd all
  all_replies h (command ∷ commands) [] p q serves all = absurd all
  all_replies h (command ∷ commands) (reply ∷ replies) p q serves (m, does, all) =
      let (same, then) = one_reply h command reply p m serves does in
      let (more, last) = all_replies (after h command) commands replies m q then all in (
        ap (λ (r : Reply). reply_line r ++ reply_lines replies) (sym same)
            ∙ ap (λ l. reply_line (reply_to h command) ++ l) more,
        last,
      )

  -- ---- the script

  module _ (h : PlainHistory) (text : Option (List ℕ)) (p : P) (serves : ServesStore peer k h p)
      (old new : Option (List ℕ)) where
    module _ (q : P) (last : List ℕ) (a : Answered peer k p q last old new) where
      there : (reply_lines a.replies ≡ lines h a.commands)
          × ServesStore peer k (after_all h a.commands) q
      there = all_replies h a.commands a.replies p q serves a.does

      puts_lines : Appends old new (lines h a.commands ++ last)
      puts_lines = subst (λ l. Appends old new (l ++ last)) there.0 a.put

    puts_all : (q : P) (a : Answered peer k p q [] old new) → Appends old new (lines h a.commands)
    puts_all q a =
        subst (Appends old new) (append-nil (lines h a.commands)) (puts_lines q [] a)

    -- why a command that isn't answered stops the script
    may_stop : (g : PlainHistory) (command : Command) (m q : P) (stop : Stop)
        → ServesStore peer k g m → Does peer k command m q (Err stop) → MayStop peer k q stop
    may_stop g command m q stop (v, serving, store) does =
        by stop (does.complete g v alone serving store) where
          by : (s : Stop) → StepsOrCut peer k g command m q (Err s) → MayStop peer k q s
          by stops.Device cut = (m, cut)
          by stops.Read cut = absurd cut
          by stops.Link cut = tt
          by stops.Memory cut = tt
          by (stops.Refused why) cut = cut
          by stops.OtherKeys cut = cut
          by stops.BadKeys cut = cut
          by stops.BadReply cut = cut
          by stops.Damaged cut = cut
          by stops.Unsettled cut = cut
          by stops.TooLong cut = cut

    stops_so : (commands : List Command) (m q : P) (stop : Stop)
        → ServesStore peer k (after_all h commands) m
        → StopsBehind peer k text commands m q stop → MayStop peer k q stop
    stops_so commands m q stop then (unread same (inl read)) =
        subst (MayStop peer k q) (sym read) tt
    stops_so commands m q stop then (unread same (inr memory)) =
        subst (MayStop peer k q) (sym memory) tt
    stops_so commands m q stop then (unanswered command begins does) =
        may_stop (after_all h commands) command m q stop then does
    stops_so commands m q stop then (unsaid command reply begins memory does) =
        subst (MayStop peer k q) (sym memory) tt
    stops_so commands m q stop then (unended is_all does) =
        may_stop (after_all h commands) AskEpoch m q stop then does

    -- the epoch at the end is the machine's
    told_epoch : (epoch : ℕ) (g : PlainHistory) → EpochIs (epoch_of (history_of g)) ≡ EpochIs epoch
        → epoch ≡ epoch_of (history_of g)
    told_epoch epoch g same = cc same

    pub halts_machine : (q : P) (ended : Ended) → Halts peer k text p q old new ended
        → HaltsAsMachine peer k h text q old new ended
    halts_machine q (Done epoch) (m, a, is_all, does) =
        let (same, then) =
        one_reply (after_all h a.commands) AskEpoch (EpochIs epoch) m q (there m [] a).1 does in (
          a.commands,
          is_all,
          puts_all m a,
          told_epoch epoch (after_all h a.commands) same,
          then,
        )
    halts_machine q (BadLine n) (a, is_all) = (a.commands, is_all, puts_all q a, (there q [] a).1)
    halts_machine q Long (a, is_all) = (a.commands, is_all, puts_all q a, (there q [] a).1)
    halts_machine q Unwritten (m, command, reply, n, a, begins, does) =
        let g = after_all h a.commands in
        let (same, then) = one_reply g command reply m q (there m (take n (reply_line reply)) a).1 does
        in (
          a.commands,
          command,
          n,
          begins,
          subst (λ (r : Reply). Appends old new (lines h a.commands ++ take n (reply_line r)))
              (sym same) (puts_lines m (take n (reply_line reply)) a),
          subst (λ (x : PlainHistory). ServesStore peer k x q)
              (sym (after_all-more h a.commands command)) then,
        )
    halts_machine q (Stopped stop) (m, a, begins, behind) = (
      a.commands,
      begins,
      puts_all m a,
      stops_so a.commands m q stop (there m [] a).1 behind,
    )

-- ---- the greeting

hello_form : HasRequestForm requests.Hello
hello_form = record { is_request = tt; fits = omega arith }

-- nothing was put
none_put : (old new : Option (List ℕ)) → Keeps old new → Appends old new []
none_put old new same = Appends-kept old old new [] (Appends-nil old) same

module _ {P : Type 0} (peer : PeerTells P) (alone : IsAlone peer) (k : Masters) (h : PlainHistory)
    (v : Service) (store : IsStoreOf k h v) (text : Option (List ℕ)) (p q : P)
    (old new : Option (List ℕ)) (ended : Ended) (serving : peer.serves p v) where
  under_masters : IsStoreUnder k h v
  under_masters = record {
    surface = store.surface;
    legal = store.legal;
    history = store.history;
  }

  abbrev Ends : Type 0
  Ends = EndsAsMachine peer k h text q old new ended

  -- the store's check value is that of the base master
  admits : (welcome : Welcome) → welcome ≡ welcome_of (served v)
      → admitted k.base (Ok welcome) ≡ Ok tt
  admits welcome is =
      let same : bytes_eq v.base_check (check_value_of k.base) ≡ true =
      (bytes_eq-Decides v.base_check (check_value_of k.base)).1 store.check in
      subst (λ (w : Welcome). admitted k.base (Ok w) ≡ Ok tt) (sym is)
      (ap (λ (b : Bool). admitted_if b) same)

  abbrev Next : P → Result (Unit {0}) Stop → Type 0
  Next m found = GoesOn found m q old new ended (λ _. AnswersScript peer k text m q old new ended)

  script_ends : (m : P) → peer.serves m v → AnswersScript peer k text m q old new ended → Ends
  script_ends m at_m (halted, mid, halts, finishes) =
      answered halted mid
      (halts_machine peer alone k h text m (v, at_m, under_masters) old mid q halted halts) finishes

  greeted : (m : P) (greeting : Result Welcome OwnerFault)
      → IsSaidOrCut (SaysWelcome h v (peer.serves m)) (FailsDisk peer p m) (Unit {0}) greeting
      → Next m (admitted k.base greeting) → Ends
  greeted m (Ok welcome) (same, still) goes =
      script_ends m still (subst (Next m) (admits welcome same) goes)
  greeted m (Err (faults.Refused why)) is goes = absurd is
  greeted m (Err faults.Link) is (at, kept, is_end) =
      unbegun stops.Link is_end (none_put old new kept) tt
  greeted m (Err (faults.BadReply place)) is goes = absurd is
  greeted m (Err faults.BadTag) is goes = absurd is
  greeted m (Err faults.Device) is (at, kept, is_end) =
      unbegun stops.Device is_end (none_put old new kept)
      (p, subst (FailsDisk peer p) (sym at) is)
  greeted m (Err (faults.Unsettled epochs)) is goes = absurd is
  greeted m (Err faults.Memory) is (at, kept, is_end) =
      unbegun stops.Memory is_end (none_put old new kept) tt

  greets_machine : Greets peer k text p q old new ended → Ends
  greets_machine (greeting, m, asks, goes) =
      greeted m greeting
      (welcome_said peer alone k h v under_masters p m serving (Unit {0}) greeting hello_form asks
      (λ link. tt)) goes

-- a key file has these masters alone
same_masters : (file : List ℕ) (k : Masters) (masters : ReadMasters)
    → IsKeyFile file k.base k.surface → IsKeyFile file masters.base.bytes masters.surface.bytes
    → k ≡ plain_masters masters
same_masters file k masters is found =
    let both = one_pair file k.base k.surface masters.base.bytes masters.surface.bytes is found in
    ap₂ (λ b s. record { base = b; surface = s }) both.0 both.1

-- what is said of a script over any peer says this over such a one
pub scripts_machine : {P : Type 0} (peer : PeerTells P) (keys text : Option (List ℕ)) (p q : P)
    (old new : Option (List ℕ)) (ended : Ended) → Scripts peer keys text p q old new ended
    → AnswersAsMachine peer keys text p q old new ended
scripts_machine {P} peer keys text p q old new ended (found, finds, goes) =
    λ file k h v told key alone serving store.
    by file k h v key alone serving store found
    (subst (λ (known : Option (List ℕ)). FindsMasters known found) told finds) goes where
      by : (file : List ℕ) (k : Masters) (h : PlainHistory) (v : Service)
          → IsKeyFile file k.base k.surface → IsAlone peer → peer.serves p v → IsStoreOf k h v
          → (f : Result ReadMasters Stop) → FindsMasters (Some file) f
          → GoesOn f p q old new ended (λ masters.
          Greets peer (plain_masters masters) text p q old new ended
          ⊎ ((q ≡ p) × Keeps old new × (ended ≡ Stopped stops.Memory)))
          → EndsAsMachine peer k h text q old new ended
      by file k h v key alone serving store (Ok masters) is (inl greets) =
          greets_machine peer alone k h v store text p q old new ended serving
          (subst (λ (m : Masters). Greets peer m text p q old new ended)
          (sym (same_masters file k masters key is)) greets)
      by file k h v key alone serving store (Ok masters) is (inr (at, kept, is_end)) =
          unbegun stops.Memory is_end (none_put old new kept) tt
      by file k h v key alone serving store (Err stops.BadKeys) is goes =
          absurd (is (k.base, k.surface, key))
      by file k h v key alone serving store (Err stops.Read) is (at, kept, is_end) =
          unbegun stops.Read is_end (none_put old new kept) tt
      by file k h v key alone serving store (Err stop) is goes = absurd is
