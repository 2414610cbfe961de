-- An owner's and a reader's calls to a server that nobody else updates.
use Rattle.std.proofs.Common.{◌≡◌, ℕ, List, Bool, true}
use Rattle.std.proofs.Common.{Result, Ok, Err, refl, sym, ap, subst, inl, inr}
use Rattle.std.proofs.lemmas.Slice.Eq.{bytes_eq-Decides}
use Rattle.std.specs.Prelude.{bytes_eq}
use Rattle.ov_base.specs.Names.{IsName}
use Rattle.ov_client.proofs.Alone.{read_said}
use Rattle.ov_client.proofs.FailingDisks.{fails_later}
use Rattle.ov_client.specs.Completeness.{FailsDisk, IsStoreUnder}
use Rattle.ov_client.specs.KeyLines.{key_line}
use Rattle.ov_client.specs.Laws.{HasRoots, HoldsRootKeys}
use Rattle.ov_client.specs.Readers.{Reader}
use Rattle.ov_client.specs.Reads.{Reads}
use Rattle.ov_client.specs.declared.fault.ClientFault.{ClientFault}
use Rattle.ov_history.specs.Masters.{Masters}
use Rattle.ov_history.specs.Plain.{PlainHistory}
use Rattle.ov_owner.proofs.Answered.{list_said, reader_said, welcome_said}
use Rattle.ov_owner.proofs.Completing.{update_said}
use Rattle.ov_owner.specs.Calls.{Runs}
use Rattle.ov_owner.specs.Clients.{reader_in}
use Rattle.ov_owner.specs.Completeness.{IsSaidOrCut, SaysList, SaysReader, SaysUpdate, SaysWelcome}
use Rattle.ov_owner.specs.Errands.{Errand, creating, enrolling, granting, removing, replacing, revoking}
use Rattle.ov_owner.specs.Questions.{AsksOnce, names_in, welcome_in}
use Rattle.ov_owner.specs.Steps.{IsErrandFor}
use Rattle.ov_owner.specs.declared.fault.OwnerFault.{OwnerFault}
use Rattle.ov_owner.specs.declared.fault.OwnerFault.TheVariants as faults
use Rattle.ov_protocol.specs.Answers.{welcome_of}
use Rattle.ov_protocol.specs.Serving.{Service, served}
use Rattle.ov_script.specs.declared.command.Command.{Command}
use Rattle.ov_script.specs.declared.command.Command.TheVariants as commands
use Rattle.ov_tokens.specs.Keys.{check_value_of}
use Rattle.ov_wire.specs.Requests.{request_bytes}
use Rattle.ov_wire.specs.declared.answer.Welcome.{Welcome}
use Rattle.ov_wire.specs.declared.request.Question.TheVariants as questions
use Rattle.ov_wire.specs.declared.request.Request.TheVariants as requests
use Rattle.ov_peer.specs.Tells.{PeerTells}
use Rattle.ov_acts.specs.Acts.{ActGoesOn, Owns, Performs}
use Rattle.ov_acts.specs.Acts.{admitted, admitted_if, list_line, read_outcome, update_line}
use Rattle.ov_acts.specs.Completeness.{AsksByName, IsAnsweredOr, IsStoreOf}
use Rattle.ov_peer.specs.Alone.{IsAlone}
use Rattle.ov_acts.specs.Stops.{Outcome}
use Rattle.ov_acts.specs.declared.job.Act.{Act}
use Rattle.ov_acts.specs.declared.job.Act.TheVariants as acts
use Rattle.ov_acts.specs.declared.stop.Stop.{Stop}
use Rattle.ov_acts.proofs.Called.{IsCalled, answered_by, hello_form, key_form, list_form}
use Rattle.ov_acts.proofs.Called.{read_called, said_called, says_so}

module _ {P : Type 0} (peer : PeerTells P)
    (alone : IsAlone peer) (k : Masters) (h : PlainHistory) (v : Service)
    (store : IsStoreOf k h v) where
  abbrev Disk : P → P → Type 0
  Disk p q = FailsDisk peer p q

  under_masters : IsStoreUnder k h v
  under_masters = record {
    surface = store.surface;
    legal = store.legal;
    history = store.history;
  }

  -- ---- an owner's calls

  update_called : (command : Command) (e : Errand) (p q : P) (result : Result ℕ OwnerFault)
      → IsErrandFor k.base command e → Runs peer k.surface e p q result → peer.serves p v
      → IsCalled (Disk p q) result
  update_called command e p q result is runs serving =
      said_called (Disk p q) (SaysUpdate k command h v (peer.serves q)) (Unit {0}) result
      (update_said peer alone k h v under_masters p q serving (Unit {0}) command e is result runs
      (λ link. tt))

  list_called : (file : List ℕ) (p q : P) (result : Result (List (List ℕ)) OwnerFault)
      → IsName file → AsksOnce peer p q (requests.List file) names_in result → peer.serves p v
      → IsCalled (Disk p q) result
  list_called file p q result named asks serving =
      said_called (Disk p q) (SaysList k file h v (peer.serves q)) (Unit {0}) result
      (list_said peer alone k h v under_masters p q serving (Unit {0}) file result
      (list_form file named) asks (λ link. tt))

  client_called : (user : List ℕ) (p q : P) (result : Result Reader OwnerFault)
      → IsName user
      → AsksOnce peer p q (requests.Ask (questions.Key user)) (reader_in k user) result
      → peer.serves p v → IsCalled (Disk p q) result
  client_called user p q result named asks serving =
      said_called (Disk p q) (SaysReader k user h v (peer.serves q)) (Unit {0}) result
      (reader_said peer alone k h v under_masters p q serving (Unit {0}) user result
      (key_form user named) asks (λ link. tt))

  performed : (act : Act) (bytes : List ℕ) (p q : P) (outcome : Outcome) → AsksByName act
      → Performs peer k act bytes p q outcome → peer.serves p v → IsAnsweredOr (Disk p q) outcome
  performed (acts.Enrol user) bytes p q outcome named (result, runs, says) serving =
      says_so (Disk p q) update_line result outcome
      (update_called (commands.Enrol user) (enrolling user) p q result refl runs serving) says
  performed (acts.Grant user file) bytes p q outcome named (result, runs, says) serving =
      says_so (Disk p q) update_line result outcome
      (update_called (commands.Grant user file) (granting k.base user file) p q result refl runs
      serving) says
  performed (acts.Revoke user file) bytes p q outcome named (result, runs, says) serving =
      says_so (Disk p q) update_line result outcome
      (update_called (commands.Revoke user file) (revoking user file) p q result refl runs serving)
      says
  performed (acts.Remove file) bytes p q outcome named (result, runs, says) serving =
      says_so (Disk p q) update_line result outcome
      (update_called (commands.Remove file) (removing file) p q result refl runs serving) says
  performed (acts.Create file list) bytes p q outcome named (result, runs, says) serving =
      says_so (Disk p q) update_line result outcome
      (update_called (commands.Create file list bytes) (creating k.base file list bytes) p q result
      refl runs serving) says
  performed (acts.Replace file) bytes p q outcome named (result, runs, says) serving =
      says_so (Disk p q) update_line result outcome
      (update_called (commands.Replace file bytes) (replacing k.base file bytes) p q result refl runs
      serving) says
  performed (acts.List file) bytes p q outcome named (result, asks, says) serving =
      says_so (Disk p q) (list_line file) result outcome
      (list_called file p q result named asks serving) says
  performed (acts.Key user) bytes p q outcome named (result, asks, says) serving =
      says_so (Disk p q) key_line result outcome
      (client_called user p q result named asks serving) says
  performed (acts.Read file) bytes p q outcome named does serving = absurd does
  performed acts.Check bytes p q outcome named does serving = absurd does

  -- ---- the greeting

  -- the store's check value is that of the base master
  admits : (welcome : Welcome) → welcome ≡ welcome_of (served v)
      → admitted k.base (Ok welcome) ≡ Ok tt
  admits welcome is =
      let same : bytes_eq v.base_check (check_value_of k.base) ≡ true =
      (bytes_eq-Decides v.base_check (check_value_of k.base)).1 store.check in
      subst (λ (w : Welcome). admitted k.base (Ok w) ≡ Ok tt) (sym is)
      (ap (λ (b : Bool). admitted_if b) same)

  -- a disk that failed behind the greeting failed behind the peer from before it
  after_greeting : (p m q : P) (welcome : Welcome)
      → AsksOnce peer p m requests.Hello welcome_in (Ok welcome) → Disk m q → Disk p q
  after_greeting p m q welcome (inl (read, answered, is)) failed =
      fails_later peer p m q (request_bytes requests.Hello) answered.reply answered.sent failed
  after_greeting p m q welcome (inr (inl (link, fault))) failed = absurd (cc link)
  after_greeting p m q welcome (inr (inr (memory, forgets))) failed = absurd (cc memory)

  module _ (act : Act) (bytes : List ℕ) (p m q : P) (outcome : Outcome) (named : AsksByName act)
    where
      abbrev Next : Result (Unit {0}) Stop → Type 0
      Next found = ActGoesOn found m q outcome (λ _. Performs peer k act bytes m q outcome)

      -- an act goes on from the greeting, or stops there
      greeted : (greeting : Result Welcome OwnerFault)
          → AsksOnce peer p m requests.Hello welcome_in greeting
          → IsSaidOrCut (SaysWelcome h v (peer.serves m)) (Disk p m) (Unit {0}) greeting
          → Next (admitted k.base greeting) → IsAnsweredOr (Disk p q) outcome
      greeted (Ok welcome) asks (same, still) goes =
          answered_by (Disk m q) (Disk p q) (after_greeting p m q welcome asks) outcome
          (performed act bytes m q outcome named (subst Next (admits welcome same) goes) still)
      greeted (Err (faults.Refused why)) asks is goes = absurd is
      greeted (Err faults.Link) asks is (same, stops) =
          subst (IsAnsweredOr (Disk p q)) (sym stops) tt
      greeted (Err (faults.BadReply place)) asks is goes = absurd is
      greeted (Err faults.BadTag) asks is goes = absurd is
      greeted (Err faults.Device) asks is (same, stops) =
          subst (IsAnsweredOr (Disk p q)) (sym stops) (subst (Disk p) (sym same) is)
      greeted (Err (faults.Unsettled epochs)) asks is goes = absurd is
      greeted (Err faults.Memory) asks is (same, stops) =
          subst (IsAnsweredOr (Disk p q)) (sym stops) tt

  pub owned : (act : Act) (bytes : List ℕ) (p q : P) (outcome : Outcome) → AsksByName act
      → Owns peer k act bytes p q outcome → peer.serves p v → IsAnsweredOr (Disk p q) outcome
  owned act bytes p q outcome named (greeting, m, asks, goes) serving =
      greeted act bytes p m q outcome named greeting asks
      (welcome_said peer alone k h v under_masters p m serving (Unit {0}) greeting hello_form asks
      (λ link. tt)) goes

  -- ---- a reader's

  pub read_answered : (r : Reader) (file : List ℕ) (p q : P) (result : Result (List ℕ) ClientFault)
      → HoldsRootKeys k r → HasRoots h r → Reads peer p q r file result → peer.serves p v
      → IsAnsweredOr (Disk p q) (read_outcome result)
  read_answered r file p q result holds roots reads serving =
      read_called (Disk p q) h r.name file (peer.serves q v) (Unit {0}) result
      (read_said peer p q r file (Unit {0}) k h v result alone serving under_masters holds roots
      reads (λ link. tt))
