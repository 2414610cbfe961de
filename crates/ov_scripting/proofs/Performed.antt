-- One command: what it asks, and what it comes to over a server that nobody else updates.
use Rattle.std.proofs.Common.{◌≡◌, ◌∙◌, ◌≤◌, ℕ, List, ◌∷◌, Bool, true, false, Some}
use Rattle.std.proofs.Common.{Result, Ok, Err, refl, sym, ap, subst, inl, inr, arith}
use Rattle.std.specs.Prelude.{not}
use Rattle.ov_base.specs.Causes.{Rose}
use Rattle.ov_base.specs.declared.refusal.Refusal.TheVariants.{NoUser}
use Rattle.ov_script.specs.Items.{IsItem}
use Rattle.ov_script.proofs.CreateLaws.{create_names, create_short_names, create_size}
use Rattle.ov_script.specs.declared.command.Command.{Command}
use Rattle.ov_script.specs.declared.command.Command.TheVariants as commands
use Rattle.ov_script.specs.declared.reply.Reply.{Reply}
use Rattle.ov_script.specs.declared.reply.Reply.TheVariants as replies
use Rattle.ov_history.specs.Catalogue.{Catalogue}
use Rattle.ov_history.specs.History.{epoch_of, matrix_of}
use Rattle.ov_history.specs.Lists.{file_number, is_user, user_number}
use Rattle.ov_history.specs.Masters.{Masters}
use Rattle.ov_history.specs.Plain.{PlainHistory, history_of}
use Rattle.ov_history.specs.Refusals.{Test, first_of_tests, read_refusal}
use Rattle.ov_history.specs.Sealed.{catalogue_of}
use Rattle.ov_history.specs.Sealing.{sealed}
use Rattle.ov_history.proofs.Agreeing.{right_shows}
use Rattle.ov_history.proofs.Keeping.{kept_shows}
use Rattle.ov_history.proofs.Since.{sealed_since}
use Rattle.ov_model.specs.Step.{bytes_reply, reply_or}
use Rattle.ov_wire.specs.Requests.{request_bytes}
use Rattle.ov_wire.specs.declared.answer.Welcome.{Welcome}
use Rattle.ov_wire.specs.declared.request.Question.TheVariants as questions
use Rattle.ov_wire.specs.declared.request.Request.TheVariants as requests
use Rattle.ov_protocol.specs.Serving.{Service}
use Rattle.ov_peer.specs.Tells.{PeerTells}
use Rattle.ov_client.specs.Completeness.{FailsDisk, IsCompleteRead, IsReadOrCut, IsStoreUnder}
use Rattle.ov_client.specs.Readers.{Reader}
use Rattle.ov_client.specs.Reads.{Reads}
use Rattle.ov_client.specs.declared.fault.ClientFault.{ClientFault}
use Rattle.ov_client.specs.declared.fault.ClientFault.TheVariants as client
use Rattle.ov_client.proofs.FailingDisks.{fails_later}
use Rattle.ov_owner.specs.Calls.{Runs}
use Rattle.ov_owner.specs.Changes.{command_of, errand_of}
use Rattle.ov_owner.specs.Clients.{reader_in}
use Rattle.ov_owner.specs.Completeness.{IsCompleteCall, IsSaidOrCut, IsStoreSince, SaysList}
use Rattle.ov_owner.specs.Completeness.{SaysReader, SaysUpdate, SaysWelcome}
use Rattle.ov_owner.specs.Errands.{IsCreation}
use Rattle.ov_owner.proofs.WrittenLists.{names_sendable}
use Rattle.ov_owner.specs.Questions.{AsksOnce, names_in, welcome_in}
use Rattle.ov_owner.specs.declared.change.Change.{Change}
use Rattle.ov_owner.specs.declared.change.Change.TheVariants as changes
use Rattle.ov_owner.specs.declared.fault.OwnerFault.{OwnerFault}
use Rattle.ov_owner.specs.declared.fault.OwnerFault.TheVariants as faults
use Rattle.ov_acts.specs.declared.stop.Stop.{Stop}
use Rattle.ov_scripting.specs.Performing.{Does, IsWritten, Performs, StepsOrCut}
use Rattle.ov_scripting.specs.Performing.{change_reply, epoch_reply, fault_reply, names_reply}
use Rattle.ov_scripting.specs.Performing.{read_reply}

-- ---- counts

-- a count that rose since a moment rose since an earlier one
pub rose_on : (before mid now : ℕ) → before ≤ mid → Rose mid now → Rose before now
rose_on before mid now later rose =
    omega (arith, later, rose)

-- ---- limits

-- the list of a creation in a script is one that an owner takes
item_creation : (item file body : List ℕ) (names : List (List ℕ))
    → IsItem item (commands.Create file names body) → IsCreation names body
item_creation item file body names is =
    let sendable = names_sendable names (create_names item file body names is)
    (omega (arith, create_short_names item file body names is)) in record {
      file = create_size item file body names is;
      few = sendable.0;
      short = sendable.1;
    }

pub creation_limits : (command : Command) (file bytes slice : List ℕ) (names : List (List ℕ))
    → IsWritten command → command ≡ commands.Create file names bytes → slice ≡ bytes
    → IsCreation names slice
creation_limits command file bytes slice names (item, is) at same =
    subst (IsCreation names) (sym same)
    (item_creation item file bytes names (subst (IsItem item) at is))

module _ {P : Type 0} (peer : PeerTells P) (k : Masters) where
  -- ---- changes

  change_performs : (change : Change) (p q : P) (made : Result ℕ OwnerFault)
      (result : Result Reply Stop) → Runs peer k.surface (errand_of k.base change) p q made
      → result ≡ change_reply made → Performs peer k (command_of change) p q result
  change_performs (changes.Enrol user) p q made result runs is =
      (errand_of k.base (changes.Enrol user), refl, (made, runs, is))
  change_performs (changes.Create file list bytes) p q made result runs is =
      (errand_of k.base (changes.Create file list bytes), refl, (made, runs, is))
  change_performs (changes.Grant user file) p q made result runs is =
      (errand_of k.base (changes.Grant user file), refl, (made, runs, is))
  change_performs (changes.Revoke user file) p q made result runs is =
      (errand_of k.base (changes.Revoke user file), refl, (made, runs, is))
  change_performs (changes.Remove file) p q made result runs is =
      (errand_of k.base (changes.Remove file), refl, (made, runs, is))
  change_performs (changes.Replace file bytes) p q made result runs is =
      (errand_of k.base (changes.Replace file bytes), refl, (made, runs, is))

  change_steps : (h : PlainHistory) (v : Service) (command : Command) (p q : P)
      (made : Result ℕ OwnerFault)
      → IsSaidOrCut (SaysUpdate k command h v (peer.serves q)) (FailsDisk peer p q)
      (Rose (peer.faults p) (peer.faults q)) made
      → StepsOrCut peer k h command p q (change_reply made)
  change_steps h v command p q (Ok epoch) said = said
  change_steps h v command p q (Err (faults.Refused why)) said = said
  change_steps h v command p q (Err faults.Link) said = said
  change_steps h v command p q (Err (faults.BadReply place)) said = said
  change_steps h v command p q (Err faults.BadTag) said = said
  change_steps h v command p q (Err faults.Device) said = said
  change_steps h v command p q (Err (faults.Unsettled epochs)) said = said
  change_steps h v command p q (Err faults.Memory) said = said

  pub change_does : (change : Change) (p q : P) (made : Result ℕ OwnerFault)
      (result : Result Reply Stop) → Runs peer k.surface (errand_of k.base change) p q made
      → IsCompleteCall peer k p q (SaysUpdate k (command_of change)) made
      → result ≡ change_reply made → Does peer k (command_of change) p q result
  change_does change p q made result runs complete is = record {
    performs = change_performs change p q made result runs is;
    complete = λ h v alone serving store.
        subst (StepsOrCut peer k h (command_of change) p q) (sym is)
        (change_steps h v (command_of change) p q made (complete h v alone serving store));
  }

  -- ---- questions

  -- what is served stays, and is the store of this history
  stays : (h : PlainHistory) (v : Service) (q : P) → IsStoreUnder k h v → peer.serves q v
      → (now : Service) × IsStoreSince k h h now × peer.serves q now
  stays h v q store still = (
    v,
    record {
      surface = store.surface;
      legal = store.legal;
      history = sealed_since k h v.history store.history;
    },
    still,
  )

  -- the epoch that is told is the machine's
  epoch_shown : (h : PlainHistory) (v : Service) → IsStoreUnder k h v
      → (catalogue_of v.surface v.history).epoch ≡ epoch_of (history_of h)
  epoch_shown h v store =
      ap (λ (master : List ℕ). (catalogue_of master v.history).epoch) store.surface
      ∙ ap (λ (c : Catalogue). c.epoch) (right_shows k h v.history store.legal store.history)
      ∙ (kept_shows k h (catalogue_of k.surface (sealed k h)) (store.legal, refl)).epoch

  epoch_steps : (h : PlainHistory) (v : Service) (p q : P) (told : Result Welcome OwnerFault)
      → IsStoreUnder k h v
      → IsSaidOrCut (SaysWelcome h v (peer.serves q)) (FailsDisk peer p q)
      (Rose (peer.faults p) (peer.faults q)) told
      → StepsOrCut peer k h commands.Epoch p q (epoch_reply told)
  epoch_steps h v p q (Ok welcome) store (is, still) = (
    ap replies.Epoch (sym (ap (λ (w : Welcome). w.epoch) is ∙ epoch_shown h v store)),
    stays h v q store still,
  )
  epoch_steps h v p q (Err (faults.Refused why)) store said = said
  epoch_steps h v p q (Err faults.Link) store said = said
  epoch_steps h v p q (Err (faults.BadReply place)) store said = said
  epoch_steps h v p q (Err faults.BadTag) store said = said
  epoch_steps h v p q (Err faults.Device) store said = said
  epoch_steps h v p q (Err (faults.Unsettled epochs)) store said = said
  epoch_steps h v p q (Err faults.Memory) store said = said

  pub epoch_does : (p q : P) (told : Result Welcome OwnerFault) (result : Result Reply Stop)
      → AsksOnce peer p q requests.Hello welcome_in told
      → IsCompleteCall peer k p q SaysWelcome told
      → result ≡ epoch_reply told → Does peer k commands.Epoch p q result
  epoch_does p q told result asks complete is = record {
    performs = (told, asks, is);
    complete = λ h v alone serving store.
        subst (StepsOrCut peer k h commands.Epoch p q) (sym is)
        (epoch_steps h v p q told store (complete h v alone serving store));
  }

  list_steps : (h : PlainHistory) (v : Service) (file : List ℕ) (p q : P)
      (told : Result (List (List ℕ)) OwnerFault)
      → IsSaidOrCut (SaysList k file h v (peer.serves q)) (FailsDisk peer p q)
      (Rose (peer.faults p) (peer.faults q)) told
      → StepsOrCut peer k h (commands.List file) p q (names_reply file told)
  list_steps h v file p q (Ok names) said = said
  list_steps h v file p q (Err (faults.Refused why)) said = said
  list_steps h v file p q (Err faults.Link) said = said
  list_steps h v file p q (Err (faults.BadReply place)) said = said
  list_steps h v file p q (Err faults.BadTag) said = said
  list_steps h v file p q (Err faults.Device) said = said
  list_steps h v file p q (Err (faults.Unsettled epochs)) said = said
  list_steps h v file p q (Err faults.Memory) said = said

  pub list_does : (file : List ℕ) (p q : P) (told : Result (List (List ℕ)) OwnerFault)
      (result : Result Reply Stop) → AsksOnce peer p q (requests.List file) names_in told
      → IsCompleteCall peer k p q (SaysList k file) told
      → result ≡ names_reply file told → Does peer k (commands.List file) p q result
  list_does file p q told result asks complete is = record {
    performs = (told, asks, is);
    complete = λ h v alone serving store.
        subst (StepsOrCut peer k h (commands.List file) p q) (sym is)
        (list_steps h v file p q told (complete h v alone serving store));
  }

  -- ---- reads

  -- a user who isn't there reads nothing
  first_test : (b : Bool) (tests : List Test) → b ≡ true
      → first_of_tests ((NoUser, b) ∷ tests) ≡ Some NoUser
  first_test true tests is = refl
  first_test false tests is = absurd (cc is)

  no_user : (b : Bool) → (b ≡ true → ⊥) → not b ≡ true
  no_user true none = absurd (none refl)
  no_user false none = refl

  unread_steps : (h : PlainHistory) (v : Service) (user file : List ℕ) (p q : P)
      (fault : OwnerFault) → IsStoreUnder k h v
      → IsSaidOrCut (SaysReader k user h v (peer.serves q)) (FailsDisk peer p q)
      (Rose (peer.faults p) (peer.faults q)) (Err fault)
      → StepsOrCut peer k h (commands.Read user file) p q (fault_reply fault)
  unread_steps h v user file p q (faults.Refused why) store (is, none, still) =
      let m = matrix_of (history_of h) in
      let refused : read_refusal m (user_number m user) (file_number m file) ≡ Some NoUser =
      first_test (not (is_user m (user_number m user))) _
      (no_user (is_user m (user_number m user)) none) in (
        ap (reply_or (bytes_reply h user file (file_number m file))) refused
            ∙ ap replies.Refused (sym is),
        stays h v q store still,
      )
  unread_steps h v user file p q faults.Link store said = said
  unread_steps h v user file p q (faults.BadReply place) store said = said
  unread_steps h v user file p q faults.BadTag store said = said
  unread_steps h v user file p q faults.Device store said = said
  unread_steps h v user file p q (faults.Unsettled epochs) store said = said
  unread_steps h v user file p q faults.Memory store said = said

  pub unread_does : (user file : List ℕ) (p q : P) (fault : OwnerFault)
      (result : Result Reply Stop)
      → AsksOnce peer p q (requests.Ask (questions.Key user)) (reader_in k user) (Err fault)
      → IsCompleteCall peer k p q (SaysReader k user) (Err fault)
      → result ≡ fault_reply fault → Does peer k (commands.Read user file) p q result
  unread_does user file p q fault result asks complete is = record {
    performs = (Err fault, q, asks, (refl, is));
    complete = λ h v alone serving store.
        subst (StepsOrCut peer k h (commands.Read user file) p q) (sym is)
        (unread_steps h v user file p q fault store (complete h v alone serving store));
  }

  -- a disk that failed behind the reader's keys failed behind the peer from before them
  after_keys : (p m q : P) (user : List ℕ) (r : Reader)
      → AsksOnce peer p m (requests.Ask (questions.Key user)) (reader_in k user) (Ok r)
      → FailsDisk peer m q → FailsDisk peer p q
  after_keys p m q user r (inl (read, answered, is)) failed =
      fails_later peer p m q (request_bytes (requests.Ask (questions.Key user))) answered.reply
      answered.sent failed
  after_keys p m q user r (inr (inl (link, fault))) failed = absurd (cc link)
  after_keys p m q user r (inr (inr (memory, forgets))) failed = absurd (cc memory)

  module _ (h : PlainHistory) (v : Service) (user file : List ℕ) (p m q : P)
      (store : IsStoreUnder k h v) (later : FailsDisk peer m q → FailsDisk peer p q)
      (rose : Rose (peer.faults m) (peer.faults q) → Rose (peer.faults p) (peer.faults q)) where
    read_steps : (found : Result (List ℕ) ClientFault)
        → IsReadOrCut h user file (peer.serves q v) (FailsDisk peer m q)
        (Rose (peer.faults m) (peer.faults q)) found
        → StepsOrCut peer k h (commands.Read user file) p q (read_reply user file found)
    read_steps (Ok bytes) ((none, is), still) =
        let n = matrix_of (history_of h) in (
          ap (reply_or (bytes_reply h user file (file_number n file))) none
              ∙ ap (replies.Bytes user file) (sym is),
          stays h v q store still,
        )
    read_steps (Err (client.Refused why)) (refused, still) =
        let n = matrix_of (history_of h) in (
          ap (reply_or (bytes_reply h user file (file_number n file))) refused,
          stays h v q store still,
        )
    read_steps (Err client.Link) said = rose said
    read_steps (Err (client.BadReply place)) (wrong, still) = wrong
    read_steps (Err (client.Damaged stored computed)) (wrong, still) = wrong
    read_steps (Err client.Device) said = later said
    read_steps (Err (client.Unsettled generations)) (wrong, still) = wrong
    read_steps (Err client.Memory) said = said

  pub read_does : (user file : List ℕ) (p m q : P) (r : Reader)
      (found : Result (List ℕ) ClientFault) (result : Result Reply Stop)
      → AsksOnce peer p m (requests.Ask (questions.Key user)) (reader_in k user) (Ok r)
      → IsCompleteCall peer k p m (SaysReader k user) (Ok r)
      → Reads peer m q r file found → IsCompleteRead peer m q r file found
      → (Rose (peer.faults m) (peer.faults q) → Rose (peer.faults p) (peer.faults q))
      → result ≡ read_reply user file found → Does peer k (commands.Read user file) p q result
  read_does user file p m q r found result asks known reads complete rose is = record {
    performs = (Ok r, m, asks, (found, reads, is));
    complete = λ h v alone serving store.
        let (reader, still) = known h v alone serving store in
        subst (StepsOrCut peer k h (commands.Read user file) p q) (sym is)
        (read_steps h v user file p m q store (after_keys p m q user r asks) rose found
        (subst (λ (name : List ℕ). IsReadOrCut h name file (peer.serves q v) (FailsDisk peer m q)
        (Rose (peer.faults m) (peer.faults q)) found) reader.name
        (complete k h v alone still store reader.keys reader.roots)));
  }
