-- Questions over a traced peer to which the machine lends its server, and its caller the sink.
use Rattle.std.proofs.Common.{◌≡◌, ◌∙◌, ℕ, ◌+◌, List, false, Option, Result, Ok, Err, refl, sym, ap, subst, arith}
use Rattle.std.specs.Io.KnownBytes.{Appends}
use Rattle.std.proofs.KnownBytes.{Appends-trans}
use Rattle.ov_io.specs.Tells.{SinkTells}
use Rattle.ov_disk.specs.Tells.{DiskTells}
use Rattle.ov_images.specs.Images.{keys_of}
use Rattle.ov_script.specs.declared.command.Command.{Command}
use Rattle.ov_script.specs.declared.command.Command.TheVariants as commands
use Rattle.ov_script.specs.declared.reply.Reply.{Reply}
use Rattle.ov_history.specs.Masters.{Masters}
use Rattle.ov_wire.specs.declared.answer.Answer.{Answer}
use Rattle.ov_wire.specs.declared.answer.Welcome.{Welcome}
use Rattle.ov_wire.specs.declared.request.Question.TheVariants as questions
use Rattle.ov_wire.specs.declared.request.Request.{Request}
use Rattle.ov_wire.specs.declared.request.Request.TheVariants as requests
use Rattle.ov_wire.specs.Requests.{HasRequestForm}
use Rattle.ov_peer.specs.Asks.{AreAsks, Ask}
use Rattle.ov_client.specs.Readers.{Reader}
use Rattle.ov_client.specs.Reads.{Reads}
use Rattle.ov_client.specs.declared.fault.ClientFault.{ClientFault}
use Rattle.ov_client.specs.declared.fault.ClientFault.TheVariants as client
use Rattle.ov_store.specs.Opened.{Opened}
use Rattle.ov_owner.specs.Causes.{HasOwnerCause}
use Rattle.ov_owner.specs.Clients.{reader_in}
use Rattle.ov_owner.specs.Questions.{AsksOnce, names_in, welcome_in}
use Rattle.ov_owner.specs.declared.fault.OwnerFault.{OwnerFault}
use Rattle.ov_owner.specs.declared.fault.OwnerFault.TheVariants as faults
use Rattle.ov_machine.specs.Disks.{HasMade}
use Rattle.ov_machine.specs.Frames.{TracesAt}
use Rattle.ov_machine.specs.Machine.{KeptOn, opened_of}
use Rattle.ov_machine.specs.Replying.{HasFoundFault, HasOwnFault, HasReadFault, MayCome, epoch_reply, fault_reply, found_reply, names_reply, read_reply}
use Rattle.ov_machine.specs.Seats.{HasFoundCause, ReadsBy}
use Rattle.ov_machine.specs.Sinks.{PutsTo}
use Rattle.ov_machine.specs.declared.fault.StepFault.{StepFault}
use Rattle.ov_machine.specs.declared.fault.StepFault.TheVariants.{Trace}
use Rattle.ov_machine.specs.declared.replying.Found.{Found}
use Rattle.ov_machine.specs.declared.replying.Found.TheVariants.{Read, Unread}
use Rattle.ov_machine.proofs.Done.{IsDone, hello_done, hello_proper, list_done, list_proper}
use Rattle.ov_machine.proofs.DoneReads.{read_done, read_proper, unread_done, unread_proper}
use Rattle.ov_machine.proofs.Lent.{IsWhole, Lent, keeps_keys, lent, loan_of, opens_as, put_of, puts_more, seat, store_of}
use Rattle.ov_machine.proofs.Listing.{hello_plain, key_plain, list_plain}
use Rattle.ov_machine.proofs.Questioning.{IsPlainQuestion, once_asks}
use Rattle.ov_machine.proofs.Stepping.{machine_of}
use Rattle.ov_machine.proofs.TagReplies.{NamesFile, epoch_names, fault_names, list_names, read_names}

-- ---- which fault is one of the trace

fault_link : (f : OwnerFault) → MayCome f → fault_reply f ≡ Err Trace → f ≡ faults.Link
fault_link (faults.Refused why) may is = absurd (cc is)
fault_link faults.Link may is = refl
fault_link (faults.BadReply place) may is = absurd may
fault_link faults.BadTag may is = absurd may
fault_link faults.Device may is = absurd (cc is)
fault_link (faults.Unsettled epochs) may is = absurd may
fault_link faults.Memory may is = absurd (cc is)

epoch_link : (told : Result Welcome OwnerFault) → HasOwnFault told → epoch_reply told ≡ Err Trace
    → told ≡ Err faults.Link
epoch_link (Ok w) may is = absurd (cc is)
epoch_link (Err f) may is = ap Err (fault_link f may is)

names_link : (file : List ℕ) (told : Result (List (List ℕ)) OwnerFault) → HasOwnFault told
    → names_reply file told ≡ Err Trace → told ≡ Err faults.Link
names_link file (Ok names) may is = absurd (cc is)
names_link file (Err f) may is = ap Err (fault_link f may is)

read_link : (user file : List ℕ) (found : Result (List ℕ) ClientFault) → HasReadFault found
    → read_reply user file found ≡ Err Trace → found ≡ Err client.Link
read_link user file (Ok bytes) may is = absurd (cc is)
read_link user file (Err (client.Refused why)) may is = absurd (cc is)
read_link user file (Err client.Link) may is = refl
read_link user file (Err (client.BadReply place)) may is = absurd may
read_link user file (Err (client.Damaged stored computed)) may is = absurd (cc is)
read_link user file (Err client.Device) may is = absurd (cc is)
read_link user file (Err (client.Unsettled generations)) may is = absurd may
read_link user file (Err client.Memory) may is = absurd (cc is)

-- a fault in place of a reader
abbrev no_reader : OwnerFault → Result Reader OwnerFault
no_reader f = Err f

fault_of : (f : OwnerFault) → no_reader f ≡ no_reader faults.Link → f ≡ faults.Link
fault_of f is = cc is

module _ {D T : Type 0} (tells : DiskTells D) (sink : SinkTells T) (k : Masters)
    (a : Lent tells sink) (s : Opened D) (keys : s.keys ≡ keys_of k) (at_a : a.peer.now ≡ s)
    (old : KeptOn D) (seen : machine_of k s ≡ old) where
  abbrev Peer : Type 0
  Peer = Lent tells sink

  abbrev AsksIt : {V : Type 0} → Request → (Answer → Result V OwnerFault) → Peer → Peer
      → Result V OwnerFault → Type 0
  AsksIt request take p q told =
      AsksOnce (lent tells sink) p q request take told

  abbrev AreIt : Peer → List Ask → Option (List ℕ) → Peer → Type 0
  AreIt p asks o q =
      AreAsks (lent tells sink) p asks o q

  abbrev Whole : Command → Peer → T → T → Result Reply StepFault → Type 0
  Whole command b t_old t_new r =
      IsWhole tells sink command old (machine_of k b.peer.now) t_old t_new r

  abbrev DoneBy : Command → Peer → Result Reply StepFault → Type 0
  DoneBy command b r =
      IsDone tells (lent tells sink) (store_of tells sink) (put_of tells sink) (loan_of tells sink)
      (seat tells sink) command (machine_of k s) (machine_of k b.peer.now) a b r

  at_old : a.peer.now ≡ opened_of (machine_of k s)
  at_old = at_a ∙ opens_as k s keys

  new_keys : (asks : List Ask) (o : Option (List ℕ)) (b : Peer) → AreIt a asks o b
      → b.peer.now.keys ≡ keys_of k
  new_keys asks o b are =
      keeps_keys tells sink asks o a b are ∙ ap (λ (x : Opened D). x.keys) at_a ∙ keys

  -- what is done is the whole, where the sink was put to so
  whole_so : (command : Command) (b : Peer) (t_old t_new : T) (r : Result Reply StepFault)
      → DoneBy command b r → PutsTo sink (r ≡ Err Trace) a.sink.now b.sink.now
      → a.sink.now ≡ t_old → b.sink.now ≡ t_new → NamesFile command r → Whole command b t_old t_new r
  whole_so command b t_old t_new r is puts put_a put_b names =
      subst (λ (m : KeptOn D). IsWhole tells sink
      command m (machine_of k b.peer.now) t_old t_new r) seen
      (record {
        steps = is.steps;
        traced = λ p stands.
            subst (λ (x : T). TracesAt k p command (HasMade tells k p command s.disk b.peer.now.disk) (sink.written t_old) (sink.written x) r) put_b
            (subst (λ (x : T). TracesAt k p command (HasMade tells k p command s.disk b.peer.now.disk) (sink.written x) (sink.written b.sink.now) r) put_a
            (is.traced p stands));
        as_told = is.as_told;
        step = is.step;
        sink = subst (λ (x : T). PutsTo sink (r ≡ Err Trace) t_old x) put_b
            (subst (λ (x : T). PutsTo sink (r ≡ Err Trace) x b.sink.now) put_a puts);
        tag = names;
      })

  -- ---- one question

  module _ {V : Type 0} (request : Request) (take : Answer → Result V OwnerFault)
      (question : IsPlainQuestion request) (b : Peer) (told : Result V OwnerFault)
      (asks : AsksIt request take a b told) where
    listed : (list : List Ask) × (o : Option (List ℕ)) × AreIt a list o b
    listed =
        once_asks tells (lent tells sink) (store_of tells sink) (put_of tells sink) (loan_of tells sink)
        (seat tells sink) request take question a b told asks

    once_keys : b.peer.now.keys ≡ keys_of k
    once_keys = let (list, o, are) = listed in new_keys list o b are

    once_grew : (bytes : List ℕ) × Appends (sink.written a.sink.now) (sink.written b.sink.now) bytes
    once_grew =
        let (list, o, are) = listed in
        puts_more tells sink list o a b are

    once_puts : (r : Result Reply StepFault)
        → HasOwnerCause (0 + sink.faults a.sink.now) (0 + sink.faults b.sink.now) told
        → (r ≡ Err Trace → told ≡ Err faults.Link)
        → PutsTo sink (r ≡ Err Trace) a.sink.now b.sink.now
    once_puts r cause link = record {
      grew = once_grew;
      later = omega (arith, cause.later);
      write = λ is. let rose = cause.link (link is) in omega (arith, rose);
    }

  -- ---- the epoch

  module _ (form : HasRequestForm requests.Hello) (b : Peer) (told : Result Welcome OwnerFault)
      (asks : AsksIt requests.Hello welcome_in a b told) where
    pub hello_keys : b.peer.now.keys ≡ keys_of k
    hello_keys = once_keys requests.Hello welcome_in (hello_plain form) b told asks

    pub hello_fault : HasOwnFault told
    hello_fault =
        hello_proper tells _ _ _ _ (seat tells sink) a b told form asks

    pub hello_all : (t_old t_new : T) (r : Result Reply StepFault) → a.sink.now ≡ t_old
        → b.sink.now ≡ t_new
        → HasOwnerCause (0 + sink.faults a.sink.now) (0 + sink.faults b.sink.now) told
        → r ≡ epoch_reply told → Whole commands.Epoch b t_old t_new r
    hello_all t_old t_new r put_a put_b cause replied =
        subst (Whole commands.Epoch b t_old t_new) (sym replied)
        (whole_so commands.Epoch b t_old t_new (epoch_reply told)
        (hello_done tells _ _ _ _ (seat tells sink) a b told form asks (machine_of k s) (machine_of k b.peer.now) at_old
        (opens_as k b.peer.now hello_keys) refl)
        (once_puts requests.Hello welcome_in (hello_plain form) b told asks (epoch_reply told) cause
        (epoch_link told hello_fault)) put_a put_b (epoch_names commands.Epoch told))

  -- ---- lists

  module _ (file : List ℕ) (form : HasRequestForm (requests.List file)) (b : Peer)
      (told : Result (List (List ℕ)) OwnerFault)
      (asks : AsksIt (requests.List file) names_in a b told) where
    pub list_keys : b.peer.now.keys ≡ keys_of k
    list_keys = once_keys (requests.List file) names_in (list_plain file form) b told asks

    pub list_fault : HasOwnFault told
    list_fault =
        list_proper tells _ _ _ _ (seat tells sink) file a b told form asks

    pub list_all : (t_old t_new : T) (r : Result Reply StepFault) → a.sink.now ≡ t_old
        → b.sink.now ≡ t_new
        → HasOwnerCause (0 + sink.faults a.sink.now) (0 + sink.faults b.sink.now) told
        → r ≡ names_reply file told → Whole (commands.List file) b t_old t_new r
    list_all t_old t_new r put_a put_b cause replied =
        subst (Whole (commands.List file) b t_old t_new) (sym replied)
        (whole_so (commands.List file) b t_old t_new (names_reply file told)
        (list_done tells _ _ _ _ (seat tells sink) file a b told form asks (machine_of k s) (machine_of k b.peer.now) at_old
        (opens_as k b.peer.now list_keys) refl)
        (once_puts (requests.List file) names_in (list_plain file form) b told asks (names_reply file told)
        cause (names_link file told list_fault)) put_a put_b (list_names (commands.List file) file told))

  -- ---- reads

  module _ (user file : List ℕ) (form : HasRequestForm (requests.Ask (questions.Key user))) (b : Peer)
    where
      module _ (fault : OwnerFault)
          (asks : AsksIt (requests.Ask (questions.Key user)) (reader_in k user) a b (Err fault)) where
        pub unread_keys : b.peer.now.keys ≡ keys_of k
        unread_keys =
            once_keys (requests.Ask (questions.Key user)) (reader_in k user) (key_plain user form) b
            (Err fault) asks

        pub unread_fault : MayCome fault
        unread_fault =
            unread_proper tells _ _ _ _ (seat tells sink) k user file a b form fault asks

        pub unread_all : (t_old t_new : T) (r : Result Reply StepFault) → a.sink.now ≡ t_old
            → b.sink.now ≡ t_new
            → HasOwnerCause {T = Reader} (0 + sink.faults a.sink.now) (0 + sink.faults b.sink.now) (Err fault)
            → r ≡ fault_reply fault → Whole (commands.Read user file) b t_old t_new r
        unread_all t_old t_new r put_a put_b cause replied =
            subst (Whole (commands.Read user file) b t_old t_new) (sym replied)
            (whole_so (commands.Read user file) b t_old t_new (fault_reply fault)
            (unread_done tells _ _ _ _ (seat tells sink) k user file a b form fault asks (machine_of k s) (machine_of k b.peer.now) refl at_old
            (opens_as k b.peer.now unread_keys) refl)
            (once_puts (requests.Ask (questions.Key user)) (reader_in k user) (key_plain user form) b
            (Err fault) asks (fault_reply fault) cause
            (λ is. ap Err (fault_link fault unread_fault is))) put_a put_b (fault_names (commands.Read user file) fault))

      module _ (r : Reader) (found : Result (List ℕ) ClientFault) (d : Peer)
          (asks : AsksIt (requests.Ask (questions.Key user)) (reader_in k user) a b (Ok r))
          (talk : Reads (lent tells sink) b d r file found) (sound : s.failed ≡ false) where
        sound_a : a.peer.now.failed ≡ false
        sound_a = ap (λ (x : Opened D). x.failed) at_a ∙ sound

        pub read_keys : d.peer.now.keys ≡ keys_of k
        read_keys =
            let (list, o, are, talks) = talk in
            keeps_keys tells sink list o b d are
            ∙ once_keys (requests.Ask (questions.Key user)) (reader_in k user) (key_plain user form) b (Ok r) asks

        pub read_fault : HasReadFault found
        read_fault =
            read_proper tells _ _ _ _ (seat tells sink) k user file a b form r found d asks talk sound_a

        read_puts : HasFoundCause (0 + sink.faults a.sink.now) (0 + sink.faults d.sink.now) (Read found)
            → PutsTo sink (read_reply user file found ≡ Err Trace) a.sink.now d.sink.now
        read_puts cause =
            let (list, o, are, talks) = talk in
            let one = once_grew (requests.Ask (questions.Key user)) (reader_in k user) (key_plain user form) b (Ok r) asks in
            let more = puts_more tells sink list o b d are in record {
              grew = (_, Appends-trans (sink.written a.sink.now) (sink.written b.sink.now) (sink.written d.sink.now) _ _ one.1 more.1);
              later = omega (arith, cause.later);
              write = λ is.
                  let rose = cause.read (ap Read (read_link user file found read_fault is)) in omega (arith, rose);
            }

        pub read_all : (t_old t_new : T) (reply : Result Reply StepFault) → a.sink.now ≡ t_old
            → d.sink.now ≡ t_new
            → HasFoundCause (0 + sink.faults a.sink.now) (0 + sink.faults d.sink.now) (Read found)
            → reply ≡ read_reply user file found → Whole (commands.Read user file) d t_old t_new reply
        read_all t_old t_new reply put_a put_d cause replied =
            subst (Whole (commands.Read user file) d t_old t_new) (sym replied)
            (whole_so (commands.Read user file) d t_old t_new (read_reply user file found)
            (read_done tells _ _ _ _ (seat tells sink) k user file a b form r found d asks talk sound_a (machine_of k s) (machine_of k d.peer.now) refl
            at_old (opens_as k d.peer.now read_keys) refl)
            (read_puts cause) put_a put_d (read_names user file found))

  -- a read, whatever came of it
  module _ (user file : List ℕ) (form : HasRequestForm (requests.Ask (questions.Key user)))
      (d : Peer) (sound : old.failed ≡ false) where
    sound_s : s.failed ≡ false
    sound_s = ap (λ (m : KeptOn D). m.failed) seen ∙ sound

    abbrev ReadsIt : Found → Type 0
    ReadsIt found =
        ReadsBy (lent tells sink) k a d user file found

    pub found_keys : (found : Found) → ReadsIt found → d.peer.now.keys ≡ keys_of k
    found_keys (Unread fault) asks = unread_keys user file form d fault asks
    found_keys (Read found) (r, m, asks, talk) =
        read_keys user file form m r found d asks talk sound_s

    pub found_fault : (found : Found) → ReadsIt found → HasFoundFault found
    found_fault (Unread fault) asks = unread_fault user file form d fault asks
    found_fault (Read found) (r, m, asks, talk) =
        read_fault user file form m r found d asks talk sound_s

    found_so : (found : Found) (t_old t_new : T) → ReadsIt found → a.sink.now ≡ t_old
        → d.sink.now ≡ t_new
        → HasFoundCause (0 + sink.faults a.sink.now) (0 + sink.faults d.sink.now) found
        → Whole (commands.Read user file) d t_old t_new (found_reply user file found)
    found_so (Unread fault) t_old t_new asks put_a put_d cause =
        unread_all user file form d fault asks t_old t_new (fault_reply fault) put_a put_d
        (record { later = cause.later; link = λ is. cause.unread (ap Unread (fault_of fault is)) }) refl
    found_so (Read found) t_old t_new (r, m, asks, talk) put_a put_d cause =
        read_all user file form m r found d asks talk sound_s t_old t_new
        (read_reply user file found) put_a put_d cause refl

    pub found_all : (found : Found) (t_old t_new : T) (reply : Result Reply StepFault) → ReadsIt found
        → a.sink.now ≡ t_old → d.sink.now ≡ t_new
        → HasFoundCause (0 + sink.faults a.sink.now) (0 + sink.faults d.sink.now) found
        → reply ≡ found_reply user file found → Whole (commands.Read user file) d t_old t_new reply
    found_all found t_old t_new reply by put_a put_d cause replied =
        subst (Whole (commands.Read user file) d t_old t_new) (sym replied)
        (found_so found t_old t_new by put_a put_d cause)
