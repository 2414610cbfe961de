-- What the steps of the machine put to the sink of frames: transcripts, and fronts of them.
use Rattle.std.proofs.Common.{◌≡◌, ◌∙◌, ℕ, List, [], ◌∷◌, ◌++◌, take, Option, Some, None, Result, Ok, Err, refl, sym, ap, subst, inl, inr}
use Rattle.std.specs.Prelude.{◌⊎◌}
use Rattle.std.specs.Io.KnownBytes.{Appends}
use Rattle.std.proofs.KnownBytes.{Appends-nil, Appends-trans}
use Rattle.std.proofs.Common.{append_assoc}
use Rattle.std.proofs.lemmas.List.{append-nil}
use Rattle.ov_base.specs.declared.refusal.Refusal.{Refusal}
use Rattle.ov_disk.specs.Tells.{DiskTells}
use Rattle.ov_script.specs.declared.command.Command.{Command}
use Rattle.ov_script.specs.declared.command.Command.TheVariants.{Read}
use Rattle.ov_script.specs.declared.reply.Reply.{Reply}
use Rattle.ov_history.specs.Masters.{Masters}
use Rattle.ov_history.specs.Plain.{PlainHistory, history_of}
use Rattle.ov_history.specs.Refusals.{IsLegal}
use Rattle.ov_wire.specs.declared.answer.Answer.{Answer}
use Rattle.ov_wire.specs.declared.answer.Answer.TheVariants as answers
use Rattle.ov_wire.specs.declared.answer.Known.{Known}
use Rattle.ov_fields.specs.Fronts.{AreAllBytes}
use Rattle.ov_wire.specs.AnswerReading.{answer_of}
use Rattle.ov_wire.specs.Requests.{HasRequestForm, request_bytes}
use Rattle.ov_protocol.specs.Serving.{Service}
use Rattle.ov_peer.specs.Asks.{AreAsks, Ask}
use Rattle.ov_peer.specs.Tells.{PeerTells}
use Rattle.ov_client.specs.Readers.{Reader}
use Rattle.ov_client.specs.Talks.{Closes as ReadCloses, Talks as ReadTalks}
use Rattle.ov_client.specs.declared.fault.ClientFault.{ClientFault}
use Rattle.ov_store.specs.Opened.{Opened}
use Rattle.ov_server.specs.Locally.{IsServedBy}
use Rattle.ov_owner.specs.Alone.{AnsweredAlone}
use Rattle.ov_owner.specs.Clients.{reader_in}
use Rattle.ov_owner.specs.Errands.{Errand}
use Rattle.ov_owner.specs.Questions.{AsksOnce}
use Rattle.ov_owner.specs.Steps.{IsErrandFor}
use Rattle.ov_owner.specs.Talks.{Closes, Talks}
use Rattle.ov_owner.specs.declared.fault.OwnerFault.{OwnerFault}
use Rattle.ov_owner.specs.declared.fault.OwnerFault.TheVariants as faults
use Rattle.ov_transcript.specs.Talking.{ArePut, IsAnswered, IsFirstAsk, IsOneQuestion, IsReadAnswered, ReadsAs}
use Rattle.ov_transcript.specs.Transcripts.{first_request, frames, frames_of, service_of}
use Rattle.ov_transcript.proofs.OwnersTalks.{talks_are_fronts, talks_are_transcripts}
use Rattle.ov_transcript.proofs.Questions.{first_answers_are_fronts, first_asks_are_fronts, questions_are_transcripts, refusals_are_transcripts}
use Rattle.ov_transcript.proofs.ReadersTalks.{reads_are_fronts, reads_are_transcripts}
use Rattle.ov_machine.specs.Frames.{BreaksOff, TracesAt, Transcribes, TranscribesFront}
use Rattle.ov_machine.specs.Replying.{change_reply, fault_reply}
use Rattle.ov_machine.specs.Seats.{IsSeat, Stays}
use Rattle.ov_machine.specs.declared.fault.StepFault.{StepFault}
use Rattle.ov_machine.proofs.Making.{ComesTo, whole_is_made}
use Rattle.ov_machine.proofs.Seating.{alone_so, are_put, end_on, end_put, frames_put}
use Rattle.ov_machine.proofs.Stays.{serves_still}
use Rattle.ov_machine.proofs.Transcripts.{breaks_off}

-- a reply is that of a transcript that was put, and a fault that of a front
breaks_so : (k : Masters) (p : PlainHistory) (command : Command) (Made : Type 0) (old new : Option (List ℕ))
    (r : Result Reply StepFault)
    → ((reply : Reply) → r ≡ Ok reply → Transcribes k p command old new)
    → BreaksOff k p command Made old new
    → TracesAt k p command Made old new r
breaks_so k p command Made old new (Ok reply) whole front = whole reply refl
breaks_so k p command Made old new (Err fault) whole front = front

traces_so : (k : Masters) (p : PlainHistory) (command : Command) (old new : Option (List ℕ))
    (r : Result Reply StepFault)
    → ((reply : Reply) → r ≡ Ok reply → Transcribes k p command old new)
    → TranscribesFront k p command old new
    → TracesAt k p command (Unit {0}) old new r
traces_so k p command old new r whole front =
    breaks_so k p command (Unit {0}) old new r whole (breaks_off k p command (Unit {0}) old new tt front)

-- an answered call is replied to
answered_so : (made : Result ℕ OwnerFault) (reply : Reply) → change_reply made ≡ Ok reply
    → IsAnswered made
answered_so (Ok n) reply is = tt
answered_so (Err (faults.Refused why)) reply is = tt
answered_so (Err faults.Link) reply is = absurd cc
answered_so (Err (faults.BadReply place)) reply is = absurd cc
answered_so (Err faults.BadTag) reply is = absurd cc
answered_so (Err faults.Device) reply is = absurd cc
answered_so (Err (faults.Unsettled epochs)) reply is = absurd cc
answered_so (Err faults.Memory) reply is = absurd cc

-- no ask of a call that was answered failed
none_failed : (made : Result ℕ OwnerFault) → IsAnswered made → (made ≡ Err faults.Link) ⊎ (made ≡ Err faults.Memory) → ⊥
none_failed made answered (inl is) = subst IsAnswered is answered
none_failed made answered (inr is) = subst IsAnswered is answered

-- one ask before others
joins : (xs ys zs : List ℕ) → (xs ++ []) ++ (ys ++ zs) ≡ (xs ++ ys) ++ zs
joins xs ys zs = ap (λ (x : List ℕ). x ++ (ys ++ zs)) (append-nil xs) ∙ sym (append_assoc xs ys zs)

module _ {D : Type 0} (tells : DiskTells D) {P : Type 0} (peer : PeerTells P)
    (server : P → Opened D) (put : P → Option (List ℕ)) (loan : P → ℕ)
    (seat : IsSeat tells peer server put loan) (k : Masters) (p : PlainHistory)
    (legal : IsLegal (history_of p)) where
  -- ---- changes

  pub change_put : (command : Command) (e : Errand) (asks : List Ask) (o : Option (List ℕ))
      (made : Result ℕ OwnerFault) (a b : P) (Made : Type 0)
      → ((last : Service) → IsServedBy (server b) last → ComesTo k p command last → Made)
      → IsErrandFor k.base command e → IsServedBy (server a) (service_of k p)
      → AreAsks peer a asks o b → Talks k.surface e asks o made
      → TracesAt k p command Made (put a) (put b) (change_reply made)
  change_put command e asks o made a b Made comes ours serves (m, leads, ends) talks =
      let (w, alone, then) = alone_so tells peer
      server put loan seat asks a m (service_of k p) serves leads in
      let (more, last, put_more, on, serves_last) = end_on tells peer server put loan seat o m b w then ends in
      let put_so = are_put tells peer server put loan seat o w last more on in
      let put_all = Appends-trans (put a) (put m) (put b) (frames asks) more
      (frames_put tells peer server put loan seat asks a m leads)
      put_more in
      breaks_so k p command Made (put a) (put b) (change_reply made)
      (λ reply is. whole w alone more put_so put_all (answered_so made reply is)) (
        frames asks ++ more,
        talks_are_fronts k p command e asks o made w more ours talks legal alone put_so,
        (λ is_whole. comes last serves_last
            (whole_is_made k p legal asks o made w last more command e ours talks alone on is_whole)),
        put_all,
      ) where
        no_more : (more : List ℕ) (w : Service) (x : Option (List ℕ)) → ArePut w x more
            → IsAnswered made → Closes k.surface e talks.0 x made → more ≡ []
        no_more more w None are_put answered closes = are_put
        no_more more w (Some frame) are_put answered (due, why) = absurd (none_failed made answered why)

        whole : (w : Service) → AnsweredAlone (service_of k p) asks w
            → (more : List ℕ) → ArePut w o more → Appends (put a) (put b) (frames asks ++ more)
            → IsAnswered made → Transcribes k p command (put a) (put b)
        whole w alone more are_put put_all answered =
            let none : more ≡ [] = no_more more w o are_put answered talks.2 in (
              frames asks,
              (asks, talks_are_transcripts k p command e asks o made w ours talks legal alone answered, refl),
              subst (λ (bytes : List ℕ). Appends (put a) (put b) bytes)
                  (ap (λ (x : List ℕ). frames asks ++ x) none ∙ append-nil (frames asks)) put_all,
            )

  -- ---- questions

  module _ (command : Command) (form : HasRequestForm (first_request command)) where
    -- one ask that was answered
    first_ask : (a b : P) (reply : List ℕ) → IsServedBy (server a) (service_of k p)
        → peer.asked a (request_bytes (first_request command)) reply b
        → (x : Ask) × (x.reply ≡ reply) × IsFirstAsk k p command x
        × Appends (put a) (put b) (frames (x ∷ []))
    first_ask a b reply serves asks =
        let x : Ask = record { request = request_bytes (first_request command); reply = reply } in
        let (w, alone, then) = alone_so tells peer
        server put loan seat (x ∷ []) a b (service_of k p) serves (b, asks, refl) in (
          x,
          refl,
          record { form = form; asked = refl; made = alone.0; replied = alone.1 },
          frames_put tells peer server put loan
              seat (x ∷ []) a b (b, asks, refl),
        )

    answered_front : (a b : P) (reply : List ℕ) → IsServedBy (server a) (service_of k p)
        → peer.asked a (request_bytes (first_request command)) reply b
        → TranscribesFront k p command (put a) (put b)
    answered_front a b reply serves asks =
        let (x, same, first, bytes) = first_ask a b reply serves asks in
        (frames (x ∷ []), first_answers_are_fronts k p command x first, bytes)

    failed_front : (a b : P) → IsServedBy (server a) (service_of k p)
        → peer.failed a (request_bytes (first_request command)) b
        → TranscribesFront k p command (put a) (put b)
    failed_front a b serves fault =
        let (bytes, put_it, is) = end_put tells peer
        server put loan seat (Some (request_bytes (first_request command))) a b (service_of k p) serves
        fault in
        (bytes, first_asks_are_fronts k p command bytes form is, put_it)

    still_front : (a b : P) → b ≡ a → TranscribesFront k p command (put a) (put b)
    still_front a b same = (
      [],
      first_asks_are_fronts k p command [] form (inl (0, refl)),
      subst (λ (x : P). Appends (put a) (put x) []) (sym same) (Appends-nil (put a)),
    )

    -- a front, however it ended
    pub once_front : {T : Type 0} (take : Answer → Result T OwnerFault) (result : Result T OwnerFault)
        (a b : P) → IsServedBy (server a) (service_of k p)
        → AsksOnce peer a b (first_request command) take result
        → TranscribesFront k p command (put a) (put b)
    once_front take result a b serves (inl (read, answered, is)) =
        answered_front a b answered.reply serves answered.sent
    once_front take result a b serves (inr (inl (link, fault))) = failed_front a b serves fault
    once_front take result a b serves (inr (inr (memory, inl same))) = still_front a b same
    once_front take result a b serves (inr (inr (memory, inr (inl fault)))) = failed_front a b serves fault
    once_front take result a b serves (inr (inr (memory, inr (inr (reply, asks))))) =
        answered_front a b reply serves asks

    -- a single question that was answered
    pub question_put : {T : Type 0} (take : Answer → Result T OwnerFault)
        (result : Result T OwnerFault) (r : Result Reply StepFault) (a b : P)
        → IsOneQuestion command → IsServedBy (server a) (service_of k p)
        → AsksOnce peer a b (first_request command) take result
        → ((reply : Reply) → r ≡ Ok reply → result ≡ Err faults.Link → ⊥)
        → ((reply : Reply) → r ≡ Ok reply → result ≡ Err faults.Memory → ⊥)
        → TracesAt k p command (Unit {0}) (put a) (put b) r
    question_put take result r a b one serves once no_link no_memory =
        traces_so k p command (put a) (put b) r (λ reply is. whole reply is once)
        (once_front take result a b serves once) where
          whole : (reply : Reply) → r ≡ Ok reply
              → AsksOnce peer a b (first_request command) take result
              → Transcribes k p command (put a) (put b)
          whole reply is (inl (read, answered, so)) =
              let (x, same, first, bytes) = first_ask a b answered.reply serves answered.sent in
              (frames (x ∷ []), (x ∷ [], questions_are_transcripts k p command x one first, refl), bytes)
          whole reply is (inr (inl (link, fault))) = absurd (no_link reply is link)
          whole reply is (inr (inr (memory, forgets))) = absurd (no_memory reply is memory)

  -- ---- reads

  -- the reader wasn't got
  pub unread_put : (user file : List ℕ) (fault : OwnerFault) (a b : P)
      → HasRequestForm (first_request (Read user file)) → IsServedBy (server a) (service_of k p)
      → AsksOnce peer a b (first_request (Read user file)) (reader_in k user) (Err fault)
      → TracesAt k p (Read user file) (Unit {0}) (put a) (put b) (fault_reply fault)
  unread_put user file fault a b form serves once =
      traces_so k p (Read user file) (put a) (put b) (fault_reply fault)
      (λ reply is. by fault is once)
      (once_front (Read user file) form (reader_in k user) (Err fault) a b serves once) where
        no_reader : (answer : Answer) (why : Refusal)
            → Err (faults.Refused why) ≡ reader_in k user answer → answer ≡ answers.Refused why
        no_reader (answers.Refused other) why is = cc
        no_reader answer why is = absurd cc

        by : (f : OwnerFault) {reply : Reply} → fault_reply f ≡ Ok reply
            → AsksOnce peer a b (first_request (Read user file)) (reader_in k user) (Err f)
            → Transcribes k p (Read user file) (put a) (put b)
        by (faults.Refused why) is (inl (Ok answer, answered, so)) =
            let (x, same, first, bytes) = first_ask (Read user file) form a b answered.reply serves answered.sent in
            let refused = no_reader answer why so in
            let reads_as : ReadsAs (Read user file) x.reply (answers.Refused why) =
            record {
              bytes = subst AreAllBytes (sym same) answered.bytes;
              reads = ap (answer_of (first_request (Read user file))) same
                  ∙ answered.reads ∙ ap Ok refused;
            } in
            (frames (x ∷ []), (x ∷ [], refusals_are_transcripts k p (Read user file) x why first reads_as, refl), bytes)
        by (faults.Refused why) is (inl (Err place, answered, so)) =
            absurd (cc so)
        by (faults.Refused why) is (inr (inl (link, fault_of))) = absurd (cc link)
        by (faults.Refused why) is (inr (inr (memory, forgets))) = absurd (cc memory)
        by faults.Link is once_so = absurd (cc is)
        by (faults.BadReply place) is once_so = absurd (cc is)
        by faults.BadTag is once_so = absurd (cc is)
        by faults.Device is once_so = absurd (cc is)
        by (faults.Unsettled epochs) is once_so = absurd (cc is)
        by faults.Memory is once_so = absurd (cc is)

  -- the reader was got, and the file was read with its keys
  pub read_put : (user file : List ℕ) (r : Reader) (asks : List Ask) (o : Option (List ℕ))
      (found : Result (List ℕ) ClientFault) (reply : Result Reply StepFault) (a b d : P)
      → HasRequestForm (first_request (Read user file)) → IsServedBy (server a) (service_of k p)
      → Stays tells (server a) (server b) → r.name ≡ user
      → AsksOnce peer a b (first_request (Read user file)) (reader_in k user) (Ok r)
      → AreAsks peer b asks o d → ReadTalks r file asks o found
      → ((x : Reply) → reply ≡ Ok x → IsReadAnswered found)
      → TracesAt k p (Read user file) (Unit {0}) (put a) (put d) reply
  read_put user file r asks o found reply a b d form serves still named (inr (inl (link, fault))) are talks replied =
      absurd (cc link)
  read_put user file r asks o found reply a b d form serves still named (inr (inr (memory, forgets))) are talks replied =
      absurd (cc memory)
  read_put user file r asks o found reply a b d form serves still named (inl (Err place, answered, so)) are talks replied =
      absurd (cc so)
  read_put user file r asks o found reply a b d form serves still named (inl (Ok answer, answered, so)) (m, leads, ends) talks replied =
      by_known answer refl so where
        has_known : (x : Answer) → Ok r ≡ reader_in k user x → (known : Known) × (x ≡ answers.Known known)
        has_known (answers.Known known) is = (known, refl)
        has_known (answers.Refused why) is = absurd (cc is)
        has_known answers.NoMemory is = absurd (cc is)
        has_known x is = absurd (cc is)

        none_left : (more : List ℕ) (w : Service) (x : Option (List ℕ)) → ArePut w x more
            → IsReadAnswered found → ReadCloses r file talks.0 x found → more ≡ []
        none_left more w None are_put answer_so closes = are_put
        none_left more w (Some frame) are_put answer_so (due, inl link) =
            absurd (subst IsReadAnswered link answer_so)
        none_left more w (Some frame) are_put answer_so (due, inr memory) =
            absurd (subst IsReadAnswered memory answer_so)

        by_known : (x : Answer) → x ≡ answer → Ok r ≡ reader_in k user x
            → TracesAt k p (Read user file) (Unit {0}) (put a) (put d) reply
        by_known x same_answer is =
            let (known, as_known) = has_known x is in
            let (key, same, first, key_bytes) = first_ask (Read user file) form a b answered.reply serves answered.sent in
            let reads_as : ReadsAs (Read user file) key.reply (answers.Known known) =
            record {
              bytes = subst AreAllBytes (sym same) answered.bytes;
              reads = ap (answer_of (first_request (Read user file))) same
                  ∙ answered.reads ∙ ap Ok (sym same_answer ∙ as_known);
            } in
            let serves_b : IsServedBy (server b) (service_of k p) =
            serves_still tells (server a) (server b) still (service_of k p) serves in
            let (w, alone, then) = alone_so tells peer
            server put loan seat asks b m (service_of k p) serves_b leads in
            let (more, put_more, are_put) = end_put tells peer server put loan seat o m d w then ends in
            let put_reads = Appends-trans (put b) (put m) (put d) (frames asks) more
            (frames_put tells peer server put loan seat asks b m leads)
            put_more in
            let put_all = Appends-trans (put a) (put b) (put d) (frames (key ∷ [])) (frames asks ++ more) key_bytes put_reads in
            let joined : frames (key ∷ []) ++ (frames asks ++ more) ≡ frames (key ∷ asks) ++ more =
            joins (frames_of key) (frames asks) more in
            let put_so : Appends (put a) (put d) (frames (key ∷ asks) ++ more) =
            subst (λ (bytes : List ℕ). Appends (put a) (put d) bytes) joined put_all in
            traces_so k p (Read user file) (put a) (put d) reply
            (λ given is_ok. let none : more ≡ [] = none_left more w o are_put (replied given is_ok) talks.2 in (
              frames (key ∷ asks),
              (key ∷ asks, reads_are_transcripts k p user file key known r asks o found w first reads_as named talks legal alone (replied given is_ok), refl),
              subst (λ (bytes : List ℕ). Appends (put a) (put d) bytes)
                  (ap (λ (y : List ℕ). frames (key ∷ asks) ++ y) none ∙ append-nil (frames (key ∷ asks))) put_so,
            )) (
              frames (key ∷ asks) ++ more,
              reads_are_fronts k p user file key known r asks o found w more first reads_as named talks legal alone are_put,
              put_so,
            )
