-- A read over frames, all in all.
use Rattle.std.proofs.Common.{◌≡◌, ℕ, List, false, Option, Some, Result, Ok, Err, refl, sym, subst, inl, inr}
use Rattle.std.specs.Prelude.{◌⊎◌}
use Rattle.ov_base.specs.declared.refusal.Refusal.{Refusal}
use Rattle.ov_disk.specs.Tells.{DiskTells}
use Rattle.ov_script.specs.declared.command.Command.TheVariants.{Read}
use Rattle.ov_script.specs.declared.reply.Reply.{Reply}
use Rattle.ov_history.specs.Asking.{key_refusal, user_named}
use Rattle.ov_history.specs.Masters.{Masters}
use Rattle.ov_history.specs.Plain.{PlainHistory}
use Rattle.ov_wire.specs.declared.answer.Answer.{Answer}
use Rattle.ov_wire.specs.declared.answer.Answer.TheVariants as answers
use Rattle.ov_wire.specs.declared.request.Question.TheVariants as questions
use Rattle.ov_wire.specs.declared.request.Request.TheVariants as requests
use Rattle.ov_wire.specs.Requests.{HasRequestForm}
use Rattle.ov_peer.specs.Tells.{PeerTells}
use Rattle.ov_protocol.specs.Asking.{AnswersAsk}
use Rattle.ov_client.specs.Readers.{Reader}
use Rattle.ov_client.specs.Reads.{Reads}
use Rattle.ov_client.specs.declared.fault.ClientFault.{ClientFault}
use Rattle.ov_client.specs.declared.fault.ClientFault.TheVariants as client
use Rattle.ov_store.specs.Opened.{Opened}
use Rattle.ov_owner.specs.Clients.{reader_in}
use Rattle.ov_owner.specs.Questions.{AsksOnce}
use Rattle.ov_owner.specs.declared.fault.OwnerFault.{OwnerFault}
use Rattle.ov_owner.specs.declared.fault.OwnerFault.TheVariants as faults
use Rattle.ov_server.specs.Locally.{IsServedBy}
use Rattle.ov_transcript.specs.Talking.{IsReadAnswered}
use Rattle.ov_transcript.specs.Transcripts.{service_of}
use Rattle.ov_machine.specs.Frames.{TracesAt}
use Rattle.ov_machine.specs.Machine.{KeptOn, StandsFor, opened_of}
use Rattle.ov_machine.specs.Replying.{HasOwnFault, HasReadFault, fault_reply, read_reply}
use Rattle.ov_machine.specs.Seats.{AllStay, IsSeat, Stays}
use Rattle.ov_machine.specs.declared.fault.StepFault.{StepFault}
use Rattle.ov_machine.proofs.Done.{IsDone, question_done}
use Rattle.ov_machine.proofs.Fetching.{IsReadEnd, reads_so}
use Rattle.ov_machine.proofs.Listing.{key_plain}
use Rattle.ov_machine.proofs.Putting.{read_put, unread_put}
use Rattle.ov_machine.proofs.Questioning.{IsTakenOf, once_so}
use Rattle.ov_machine.proofs.ReadingBack.{IsReader, IsReadThere, bytes_are, key_refusal_is, read_there, reader_so, refusal_is}
use Rattle.ov_machine.proofs.Seating.{leads_so, left_so}
use Rattle.ov_machine.proofs.Staying.{EndsThere, HasOwnCause}

-- a read that ends has no other fault
end_proper : (before now : ℕ) (found : Result (List ℕ) ClientFault) → IsReadEnd before now found
    → HasReadFault found
end_proper before now (Ok bytes) is = tt
end_proper before now (Err (client.Refused why)) is = tt
end_proper before now (Err client.Link) is = tt
end_proper before now (Err (client.BadReply place)) is = is
end_proper before now (Err (client.Damaged stored computed)) is = tt
end_proper before now (Err client.Device) is = tt
end_proper before now (Err (client.Unsettled generations)) is = is
end_proper before now (Err client.Memory) is = tt

-- the reply of a read that ends has its cause
end_cause : (before now : ℕ) (user file : List ℕ) (found : Result (List ℕ) ClientFault)
    → IsReadEnd before now found → HasOwnCause before now (read_reply user file found)
end_cause before now user file (Ok bytes) is = tt
end_cause before now user file (Err (client.Refused why)) is = tt
end_cause before now user file (Err client.Link) is = tt
end_cause before now user file (Err (client.BadReply place)) is = tt
end_cause before now user file (Err (client.Damaged stored computed)) is = is
end_cause before now user file (Err client.Device) is = is
end_cause before now user file (Err (client.Unsettled generations)) is = tt
end_cause before now user file (Err client.Memory) is = tt

-- where the end of a read is the machine's, so is the reply
end_there : (p : PlainHistory) (user file : List ℕ) (found : Result (List ℕ) ClientFault)
    → IsReadThere p user file found → EndsThere p (Read user file) (read_reply user file found)
end_there p user file (Ok bytes) is = bytes_are p user file bytes is
end_there p user file (Err (client.Refused why)) is = refusal_is p user file why is
end_there p user file (Err client.Link) is = tt
end_there p user file (Err (client.BadReply place)) is = tt
end_there p user file (Err (client.Damaged stored computed)) is = absurd is
end_there p user file (Err client.Device) is = tt
end_there p user file (Err (client.Unsettled generations)) is = tt
end_there p user file (Err client.Memory) is = tt

-- what is replied to with no fault was answered
replied_so : (user file : List ℕ) (found : Result (List ℕ) ClientFault) (reply : Reply)
    → read_reply user file found ≡ Ok reply → IsReadAnswered found
replied_so user file (Ok bytes) reply is = tt
replied_so user file (Err (client.Refused why)) reply is = tt
replied_so user file (Err client.Link) reply is = absurd (cc is)
replied_so user file (Err (client.BadReply place)) reply is = absurd (cc is)
replied_so user file (Err (client.Damaged stored computed)) reply is = absurd (cc is)
replied_so user file (Err client.Device) reply is = absurd (cc is)
replied_so user file (Err (client.Unsettled generations)) reply is = absurd (cc is)
replied_so user file (Err client.Memory) reply is = absurd (cc is)

module _ {D : Type 0} (tells : DiskTells D) {P : Type 0} (peer : PeerTells P)
    (server : P → Opened D) (put : P → Option (List ℕ)) (loan : P → ℕ)
    (seat : IsSeat tells peer server put loan) (k : Masters) (user file : List ℕ) (a b : P)
    (form : HasRequestForm (requests.Ask (questions.Key user))) where
  abbrev Done : KeptOn D → KeptOn D → P → Result Reply StepFault → Type 0
  Done old new d r =
      IsDone tells peer server put
      loan seat (Read user file) old new a d r

  module _ (told : Result Reader OwnerFault)
      (asks : AsksOnce peer a b (requests.Ask (questions.Key user)) (reader_in k user) told) where
    pub key_so : Stays tells (server a) (server b)
        × IsTakenOf (server a) (requests.Ask (questions.Key user)) (reader_in k user) told
    key_so =
        once_so tells peer server put loan seat
        (requests.Ask (questions.Key user)) (reader_in k user) (key_plain user form) a b told asks

  -- ---- no reader

  module _ (fault : OwnerFault)
      (asks : AsksOnce peer a b (requests.Ask (questions.Key user)) (reader_in k user) (Err fault))
    where
      -- the user isn't there, or the call was cut off
      abbrev IsUnreadFor : Opened D → Type 0
      IsUnreadFor s =
          ((why : Refusal) × (fault ≡ faults.Refused why)
          × (key_refusal s.catalogue (user_named s.catalogue user) ≡ Some why))
          ⊎ ((fault ≡ faults.Link) ⊎ (fault ≡ faults.Memory))

      by_answer : (s : Opened D) (x : Answer) → AnswersAsk s.catalogue (questions.Key user) x
          → Err fault ≡ reader_in k user x → IsUnreadFor s
      by_answer s (answers.Known known) is so = absurd (cc so)
      by_answer s (answers.Refused why) is so = inl (why, cc so, is)
      by_answer s x is so = absurd is

      unread_so : IsUnreadFor (server a)
      unread_so = by (key_so (Err fault) asks).1 where
        by : IsTakenOf (server a) (requests.Ask (questions.Key user)) (reader_in k user) (Err fault)
            → IsUnreadFor (server a)
        by (inl (x, is, so)) = by_answer (server a) x is so
        by (inr (inl is)) = inr (inl (cc is))
        by (inr (inr is)) = inr (inr (cc is))

      pub unread_proper : HasOwnFault {T = Reader} (Err fault)
      unread_proper = by unread_so where
        by : IsUnreadFor (server a) → HasOwnFault {T = Reader} (Err fault)
        by (inl (why, so, is)) =
            subst (λ (f : OwnerFault). HasOwnFault {T = Reader} (Err f)) (sym so) tt
        by (inr (inl so)) = subst (λ (f : OwnerFault). HasOwnFault {T = Reader} (Err f)) (sym so) tt
        by (inr (inr so)) = subst (λ (f : OwnerFault). HasOwnFault {T = Reader} (Err f)) (sym so) tt

      pub unread_done : (old new : KeptOn D) → k ≡ old.kept.masters → server a ≡ opened_of old
          → server b ≡ opened_of new → new.kept.masters ≡ old.kept.masters
          → Done old new b (fault_reply fault)
      unread_done old new at_k at_a at_b masters =
          question_done tells peer
          server put loan seat (Read user file) old new a b (fault_reply fault) at_a at_b
          (key_so (Err fault) asks).0 masters (λ p. refl)
          (λ p stands. ends p stands unread_so)
          (λ p stands other. absurd (other file (user, refl)))
          (cause (tells.faults old.disk) (tells.faults new.disk) unread_so)
          (λ p stands serves.
          subst (λ (m : Masters). TracesAt m p (Read user file) (Unit {0}) (put a) (put b) (fault_reply fault)) at_k
          (unread_put tells peer server put loan seat k p
          stands.0.0 user file fault a b form
          (subst (λ (m : Masters). IsServedBy (server a) (service_of m p)) (sym at_k) serves) asks)) where
            ends : (p : PlainHistory) → StandsFor old.kept p → IsUnreadFor (server a)
                → EndsThere p (Read user file) (fault_reply fault)
            ends p stands (inl (why, so, is)) =
                subst (λ (f : OwnerFault). EndsThere p (Read user file) (fault_reply f)) (sym so)
                (refusal_is p user file why
                (key_refusal_is old.kept p stands user file why
                (subst (λ (s : Opened D). key_refusal s.catalogue (user_named s.catalogue user) ≡ Some why) at_a is)))
            ends p stands (inr (inl so)) =
                subst (λ (f : OwnerFault). EndsThere p (Read user file) (fault_reply f)) (sym so) tt
            ends p stands (inr (inr so)) =
                subst (λ (f : OwnerFault). EndsThere p (Read user file) (fault_reply f)) (sym so) tt

            cause : (before now : ℕ) → IsUnreadFor (server a)
                → HasOwnCause before now (fault_reply fault)
            cause before now (inl (why, so, is)) =
                subst (λ (f : OwnerFault). HasOwnCause before now (fault_reply f)) (sym so) tt
            cause before now (inr (inl so)) =
                subst (λ (f : OwnerFault). HasOwnCause before now (fault_reply f)) (sym so) tt
            cause before now (inr (inr so)) =
                subst (λ (f : OwnerFault). HasOwnCause before now (fault_reply f)) (sym so) tt

  -- ---- a reader

  module _ (r : Reader) (found : Result (List ℕ) ClientFault) (d : P)
      (asks : AsksOnce peer a b (requests.Ask (questions.Key user)) (reader_in k user) (Ok r))
      (talk : Reads peer b d r file found) (sound : (server a).failed ≡ false) where
    reader : IsReader k (server a).catalogue user r
    reader = by (key_so (Ok r) asks).1 where
      by : IsTakenOf (server a) (requests.Ask (questions.Key user)) (reader_in k user) (Ok r)
          → IsReader k (server a).catalogue user r
      by (inl (x, is, so)) = reader_so k (server a).catalogue user x r is (sym so)
      by (inr (inl is)) = absurd (cc is)
      by (inr (inr is)) = absurd (cc is)

    still : Stays tells (server a) (server b)
    still = (key_so (Ok r) asks).0

    fetched : Stays tells (server a) (server d)
        × IsReadEnd (tells.faults (server a).disk) (tells.faults (server d).disk) found
        × AllStay tells (server b) talk.0
    fetched =
        let (list, o, (m, leads, ends), talks) = talk in
        reads_so tells (server a) sound r reader.roots
        file list o found (server b) (server m) (server d) still talks
        (leads_so tells peer server put loan seat list b m leads)
        (left_so tells peer server put loan seat o m d ends)

    pub read_proper : HasReadFault found
    read_proper =
        end_proper (tells.faults (server a).disk) (tells.faults (server d).disk) found fetched.1

    pub read_done : (old new : KeptOn D) → k ≡ old.kept.masters → server a ≡ opened_of old
        → server d ≡ opened_of new → new.kept.masters ≡ old.kept.masters
        → Done old new d (read_reply user file found)
    read_done old new at_k at_a at_d masters =
        question_done tells peer
        server put loan seat (Read user file) old new a d (read_reply user file found) at_a at_d fetched.0
        masters (λ p. refl)
        (λ p stands. end_there p user file found
        (read_there tells old p stands user file r
        (subst (λ (m : Masters). IsReader m old.kept.catalogue user r) at_k
        (subst (λ (s : Opened D). IsReader k s.catalogue user r) at_a reader))
        talk.0 talk.1 found talk.3 (server b)
        (subst (λ (s : Opened D). Stays tells s (server b)) at_a still) fetched.2))
        (λ p stands other. absurd (other file (user, refl)))
        (end_cause (tells.faults old.disk) (tells.faults new.disk) user file found
        (subst (λ (t : Opened D). IsReadEnd (tells.faults old.disk) (tells.faults t.disk) found) at_d
        (subst (λ (s : Opened D). IsReadEnd (tells.faults s.disk) (tells.faults (server d).disk) found)
        at_a fetched.1)))
        (λ p stands serves.
        subst (λ (m : Masters). TracesAt m p (Read user file) (Unit {0}) (put a) (put d) (read_reply user file found)) at_k
        (read_put tells peer server put loan seat k p
        stands.0.0 user file r talk.0 talk.1 found (read_reply user file found) a b d form
        (subst (λ (m : Masters). IsServedBy (server a) (service_of m p)) (sym at_k) serves) still
        reader.name asks talk.2 talk.3 (replied_so user file found)))
