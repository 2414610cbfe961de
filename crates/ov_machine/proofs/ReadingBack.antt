-- What a read is at a history for which the machine stands: the machine's reply.
use Rattle.std.proofs.Common.{◌≡◌, ◌∙◌, ℕ, List, [], ◌∷◌, Bool, true, false, not, Option, Some, None, Result, Ok, Err, refl, sym, ap, subst, inl, inr, arith}
use Rattle.std.specs.Prelude.{◌⊎◌}
use Rattle.std.proofs.lemmas.List.{nil_from_length}
use Rattle.ov_base.proofs.Tests.{true_of_not}
use Rattle.ov_base.specs.declared.refusal.Refusal.{Refusal}
use Rattle.ov_base.specs.declared.refusal.Refusal.TheVariants.{NoUser}
use Rattle.ov_disk.specs.Tells.{DiskTells}
use Rattle.ov_record.specs.Updates.{SealedUpdate}
use Rattle.ov_history.specs.Asking.{key_refusal, user_named}
use Rattle.ov_history.specs.Catalogue.{Catalogue, matrix_shown}
use Rattle.ov_history.specs.Fading.{faded_of}
use Rattle.ov_history.specs.FadingLaws.{IsRight}
use Rattle.ov_history.specs.History.{History, Matrix, matrix_of}
use Rattle.ov_history.specs.Lists.{file_number, is_file, is_user, user_number}
use Rattle.ov_history.specs.Masters.{Masters}
use Rattle.ov_history.specs.Plain.{PlainHistory, bytes_of, history_of}
use Rattle.ov_history.specs.Refusals.{IsLegal, Test, first_of_tests, read_refusal}
use Rattle.ov_history.specs.Sealed.{SealedHistory}
use Rattle.ov_history.specs.Sealing.{sealed}
use Rattle.ov_history.proofs.Fading.{right_histories_read_alike}
use Rattle.ov_script.specs.declared.command.Command.TheVariants.{Read}
use Rattle.ov_script.specs.declared.reply.Reply.TheVariants.{Bytes, Refused}
use Rattle.ov_model.specs.Step.{bytes_reply, reply_or, reply_to}
use Rattle.ov_wire.specs.declared.answer.Answer.{Answer}
use Rattle.ov_wire.specs.declared.answer.Answer.TheVariants as answers
use Rattle.ov_wire.specs.declared.answer.Known.{Known}
use Rattle.ov_wire.specs.declared.request.Question.TheVariants as questions
use Rattle.ov_protocol.specs.Asking.{AnswersAsk, known_at, numbers_for}
use Rattle.ov_protocol.specs.Serving.{Service, Serving, later, served as shown}
use Rattle.ov_protocol.specs.Replies.{Replies}
use Rattle.ov_protocol.proofs.GoingOn.{epochs_go_on}
use Rattle.ov_protocol.proofs.Leaving.{later-nil}
use Rattle.ov_peer.specs.Asks.{Along, AreRight, Ask}
use Rattle.ov_peer.specs.Tells.{IsReplyAt}
use Rattle.ov_peer.specs.Disks.{NeedsDisk}
use Rattle.ov_server.specs.Answering.{AnswersOrFails, serving_of}
use Rattle.ov_server.specs.Locally.{IsServedBy, needs}
use Rattle.ov_store.specs.Opened.{Opened}
use Rattle.ov_client.specs.Laws.{AllAre, HoldsRootKeys, IsAsMachine, IsReadAt, MachineAnswers, is_chain, last_chain, now_if}
use Rattle.ov_client.specs.Readers.{Reader}
use Rattle.ov_client.specs.Talks.{Talks}
use Rattle.ov_client.specs.declared.fault.ClientFault.{ClientFault}
use Rattle.ov_client.specs.declared.fault.ClientFault.TheVariants as client
use Rattle.ov_client.proofs.Machine.{reads_are_the_machines}
use Rattle.ov_owner.specs.Clients.{reader_in, reader_of}
use Rattle.ov_owner.specs.declared.fault.OwnerFault.TheVariants as faults
use Rattle.ov_peer.proofs.Following.{followed-nil}
use Rattle.ov_machine.specs.Machine.{Kept, KeptOn, StandsFor, opened_of}
use Rattle.ov_machine.specs.Seats.{AllStay, Stays, served}
use Rattle.ov_machine.proofs.Fetching.{HasRootsAt, file_there}
use Rattle.ov_machine.proofs.Stays.{serves_still, shows_told}
use Rattle.ov_machine.proofs.AsTold.{service_at}
use Rattle.ov_machine.proofs.Stepping.{serves_at, shows}

-- ---- the reader that the owner made

-- the roots of the reader are those of the user, and the reader holds their keys
pub record IsReader (k : Masters) (c : Catalogue) (user : List ℕ) (r : Reader) : Type 0 where
  pub name : r.name ≡ user
  pub roots : HasRootsAt c r
  pub keys : HoldsRootKeys k r

of_known : (k : Masters) (c : Catalogue) (user : List ℕ)
    → IsReader k c user (reader_of k user (known_at c (numbers_for c (questions.Key user))))
of_known k c user = record {
  name = refl;
  roots = record { base = refl; surface = refl };
  keys = record { base = refl; surface = refl };
}

-- a reader is made, or the user isn't there
pub reader_so : (k : Masters) (c : Catalogue) (user : List ℕ) (a : Answer) (r : Reader)
    → AnswersAsk c (questions.Key user) a → reader_in k user a ≡ Ok r → IsReader k c user r
reader_so k c user (answers.Known known) r (none, is) made =
    let same : reader_of k user known ≡ r = let so : Ok (reader_of k user known) ≡ Ok r = made in cc so in
    subst (IsReader k c user) same
    (subst (λ (x : Known). IsReader k c user (reader_of k user x)) (sym is) (of_known k c user))
reader_so k c user (answers.Refused why) r is made = absurd (let so : Err (faults.Refused why) ≡ Ok r = made in cc so)
reader_so k c user a r is made = absurd is

-- ---- all is answered at one history

module _ {D : Type 0} (tells : DiskTells D) (v : Service) where
  abbrev asked : Opened D → List ℕ → List ℕ → Opened D → Type 0
  asked p request reply q = served tells p request reply q

  -- a reply that leaves all but the disk as it was is one at the history, and makes nothing
  reply_at : (s t : Opened D) (request reply : List ℕ) → IsServedBy s v → asked s request reply t
      → Stays tells s t → IsReplyAt v request reply []
  reply_at s t request reply serves asks still = by asks.answer where
    is_shown : serving_of s ≡ shown v
    is_shown = shows_told s v serves

    by : AnswersOrFails tells s t request reply → IsReplyAt v request reply []
    by (inl is) =
        let longer = epochs_go_on (serving_of s) (serving_of t) request reply is.frame in
        let none : is.frame.made ≡ [] =
        nil_from_length is.frame.made
        (omega (arith, longer, ap (λ (x : Opened D). x.catalogue.epoch) still.writes.same)) in
        inl
        (subst (λ (x : Serving). Replies x request reply []) is_shown
        (subst (λ (us : List SealedUpdate). Replies (serving_of s) request reply us) none is.frame.replies))
    by (inr is) =
        inr (record {
          spelled = is.spelled;
          makes = inl refl;
          needs = subst (λ (x : Serving). NeedsDisk x request) is_shown
              (needs tells s t request reply is);
        })

  -- asks that leave all but the disk as it was are answered along the history that is served
  pub along_so : (asks : List Ask) (s : Opened D) → IsServedBy s v
      → AllStay tells s asks
      → (histories : List SealedHistory) × (last : Service) × Along v asks histories last
      × AllAre v.history histories
  along_so [] s serves stay = ([], v, refl, tt)
  along_so (a ∷ asks) s serves (t, first, still, stay) =
      let at_v = reply_at s t a.request a.reply serves first still in
      let (histories, last, along, all) = along_so asks t (serves_still tells s t still v serves)
      stay in
      let none : later v [] ≡ v = later-nil v in (
        v.history ∷ histories,
        last,
        (
          [],
          [],
          sym (followed-nil v.history),
          subst (λ (w : Service). IsReplyAt w a.request a.reply []) (sym none) at_v,
          subst (λ (w : Service). Along w asks histories last)
              (sym (later-nil (later v []) ∙ none)) along,
        ),
        (refl, all),
      )

right_all : (k : Masters) (p : PlainHistory) (g : SealedHistory) (histories : List SealedHistory)
    → IsLegal (history_of p) → g ≡ sealed k p → AllAre g histories → AreRight k histories
right_all k p g [] legal is all = tt
right_all k p g (other ∷ histories) legal is (same, all) =
    ((p, legal, ap (λ (it : SealedHistory). faded_of it) (same ∙ is)), right_all k p g histories legal is all)

-- the history of the last Chain, if there was one, is this one
abbrev is_none_or : SealedHistory → Option SealedHistory → Type 0
is_none_or g o = (o ≡ None) ⊎ (o ≡ Some g)

now_so : (b : Bool) (g other : SealedHistory) (before : Option SealedHistory) → other ≡ g
    → is_none_or g before → is_none_or g (now_if b other before)
now_so true g other before same is = inr (ap Some same)
now_so false g other before same is = is

last_so : (g : SealedHistory) (before : Option SealedHistory) (asks : List Ask)
    (histories : List SealedHistory) → AllAre g histories → is_none_or g before
    → is_none_or g (last_chain before asks histories)
last_so g before [] histories all is = is
last_so g before (a ∷ asks) [] all is = is
last_so g before (a ∷ asks) (other ∷ histories) (same, all) is =
    last_so g (now_if (is_chain a.request) other before) asks histories all
    (now_so (is_chain a.request) g other before same is)

-- a read isn't refused so, or is
abbrev is_answered_so : History → List ℕ → List ℕ → Option Refusal → Type 0
is_answered_so h user file why =
    let m = matrix_of h in read_refusal m (user_number m user) (file_number m file) ≡ why

-- two histories that are one without bytes, and have the same bytes of each file that is there,
-- answer a read alike
reads_alike : (p q : PlainHistory) (user file : List ℕ) (result : Result (List ℕ) ClientFault)
    → history_of p ≡ history_of q
    → ((n : ℕ) → is_file (matrix_of (history_of p)) n ≡ true → bytes_of p n ≡ bytes_of q n)
    → IsReadAt q user file result → IsReadAt p user file result
reads_alike p q user file (Ok bytes) same read (none, is) =
    let m = matrix_of (history_of p) in
    let allowed : is_answered_so (history_of p) user file None =
    subst (λ (h : History). is_answered_so h user file None) (sym same) none in
    let there : is_file m (file_number m file) ≡ true =
    true_of_not (is_file m (file_number m file)) (file_there _ _ _ allowed) in (
      allowed,
      is ∙ ap (λ (h : History). bytes_of q (file_number (matrix_of h) file)) (sym same)
          ∙ sym (read (file_number m file) there),
    )
reads_alike p q user file (Err (client.Refused why)) same read is =
    subst (λ (h : History). is_answered_so h user file (Some why)) (sym same) is
reads_alike p q user file (Err fault) same read is = absurd is

-- what the machine answers at the last Chain it answers at this history
at_one_so : (k : Masters) (p : PlainHistory) (o : Option SealedHistory) (user file : List ℕ)
    (result : Result (List ℕ) ClientFault) → IsLegal (history_of p)
    → is_none_or (sealed k p) o → MachineAnswers k o user file result → IsReadAt p user file result
at_one_so k p o user file result legal (inl none) (q, g, is, right, reads) = absurd (cc (none, is))
at_one_so k p o user file result legal (inr some) (q, g, is, right, reads) =
    let both : Some g ≡ Some (sealed k p) = sym is ∙ some in
    let same : g ≡ sealed k p = cc both in
    let alike = right_histories_read_alike k p q (sealed k p) (legal, refl)
    (subst (λ (it : SealedHistory). IsRight k q it) same right) in
    reads_alike p q user file result alike.0 alike.1 reads

-- ---- the read

-- what a read is at a history, where bytes or a refusal came; a wrong tag never comes
abbrev pub IsReadThere : PlainHistory → List ℕ → List ℕ → Result (List ℕ) ClientFault → Type 0
IsReadThere p user file (Ok bytes) = IsReadAt p user file (Ok bytes)
IsReadThere p user file (Err (client.Refused why)) = IsReadAt p user file (Err (client.Refused why))
IsReadThere p user file (Err (client.Damaged stored computed)) = ⊥
IsReadThere p user file (Err fault) = Unit {0}

there_so : (k : Masters) (p : PlainHistory) (o : Option SealedHistory) (user file : List ℕ)
    (result : Result (List ℕ) ClientFault) → IsLegal (history_of p)
    → is_none_or (sealed k p) o → IsAsMachine k o user file result
    → IsReadThere p user file result
there_so k p o user file (Ok bytes) legal at_p is = at_one_so k p o user file (Ok bytes) legal at_p is
there_so k p o user file (Err (client.Refused why)) legal at_p is =
    at_one_so k p o user file (Err (client.Refused why)) legal at_p is
there_so k p o user file (Err (client.Damaged stored computed)) legal at_p is = is
there_so k p o user file (Err client.Link) legal at_p is = tt
there_so k p o user file (Err (client.BadReply place)) legal at_p is = tt
there_so k p o user file (Err client.Device) legal at_p is = tt
there_so k p o user file (Err (client.Unsettled generations)) legal at_p is = tt
there_so k p o user file (Err client.Memory) legal at_p is = tt

-- a read of a machine that stands for the history, with the keys of its user's roots
pub read_there : {D : Type 0} (tells : DiskTells D)
    (old : KeptOn D) (p : PlainHistory) (stands : StandsFor old.kept p)
    (user file : List ℕ) (r : Reader) → IsReader old.kept.masters old.kept.catalogue user r
    → (asks : List Ask) (o : Option (List ℕ)) (result : Result (List ℕ) ClientFault)
    → Talks r file asks o result
    → (s : Opened D) → Stays tells (opened_of old) s → AllStay tells s asks
    → IsReadThere p user file result
read_there tells old p stands user file r reader asks o
    result talks s still stay =
    let k = old.kept.masters in
    let v = service_at k p in
    let (histories, last, along, all) = along_so tells v asks s
    (serves_still tells (opened_of old) s still v (serves_at old p stands)) stay in
    let is = reads_are_the_machines k r file asks o result v last histories reader.keys refl talks
    along (right_all k p v.history histories stands.0.0 refl all) in
    subst (λ (name : List ℕ). IsReadThere p name file result) reader.name
    (there_so k p (last_chain None asks histories) r.name file result stands.0.0
    (last_so (sealed k p) None asks histories all (inl refl)) is)

-- bytes and refusals are the machine's replies
pub bytes_are : (p : PlainHistory) (user file bytes : List ℕ) → IsReadAt p user file (Ok bytes)
    → Bytes user file bytes ≡ reply_to p (Read user file)
bytes_are p user file bytes (none, is) =
    let m = matrix_of (history_of p) in
    ap (Bytes user file) is
    ∙ sym (ap (reply_or (bytes_reply p user file (file_number m file))) none)

pub refusal_is : (p : PlainHistory) (user file : List ℕ) (why : Refusal)
    → IsReadAt p user file (Err (client.Refused why))
    → Refused why ≡ reply_to p (Read user file)
refusal_is p user file why is =
    let m = matrix_of (history_of p) in
    sym (ap (reply_or (bytes_reply p user file (file_number m file))) is)

-- a user who isn't there reads nothing
first_test : (b : Bool) (tests : List Test) (why : Refusal)
    → first_of_tests ((NoUser, b) ∷ []) ≡ Some why
    → first_of_tests ((NoUser, b) ∷ tests) ≡ Some why
first_test true tests why is = is
first_test false tests why is = absurd (let none : None ≡ Some why = is in cc none)

pub key_refusal_is : (old : Kept) (p : PlainHistory) (stands : StandsFor old p)
    (user file : List ℕ) (why : Refusal)
    → key_refusal old.catalogue (user_named old.catalogue user) ≡ Some why
    → IsReadAt p user file (Err (client.Refused why))
key_refusal_is old p stands user file why is =
    subst
    (λ (m : Matrix). read_refusal m (user_number m user) (file_number m file) ≡ Some why)
    (shows old p stands).matrix
    (first_test (not (is_user (matrix_shown old.catalogue) (user_named old.catalogue user))) _ why is)
