-- A question to a server that nobody else updates is answered as the machine does, or cut off.
use Rattle.std.proofs.Common.{◌≡◌, ◌∙◌, ℕ, List, [], Result, Err, refl, sym, subst, inl, inr}
use Rattle.ov_base.specs.Causes.{Rose}
use Rattle.ov_base.specs.declared.refusal.Refusal.{Refusal}
use Rattle.ov_base.specs.declared.refusal.Refusal.TheVariants.{NoUser}
use Rattle.ov_record.specs.Updates.{SealedUpdate}
use Rattle.ov_script.specs.declared.command.Command.{Command}
use Rattle.ov_script.specs.declared.command.Command.TheVariants.{List as ListNames}
use Rattle.ov_script.specs.declared.reply.Reply.{Reply}
use Rattle.ov_script.specs.declared.reply.Reply.TheVariants as replies
use Rattle.ov_history.specs.Masters.{Masters}
use Rattle.ov_history.specs.Plain.{PlainHistory, history_of}
use Rattle.ov_history.specs.Refusals.{IsLegal}
use Rattle.ov_history.specs.Sealing.{IsSealedAs}
use Rattle.ov_history.proofs.Since.{sealed_since}
use Rattle.ov_model.specs.Step.{reply_to}
use Rattle.ov_wire.specs.declared.answer.Answer.{Answer}
use Rattle.ov_wire.specs.declared.answer.Answer.TheVariants as answers
use Rattle.ov_wire.specs.declared.answer.Welcome.{Welcome}
use Rattle.ov_wire.specs.declared.request.Question.TheVariants as questions
use Rattle.ov_wire.specs.declared.request.Request.{Request}
use Rattle.ov_wire.specs.declared.request.Request.TheVariants as requests
use Rattle.ov_wire.specs.Requests.{HasRequestForm}
use Rattle.ov_protocol.specs.Answers.{Answers, made_by}
use Rattle.ov_protocol.specs.Serving.{Service, later, served}
use Rattle.ov_protocol.proofs.Leaving.{later-nil}
use Rattle.ov_peer.specs.Alone.{IsAlone}
use Rattle.ov_peer.specs.Causes.{IsExchangeCause}
use Rattle.ov_peer.specs.Exchanges.{Tells}
use Rattle.ov_peer.specs.Tells.{PeerTells}
use Rattle.ov_peer.specs.declared.fault.ExchangeFault.{ExchangeFault}
use Rattle.ov_peer.specs.declared.fault.ExchangeFault.TheVariants as exchange
use Rattle.ov_client.specs.Completeness.{FailsDisk, IsStoreUnder}
use Rattle.ov_client.specs.Readers.{Reader}
use Rattle.ov_owner.specs.Clients.{HasUser, reader_in}
use Rattle.ov_owner.specs.Completeness.{IsCompleteCall, IsSaidOrCut, IsStoreSince, SaysList}
use Rattle.ov_owner.specs.Completeness.{SaysReader, SaysWelcome}
use Rattle.ov_owner.specs.Helpers.{owner_fault}
use Rattle.ov_owner.specs.Questions.{AsksOnce, RepliesThere, names_in, welcome_in}
use Rattle.ov_owner.specs.declared.fault.OwnerFault.{OwnerFault}
use Rattle.ov_owner.specs.declared.fault.OwnerFault.TheVariants as faults
use Rattle.ov_owner.proofs.Alone.{IsCutOff, hello_plain, key_plain, list_plain, once_alone}
use Rattle.ov_owner.proofs.Clients.{reader_told}
use Rattle.ov_owner.proofs.Questioning.{list_told}

-- ---- faults of the link

-- a fault of an exchange is one of the link only where the count rose
pub exchange_linked : (before now : ℕ) (fault : ExchangeFault)
    → IsExchangeCause {T = Answer} before now (Err fault) → owner_fault fault ≡ faults.Link
    → Rose before now
exchange_linked before now exchange.Link cause link = cause
exchange_linked before now (exchange.BadReply place) cause link = absurd (cc link)
exchange_linked before now exchange.Memory cause link = absurd (cc link)

pub welcome_unlinked : (a : Answer) → welcome_in a ≡ Err faults.Link → ⊥
welcome_unlinked (answers.Welcome welcome) is = cc is
welcome_unlinked answers.NoMemory is = cc is
welcome_unlinked a is = cc is

pub names_unlinked : (a : Answer) → names_in a ≡ Err faults.Link → ⊥
names_unlinked (answers.Listed names) is = cc is
names_unlinked (answers.Refused why) is = cc is
names_unlinked answers.NoMemory is = cc is
names_unlinked a is = cc is

pub reader_unlinked : (k : Masters) (user : List ℕ) (a : Answer)
    → reader_in k user a ≡ Err faults.Link → ⊥
reader_unlinked k user (answers.Known known) is = cc is
reader_unlinked k user (answers.Refused why) is = cc is
reader_unlinked k user answers.NoMemory is = cc is
reader_unlinked k user a is = cc is

-- ---- calls

module _ {P : Type 0} (peer : PeerTells P) (alone : IsAlone peer) (k : Masters) (h : PlainHistory)
    (v : Service) (store : IsStoreUnder k h v) (p q : P) (serving : peer.serves p v)
    (Linked : Type 0) where
  abbrev Disk : Type 0
  Disk = FailsDisk peer p q

  abbrev Then : Service → Type 0
  Then w = peer.serves q w

  cut_said : {T : Type 0} (Says : Result T Refusal → Type 0) (result : Result T OwnerFault)
      → IsCutOff result → (result ≡ Err faults.Link → Linked)
      → IsSaidOrCut Says Disk Linked result
  cut_said Says result (inl link) linked =
      subst (IsSaidOrCut Says Disk Linked) (sym link) (linked link)
  cut_said Says result (inr memory) linked =
      subst (IsSaidOrCut Says Disk Linked) (sym memory) tt

  -- just what is served, where the peer serves it
  abbrev Here : Service → Type 0
  Here w = (w ≡ v) × Then w

  -- an answer at what is served is one that nobody else updated
  tells_here : (request : Request) (a : Answer) → made_by request a ≡ []
      → Answers (served v) request a → Then v → Tells v request a Here
  tells_here request a none answered still =
      let nothing : later v [] ≡ v = later-nil v in
      let same : later (later v []) [] ≡ v = later-nil (later v []) ∙ nothing in (
        [],
        [],
        inl (
          subst (λ (w : Service). Answers (served w) request a) (sym nothing) answered,
          sym none,
        ),
        (same, subst Then (sym same) still),
      )

  -- the history that is told is this one
  told_here : (others : List SealedUpdate) → later v others ≡ v
      → IsSealedAs k h (later v others).history
  told_here others same =
      subst (λ (w : Service). IsSealedAs k h w.history) (sym same) store.history

  replies_here : (command : Command) (reply : Reply) → RepliesThere v Here command reply
      → reply_to h command ≡ reply
  replies_here command reply (others, (same, then), replies) =
      replies k h store.surface store.legal (told_here others same)

  -- what is served is what it was before a list
  store_stays : IsStoreSince k h h v
  store_stays = record {
    surface = store.surface;
    legal = store.legal;
    history = sealed_since k h v.history store.history;
  }

  names_said : (file : List ℕ) (a : Answer) → Answers (served v) (requests.List file) a → Then v
      → IsSaidOrCut (SaysList k file h v Then) Disk Linked (names_in a)
  names_said file (answers.Listed names) answered still = (
    replies_here (ListNames file) (replies.List file names)
        (list_told Here v file (answers.Listed names)
        (tells_here (requests.List file) (answers.Listed names) refl answered still)),
    (v, store_stays, still),
  )
  names_said file (answers.Refused why) answered still = (
    replies_here (ListNames file) (replies.Refused why)
        (list_told Here v file (answers.Refused why)
        (tells_here (requests.List file) (answers.Refused why) refl answered still)),
    (v, store_stays, still),
  )
  names_said file a answered still = absurd answered

  pub list_said : (file : List ℕ) (result : Result (List (List ℕ)) OwnerFault)
      → HasRequestForm (requests.List file)
      → AsksOnce peer p q (requests.List file) names_in result
      → (result ≡ Err faults.Link → Linked)
      → IsSaidOrCut (SaysList k file h v Then) Disk Linked result
  list_said file result form asks linked =
      elim (once_alone peer alone (requests.List file) names_in (list_plain file form) p q v result
      asks serving) [
        | inl (a, reply, answered, is, sent, still) ↦
            subst (IsSaidOrCut (SaysList k file h v Then) Disk Linked) (sym is)
            (names_said file a answered still)
        | inr cut ↦ cut_said (SaysList k file h v Then) result cut linked
      ]

  so_here : (IsSo : PlainHistory → Type 0)
      → ((others : List SealedUpdate) × Here (later v others)
      × ((x : PlainHistory) → v.surface ≡ k.surface → IsLegal (history_of x)
      → IsSealedAs k x (later v others).history → IsSo x)) → IsSo h
  so_here IsSo (others, (same, then), is) =
      is h store.surface store.legal (told_here others same)

  reader_made : (user : List ℕ) (a : Answer)
      → Answers (served v) (requests.Ask (questions.Key user)) a → Then v
      → IsSaidOrCut (SaysReader k user h v Then) Disk Linked (reader_in k user a)
  reader_made user (answers.Known known) answered still = (
    so_here _ (reader_told k Here v user (answers.Known known)
        (tells_here (requests.Ask (questions.Key user)) (answers.Known known) refl answered still)),
    still,
  )
  reader_made user (answers.Refused why) answered still =
      let (none, away) =
      so_here (λ (x : PlainHistory). (why ≡ NoUser) × (HasUser x user → ⊥))
      (reader_told k Here v user (answers.Refused why)
      (tells_here (requests.Ask (questions.Key user)) (answers.Refused why) refl answered
      still)) in
      (none, away, still)
  reader_made user a answered still = absurd answered

  pub reader_said : (user : List ℕ) (result : Result Reader OwnerFault)
      → HasRequestForm (requests.Ask (questions.Key user))
      → AsksOnce peer p q (requests.Ask (questions.Key user)) (reader_in k user) result
      → (result ≡ Err faults.Link → Linked)
      → IsSaidOrCut (SaysReader k user h v Then) Disk Linked result
  reader_said user result form asks linked =
      elim (once_alone peer alone (requests.Ask (questions.Key user)) (reader_in k user)
      (key_plain user form) p q v result asks serving) [
        | inl (a, reply, answered, is, sent, still) ↦
            subst (IsSaidOrCut (SaysReader k user h v Then) Disk Linked) (sym is)
            (reader_made user a answered still)
        | inr cut ↦ cut_said (SaysReader k user h v Then) result cut linked
      ]

  pub welcome_said : (result : Result Welcome OwnerFault) → HasRequestForm requests.Hello
      → AsksOnce peer p q requests.Hello welcome_in result
      → (result ≡ Err faults.Link → Linked)
      → IsSaidOrCut (SaysWelcome h v Then) Disk Linked result
  welcome_said result form asks linked =
      elim (once_alone peer alone requests.Hello welcome_in (hello_plain form) p q v result asks
      serving) [
        | inl (a, reply, answered, is, sent, still) ↦
            subst (IsSaidOrCut (SaysWelcome h v Then) Disk Linked) (sym is)
            (subst (λ (x : Answer). IsSaidOrCut (SaysWelcome h v Then) Disk Linked (welcome_in x))
            (sym answered) (refl, still))
        | inr cut ↦ cut_said (SaysWelcome h v Then) result cut linked
      ]

-- ---- each is complete

module _ {P : Type 0} (peer : PeerTells P) (k : Masters) (p q : P) where
  abbrev Risen : Type 0
  Risen = Rose (peer.faults p) (peer.faults q)

  pub hello_complete : (result : Result Welcome OwnerFault) → HasRequestForm requests.Hello
      → AsksOnce peer p q requests.Hello welcome_in result → (result ≡ Err faults.Link → Risen)
      → IsCompleteCall peer k p q SaysWelcome result
  hello_complete result form asks linked =
      λ h v alone serving store.
      welcome_said peer alone k h v store p q serving Risen result form asks linked

  pub list_complete : (file : List ℕ) (result : Result (List (List ℕ)) OwnerFault)
      → HasRequestForm (requests.List file)
      → AsksOnce peer p q (requests.List file) names_in result
      → (result ≡ Err faults.Link → Risen)
      → IsCompleteCall peer k p q (SaysList k file) result
  list_complete file result form asks linked =
      λ h v alone serving store.
      list_said peer alone k h v store p q serving Risen file result form asks linked

  pub reader_complete : (user : List ℕ) (result : Result Reader OwnerFault)
      → HasRequestForm (requests.Ask (questions.Key user))
      → AsksOnce peer p q (requests.Ask (questions.Key user)) (reader_in k user) result
      → (result ≡ Err faults.Link → Risen)
      → IsCompleteCall peer k p q (SaysReader k user) result
  reader_complete user result form asks linked =
      λ h v alone serving store.
      reader_said peer alone k h v store p q serving Risen user result form asks linked
