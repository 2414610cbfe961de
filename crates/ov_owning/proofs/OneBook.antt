-- A call by an open book over a server that serves this book.
use Rattle.std.proofs.Common.{◌≡◌, ◌∙◌, ◌+◌, ℕ, List, [], ◌∷◌, length, Option, Some, None}
use Rattle.std.proofs.Common.{Result, Ok, Err, refl, sym, ap, subst, inl, inr, ⊎_elim}
use Rattle.std.specs.Prelude.{◌⊎◌, IsOk, IsSome}
use Rattle.ov_base.specs.declared.mode.Mode.{Mode}
use Rattle.ov_disk.specs.Disk.{Image, Told}
use Rattle.ov_disk.specs.Moments.{LeavesOnly}
use Rattle.ov_disk.specs.Tells.{DiskTells}
use Rattle.ov_record.specs.Briefs.{Brief as SpelledBrief, brief}
use Rattle.ov_record.specs.Forms.{second_form}
use Rattle.ov_record.specs.Spelling.{HasForm}
use Rattle.ov_record.specs.Updates.{SealedUpdate as SpelledUpdate}
use Rattle.ov_tokens.specs.Keys.{check_value_of}
use Rattle.ov_history.specs.Catalogue.{Catalogue}
use Rattle.ov_history.specs.Masters.{Masters}
use Rattle.ov_history.specs.Sealed.{catalogue_of}
use Rattle.ov_history.specs.Texts.{BriefHistory, IsSealedBriefly, brief_of}
use Rattle.ov_wire.specs.Requests.{HasRequestForm}
use Rattle.ov_wire.specs.declared.answer.Answer.{Answer}
use Rattle.ov_wire.specs.declared.request.Request.{Request}
use Rattle.ov_wire.specs.declared.request.Request.TheVariants as requests
use Rattle.ov_protocol.specs.Serving.{Service, later}
use Rattle.ov_peer.specs.Alone.{IsAlone}
use Rattle.ov_peer.specs.Exchanges.{Exchanges}
use Rattle.ov_peer.specs.Tells.{PeerTells}
use Rattle.ov_peer.specs.declared.fault.ExchangeFault.{ExchangeFault}
use Rattle.ov_owner.specs.Alone.{IsLeftAlone}
use Rattle.ov_books.specs.Books.{Booked, history_of, settled_of}
use Rattle.ov_books.specs.Books.{with_settling}
use Rattle.ov_books.specs.Images.{IsImageOf, Keeps}
use Rattle.ov_book.specs.Opened.{Holds, Opened, Pending}
use Rattle.ov_book.specs.declared.intent.Intent.{Intent}
use Rattle.ov_owning.specs.Endings.{End, EndsGreeted, EndsTold, Greeted, TellsNext}
use Rattle.ov_owning.specs.Endings.{made_by}
use Rattle.ov_owning.specs.Intents.{FindsIntent}
use Rattle.ov_owning.specs.Owning.{Asks, Ends, HasIntent, LastsSettled, MaySend, Owns, SendsPending}
use Rattle.ov_owning.specs.Owning.{TellsMade, asks_hello, asks_nothing, asks_update, update_request}
use Rattle.ov_owning.specs.Running.{with_intended}
use Rattle.ov_owning.specs.Serving.{GoesOnByIntent, IsCarriedOut, IsServedImage, IsServedMeanwhile}
use Rattle.ov_owning.specs.Serving.{LeavesServed, ServesBook}
use Rattle.ov_owning.specs.declared.job.OwnAct.{OwnAct}
use Rattle.ov_owning.proofs.HelloAlone.{greeted_epoch, hello_left}
use Rattle.ov_owning.proofs.Calls.{none_there}
use Rattle.ov_owning.proofs.Meanwhile.{call_meanwhile}
use Rattle.ov_owning.proofs.Served.{fits_there, one_history, served_with}
use Rattle.ov_owning.proofs.UpdateAlone.{FitsAt, IsAccepted, UpdateLeaves, update_left}
use Rattle.ov_owning.proofs.NextBook.{IsFree, accepted_at, accepted_by, brief_sent, epoch_kept, form_sent}
use Rattle.ov_owning.proofs.NextBook.{made_where, next_count, next_is, next_mode, next_served}
use Rattle.ov_owning.proofs.NextBook.{next_settled, none_seen, settled_where, update_sent}

module _ {P D : Type 0} (peer : PeerTells P) (disk : DiskTells D) (alone : IsAlone peer)
    (k : Masters) (b : Booked) (v : Service) (serves : ServesBook k b v) (s : Opened D)
    (masters : s.masters ≡ k) (holds : Holds disk b s) (image : Image)
    (told : disk.reads s.disk ≡ Some image) (intent : Option Intent) (free : IsFree intent b)
    (mode : Mode) where
  abbrev next : Booked
  next = with_intended s intent b

  abbrev c : Catalogue
  c = catalogue_of v.surface v.history

  -- an image keeps a book under the masters of the key file
  keeps_by : (x : Booked) (i : Image) → Keeps s.masters x i → Keeps k x i
  keeps_by x i keeps = subst (λ (m : Masters). Keeps m x i) masters keeps

  -- each image that a crash may leave after such moments
  each_left : (new : D) (Q : Image → Type 0)
      → Told (disk.reads s.disk) (λ _. LeavesOnly disk s.disk new Q)
      → (i : Image) → disk.may_leave new i → Q i
  each_left new Q leaves i left =
      let all = leaves image told in
      all.each i (disk.counts_now new (disk.moment s.disk) i all.later left)

  -- a book that is served, by what an image keeps
  is_served : (now : Service) (x : Booked) (i : Image) → x.mode ≡ b.mode → Keeps k x i
      → ServesBook k x now → IsServedImage k b.mode now i
  is_served now x i same keeps there = (x, same, inr keeps, there)

  -- what serves the history with the intent serves the book in which it is settled
  settled_served : (now : Service) → ServesBook k next now
      → brief_of now.history ≡ history_of next → ServesBook k (with_settling next) now
  settled_served now there same = record {
    surface = there.surface;
    check = there.check;
    history = inl same;
  }

  image_served : (now : Service) (made : Type 0)
      → (made → brief_of now.history ≡ history_of next) → ServesBook k next now
      → (i : Image) → HasIntent made s.masters next i → IsServedImage k b.mode now i
  image_served now made same there i (inl keeps) =
      is_served now next i (next_mode disk k s b masters holds intent) (keeps_by next i keeps) there
  image_served now made same there i (inr (is, keeps)) =
      is_served now (with_settling next) i (next_mode disk k s b masters holds intent)
      (keeps_by (with_settling next) i keeps) (settled_served now there (same is))

  there_before : ServesBook k next v
  there_before = next_served disk k s b masters holds v serves intent free

  -- ---- where Hello alone was asked

  module _ (p r : P) (serving : peer.serves p v) (answer : Result Answer ExchangeFault)
      (hello : Exchanges peer p r requests.Hello answer) where
    -- the epoch that was told is that of what is served
    told_epoch : (n : ℕ) → Greeted (check_value_of s.masters.base) mode answer (Ok n)
        → n ≡ c.epoch
    told_epoch n greeted =
        greeted_epoch peer alone (check_value_of s.masters.base) mode p r answer n v hello serving
        greeted

    made_greeted : Greeted (check_value_of s.masters.base) mode answer (Ok (s.settled.epoch + 1))
        → brief_of v.history ≡ history_of next
    made_greeted greeted =
        made_where disk k s b masters holds v serves intent free
        (told_epoch (s.settled.epoch + 1) greeted)

    hello_images : (new : D)
        → Told (disk.reads s.disk) (λ _. LeavesOnly disk s.disk new (λ i. Keeps s.masters b i
        ⊎ HasIntent (Greeted (check_value_of s.masters.base) mode answer
        (Ok (s.settled.epoch + 1))) s.masters next i))
        → (i : Image) → disk.may_leave new i → IsServedImage k b.mode v i
    hello_images new moments i left =
        ⊎_elim (λ keeps. is_served v b i refl (keeps_by b i keeps) serves)
        (image_served v (Greeted (check_value_of s.masters.base) mode answer
        (Ok (s.settled.epoch + 1))) made_greeted there_before i)
        (each_left new (λ i. Keeps s.masters b i
        ⊎ HasIntent (Greeted (check_value_of s.masters.base) mode answer
        (Ok (s.settled.epoch + 1))) s.masters next i) moments i left)

    -- a call that ended well without an Update had nothing to send: what is served has it all
    done_told : (n : ℕ) (end : End) → IsOk end
        → Greeted (check_value_of s.masters.base) mode answer (Ok n) → EndsTold s intent n end
        → brief_of v.history ≡ history_of next
    done_told n (Err stop) ok greeted ends = absurd (cc ok)
    done_told n (Ok epoch) ok greeted (none, is, inl (no_pending, at)) =
        let here : brief_of v.history ≡ settled_of b =
        settled_where disk k s b masters holds v serves (sym at ∙ told_epoch n greeted) in
        let free_of : b.pending ≡ None = none_there b.pending s.pending no_pending holds.pending in
        subst (λ (x : Option Intent). brief_of v.history ≡ history_of (with_intended s x b))
        (sym none) (here ∙ sym (one_history b free_of))
    done_told n (Ok epoch) ok greeted (none, is, inr (pending, at)) =
        made_greeted
        (subst (λ (m : ℕ). Greeted (check_value_of s.masters.base) mode answer (Ok m)) at greeted)

    done_greeted : (g end : End) → IsOk end
        → Greeted (check_value_of s.masters.base) mode answer g → EndsGreeted s intent g end
        → brief_of v.history ≡ history_of next
    done_greeted (Ok n) end ok greeted ends = done_told n end ok greeted ends
    done_greeted (Err stop) end ok greeted ends =
        absurd (cc (subst (λ (e : End). IsOk e) ends ok))

  -- ---- where an Update was

  module _ (between q : P) (serving : peer.serves between v)
      (at : s.settled.epoch ≡ c.epoch) (answer : Result Answer ExchangeFault)
      (sends : SendsPending peer s.masters next (disk.reads s.disk) between q answer) where
    abbrev u : SpelledUpdate
    u = sends.update

    here : brief_of v.history ≡ settled_of next
    here =
        settled_where disk k s b masters holds v serves at
        ∙ sym (next_settled disk k s b masters holds intent)

    sealed_next : IsSealedBriefly (settled_of next)
    sealed_next =
        subst (λ (h : BriefHistory). IsSealedBriefly h)
        (sym (next_settled disk k s b masters holds intent)) holds.settled.0

    brief_u : brief u ≡ sends.is.brief
    brief_u = brief_sent peer s.masters next (disk.reads s.disk) between q answer sends

    pub form_u : HasForm second_form u
    form_u = form_sent peer s.masters next (disk.reads s.disk) between q answer sends

    pub fits_u : FitsAt c u
    fits_u =
        fits_there next sends.is.brief sends.is.pending v here u brief_u sends.is_book sealed_next

    -- the request is made at what is served
    request_is : update_request s.masters.surface (length next.settled) u
        ≡ update_request v.surface c.epoch u
    request_is =
        let surface : s.masters.surface ≡ v.surface =
        ap (λ (m : Masters). m.surface) masters ∙ sym serves.surface in
        let count : length next.settled ≡ c.epoch =
        next_count disk k s b masters holds intent
        ∙ sym (epoch_kept disk k s b masters holds) ∙ at in
        λ i. update_request (surface i) (count i) u

    pub sendable_u : HasRequestForm (update_request v.surface c.epoch u)
    sendable_u = subst (λ (r : Request). HasRequestForm r) request_is sends.form

    pub sent_u : Exchanges peer between q (update_request v.surface c.epoch u) answer
    sent_u = subst (λ (r : Request). Exchanges peer between q r answer) request_is sends.sent

    served_u : brief_of (later v (u ∷ [])).history ≡ history_of next
    served_u = served_with next sends.is.brief sends.is.pending v here u brief_u

    -- what is served then has the pending intent, where the Update was accepted
    module _ (now : Service)
        (cases : (now ≡ later v (u ∷ [])) ⊎ ((now ≡ v) × (IsAccepted v u form_u fits_u answer → ⊥)))
      where
        pub accepted_then : IsAccepted v u form_u fits_u answer
            → brief_of now.history ≡ history_of next
        accepted_then accepted =
            elim cases [
              | inl with_it ↦ ap (λ (w : Service). brief_of w.history) with_it ∙ served_u
              | inr (same, other) ↦ absurd (other accepted)
            ]

        there_then : ServesBook k next now
        there_then =
            elim cases [
              | inl with_it ↦ record {
                surface = ap (λ (w : Service). w.surface) with_it ∙ serves.surface;
                check = ap (λ (w : Service). w.base_check) with_it ∙ serves.check;
                history = inr (ap (λ (w : Service). brief_of w.history) with_it ∙ served_u);
              }
              | inr (same, other) ↦
                  subst (λ (w : Service). ServesBook k next w) (sym same) there_before
            ]

        -- it was told that the Update was accepted, and so it was
        pub made_then : TellsNext s.settled.epoch (made_by s.settled.epoch answer)
            → brief_of now.history ≡ history_of next
        made_then is =
            accepted_then (accepted_by s.settled.epoch (s.settled.epoch + 1) answer is)

        update_images : (new : D)
            → Told (disk.reads s.disk) (λ _. (i : Image) → disk.may_leave new i
            → HasIntent (TellsNext s.settled.epoch (made_by s.settled.epoch answer)) s.masters next i)
            → (i : Image) → disk.may_leave new i → IsServedImage k b.mode now i
        update_images new written i left =
            image_served now (TellsNext s.settled.epoch (made_by s.settled.epoch answer)) made_then
            there_then i (written image told i left)

        one_update : (act : OwnAct) (body : Option (List ℕ)) → FindsIntent act body (Ok intent)
            → (now ≡ v) ⊎ GoesOnByIntent k b act body v now
        one_update act body finds =
            elim cases [
              | inl with_it ↦ inr (
                next,
                (intent, finds, next_is disk k s b masters holds intent),
                (
                  u,
                  update_sent peer s.masters next (disk.reads s.disk) between q answer image told
                      sends,
                  with_it,
                ),
              )
              | inr (same, other) ↦ inl same
            ]

  -- ---- however it ends

  module _ (act : OwnAct) (body : Option (List ℕ)) (finds : FindsIntent act body (Ok intent))
      (left : IsLeftAlone peer) (d : D) (opened : LeavesOnly disk d s.disk (IsImageOf k b)) where
    -- a call over a book with a pending intent has no other
    resumed : IsSome b.pending → next ≡ b
    resumed some =
        elim free [
          | inl none ↦ ap (λ (x : Option Intent). with_intended s x b) none
          | inr none ↦ absurd (cc (subst (λ (x : Option SpelledBrief). IsSome x) none some))
        ]

    -- a crash at any moment, where this is served at the end
    any_moment : (now : Service) (made : Type 0) → (made → brief_of now.history ≡ history_of next)
        → ServesBook k next now → (new : D)
        → Told (disk.reads s.disk) (λ _. LeavesOnly disk s.disk new (λ i. Keeps s.masters b i
        ⊎ HasIntent made s.masters next i))
        → LeavesOnly disk d new (IsServedMeanwhile k b.mode v now)
    any_moment now made same there new moments =
        call_meanwhile disk k b next v now serves (next_mode disk k s b masters holds intent)
        there_before there resumed made same s d new masters opened (moments image told)

    carried_out : (now : Service) (new : D) → brief_of now.history ≡ history_of next
        → LastsSettled disk s next new
        → IsCarriedOut k b act body now (disk.may_leave new)
    carried_out now new same lasts = record {
      next = next;
      is = (intent, finds, next_is disk k s b masters holds intent);
      served = same;
      kept = λ i may. keeps_by (with_settling next) i (lasts image told i may);
    }

    no_pending : IsSome intent → IsSome s.pending → ⊥
    no_pending some pending =
        elim free [
          | inl none ↦ cc (subst (λ (x : Option Intent). IsSome x) none some)
          | inr none ↦ cc (subst (λ (x : Option Pending). IsSome x)
              (none_seen b.pending s.pending none holds.pending) pending)
        ]

    by_asks : (p q : P) (new : D) (end : End) → peer.serves p v
        → (asks : Asks peer s.masters next (disk.reads s.disk) p q)
        → Told (disk.reads s.disk) (λ _. LeavesOnly disk s.disk new (λ i. Keeps s.masters b i
        ⊎ HasIntent (TellsMade peer s mode next (disk.reads s.disk) p q asks) s.masters next i))
        → (MaySend peer s.masters next (disk.reads s.disk) p q asks
        → Told (disk.reads s.disk) (λ _. (i : Image) → disk.may_leave new i
        → HasIntent (TellsMade peer s mode next (disk.reads s.disk) p q asks) s.masters next i))
        → Ends peer s mode intent next (disk.reads s.disk) p q asks end
        → (IsOk end → LastsSettled disk s next new)
        → LeavesServed peer disk k b act body v q d new end
    by_asks p q new end serving asks_nothing moments written ends lasts =
        absurd (no_pending ends.0 ends.1)
    by_asks p q new end serving (asks_hello r answer hello) moments written ends lasts = record {
      now = v;
      serves = hello_left peer alone left p r answer v hello serving;
      one = inl refl;
      images = hello_images p r serving answer hello new moments;
      moments = any_moment v
          (Greeted (check_value_of s.masters.base) mode answer (Ok (s.settled.epoch + 1)))
          (made_greeted p r serving answer hello) there_before new moments;
      done = λ ok.
          carried_out v new
          (done_greeted p r serving answer hello ends.0 end ok ends.1 ends.2) (lasts ok);
    }
    by_asks p q new end serving (asks_update between r welcome answer hello sends) moments written
        ends lasts =
        let going = hello_left peer alone left p between welcome v hello serving in
        let at = told_epoch p between serving welcome hello s.settled.epoch ends.0 in
        let form = form_u between r going at answer sends in
        let fits = fits_u between r going at answer sends in
        let (now, goes_on, cases) : UpdateLeaves v sends.update form fits
        (sendable_u between r going at answer sends) peer alone answer r =
        update_left v sends.update form fits (sendable_u between r going at answer sends) peer alone
        left between r answer (sent_u between r going at answer sends) going in
        record {
          now = now;
          serves = goes_on;
          one = one_update between r going at answer sends now cases act body finds;
          images = update_images between r going at answer sends now cases new (written tt);
          moments = any_moment now (TellsNext s.settled.epoch (made_by s.settled.epoch answer))
              (made_then between r going at answer sends now cases)
              (there_then between r going at answer sends now cases) new moments;
          done = λ ok.
              carried_out now new
              (accepted_then between r going at answer sends now cases
              (accepted_at s.settled.epoch answer end ok ends.1)) (lasts ok);
        }

    pub leaves_served : (p q : P) (new : D) (end : End) → peer.serves p v
        → Owns peer disk s mode intent b next p q new end
        → (IsOk end → LastsSettled disk s next new)
        → LeavesServed peer disk k b act body v q d new end
    leaves_served p q new end serving owns lasts =
        by_asks p q new end serving owns.asks owns.moments owns.written owns.ends lasts
