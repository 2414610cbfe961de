-- A book with an intent, what serves it, and the Update that is sent for it.
use Rattle.std.proofs.Common.{◌≡◌, ◌∙◌, ◌+◌, ℕ, List, length, Option, Some, None}
use Rattle.std.proofs.Common.{Result, Ok, Err, refl, sym, ap, subst, inl, inr, ⊎_elim, arith}
use Rattle.std.specs.Prelude.{◌⊎◌, IsOk}
use Rattle.ov_disk.specs.Disk.{Image}
use Rattle.ov_disk.specs.Tells.{DiskTells}
use Rattle.ov_record.specs.Briefs.{Brief as SpelledBrief, brief, with_text}
use Rattle.ov_record.specs.Forms.{second_form}
use Rattle.ov_record.specs.Spelling.{HasForm, body_of}
use Rattle.ov_record.specs.Updates.{SealedUpdate as SpelledUpdate}
use Rattle.ov_history.specs.Masters.{Masters}
use Rattle.ov_history.specs.Sealed.{catalogue_of}
use Rattle.ov_history.specs.Texts.{brief_of, catalogue_by}
use Rattle.ov_wire.specs.declared.answer.Answer.{Answer}
use Rattle.ov_wire.specs.declared.answer.Answer.TheVariants as answers
use Rattle.ov_protocol.specs.Serving.{Service}
use Rattle.ov_peer.specs.Tells.{PeerTells}
use Rattle.ov_peer.specs.declared.fault.ExchangeFault.{ExchangeFault}
use Rattle.ov_books.specs.Books.{Booked, history_of, pending_update, settled_of}
use Rattle.ov_books.specs.Books.{with_intent}
use Rattle.ov_book.specs.Opened.{Holds, IsPendingIn, Opened, Pending}
use Rattle.ov_book.specs.Planning.{sealed_as}
use Rattle.ov_book.specs.declared.intent.Intent.{Intent}
use Rattle.ov_book.proofs.Begun.{shown_by}
use Rattle.ov_owning.specs.Endings.{End, EndsSent}
use Rattle.ov_owning.specs.Endings.{made_by}
use Rattle.ov_owning.specs.Owning.{SendsPending}
use Rattle.ov_owning.specs.Running.{with_intended}
use Rattle.ov_owning.specs.Serving.{ServesBook, book_with}
use Rattle.ov_owning.proofs.Served.{at_made, at_settled, one_history}
use Rattle.ov_owning.proofs.Served.{where_is}
use Rattle.ov_owning.proofs.Spelling.{brief_with, form_pending, form_with}

-- ---- ends

-- a call that ended well after an Update had it accepted
pub accepted_at : (kept : ℕ) (answer : Result Answer ExchangeFault) (end : End) → IsOk end
    → EndsSent kept (made_by kept answer) end
    → (n : ℕ) × (answer ≡ Ok (answers.Accepted n))
accepted_at kept (Ok (answers.Accepted n)) end ok ends = (n, refl)
accepted_at kept (Ok (answers.Stale n)) end ok ends =
    absurd (cc (subst (λ (e : End). IsOk e) ends ok))
accepted_at kept (Ok (answers.Refused why)) end ok ends =
    absurd (cc (subst (λ (e : End). IsOk e) ends ok))
accepted_at kept (Ok answers.BadTag) end ok ends =
    absurd (cc (subst (λ (e : End). IsOk e) ends ok))
accepted_at kept (Ok answers.DeviceFault) end ok ends =
    absurd (cc (subst (λ (e : End). IsOk e) ends ok))
accepted_at kept (Ok answers.NoMemory) end ok ends =
    absurd (cc (subst (λ (e : End). IsOk e) ends ok))
accepted_at kept (Ok a) end ok ends = absurd (cc (subst (λ (e : End). IsOk e) ends ok))
accepted_at kept (Err fault) end ok ends = absurd (cc (subst (λ (e : End). IsOk e) ends ok))

-- where the next epoch was told in answer to an Update, it was accepted
pub accepted_by : (kept n : ℕ) (answer : Result Answer ExchangeFault)
    → made_by kept answer ≡ Ok n → (m : ℕ) × (answer ≡ Ok (answers.Accepted m))
accepted_by kept n (Ok (answers.Accepted m)) is = (m, refl)
accepted_by kept n (Ok (answers.Stale m)) is = absurd (cc is)
accepted_by kept n (Ok (answers.Refused why)) is = absurd (cc is)
accepted_by kept n (Ok answers.BadTag) is = absurd (cc is)
accepted_by kept n (Ok answers.DeviceFault) is = absurd (cc is)
accepted_by kept n (Ok answers.NoMemory) is = absurd (cc is)
accepted_by kept n (Ok a) is = absurd (cc is)
accepted_by kept n (Err fault) is = absurd (cc is)

-- a book without a pending intent has none in memory
pub none_seen : (pending : Option SpelledBrief) (p : Option Pending) → pending ≡ None
    → IsPendingIn pending p → p ≡ None
none_seen None None none is = refl
none_seen None (Some p) none is = absurd is
none_seen (Some u) p none is = absurd (cc none)

-- ---- the intent

-- the act has no intent of its own, or nothing is pending
abbrev pub IsFree : Option Intent → Booked → Type 0
IsFree intent b = (intent ≡ None) ⊎ (b.pending ≡ None)

module _ {D : Type 0} (disk : DiskTells D) (k : Masters) (s : Opened D) (b : Booked)
    (masters : s.masters ≡ k) (holds : Holds disk b s) where
  settled_is : s.settled ≡ catalogue_by k.surface (settled_of b)
  settled_is =
      holds.settled.1
      ∙ ap (λ (m : Masters). catalogue_by m.surface (settled_of b)) masters

  -- the open book's epoch is the number of settled intents
  pub epoch_kept : s.settled.epoch ≡ length b.settled
  epoch_kept = (shown_by s.masters.surface s.settled b holds.settled).epoch

  -- the book with an intent is that with it as the masters seal it
  pub next_is : (intent : Option Intent) → with_intended s intent b ≡ book_with k b intent
  next_is None = refl
  next_is (Some intent) =
      λ i. let u = sealed_as (masters i) (settled_is i) intent in
      with_intent b (brief u) (body_of u)

  pub next_settled : (intent : Option Intent)
      → settled_of (with_intended s intent b) ≡ settled_of b
  next_settled None = refl
  next_settled (Some intent) = refl

  pub next_count : (intent : Option Intent)
      → length (with_intended s intent b).settled ≡ length b.settled
  next_count None = refl
  next_count (Some intent) = refl

  pub next_mode : (intent : Option Intent) → (with_intended s intent b).mode ≡ b.mode
  next_mode None = refl
  next_mode (Some intent) = refl

  module _ (v : Service) (serves : ServesBook k b v) where
    -- what serves the book serves it with the intent too
    pub next_served : (intent : Option Intent) → IsFree intent b
        → ServesBook k (with_intended s intent b) v
    next_served None free = serves
    next_served (Some intent) (inl none) = absurd (cc none)
    next_served (Some intent) (inr none) = record {
      surface = serves.surface;
      check = serves.check;
      history = ⊎_elim (λ settled. inl settled)
          (λ whole. inl (whole ∙ one_history b none)) serves.history;
    }

    -- where its pending update was made, what is served is the book with what the act intends
    pub next_made : (intent : Option Intent) → IsFree intent b → (u : SpelledBrief)
        → b.pending ≡ Some u → brief_of v.history ≡ history_of b
        → brief_of v.history ≡ history_of (with_intended s intent b)
    next_made None free u some same = same
    next_made (Some intent) (inl none) u some same = absurd (cc none)
    next_made (Some intent) (inr none) u some same = absurd (cc (none, some))

    -- the next epoch is told only where it was
    pub made_where : (intent : Option Intent) → IsFree intent b
        → s.settled.epoch + 1 ≡ (catalogue_of v.surface v.history).epoch
        → brief_of v.history ≡ history_of (with_intended s intent b)
    made_where intent free at =
        elim (where_is b v holds.is_book holds.settled.0 k serves) [
          | at_settled settled here ↦
              absurd (omega (arith, at, here, epoch_kept))
          | at_made u some whole here ↦ next_made intent free u some whole
        ]

    -- and the book's own epoch only where it wasn't
    pub settled_where : s.settled.epoch ≡ (catalogue_of v.surface v.history).epoch
        → brief_of v.history ≡ settled_of b
    settled_where at =
        elim (where_is b v holds.is_book holds.settled.0 k serves) [
          | at_settled settled here ↦ settled
          | at_made u some whole here ↦ absurd (omega (arith, at, here, epoch_kept))
        ]

-- ---- the Update

-- the pending update has the brief of the book's pending intent
pub brief_sent : {P : Type 0} (peer : PeerTells P) (k : Masters) (b : Booked)
    (told : Option Image) (p q : P) (answer : Result Answer ExchangeFault)
    (sends : SendsPending peer k b told p q answer) → brief sends.update ≡ sends.is.brief
brief_sent peer k b told p q answer sends =
    ap brief sends.is.is ∙ brief_with sends.is.brief sends.is.text sends.is.size

-- and a spelling
pub form_sent : {P : Type 0} (peer : PeerTells P) (k : Masters) (b : Booked)
    (told : Option Image) (p q : P) (answer : Result Answer ExchangeFault)
    (sends : SendsPending peer k b told p q answer) → HasForm second_form sends.update
form_sent peer k b told p q answer sends =
    subst (λ (x : SpelledUpdate). HasForm second_form x) (sym sends.is.is)
    (form_with sends.is.brief sends.is.text sends.is.size
    (form_pending b sends.is.brief sends.is.pending sends.is_book.noted.pending))

-- it is the book's pending update, with the bytes of its file, where the disk tells these
pub update_sent : {P : Type 0} (peer : PeerTells P) (k : Masters) (b : Booked)
    (told : Option Image) (p q : P) (answer : Result Answer ExchangeFault) (i : Image)
    → told ≡ Some i → (sends : SendsPending peer k b told p q answer)
    → pending_update b ≡ Some sends.update
update_sent peer k b told p q answer i at sends =
    ap (λ (x : Option SpelledBrief). pending_update (record b { pending = x })) sends.is.pending
    ∙ ap (λ (t : List ℕ). Some (with_text sends.is.brief t)) (sym (sends.is.book_text i at))
    ∙ ap (λ (x : SpelledUpdate). Some x) (sym sends.is.is)
