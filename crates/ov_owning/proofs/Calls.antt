-- How the parts of a call make all of it.
use Rattle.std.proofs.Common.{◌≡◌, ◌≢◌, ◌⊎◌, ◌+◌, ℕ, List, length, inl, inr, Bool, true, false}
use Rattle.std.proofs.Common.{Option, Some, None, Result, Ok, Err, refl, sym, ◌∙◌, ap, subst, [], ◌∷◌, ⊎_elim, arith}
use Rattle.std.specs.Prelude.{◌↔◌, IsSome, IsTrue}
use Rattle.ov_record.specs.Briefs.{Brief as SpelledBrief}
use Rattle.ov_book.specs.Intending.{Intends}
use Rattle.ov_book.specs.declared.fault.IntendFault.{IntendFault}
use Rattle.ov_book.specs.declared.fault.IntendFault.TheVariants as intends
use Rattle.ov_base.specs.declared.mode.Mode.{Mode}
use Rattle.ov_disk.specs.Disk.{Image, StaysTold, Told}
use Rattle.ov_disk.specs.Moments.{IsUntouched, LeavesOnly}
use Rattle.ov_disk.specs.Tells.{DiskTells}
use Rattle.ov_disk.proofs.Runs.{started, then_on, weaker}
use Rattle.ov_history.specs.Masters.{Masters}
use Rattle.ov_tokens.specs.Keys.{check_value_of}
use Rattle.ov_wire.specs.Requests.{HasRequestForm}
use Rattle.ov_wire.specs.declared.request.Request.{Request}
use Rattle.ov_wire.specs.declared.request.Request.TheVariants as requests
use Rattle.ov_wire.specs.declared.answer.Answer.{Answer}
use Rattle.ov_peer.specs.Exchanges.{Exchanges}
use Rattle.ov_peer.specs.Tells.{PeerTells}
use Rattle.ov_peer.specs.declared.fault.ExchangeFault.{ExchangeFault}
use Rattle.ov_books.specs.Books.{Booked, IsBook, pending_size, with_pending, with_settling}
use Rattle.ov_books.specs.Images.{Keeps, KeepsEither}
use Rattle.ov_book.specs.Opened.{Holds, IsPendingIn, Opened, Pending}
use Rattle.ov_book.specs.declared.intent.Intent.{Intent}
use Rattle.ov_owning.specs.Endings.{End, EndsGreeted, EndsSent, EndsTold, IsExpected, IsUnsent}
use Rattle.ov_owning.specs.Endings.{Greeted, SettlesAt, TellsNext, made_by, unwritten}
use Rattle.ov_owning.specs.Owning.{asks_hello, asks_nothing, asks_update, CarriesOut, Greets}
use Rattle.ov_owning.specs.Owning.{GreetsExpected, HasIntent, LeavesSettledIf, Owns, Sends}
use Rattle.ov_owning.specs.Owning.{SendsPending, Spelled}
use Rattle.ov_owning.specs.Owning.{update_request}
use Rattle.ov_owning.specs.declared.stop.OwnStop.{OwnStop}
use Rattle.ov_owning.specs.declared.stop.OwnStop.TheVariants as stops
use Rattle.ov_owning.proofs.Moments.{looked_moments}

-- ---- ends

-- nothing was sent though it was to be
unsent_told : {D : Type 0} (s : Opened D) (intent : Option Intent) (told : ℕ) (came end : End)
    → IsExpected s told → IsUnsent came → EndsSent s.settled.epoch came end → EndsTold s intent told end
unsent_told s intent told came end expected (inl disk) ends =
    let is : end ≡ Err stops.Disk = subst (λ (c : End). EndsSent s.settled.epoch c end) disk ends in
    subst (λ (e : End). EndsTold s intent told e) (sym is) expected
unsent_told s intent told came end expected (inr memory) ends =
    let is : end ≡ Err stops.Memory = subst (λ (c : End). EndsSent s.settled.epoch c end) memory ends in
    subst (λ (e : End). EndsTold s intent told e) (sym is) expected

-- what is pending was made already, and is settled
pub settled_told : {D : Type 0} (s : Opened D) (told : ℕ) (end : End)
    → IsSome s.pending → told ≡ s.settled.epoch + 1 → SettlesAt s.settled.epoch told end
    → EndsTold s None told end
settled_told s told (Ok epoch) pending next at = (refl, at.1, inr (pending, next))
settled_told s told (Err (stops.Differs said kept)) pending next at = absurd (at.0 next)
settled_told s told (Err stops.Disk) pending next at = inr (pending, next)
settled_told s told (Err stops.Memory) pending next at = inr (pending, next)
settled_told s told (Err (stops.Refused why)) pending next at = absurd at
settled_told s told (Err stops.Device) pending next at = absurd at
settled_told s told (Err stops.Read) pending next at = absurd at
settled_told s told (Err stops.Link) pending next at = absurd at
settled_told s told (Err stops.OtherKeys) pending next at = absurd at
settled_told s told (Err stops.BadKeys) pending next at = absurd at
settled_told s told (Err stops.BadReply) pending next at = absurd at
settled_told s told (Err stops.TooLong) pending next at = absurd at
settled_told s told (Err (stops.Pending kept)) pending next at = absurd at
settled_told s told (Err stops.NoBook) pending next at = absurd at
settled_told s told (Err (stops.ServerRefused why)) pending next at = absurd at

-- ---- what is known of an open book

pub some_if : {T : Type 0} (r : Bool) (o : Option T) → IsTrue r ↔ IsSome o → r ≡ true → IsSome o
some_if true o both is = both.0 refl
some_if false o both is = absurd (cc is)

pub none_if : {T : Type 0} (r : Bool) (o : Option T) → IsTrue r ↔ IsSome o → r ≡ false → o ≡ None
none_if true o both is = absurd (cc is)
none_if false None both is = refl
none_if false (Some x) both is = absurd (cc (both.1 refl))

pub true_if : {T : Type 0} (r : Bool) (o : Option T) → IsTrue r ↔ IsSome o → IsSome o → r ≡ true
true_if r o both some = both.1 some

pub not_some : {T : Type 0} (o : Option T) → o ≡ None → IsSome o → ⊥
not_some None none some = absurd (cc some)
not_some (Some x) none some = absurd (cc none)

pub none_there : (pending : Option SpelledBrief) (p : Option Pending) → p ≡ None → IsPendingIn pending p
    → pending ≡ None
none_there None p none is = refl
none_there (Some u) None none is = absurd is
none_there (Some u) (Some x) none is = absurd (cc none)

no_text_left : (text : List ℕ) → length text ≡ 0 → text ≡ []
no_text_left [] none = refl
no_text_left (x ∷ text) none = absurd (omega (arith, none))

-- a book without a pending intent is settled
pub is_settled : {D : Type 0} (disk : DiskTells D) (b : Booked) (s : Opened D) → s.pending ≡ None
    → Holds disk b s → Holds disk (with_settling b) s
is_settled disk b s none holds =
    let gone = none_there b.pending s.pending none holds.pending in
    let empty = no_text_left b.text (holds.is_book.text
    ∙ ap (λ (p : Option SpelledBrief). pending_size p) gone) in
    let same : b.settled ≡ with_pending b.settled b.pending =
    sym (ap (λ (p : Option SpelledBrief). with_pending b.settled p) gone) in
    let is : b ≡ with_settling b =
    λ i. record { mode = b.mode; settled = same i; pending = gone i; text = empty i } in
    subst (λ (x : Booked). Holds disk x s) is holds

-- the intent isn't written down
pub unwritten_told : {D : Type 0} (s s1 : Opened D) (i : Intent) (told : ℕ) (fault : IntendFault)
    → s.pending ≡ None → told ≡ s.settled.epoch → Intends i s s1 (Err fault)
    → (kept : ℕ) → EndsTold s (Some i) told (Err (unwritten kept fault))
unwritten_told s s1 i told intends.Pending none at answer kept =
    absurd (not_some s.pending none answer.0.1)
unwritten_told s s1 i told (intends.Refused why) none at answer kept =
    (at, (i, refl, answer.0.2))
unwritten_told s s1 i told intends.Disk none at answer kept = inl at
unwritten_told s s1 i told intends.Failed none at answer kept = inl at
unwritten_told s s1 i told intends.Memory none at answer kept = inl at

-- an epoch that isn't expected
pub not_expected : {D : Type 0} (s : Opened D) (intent : Option Intent) (told kept : ℕ)
    → kept ≡ s.settled.epoch → told ≢ kept → (IsSome s.pending → told ≢ kept + 1)
    → EndsTold s intent told (Err (stops.Differs told kept))
not_expected s intent told kept is other none = (
  λ expected. ⊎_elim (λ at. other (at ∙ sym is))
      (λ x. none x.0 (x.1 ∙ ap (λ (n : ℕ). n + 1) (sym is))) expected,
  refl,
  is,
)

module _ {P D : Type 0} (peer : PeerTells P) (disk : DiskTells D) where
  -- ---- an Update

  -- the pending Update was asked at the book's epoch, and this came of it
  pub sends_answered : (k : Masters) (b : Booked) (told : Option Image) (kept epoch : ℕ)
      (bytes tag : List ℕ) (p q : P) (answer : Result Answer ExchangeFault) (end : End)
      → epoch ≡ kept → IsBook b → Spelled b told k.surface kept (Ok (bytes, tag))
      → HasRequestForm (requests.Update epoch bytes tag)
      → Exchanges peer p q (requests.Update epoch bytes tag) answer
      → end ≡ made_by kept answer → Sends peer k b told kept p q end
  sends_answered k b told kept epoch bytes tag p q answer end at is_book spelled form sent is =
      let same : requests.Update epoch bytes tag
      ≡ update_request k.surface (length b.settled) spelled.0 =
      (λ i. requests.Update (at i) bytes tag) ∙ spelled.2 in
      inr (
        answer,
        record {
          is_book = is_book;
          update = spelled.0;
          is = spelled.1;
          form = subst (λ (r : Request). HasRequestForm r) same form;
          sent = subst (λ (r : Request). Exchanges peer p q r answer) same sent;
        },
        is,
      )

  -- an Update by what the disk told later is one by what it told before
  sends_before : (k : Masters) (b : Booked) (old new : Option Image) (p q : P)
      (answer : Result Answer ExchangeFault) → StaysTold old new
      → SendsPending peer k b new p q answer → SendsPending peer k b old p q answer
  sends_before k b old new p q answer told sends = record {
    is_book = sends.is_book;
    update = sends.update;
    is = record {
      brief = sends.is.brief;
      pending = sends.is.pending;
      text = sends.is.text;
      size = sends.is.size;
      is = sends.is.is;
      book_text = λ i at. sends.is.book_text (told i at).0 (told i at).1;
    };
    form = sends.form;
    sent = sends.sent;
  }

  -- ---- sending and settling

  pub carries_unsent : (s : Opened D) (b : Booked) (p q : P) (d1 : D) (stop : OwnStop)
      → Holds disk b s → s.failed ≡ false → IsUntouched disk s.disk d1
      → Sends peer s.masters b (disk.reads s.disk) s.settled.epoch p q (Err stop)
      → CarriesOut peer disk s b p q d1 (Err stop)
  carries_unsent s b p q d1 stop holds ok quiet sends = record {
    came = Err stop;
    sends = sends;
    ends = refl;
    moments = looked_moments disk (TellsNext s.settled.epoch (Err stop)) s b d1 holds ok quiet;
  }

  told_next : (told kept : ℕ) (k : Masters) (b : Booked) (c : Image)
      → HasIntent (told ≡ kept + 1) k b c → HasIntent (TellsNext kept (Ok told)) k b c
  told_next told kept k b c (inl keeps) = inl keeps
  told_next told kept k b c (inr (is, keeps)) = inr (ap (λ (n : ℕ). Ok n) is, keeps)

  pub carries_settled : (s s1 s2 : Opened D) (b : Booked) (p q : P) (told : ℕ) (end : End)
      → Holds disk b s → s.failed ≡ false → IsUntouched disk s.disk s1.disk
      → s1 ≡ record s { disk = s1.disk } → Holds disk b s1
      → Sends peer s.masters b (disk.reads s.disk) s.settled.epoch p q (Ok told)
      → SettlesAt s1.settled.epoch told end
      → LeavesSettledIf disk (told ≡ s1.settled.epoch + 1) s1 s2.disk
      → CarriesOut peer disk s b p q s2.disk end
  carries_settled s s1 s2 b p q told end holds ok quiet same holds1 sends settles leaves =
      let masters : s1.masters ≡ s.masters = ap (λ (x : Opened D). x.masters) same in
      let epoch : s1.settled.epoch ≡ s.settled.epoch =
      ap (λ (x : Opened D). x.settled.epoch) same in
      let made : Type 0 = TellsNext s.settled.epoch (Ok told) in
      record {
        came = Ok told;
        sends = sends;
        ends = subst (λ (n : ℕ). SettlesAt n told end) epoch settles;
        moments = λ i at.
            then_on disk s.disk s1.disk s2.disk (HasIntent made s.masters b)
            (HasIntent (told ≡ s.settled.epoch + 1) s.masters b)
            (looked_moments disk made s b s1.disk holds ok quiet i at)
            (subst (λ (k : Masters).
            LeavesOnly disk s1.disk s2.disk (HasIntent (told ≡ s.settled.epoch + 1) k b)) masters
            (subst (λ (n : ℕ).
            LeavesOnly disk s1.disk s2.disk (HasIntent (told ≡ n + 1) s1.masters b)) epoch
            (leaves b holds1 i (quiet.reads_same ∙ at))))
            (told_next told s.settled.epoch s.masters b);
      }

  -- ---- all of a call

  module _ (s : Opened D) (mode : Mode) (intent : Option Intent) (b next : Booked) where
    abbrev k : Masters
    k = s.masters

    abbrev told : Option Image
    told = disk.reads s.disk

    abbrev OwnsTo : P → P → D → End → Type 0
    OwnsTo p q new end = Owns peer disk s mode intent b next p q new end

    -- the image is of the book, or has the intent
    abbrev Has : Type 0 → Image → Type 0
    Has made c = Keeps k b c ⊎ HasIntent made k next c

    either : (made : Type 0) (c : Image) → KeepsEither k b next c → Has made c
    either made c (inl keeps) = inl keeps
    either made c (inr keeps) = inr (inl keeps)

    -- the intent wasn't written down, or perhaps was, and isn't settled
    unsettled_left : (made : Type 0) (new : D)
        → Told told (λ _. LeavesOnly disk s.disk new (KeepsEither k b next))
        → Told told (λ _. LeavesOnly disk s.disk new (Has made))
    unsettled_left made new leaves i at =
        weaker disk s.disk new (KeepsEither k b next) (Has made) (leaves i at) (either made)

    -- no call of the disk
    pub nothing_left : Holds disk b s → s.failed ≡ false
        → Told told (λ _. LeavesOnly disk s.disk s.disk (KeepsEither k b next))
    nothing_left holds ok i at =
        started disk s.disk (KeepsEither k b next) (λ c left. inl (holds.disk ok i at c left))

    -- nothing was asked
    pub owns_nothing : (p : P) (kept : ℕ) → Holds disk b s → s.failed ≡ false
        → IsSome intent → IsSome s.pending → kept ≡ s.settled.epoch
        → OwnsTo p p s.disk (Err (stops.Pending kept))
    owns_nothing p kept holds ok some pending is = record {
      asks = asks_nothing;
      unwritten = λ untold. refl;
      moments = unsettled_left ⊥ s.disk (nothing_left holds ok);
      written = λ sent. absurd sent;
      ends = (some, pending, ap (λ (n : ℕ). Err (stops.Pending n)) is);
    }

    -- the server told in answer to Hello that the update was made
    abbrev Greeting : Result Answer ExchangeFault → Type 0
    Greeting answer = Greeted (check_value_of k.base) mode answer (Ok (s.settled.epoch + 1))

    -- an epoch that the book expects was told in answer to Hello
    expected_told : (p q : P) (n : ℕ) (greets : Greets peer (check_value_of k.base) mode p q (Ok n))
        → IsExpected s n → GreetsExpected s mode greets.0
    expected_told p q n greets expected = (n, greets.2, expected)

    -- Hello alone was asked
    pub owns_greeted : (p q : P) (new : D) (g end : End)
        → (greets : Greets peer (check_value_of k.base) mode p q g) → EndsGreeted s intent g end
        → Told told (λ _. LeavesOnly disk s.disk new (KeepsEither k b next))
        → ((GreetsExpected s mode greets.0 → ⊥) → new ≡ s.disk)
        → OwnsTo p q new end
    owns_greeted p q new g end greets ends moments quiet = record {
      asks = asks_hello q greets.0 greets.1;
      unwritten = quiet;
      moments = unsettled_left (Greeting greets.0) new moments;
      written = λ sent. absurd sent;
      ends = (g, greets.2, ends);
    }

    greeted_next : (n : ℕ) (answer : Result Answer ExchangeFault)
        → Greeted (check_value_of k.base) mode answer (Ok n) → (c : Image)
        → HasIntent (n ≡ s.settled.epoch + 1) k next c → Has (Greeting answer) c
    greeted_next n answer greeted c (inl keeps) = inr (inl keeps)
    greeted_next n answer greeted c (inr (is, keeps)) =
        inr (inr (
          subst (λ (m : ℕ). Greeted (check_value_of k.base) mode answer (Ok m)) is greeted,
          keeps,
        ))

    -- Hello alone was asked, and it told that the pending update was made already
    pub owns_settled : (p q : P) (new : D) (n : ℕ) (end : End)
        → Greets peer (check_value_of k.base) mode p q (Ok n) → EndsGreeted s intent (Ok n) end
        → Told told (λ _. LeavesOnly disk s.disk new (HasIntent (n ≡ s.settled.epoch + 1) k next))
        → IsExpected s n → OwnsTo p q new end
    owns_settled p q new n end greets ends moments expected = record {
      asks = asks_hello q greets.0 greets.1;
      unwritten = λ untold. absurd (untold (expected_told p q n greets expected));
      moments = λ i at.
          weaker disk s.disk new (HasIntent (n ≡ s.settled.epoch + 1) k next)
          (Has (Greeting greets.0)) (moments i at) (greeted_next n greets.0 greets.2);
      written = λ sent. absurd sent;
      ends = (Ok n, greets.2, ends);
    }

    -- what an Update was sent for was carried out by the open book as it was then
    module _ (s1 : Opened D) (p p1 : P) (new : D) (end : End)
        (masters : s1.masters ≡ s.masters) (epoch : s1.settled.epoch ≡ s.settled.epoch)
        (greets : Greets peer (check_value_of k.base) mode p p1 (Ok s.settled.epoch))
        (before : Told told (λ _. LeavesOnly disk s.disk s1.disk (KeepsEither k b next)))
        (stays : StaysTold told (disk.reads s1.disk))
      where
        abbrev kept : ℕ
        kept = s.settled.epoch

        module _ (q : P) (carries : CarriesOut peer disk s1 next p1 q new end) where
          -- an epoch was told that the update made
          abbrev Made : Type 0
          Made = TellsNext s1.settled.epoch carries.came

          after : Told told (λ _. LeavesOnly disk s1.disk new (HasIntent Made k next))
          after i at =
              let later = stays i at in
              subst (λ (m : Masters). LeavesOnly disk s1.disk new (HasIntent Made m next)) masters
              (carries.moments later.0 later.1)

          -- nothing was sent, so nothing was told
          unsent_keeps : IsUnsent carries.came → (c : Image) → HasIntent Made k next c
              → KeepsEither k b next c
          unsent_keeps unsent c (inl keeps) = inr keeps
          unsent_keeps (inl disk_failed) c (inr (is, keeps)) = absurd (cc (is, disk_failed))
          unsent_keeps (inr memory) c (inr (is, keeps)) = absurd (cc (is, memory))

          unsent_moments : IsUnsent carries.came
              → Told told (λ _. LeavesOnly disk s.disk new (KeepsEither k b next))
          unsent_moments unsent i at =
              then_on disk s.disk s1.disk new (KeepsEither k b next) (HasIntent Made k next)
              (before i at) (after i at) (unsent_keeps unsent)

          ends_by : EndsSent kept carries.came end
          ends_by = subst (λ (n : ℕ). EndsSent n carries.came end) epoch carries.ends

          module _ (answer : Result Answer ExchangeFault)
              (is : carries.came ≡ made_by s1.settled.epoch answer) where
            abbrev ToldMade : Type 0
            ToldMade = TellsNext kept (made_by kept answer)

            made_is : Made → ToldMade
            made_is made =
                subst (λ (n : ℕ). TellsNext n (made_by n answer)) epoch
                (subst (λ (e : End). TellsNext s1.settled.epoch e) is made)

            sent_has : (c : Image) → HasIntent Made k next c → HasIntent ToldMade k next c
            sent_has c (inl keeps) = inl keeps
            sent_has c (inr (made, keeps)) = inr (made_is made, keeps)

            sent_moments : Told told (λ _. LeavesOnly disk s.disk new (Has ToldMade))
            sent_moments i at =
                then_on disk s.disk s1.disk new (Has ToldMade) (HasIntent Made k next)
                (unsettled_left ToldMade s1.disk before i at) (after i at)
                (λ c has. inr (sent_has c has))

            has_it : Told told (λ _.
                (c : Image) → disk.may_leave new c → HasIntent ToldMade k next c)
            has_it i at c left =
                sent_has c
                ((after i at).each c
                (disk.counts_now new (disk.moment s1.disk) c (after i at).later left))

          by : Sends peer s1.masters next (disk.reads s1.disk) s1.settled.epoch p1 q carries.came
              → OwnsTo p q new end
          by (inl (same, unsent)) =
              subst (λ (r : P). OwnsTo p r new end) (sym same)
              (owns_greeted p p1 new (Ok kept) end greets
              (unsent_told s intent kept carries.came end (inl refl) unsent ends_by)
              (unsent_moments unsent)
              (λ untold. absurd (untold (expected_told p p1 kept greets (inl refl)))))
          by (inr (answer, sends, is)) = record {
            asks = asks_update p1 q greets.0 answer greets.1
                (sends_before k next told (disk.reads s1.disk) p1 q answer stays
                (subst (λ (m : Masters). SendsPending peer m next (disk.reads s1.disk) p1 q answer)
                masters sends));
            unwritten = λ untold. absurd (untold (expected_told p p1 kept greets (inl refl)));
            moments = sent_moments answer is;
            written = λ _. has_it answer is;
            ends = (
              greets.2,
              subst (λ (c : End). EndsSent kept c end)
                  (is ∙ ap (λ (n : ℕ). made_by n answer) epoch) ends_by,
            );
          }

          pub owns_carried : OwnsTo p q new end
          owns_carried = by carries.sends
