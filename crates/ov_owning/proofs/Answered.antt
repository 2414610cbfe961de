-- A call by an open book over a server that serves this book is answered.
use Rattle.std.proofs.Common.{◌≡◌, ◌∙◌, ◌+◌, ℕ, List, Option, Some, None, Result, Ok, Err}
use Rattle.std.proofs.Common.{refl, sym, ap, subst, inl, inr}
use Rattle.std.specs.Prelude.{◌⊎◌, IsSome}
use Rattle.ov_base.specs.declared.mode.Mode.{Mode}
use Rattle.ov_disk.specs.Disk.{Image}
use Rattle.ov_disk.specs.Tells.{DiskTells}
use Rattle.ov_record.specs.Briefs.{Brief as SpelledBrief}
use Rattle.ov_tokens.specs.Keys.{check_value_of}
use Rattle.ov_history.specs.Masters.{Masters}
use Rattle.ov_history.specs.Sealed.{catalogue_of}
use Rattle.ov_wire.specs.Requests.{request_bytes}
use Rattle.ov_wire.specs.declared.answer.Answer.{Answer}
use Rattle.ov_wire.specs.declared.answer.Answer.TheVariants as answers
use Rattle.ov_wire.specs.declared.request.Request.TheVariants as requests
use Rattle.ov_protocol.specs.Answers.{welcome_of}
use Rattle.ov_protocol.specs.Serving.{Service, served}
use Rattle.ov_peer.specs.Alone.{IsAlone}
use Rattle.ov_peer.specs.Exchanges.{Exchanges}
use Rattle.ov_peer.specs.Tells.{PeerTells}
use Rattle.ov_peer.specs.declared.fault.ExchangeFault.{ExchangeFault}
use Rattle.ov_peer.specs.declared.fault.ExchangeFault.TheVariants as exchange
use Rattle.ov_client.specs.Completeness.{FailsDisk}
use Rattle.ov_client.proofs.FailingDisks.{fails_later}
use Rattle.ov_books.specs.Books.{Booked}
use Rattle.ov_book.specs.Opened.{Holds, IsPendingIn, Opened, Pending}
use Rattle.ov_book.specs.declared.intent.Intent.{Intent}
use Rattle.ov_owning.specs.Endings.{End, EndsGreeted, EndsSent, EndsTold, Greeted, IsExpected, IsOurs}
use Rattle.ov_owning.specs.Endings.{SettlesAt, made_by}
use Rattle.ov_owning.specs.Owning.{Asks, Ends, Owns, asks_hello, asks_nothing}
use Rattle.ov_owning.specs.Owning.{asks_update}
use Rattle.ov_owning.specs.Running.{with_intended}
use Rattle.ov_owning.specs.Serving.{ServesBook}
use Rattle.ov_owning.specs.declared.stop.OwnStop.TheVariants as stops
use Rattle.ov_owning.proofs.HelloAlone.{IsCut, greeted_alone, greeted_epoch, hello_asked}
use Rattle.ov_owning.proofs.UpdateAlone.{update_ends}
use Rattle.ov_owning.proofs.NextBook.{IsFree, epoch_kept, none_seen}
use Rattle.ov_owning.proofs.OneBook.{fits_u, form_u, sendable_u, sent_u}
use Rattle.ov_owning.proofs.Served.{at_made, at_settled, mode_served, where_is}

-- the end of a call that is answered: an epoch, a refusal by the machine, or a fault; one of the server's
-- disk only where there was such a one
abbrev pub IsFine : Type 0 → End → Type 0
IsFine disk (Ok epoch) = Unit {0}
IsFine disk (Err (stops.Refused why)) = Unit {0}
IsFine disk (Err stops.Device) = disk
IsFine disk (Err stops.Read) = Unit {0}
IsFine disk (Err stops.Memory) = Unit {0}
IsFine disk (Err stops.Link) = Unit {0}
IsFine disk (Err stops.Disk) = Unit {0}
IsFine disk (Err stop) = ⊥

-- a pending intent is in memory
some_seen : (pending : Option SpelledBrief) (p : Option Pending) (u : SpelledBrief)
    → pending ≡ Some u → IsPendingIn pending p → IsSome p
some_seen None p u some is = absurd (cc some)
some_seen (Some v) None u some is = absurd is
some_seen (Some v) (Some p) u some is = refl

-- only the next epoch settles
settled_fine : (fails : Type 0) (kept told : ℕ) (end : End) → told ≡ kept + 1
    → SettlesAt kept told end → IsFine fails end
settled_fine fails kept told (Ok epoch) next ends = tt
settled_fine fails kept told (Err (stops.Differs said at)) next ends = absurd (ends.0 next)
settled_fine fails kept told (Err stops.Disk) next ends = tt
settled_fine fails kept told (Err stops.Memory) next ends = tt
settled_fine fails kept told (Err stop) next ends = absurd ends

module _ {P D : Type 0} (peer : PeerTells P) (disk : DiskTells D) (alone : IsAlone peer)
    (k : Masters) (b : Booked) (v : Service) (serves : ServesBook k b v) (s : Opened D)
    (masters : s.masters ≡ k) (holds : Holds disk b s) (image : Image)
    (told : disk.reads s.disk ≡ Some image) (intent : Option Intent) (free : IsFree intent b)
    (mode : Mode) (same_mode : b.mode ≡ mode) where
  abbrev next : Booked
  next = with_intended s intent b

  abbrev here : ℕ
  here = (catalogue_of v.surface v.history).epoch

  -- what is served is a store of the owner's base master, in this mode
  ours : IsOurs (check_value_of s.masters.base) mode (welcome_of (served v))
  ours = (
    serves.check ∙ ap (λ (m : Masters). check_value_of m.base) (sym masters),
    mode_served b v holds.is_book holds.settled.0 k serves ∙ same_mode,
  )

  -- its epoch is one that the book expects
  expected : IsExpected s here
  expected =
      elim (where_is b v holds.is_book holds.settled.0 k serves) [
        | at_settled settled at ↦ inl (at ∙ sym (epoch_kept disk k s b masters holds))
        | at_made u some whole at ↦ inr (
          some_seen b.pending s.pending u some holds.pending,
          at ∙ ap (λ (n : ℕ). n + 1) (sym (epoch_kept disk k s b masters holds)),
        )
      ]

  told_fine : (fails : Type 0) (n : ℕ) (end : End) → IsExpected s n → EndsTold s intent n end
      → IsFine fails end
  told_fine fails n (Ok epoch) is ends = tt
  told_fine fails n (Err (stops.Differs said kept)) is ends = absurd (ends.0 is)
  told_fine fails n (Err (stops.Refused why)) is ends = tt
  told_fine fails n (Err stops.Disk) is ends = tt
  told_fine fails n (Err stops.Memory) is ends = tt
  told_fine fails n (Err stop) is ends = absurd ends

  cut_fine : (fails : Type 0) (g end : End) → IsCut g → EndsGreeted s intent g end
      → IsFine fails end
  cut_fine fails g end (inl link) ends =
      let is : end ≡ Err stops.Link =
      subst (λ (x : End). EndsGreeted s intent x end) link ends in
      subst (λ (x : End). IsFine fails x) (sym is) tt
  cut_fine fails g end (inr memory) ends =
      let is : end ≡ Err stops.Memory =
      subst (λ (x : End). EndsGreeted s intent x end) memory ends in
      subst (λ (x : End). IsFine fails x) (sym is) tt

  -- Hello that told an epoch was answered
  asked_before : (p q : P) (welcome : Result Answer ExchangeFault) (n : ℕ)
      → Exchanges peer p q requests.Hello welcome
      → Greeted (check_value_of s.masters.base) mode welcome (Ok n)
      → (reply : List ℕ) × peer.asked p (request_bytes requests.Hello) reply q
  asked_before p q (Ok a) n asks greeted = (asks.reply, asks.sent)
  asked_before p q (Err (exchange.BadReply place)) n asks greeted = absurd (cc greeted)
  asked_before p q (Err exchange.Link) n asks greeted = absurd (cc greeted)
  asked_before p q (Err exchange.Memory) n asks greeted = absurd (cc greeted)

  -- by what came of the Update
  sent_fine : (p between q : P) (reply : List ℕ) (answer : Result Answer ExchangeFault) (end : End)
      → s.settled.epoch ≡ here
      → peer.asked p (request_bytes requests.Hello) reply between
      → (answer ≡ Ok (answers.Accepted (here + 1)))
      ⊎ (((answer ≡ Ok answers.DeviceFault) × FailsDisk peer between q)
      ⊎ ((answer ≡ Err exchange.Link) ⊎ (answer ≡ Err exchange.Memory)))
      → EndsSent s.settled.epoch (made_by s.settled.epoch answer) end
      → IsFine (FailsDisk peer p q) end
  sent_fine p between q reply answer end at asked (inl accepted) ends =
      settled_fine (FailsDisk peer p q) s.settled.epoch (here + 1) end
      (ap (λ (n : ℕ). n + 1) (sym at))
      (subst (λ (x : Result Answer ExchangeFault).
      EndsSent s.settled.epoch (made_by s.settled.epoch x) end) accepted ends)
  sent_fine p between q reply answer end at asked (inr (inl (device, fails))) ends =
      let is : end ≡ Err stops.Device =
      subst (λ (x : Result Answer ExchangeFault).
      EndsSent s.settled.epoch (made_by s.settled.epoch x) end) device ends in
      subst (λ (x : End). IsFine (FailsDisk peer p q) x) (sym is)
      (fails_later peer p between q (request_bytes requests.Hello) reply asked fails)
  sent_fine p between q reply answer end at asked (inr (inr (inl link))) ends =
      let is : end ≡ Err stops.Link =
      subst (λ (x : Result Answer ExchangeFault).
      EndsSent s.settled.epoch (made_by s.settled.epoch x) end) link ends in
      subst (λ (x : End). IsFine (FailsDisk peer p q) x) (sym is) tt
  sent_fine p between q reply answer end at asked (inr (inr (inr memory))) ends =
      let is : end ≡ Err stops.Memory =
      subst (λ (x : Result Answer ExchangeFault).
      EndsSent s.settled.epoch (made_by s.settled.epoch x) end) memory ends in
      subst (λ (x : End). IsFine (FailsDisk peer p q) x) (sym is) tt

  -- by the Hello
  greeted_fine : (fails : Type 0) (p q : P) (answer : Result Answer ExchangeFault) (g end : End)
      → peer.serves p v → Exchanges peer p q requests.Hello answer
      → Greeted (check_value_of s.masters.base) mode answer g → EndsGreeted s intent g end
      → IsFine fails end
  greeted_fine fails p q answer g end serving hello greeted ends =
      elim (greeted_alone peer alone (check_value_of s.masters.base) mode p q answer g v hello
      serving ours greeted) [
        | inl is ↦ told_fine fails here end expected
            (subst (λ (x : End). EndsGreeted s intent x end) is ends)
        | inr cut ↦ cut_fine fails g end cut ends
      ]

  no_pending : IsSome intent → IsSome s.pending → ⊥
  no_pending some pending =
      elim free [
        | inl none ↦ cc (subst (λ (x : Option Intent). IsSome x) none some)
        | inr none ↦ cc (subst (λ (x : Option Pending). IsSome x)
            (none_seen b.pending s.pending none holds.pending) pending)
      ]

  by_asks : (p q : P) (end : End) → peer.serves p v
      → (asks : Asks peer s.masters next (disk.reads s.disk) p q)
      → Ends peer s mode intent next (disk.reads s.disk) p q asks end
      → IsFine (FailsDisk peer p q) end
  by_asks p q end serving asks_nothing ends = absurd (no_pending ends.0 ends.1)
  by_asks p q end serving (asks_hello r answer hello) ends =
      greeted_fine (FailsDisk peer p r) p r answer ends.0 end serving hello ends.1 ends.2
  by_asks p q end serving (asks_update between r welcome answer hello sends) ends =
      let (reply, asked) = asked_before p between welcome s.settled.epoch hello ends.0 in
      let going = hello_asked peer alone p between reply v asked serving in
      let at = greeted_epoch peer alone (check_value_of s.masters.base) mode p between welcome
      s.settled.epoch v hello serving ends.0 in
      let form = form_u peer disk alone k b v serves s masters holds image told intent free mode
      between r going at answer sends in
      let fits = fits_u peer disk alone k b v serves s masters holds image told intent free mode
      between r going at answer sends in
      let sendable = sendable_u peer disk alone k b v serves s masters holds image told intent free
      mode between r going at answer sends in
      let sent = sent_u peer disk alone k b v serves s masters holds image told intent free mode
      between r going at answer sends in
      sent_fine p between r reply answer end at asked
      (update_ends v sends.update form fits sendable peer alone between r answer sent going) ends.1

  pub is_fine : (p q : P) (new : D) (end : End) → peer.serves p v
      → Owns peer disk s mode intent b next p q new end → IsFine (FailsDisk peer p q) end
  is_fine p q new end serving owns = by_asks p q end serving owns.asks owns.ends
