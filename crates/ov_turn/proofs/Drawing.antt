-- Drawing a ticket keeps the rule of turns.
use Rattle.std.proofs.Common.{◌≡◌, ℕ, ◌+◌, ◌*◌, ◌%◌, ◌<◌, ◌≤◌, List, get_or, set, refl, ap, sym, ◌∙◌, subst, inl, inr, ⊎_elim, arith}
use Rattle.std.specs.Prelude.{All}
use Rattle.std.proofs.lemmas.List.{length-set}
use Rattle.std.proofs.lemmas.List.Elements.{All-weaker}
use mathlib.Core.Option as maybe
use lib.ListN.{get_elem?}
use Rattle.atomic_table.specs.Table.{State, Act, step, keeps, Allows, Valid, carried_after, homes_after}
use Rattle.ov_peer.specs.Tells.{AnswererTells}
use Rattle.ov_turn.specs.declared.view.Entry.{Entry}
use Rattle.ov_turn.specs.declared.view.Knowledge.{Knowledge}
use Rattle.ov_turn.specs.declared.view.Stage.TheVariants.{Idle}
use Rattle.ov_turn.specs.declared.view.View.{View}
use Rattle.ov_turn.specs.Logs.{GoesOnFrom, epoch_after}
use Rattle.ov_turn.specs.Rule.{HasValue, IsAtHome, HasTicket, IsKept, IsOut, IsSeat, IsSpentAt, KnowsFailure, draws_of, tickets_at, tickets_of, unused_call}
use Rattle.ov_turn.specs.Steps.{Draws, SeatState}
use Rattle.ov_turn.specs.Views.{drawn, spent}
use Rattle.ov_turn.proofs.Lists.{total_set}
use Rattle.ov_turn.proofs.Seats.{apart_stays, live, next_small, next_state, out_elsewhere, spent_stays, steps}
use Rattle.ov_turn.proofs.Stages.{has_between, more_drawn}

module _ {A : Type 0} (tells : AnswererTells A) (start : A) (passes : ℕ) where
  abbrev Rule : State A (View A) → Type 0
  Rule = IsKept tells start passes

  abbrev Sat : State A (View A) → ℕ → ℕ → List Entry → ℕ → View A → Type 0
  Sat s served next log = IsSeat tells start passes served next log s.homes s.views

  -- a seat that draws the next ticket
  drawn_seat : (s : State A (View A)) (r : Rule s) (id : ℕ) (v : View A)
      → get_elem? s.views id ≡ maybe.some v → v.stage ≡ Idle
      → draws_of v + 1 ≤ 4294967295 * v.parts → Sat s r.served r.next r.log id v
      → Sat (next_state 0 0 0 s.homes (set s.views id (drawn v r.next))) r.served (r.next + 1) r.log
      id (drawn v r.next)
  drawn_seat s r id v at idle room q = record {
    live = q.live;
    begun = q.begun;
    named = q.named;
    called = omega arith;
    staged = (let sum = r.tickets in (omega arith, omega arith));
    known = q.known;
    numbered = subst (λ st. All (λ (e : Entry). e.pass ≡ id → e.call < unused_call st v.calls) r.log)
        idle q.numbered;
    last = λ many none.
        (let l = q.last many none in (l.0 ∙ sym (length-set s.views id (drawn v r.next)), l.1));
    taken_in = All-weaker
        (λ (k : Knowledge). GoesOnFrom tells start k r.log × IsSpentAt s.views k.number)
        (λ k. GoesOnFrom tells start k r.log
        × IsSpentAt (set s.views id (drawn v r.next)) k.number)
        (λ k p. (p.0, spent_stays s.views id v (drawn v r.next) at q.live k.number p.1))
        v.taken_in q.taken_in;
  }

  drawn_state : (s : State A (View A)) (r : Rule s) (id : ℕ) (v : View A)
      → get_elem? s.views id ≡ maybe.some v → v.stage ≡ Idle → 0 < v.parts
      → draws_of v + 1 ≤ 4294967295 * v.parts
      → Rule (next_state (r.next + 1) r.served (epoch_after tells start r.log) s.homes
      (set s.views id (drawn v r.next)))
  drawn_state s r id v at idle some_parts room =
      let w : View A = drawn v r.next in
      let not : HasValue v.stage → ⊥ = λ h. subst HasValue idle h in
      let none : tickets_at v.stage ≡ 0 = ap tickets_at idle in
      let more = total_set tickets_of s.views id v w at in
      let uses = total_set draws_of s.views id v w at in
      let sum = r.tickets in
      let before = r.drawn in
      let f = r.failures id v at in
      let knows : KnowsFailure r.stuck w =
      record { own = f.own; taken_in = f.taken_in; held = λ h. absurd h } in
      steps tells start passes s r id v w at some_parts refl r.served (r.next + 1) s.homes r.stuck
      (omega arith)
      (omega arith)
      (⊎_elim (λ (h : IsAtHome tells start s r.log r.stuck). inl h)
      (λ (o : IsOut s). inr (out_elsewhere tells start passes s id v w _ at not refl o))
      r.value)
      (drawn_seat s r id v at idle room (live tells start passes s r id v at some_parts))
      (λ j d ne e q. more_drawn r.served r.next r.log s.homes d d.stage q.staged)
      (apart_stays s.views id w r.tickets_differ
      (λ t j d other e mine theirs.
      ⊎_elim
      (λ (p : d ≡ spent). subst (λ (z : View A). HasTicket t z.stage) p theirs)
      (λ (q : Sat s r.served r.next r.log j d).
      let b = has_between r.served r.next r.log s.homes d d.stage t q.staged
      theirs in
      let c = b.1 in absurd (omega arith))
      (r.seats j d e)))
      knows
      (λ j d ne e k. k)

  pub draws : (slots id : ℕ) (me : SeatState A) → me.0.stage ≡ Idle → 0 < me.0.parts
      → draws_of me.0 + 1 ≤ 4294967295 * me.0.parts
      → Allows Rule slots id me 0 (λ n. (n + 1) % 18446744073709551616)
      (Draws (step slots 0 1 0 maybe.none) me)
  draws slots id me idle some_parts room s r _ at _ =
      let P : List ℕ → Type 0 = λ ws.
      (v : View A) × (a : Act A) × Valid s.homes me.1 a
      × Rule record {
        words = set ws 0 ((get_or ws 0 0 + 1) % 18446744073709551616);
        homes = homes_after s.homes me.1 a;
        views = set s.views id v;
      }
      × Draws (step slots 0 1 0 maybe.none) me (get_or ws 0 0) (v, carried_after me.1 a) in
      let bound = next_small tells start passes s r in
      let small : (r.next + 1) % 18446744073709551616 ≡ r.next + 1 = omega arith in
      let kept = drawn_state s r id me.0 at idle some_parts room in
      subst P (sym r.words) (
        drawn me.0 r.next,
        keeps,
        tt,
        subst (λ n. Rule (next_state n r.served (epoch_after tells start r.log) s.homes
            (set s.views id (drawn me.0 r.next)))) (sym small) kept,
        (refl, refl),
      )
