-- Reading the epoch keeps the rule of turns.
use Rattle.std.proofs.Common.{◌≡◌, ℕ, ◌<◌, ◌≤◌, List, get_or, set, refl, sym, ◌∙◌, subst, inl, inr, ⊎_elim, arith}
use Rattle.std.proofs.lemmas.List.{length-set}
use Rattle.std.proofs.lemmas.List.Elements.{All-weaker}
use mathlib.Core.Option as maybe
use lib.ListN.{get_elem?}
use Rattle.atomic_table.specs.Table.{State, Act, step, keeps, Allows, Valid, carried_after, homes_after}
use Rattle.ov_peer.specs.Tells.{AnswererTells}
use Rattle.ov_turn.specs.declared.view.Entry.{Entry}
use Rattle.ov_turn.specs.declared.view.Knowledge.{Knowledge}
use Rattle.ov_turn.specs.declared.view.View.{View}
use Rattle.ov_turn.specs.Logs.{GoesOnFrom, epoch_after}
use Rattle.ov_turn.specs.Rule.{IsAtHome, IsKept, IsOut, IsSeat, IsSpentAt, KnowsFailure, draws_of, tickets_of}
use Rattle.ov_turn.specs.Steps.{Reads, SeatState}
use Rattle.ov_turn.specs.Views.{informed}
use Rattle.ov_turn.proofs.Lists.{begins_length, total_set}
use Rattle.ov_turn.proofs.Seats.{live, next_state, out_told, same_ticket, spent_stays, steps}
use Rattle.ov_turn.proofs.Stages.{informed_stays}

module _ {A : Type 0} (tells : AnswererTells A) (start : A) (passes : ℕ) where
  abbrev Rule : State A (View A) → Type 0
  Rule = IsKept tells start passes

  abbrev Sat : State A (View A) → ℕ → ℕ → List Entry → ℕ → View A → Type 0
  Sat s served next log = IsSeat tells start passes served next log s.homes s.views

  -- a seat that is told the epoch
  informed_seat : (s : State A (View A)) (r : Rule s) (id : ℕ) (v : View A) (epoch : ℕ)
      → get_elem? s.views id ≡ maybe.some v → epoch ≡ epoch_after tells start r.log
      → Sat s r.served r.next r.log id v
      → Sat (next_state 0 0 0 s.homes (set s.views id (informed v epoch))) r.served r.next r.log id
      (informed v epoch)
  informed_seat s r id v epoch at is q =
      let w : View A = informed v epoch in
      record {
        live = q.live;
        begun = q.begun;
        named = q.named;
        called = q.called;
        staged =
            informed_stays r.served r.next r.log s.homes v epoch v.stage q.staged;
        known = (q.known.0, q.known.1, omega arith, q.known.3);
        numbered = q.numbered;
        last = λ many none.
            (let l = q.last many none in (l.0 ∙ sym (length-set s.views id w), l.1));
        taken_in = All-weaker
            (λ (k : Knowledge). GoesOnFrom tells start k r.log × IsSpentAt s.views k.number)
            (λ k. GoesOnFrom tells start k r.log × IsSpentAt (set s.views id w) k.number)
            (λ k p. (p.0, spent_stays s.views id v w at q.live k.number p.1))
            v.taken_in q.taken_in;
      }

  pub reads : (slots id : ℕ) (me : SeatState A) → 0 < me.0.parts
      → Allows Rule slots id me 2 (λ n. n) (Reads tells (step slots 2 0 0 maybe.none) me)
  reads slots id me some_parts s r _ at _ =
      let P : List ℕ → Type 0 = λ ws.
      (v : View A) × (a : Act A) × Valid s.homes me.1 a
      × Rule record {
        words = set ws 2 (get_or ws 2 0);
        homes = homes_after s.homes me.1 a;
        views = set s.views id v;
      }
      × Reads tells (step slots 2 0 0 maybe.none) me (get_or ws 2 0)
      (v, carried_after me.1 a) in
      let e : ℕ = epoch_after tells start r.log in
      let w : View A = informed me.0 e in
      let q = live tells start passes s r id me.0 at some_parts in
      let more = total_set tickets_of s.views id me.0 w at in
      let uses = total_set draws_of s.views id me.0 w at in
      let sum = r.tickets in
      let before = r.drawn in
      let f = r.failures id me.0 at in
      let knows : KnowsFailure r.stuck w =
      record { own = f.own; taken_in = f.taken_in; held = f.held } in
      let kept = steps tells start passes s r id me.0 w at some_parts refl r.served r.next s.homes
      r.stuck
      (omega arith)
      (omega arith)
      (⊎_elim (λ (h : IsAtHome tells start s r.log r.stuck). inl h)
      (λ (o : IsOut s). inr (out_told tells start passes s id me.0 w at refl o))
      r.value)
      (informed_seat s r id me.0 e at refl q)
      (λ j d ne f p. p.staged)
      (same_ticket tells start passes s r id me.0 w at (λ t' h. h))
      knows
      (λ j d ne e k. k) in
      subst P (sym r.words) (
        w,
        keeps,
        tt,
        kept,
        (
          refl,
          refl,
          r.small,
          q.known.2,
          λ x begun.
              let same : x ≡ start = cc (begun, q.begun) in
              let short = begins_length r.log me.0.knowledge.seen q.known.0 in
              subst (λ (z : A). epoch_after tells z me.0.knowledge.seen ≤ e) (sym same)
              (omega arith),
        ),
      )
