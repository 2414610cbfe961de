-- A look at the ticket that is served, and taking the value, keep the rule of turns.
use Rattle.std.proofs.Common.{◌≡◌, ℕ, ◌<◌, List, [], ◌∷◌, get_or, set, refl, ap, sym, ◌∙◌, subst, inr, ⊎_elim, arith}
use Rattle.std.specs.Prelude.{All}
use Rattle.std.proofs.lemmas.List.{length-set}
use Rattle.std.proofs.lemmas.List.Elements.{All-weaker}
use mathlib.Core.Logic.{dite}
use mathlib.Core.Option as maybe
use native.Mathlib.Decide.{ℕ_discrete}
use lib.ListN.{get_elem?}
use Rattle.atomic_table.specs.Table.{State, Act, step, keeps, takes, Allows, Valid, carried_after, homes_after}
use Rattle.atomic_table.proofs.Lists.{set_again}
use Rattle.ov_peer.specs.Tells.{AnswererTells}
use Rattle.ov_turn.specs.declared.view.Entry.{Entry}
use Rattle.ov_turn.specs.declared.view.Knowledge.{Knowledge}
use Rattle.ov_turn.specs.declared.view.Stage.TheVariants.{Waiting}
use Rattle.ov_turn.specs.declared.view.View.{View}
use Rattle.ov_turn.specs.Logs.{GoesOnFrom, epoch_after}
use Rattle.ov_turn.specs.Rule.{HasTicket, HasValue, IsAtHome, IsAtStage, IsKept, IsOut, IsSeat, IsSpentAt, KnowsFailure, draws_of, tickets_at, tickets_of, unused_call}
use Rattle.ov_turn.specs.Steps.{Looks, SeatState}
use Rattle.ov_turn.specs.Views.{serving, spent}
use Rattle.ov_turn.proofs.Lists.{only_one, total_set}
use Rattle.ov_turn.proofs.Seats.{busy, next_state, no_value, same_ticket, set_there, spent_stays, steps}
use Rattle.ov_turn.proofs.Stages.{has_between, others_stay, value_served}

module _ {A : Type 0} (tells : AnswererTells A) (start : A) (passes : ℕ) where
  abbrev Rule : State A (View A) → Type 0
  Rule = IsKept tells start passes

  abbrev Sat : State A (View A) → ℕ → ℕ → List Entry → ℕ → View A → Type 0
  Sat s served next log = IsSeat tells start passes served next log s.homes s.views

  -- the ticket of a seat that waits is served: so the value is at home
  waits_home : (s : State A (View A)) (r : Rule s) (id : ℕ) (v : View A)
      → get_elem? s.views id ≡ maybe.some v → v.stage ≡ Waiting r.served
      → IsAtHome tells start s r.log r.stuck
  waits_home s r id v at is = ⊎_elim (λ (h : IsAtHome tells start s r.log r.stuck). h)
      (λ (o : IsOut s). absurd (⊎_elim
      (λ (p : o.1 ≡ spent). subst (λ (z : View A). HasValue z.stage) p o.4)
      (λ (q : Sat s r.served r.next r.log o.0 o.1).
      let theirs = value_served r.served r.next r.log s.homes o.1 o.1.stage q.staged
      o.4 in
      let same : o.0 ≡ id = r.tickets_differ o.0 id o.1 v r.served o.3 at theirs
      (subst (HasTicket r.served) (sym is) refl) in
      let one : o.1 ≡ v = maybe.some-injective o.1 v
      (sym o.3 ∙ (ap (get_elem? s.views) same ∙ at)) in
      subst HasValue is (subst (λ (z : View A). HasValue z.stage) one o.4))
      (r.seats o.0 o.1 o.3)))
      r.value

  -- a step that changes nothing
  unmoved : (s : State A (View A)) (r : Rule s) (id : ℕ) (v : View A)
      → get_elem? s.views id ≡ maybe.some v
      → Rule (next_state r.next r.served (epoch_after tells start r.log) s.homes
      (set s.views id v))
  unmoved s r id v at =
      subst (λ (z : List ℕ × List (View A)). Rule record {
        words = z.0;
        homes = s.homes;
        views = z.1;
      })
      (λ i. (r.words i, sym (set_again s.views id v at) i)) r

  -- a seat that takes the value
  serving_seat : (s : State A (View A)) (r : Rule s) (id : ℕ) (v : View A) (t : ℕ)
      → get_elem? s.views id ≡ maybe.some v → v.stage ≡ Waiting t → r.served ≡ t
      → Sat s r.served r.next r.log id v
      → Sat (next_state 0 0 0 (maybe.none ∷ []) (set s.views id (serving v t r.log r.stuck)))
      r.served r.next r.log id (serving v t r.log r.stuck)
  serving_seat s r id v t at waits hit q =
      let w : View A = serving v t r.log r.stuck in
      let stage : IsAtStage r.served r.next r.log s.homes v (Waiting t) =
      subst (IsAtStage r.served r.next r.log s.homes v) waits q.staged in
      record {
        live = q.live;
        begun = q.begun;
        named = q.named;
        called = q.called;
        staged = (sym hit, stage.1, refl, refl);
        known = q.known;
        numbered =
            subst (λ st. All (λ (e : Entry). e.pass ≡ id → e.call < unused_call st v.calls) r.log)
            waits q.numbered;
        last = λ many none.
            (let l = q.last many none in (l.0 ∙ sym (length-set s.views id w), l.1));
        taken_in = All-weaker
            (λ (k : Knowledge). GoesOnFrom tells start k r.log × IsSpentAt s.views k.number)
            (λ k. GoesOnFrom tells start k r.log × IsSpentAt (set s.views id w) k.number)
            (λ k p. (p.0, spent_stays s.views id v w at q.live k.number p.1))
            v.taken_in q.taken_in;
      }

  serving_state : (s : State A (View A)) (r : Rule s) (id : ℕ) (v : View A) (t : ℕ)
      → get_elem? s.views id ≡ maybe.some v → v.stage ≡ Waiting t → r.served ≡ t
      → Sat s r.served r.next r.log id v
      → Rule (next_state r.next r.served (epoch_after tells start r.log) (maybe.none ∷ [])
      (set s.views id (serving v t r.log r.stuck)))
  serving_state s r id v t at waits hit q =
      let w : View A = serving v t r.log r.stuck in
      let mine : HasTicket r.served v.stage = subst (HasTicket r.served) (sym waits) hit in
      let one : tickets_at v.stage ≡ 1 = ap tickets_at waits in
      let more = total_set tickets_of s.views id v w at in
      let uses = total_set draws_of s.views id v w at in
      let sum = r.tickets in
      let before = r.drawn in
      let f = r.failures id v at in
      let knows : KnowsFailure r.stuck w =
      record { own = f.own; taken_in = f.taken_in; held = λ h. refl } in
      steps tells start passes s r id v w at q.live refl r.served r.next (maybe.none ∷ []) r.stuck
      (omega arith)
      (omega arith)
      (inr (id, w, refl, set_there s.views id v w at, tt))
      (serving_seat s r id v t at waits hit q)
      (λ j d ne e p. others_stay r.served r.served r.next r.log r.log s.homes
      (maybe.none ∷ []) d d.stage
      (λ t' h. (has_between r.served r.next r.log s.homes d d.stage t' p.staged h).0)
      (no_value tells start passes s r id v at mine j d ne e p) p.staged)
      (same_ticket tells start passes s r id v w at
      (λ t' h. subst (HasTicket t') (sym waits) h))
      knows
      (λ j d ne e k. k)

  pub looks : (slots id : ℕ) (me : SeatState A) (t : ℕ) → me.0.stage ≡ Waiting t → me.1 ≡ []
      → Allows Rule slots id me 1 (λ n. n) (Looks tells (step slots 1 0 0 maybe.none) me)
  looks slots id me t waits empty s r _ at _ =
      let P : List ℕ → Type 0 = λ ws.
      (v : View A) × (a : Act A) × Valid s.homes me.1 a
      × Rule record {
        words = set ws 1 (get_or ws 1 0);
        homes = homes_after s.homes me.1 a;
        views = set s.views id v;
      }
      × Looks tells (step slots 1 0 0 maybe.none) me (get_or ws 1 0)
      (v, carried_after me.1 a) in
      let same : (t' : ℕ) → me.0.stage ≡ Waiting t' → t ≡ t' = λ t' is. cc (waits, is) in
      let one : tickets_at me.0.stage ≡ 1 = ap tickets_at waits in
      let q = busy tells start passes s r id me.0 at (omega arith) in
      subst P (sym r.words) (dite (ℕ_discrete r.served t)
      (λ hit.
      let w : View A = serving me.0 t r.log r.stuck in
      let home = waits_home s r id me.0 at (waits ∙ ap Waiting (sym hit)) in
      let y : A = home.0 in
      let kept = serving_state s r id me.0 t at waits hit q in (
        w,
        takes 0 y,
        ap (λ (hs : List (maybe.Option A)). get_elem? hs 0) home.1,
        subst (λ (hs : List (maybe.Option A)). Rule (next_state r.next r.served
            (epoch_after tells start r.log) hs (set s.views id w)))
            (sym (ap (λ (hs : List (maybe.Option A)). set hs 0 maybe.none) home.1)) kept,
        λ t' is _. (
          (λ _. (
            r.log,
            r.stuck,
            ap (λ (z : ℕ). serving me.0 z r.log r.stuck) (same t' is),
            (start, y, q.begun, ap (λ c. (0, y) ∷ c) empty, home.2),
            λ z held is. subst tells.stuck
                (only_one ((0, y) ∷ me.1) y z (ap (λ c. (0, y) ∷ c) empty) held) (home.3 is),
            (r.failures id me.0 at).own,
            λ x begun. subst (λ (z : A). GoesOnFrom tells z me.0.knowledge r.log)
                (cc (begun, q.begun)) q.known,
          )),
          (λ not. absurd (not (hit ∙ same t' is))),
        ),
      ))
      (λ miss. (
        me.0,
        keeps,
        tt,
        unmoved s r id me.0 at,
        λ t' is _. ((λ hit. absurd (miss (hit ∙ sym (same t' is)))), (λ _. refl)),
      )))
