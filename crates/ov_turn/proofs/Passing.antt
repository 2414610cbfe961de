-- Giving the value back and passing the turn on keep the rule of turns.
use Rattle.std.proofs.Common.{◌≡◌, ◌≢◌, ℕ, ◌+◌, ◌%◌, ◌<◌, ◌≤◌, List, [], ◌∷◌, get_or, set, refl, ap, sym, ◌∙◌, subst, inl, arith, Some, ◌||◌, Bool, true, false}
use Rattle.std.proofs.lemmas.List.{length-set}
use Rattle.std.proofs.lemmas.Bool.{or_right}
use Rattle.std.proofs.lemmas.List.Elements.{All-weaker}
use mathlib.Core.Option as maybe
use lib.ListN.{get_elem?}
use Rattle.atomic_table.specs.Table.{State, Act, step, gives, Allows, Valid, carried_after, homes_after, rest}
use Rattle.ov_peer.specs.Tells.{AnswererTells}
use Rattle.ov_turn.specs.declared.view.Entry.{Entry}
use Rattle.ov_turn.specs.declared.view.Knowledge.{Knowledge}
use Rattle.ov_turn.specs.declared.view.Stage.{Stage}
use Rattle.ov_turn.specs.declared.view.Stage.TheVariants.{Idle, Waiting, Serving, Raised}
use Rattle.ov_turn.specs.declared.view.View.{View}
use Rattle.ov_turn.specs.Logs.{GoesOnFrom, epoch_after, spellings}
use Rattle.ov_turn.specs.Rule.{HasTicket, HasValue, IsKept, IsSeat, IsSpentAt, KnowsFailure, draws_of, tickets_at, tickets_of, unused_call}
use Rattle.ov_turn.specs.Steps.{PassesOn, SeatState}
use Rattle.ov_turn.specs.Views.{log_in_hand, rested}
use Rattle.ov_turn.proofs.Lists.{begins_self, total_set}
use Rattle.ov_turn.proofs.Seats.{apart_stays, busy, next_small, next_state, no_value, none_has_value, spent_stays, steps}
use Rattle.ov_turn.proofs.Stages.{has_between, log_is, others_stay, value_one, value_out, value_served}

unused_le : (st : Stage) (calls : ℕ) → unused_call st calls ≤ calls + 1
unused_le Idle calls = omega arith
unused_le (Waiting t) calls = omega arith
unused_le (Serving t) calls = omega arith
unused_le (Raised t) calls = omega arith

-- what follows from one follows from it or another
or_weaker : (a b c : Bool) → (b ≡ true → c ≡ true) → (a || b) ≡ true → (a || c) ≡ true
or_weaker true b c h is = refl
or_weaker false b c h is = h is

module _ {A : Type 0} (tells : AnswererTells A) (start : A) (passes : ℕ) where
  abbrev Rule : State A (View A) → Type 0
  Rule = IsKept tells start passes

  abbrev Sat : State A (View A) → ℕ → ℕ → List Entry → ℕ → View A → Type 0
  Sat s served next log = IsSeat tells start passes served next log s.homes s.views

  -- a seat that gave the value back
  rested_seat : (s : State A (View A)) (r : Rule s) (id : ℕ) (v : View A) (failed : Bool)
      (homes : List (maybe.Option A)) → get_elem? s.views id ≡ maybe.some v → HasValue v.stage
      → Sat s r.served r.next r.log id v
      → Sat (next_state 0 0 0 homes (set s.views id (rested v failed))) (r.served + 1) r.next
      r.log id (rested v failed)
  rested_seat s r id v failed homes at has q =
      let w : View A = rested v failed in
      let list : log_in_hand v.stage v ≡ r.log =
      log_is r.served r.next r.log s.homes v v.stage q.staged has in
      record {
        live = q.live;
        begun = q.begun;
        named = q.named;
        called = q.called;
        staged = tt;
        known = subst
            (λ (l : List Entry). GoesOnFrom tells start
            (record v.knowledge { seen = l; failed = failed || v.knowledge.failed }) r.log)
            (sym list) (begins_self r.log, refl, q.known.2, λ _. refl);
        numbered = All-weaker (λ (e : Entry). e.pass ≡ id → e.call < unused_call v.stage v.calls)
            (λ e. e.pass ≡ id → e.call < v.calls + 1)
            (λ e less is.
            let l = less is in let m = unused_le v.stage v.calls in omega arith)
            r.log q.numbered;
        last = λ many none.
            (let l = q.last many none in (l.0 ∙ sym (length-set s.views id w), l.1));
        taken_in = All-weaker
            (λ (k : Knowledge). GoesOnFrom tells start k r.log × IsSpentAt s.views k.number)
            (λ k. GoesOnFrom tells start k r.log × IsSpentAt (set s.views id w) k.number)
            (λ k p. (p.0, spent_stays s.views id v w at q.live k.number p.1))
            v.taken_in q.taken_in;
      }

  -- a seat without the value, once there may be more failures
  still_knows : (was now : Bool) (d : View A) → (was ≡ true → now ≡ true)
      → (HasValue d.stage → ⊥) → KnowsFailure was d → KnowsFailure now d
  still_knows was now d later none k = record {
    own = λ failed. later (k.own failed);
    taken_in = All-weaker (λ (x : Knowledge). x.failed ≡ true → was ≡ true)
        (λ x. x.failed ≡ true → now ≡ true) (λ x p failed. later (p failed)) d.taken_in k.taken_in;
    held = λ h. absurd (none h);
  }

  -- a seat that gave the value back
  rested_knows : (was failed : Bool) (v : View A) → HasValue v.stage → KnowsFailure was v
      → KnowsFailure (failed || v.stuck) (rested v failed)
  rested_knows was failed v has k =
      let held : v.stuck ≡ was = k.held has in record {
        own = or_weaker failed v.knowledge.failed v.stuck (λ is. held ∙ k.own is);
        taken_in = All-weaker (λ (x : Knowledge). x.failed ≡ true → was ≡ true)
            (λ x. x.failed ≡ true → (failed || v.stuck) ≡ true)
            (λ x p is. or_right failed v.stuck (held ∙ p is)) v.taken_in k.taken_in;
        held = λ h. absurd h;
      }

  rested_state : (s : State A (View A)) (r : Rule s) (id : ℕ) (v : View A) (failed : Bool) (y : A)
      → get_elem? s.views id ≡ maybe.some v → HasValue v.stage
      → Sat s r.served r.next r.log id v → tells.reached start (spellings r.log) y
      → ((failed || v.stuck) ≡ true → tells.stuck y)
      → Rule (next_state r.next (r.served + 1) (epoch_after tells start r.log)
      (maybe.some y ∷ []) (set s.views id (rested v failed)))
  rested_state s r id v failed y at has q stands sticks =
      let w : View A = rested v failed in
      let mine : HasTicket r.served v.stage =
      value_served r.served r.next r.log s.homes v v.stage q.staged has in
      let one : tickets_at v.stage ≡ 1 = value_one v.stage has in
      let more = total_set tickets_of s.views id v w at in
      let uses = total_set draws_of s.views id v w at in
      let sum = r.tickets in
      let before = r.drawn in
      let f = r.failures id v at in
      let later : r.stuck ≡ true → (failed || v.stuck) ≡ true =
      λ is. or_right failed v.stuck (f.held has ∙ is) in
      steps tells start passes s r id v w at q.live refl (r.served + 1) r.next
      (maybe.some y ∷ [])
      (failed || v.stuck)
      (omega arith)
      (omega arith)
      (inl (y, refl, stands, sticks))
      (rested_seat s r id v failed (maybe.some y ∷ []) at has q)
      (λ j d ne e p. others_stay r.served (r.served + 1) r.next r.log r.log s.homes
      (maybe.some y ∷ []) d d.stage
      (λ t' h.
      let b = (has_between r.served r.next r.log s.homes d d.stage t' p.staged h).0 in
      let apart : t' ≢ r.served = λ same.
      ne (sym (r.tickets_differ id j v d r.served at e mine
      (subst (λ (z : ℕ). HasTicket z d.stage) same h))) in
      omega arith)
      (no_value tells start passes s r id v at mine j d ne e p) p.staged)
      (apart_stays s.views id w r.tickets_differ (λ t' j d other e m theirs. absurd m))
      (rested_knows r.stuck failed v has f)
      (λ j d ne e k. still_knows r.stuck (failed || v.stuck) d later
      (none_has_value tells start passes s r id v at mine j d ne e) k)

  pub passes_on : (slots id : ℕ) (me : SeatState A) (failed : Bool) (x y : A)
      → HasValue me.0.stage → me.0.start ≡ Some x → me.1 ≡ (0, y) ∷ []
      → tells.reached x (spellings (log_in_hand me.0.stage me.0)) y
      → ((failed || me.0.stuck) ≡ true → tells.stuck y)
      → Allows Rule slots id me 1 (λ n. (n + 1) % 18446744073709551616)
      (PassesOn failed (step slots 1 1 0 maybe.none) me)
  passes_on slots id me failed x y has begun carries stands sticks s r _ at _ =
      let P : List ℕ → Type 0 = λ ws.
      (v : View A) × (a : Act A) × Valid s.homes me.1 a
      × Rule record {
        words = set ws 1 ((get_or ws 1 0 + 1) % 18446744073709551616);
        homes = homes_after s.homes me.1 a;
        views = set s.views id v;
      }
      × PassesOn failed (step slots 1 1 0 maybe.none) me (get_or ws 1 0)
      (v, carried_after me.1 a) in
      let one : tickets_at me.0.stage ≡ 1 = value_one me.0.stage has in
      let q = busy tells start passes s r id me.0 at (omega arith) in
      let list : log_in_hand me.0.stage me.0 ≡ r.log =
      log_is r.served r.next r.log s.homes me.0 me.0.stage q.staged has in
      let first : x ≡ start = cc (begun, q.begun) in
      let bound = next_small tells start passes s r in
      let sum = r.tickets in
      let small : (r.served + 1) % 18446744073709551616 ≡ r.served + 1 = omega arith in
      let kept = rested_state s r id me.0 failed y at has q
      (subst (λ (z : A × List Entry). tells.reached z.0 (spellings z.1) y)
      (λ i. (first i, list i)) stands) sticks in
      let homes : homes_after s.homes me.1 gives ≡ maybe.some y ∷ [] = λ i. homes_after
      (value_out r.served r.next r.log s.homes me.0 me.0.stage q.staged has i)
      (carries i) gives in
      subst P (sym r.words) (
        rested me.0 failed,
        gives,
        tt,
        subst (λ (z : ℕ × List (maybe.Option A)). Rule (next_state r.next z.0
            (epoch_after tells start r.log) z.1 (set s.views id (rested me.0 failed))))
            (λ i. (sym small i, sym homes i)) kept,
        (refl, ap rest carries),
      )
