-- Raising the epoch keeps the rule of turns.
use Rattle.std.proofs.Common.{◌≡◌, ◌≢◌, ℕ, ◌+◌, ◌%◌, ◌<◌, ◌⊎◌, List, [], ◌∷◌, ◌++◌, length, get_or, set, refl, ap, sym, ◌∙◌, subst, inl, inr, ⊎_elim, arith, length-append, true, false, true≢false}
use Rattle.std.specs.Prelude.{All, slice_index_or}
use Rattle.std.proofs.lemmas.List.{length-set}
use Rattle.std.proofs.lemmas.List.Elements.{All-push, All-weaker}
use mathlib.Core.Option as maybe
use lib.ListN.{get_elem?}
use Rattle.atomic_table.specs.Table.{State, Act, step, keeps, Allows, Valid, carried_after, homes_after}
use Rattle.ov_peer.specs.Tells.{AnswererTells}
use Rattle.ov_turn.specs.declared.view.Entry.{Entry}
use Rattle.ov_turn.specs.declared.view.Knowledge.{Knowledge}
use Rattle.ov_turn.specs.declared.view.Stage.TheVariants.{Serving}
use Rattle.ov_turn.specs.declared.view.View.{View}
use Rattle.ov_turn.specs.Logs.{GoesOnFrom, IsNumbered, entry, epoch_after}
use Rattle.ov_turn.specs.Rule.{HasTicket, HasValue, IsAtStage, IsKept, IsSeat, IsSpentAt, KnowsFailure, draws_of, parts_of, tickets_at, tickets_of, unused_call}
use Rattle.ov_turn.specs.Steps.{Raises, SeatState}
use Rattle.ov_turn.specs.Views.{raised, spent}
use Rattle.ov_turn.proofs.Lists.{at_inside, begins_self, goes_on_push, numbered_push, total_set}
use Rattle.ov_turn.proofs.Seats.{busy, next_state, no_value, not_spent, same_ticket, seats_stay, set_there, spent_stays}
use Rattle.ov_turn.proofs.Stages.{has_between, others_stay}

module _ {A : Type 0} (tells : AnswererTells A) (start : A) (passes : ℕ) where
  abbrev Rule : State A (View A) → Type 0
  Rule = IsKept tells start passes

  abbrev Sat : State A (View A) → ℕ → ℕ → List Entry → ℕ → View A → Type 0
  Sat s served next log = IsSeat tells start passes served next log s.homes s.views

  -- what was taken in goes on, since its passes ask no more
  taken_in_stays : (views : List (View A)) (id : ℕ) (v w : View A) (log : List Entry) (e : Entry)
      → get_elem? views id ≡ maybe.some v → 0 < v.parts → e.pass ≡ id → (ks : List Knowledge)
      → All (λ k. k.failed ≡ true → ⊥) ks
      → All (λ k. GoesOnFrom tells start k log × IsSpentAt views k.number) ks
      → All (λ k. GoesOnFrom tells start k (log ++ e ∷ []) × IsSpentAt (set views id w) k.number) ks
  taken_in_stays views id v w log e at some_parts is ks sound h = λ i d lt.
      let k : Knowledge = slice_index_or ks i d in
      let p = h i d lt in (
        goes_on_push tells start k log e
            (λ same. not_spent v some_parts (maybe.some-injective v spent
            (sym at ∙ (ap (get_elem? views) (sym is ∙ same) ∙ p.1))))
            (sound i d lt)
            p.0,
        spent_stays views id v w at some_parts k.number p.1,
      )

  module _ (s : State A (View A)) (r : Rule s) (id : ℕ) (v : View A) (t : ℕ) (u : List ℕ)
      (at : get_elem? s.views id ≡ maybe.some v) (serves : v.stage ≡ Serving t)
      (q : Sat s r.served r.next r.log id v) (sound : v.stuck ≡ false) where
    abbrev asked : Entry
    asked = entry v.knowledge.number v.calls u

    abbrev log' : List Entry
    log' = r.log ++ asked ∷ []

    abbrev w : View A
    w = raised v t u

    stage : IsAtStage r.served r.next r.log s.homes v (Serving t)
    stage = subst (IsAtStage r.served r.next r.log s.homes v) serves q.staged

    -- no pass was told that the disk failed in an update
    not_stuck : r.stuck ≡ true → ⊥
    not_stuck stuck =
        let has : HasValue v.stage = subst HasValue (sym serves) tt in
        true≢false (sym stuck ∙ sym ((r.failures id v at).held has) ∙ sound)

    none_failed : (ks : List Knowledge) → All (λ k. k.failed ≡ true → r.stuck ≡ true) ks
        → All (λ k. k.failed ≡ true → ⊥) ks
    none_failed ks h = λ i d lt failed. not_stuck (h i d lt failed)

    earlier : All (λ (e : Entry). e.pass ≡ id → e.call < v.calls) r.log
    earlier =
        subst (λ st. All (λ (e : Entry). e.pass ≡ id → e.call < unused_call st v.calls) r.log)
        serves q.numbered

    raised_known : GoesOnFrom tells start w.knowledge log'
    raised_known =
        let told = q.known.2 in
        let long = length-append r.log (asked ∷ []) in
        let same : v.base ++ asked ∷ [] ≡ log' = ap (λ l. l ++ asked ∷ []) stage.2 in
        subst (λ (l : List Entry). GoesOnFrom tells start (record v.knowledge { seen = l }) log')
        (sym same) (begins_self log', refl, omega arith, λ failed. refl)

    raised_seat : Sat (next_state 0 0 0 s.homes (set s.views id w)) r.served r.next log' id w
    raised_seat = record {
      live = q.live;
      begun = q.begun;
      named = q.named;
      called = q.called;
      staged = (stage.0, stage.1, ap (λ l. l ++ asked ∷ []) stage.2, stage.3);
      known = raised_known;
      numbered = All-push (λ (e : Entry). e.pass ≡ id → e.call < v.calls + 1) r.log asked
          (All-weaker (λ (e : Entry). e.pass ≡ id → e.call < v.calls)
          (λ e. e.pass ≡ id → e.call < v.calls + 1)
          (λ e less is. let l = less is in omega arith) r.log earlier)
          (λ _. omega arith);
      last = λ many none.
          (let l = q.last many none in (l.0 ∙ sym (length-set s.views id w), l.1));
      taken_in =
          taken_in_stays s.views id v w r.log asked at q.live q.named v.taken_in
          (none_failed v.taken_in (r.failures id v at).taken_in) q.taken_in;
    }

    -- the other seats
    other_seat : (j : ℕ) (d : View A) → j ≢ id → get_elem? s.views j ≡ maybe.some d
        → Sat s r.served r.next r.log j d
        → Sat (next_state 0 0 0 s.homes (set s.views id w)) r.served r.next log' j d
    other_seat j d ne e p =
        let mine : HasTicket r.served v.stage =
        subst (HasTicket r.served) (sym serves) (sym stage.0) in
        record {
          live = p.live;
          begun = p.begun;
          named = p.named;
          called = p.called;
          staged = others_stay r.served r.served r.next r.log log' s.homes s.homes d d.stage
              (λ t' h. (has_between r.served r.next r.log s.homes d d.stage t' p.staged h).0)
              (no_value tells start passes s r id v at mine j d ne e p) p.staged;
          known = goes_on_push tells start d.knowledge r.log asked
              (λ same. ne (sym (sym q.named ∙ (same ∙ p.named))))
              (λ failed. not_stuck ((r.failures j d e).own failed)) p.known;
          numbered = All-push
              (λ (f : Entry). f.pass ≡ j → f.call < unused_call d.stage d.calls) r.log asked
              p.numbered (λ same. absurd (ne (sym (sym q.named ∙ same))));
          last = λ many none.
              (let l = p.last many none in (l.0 ∙ sym (length-set s.views id w), l.1));
          taken_in =
              taken_in_stays s.views id v w r.log asked at q.live q.named d.taken_in
              (none_failed d.taken_in (r.failures j d e).taken_in) p.taken_in;
        }

    raised_state : epoch_after tells start v.base + 1 < 4294967296
        → Rule (next_state r.next r.served (epoch_after tells start log') s.homes
        (set s.views id w))
    raised_state small =
        let more = total_set tickets_of s.views id v w at in
        let uses = total_set draws_of s.views id v w at in
        let parts = total_set parts_of s.views id v w at in
        let one : tickets_at v.stage ≡ 1 = ap tickets_at serves in
        let sum = r.tickets in
        let before = r.drawn in
        let whole = r.whole in
        let inside = at_inside s.views id v at in
        let named = q.named in
        let long : length (set s.views id w) ≡ length s.views = length-set s.views id w in
        let longer : length log' ≡ length r.log + 1 = length-append r.log (asked ∷ []) in
        let same : length v.base ≡ length r.log = ap length stage.2 in
        let f = r.failures id v at in
        let knows : KnowsFailure r.stuck w = record {
          own = f.own;
          taken_in = f.taken_in;
          held = λ _. f.held (subst HasValue (sym serves) tt);
        } in
        record {
          next = r.next;
          served = r.served;
          log = log';
          stuck = r.stuck;
          words = refl;
          small = omega arith;
          tickets = omega arith;
          drawn = omega arith;
          few = r.few;
          whole = omega arith;
          known = (let a = r.known in omega arith);
          value = inr (id, w, stage.3, set_there s.views id v w at, tt);
          numbered = subst (λ n. IsNumbered n log') (sym long)
              (numbered_push (length s.views) r.log asked r.numbered (omega arith)
              (All-weaker (λ (e : Entry). e.pass ≡ id → e.call < v.calls)
              (λ e. e.pass ≡ v.knowledge.number → e.call < v.calls)
              (λ e less is. less (is ∙ named)) r.log earlier));
          seats = seats_stay
              (λ j d. (d ≡ spent)
              ⊎ Sat (next_state 0 0 0 s.homes (set s.views id w)) r.served r.next log' j d)
              s.views id w (inr raised_seat)
              (λ j d ne e. ⊎_elim (λ (p : d ≡ spent). inl p) (λ p. inr (other_seat j d ne e p))
              (r.seats j d e));
          tickets_differ = same_ticket tells start passes s r id v w at
              (λ t' h. subst (HasTicket t') (sym serves) h);
          failures = seats_stay (λ j d. KnowsFailure r.stuck d) s.views id w knows
              (λ j d ne e. r.failures j d e);
        }

  pub raises : (slots id : ℕ) (me : SeatState A) (t : ℕ) (u : List ℕ) → me.0.stage ≡ Serving t
      → epoch_after tells start me.0.base + 1 < 4294967296 → me.0.stuck ≡ false
      → Allows Rule slots id me 2 (λ n. (n + 1) % 18446744073709551616)
      (Raises u (step slots 2 1 0 maybe.none) me)
  raises slots id me t u serves small sound s r _ at _ =
      let P : List ℕ → Type 0 = λ ws.
      (v : View A) × (a : Act A) × Valid s.homes me.1 a
      × Rule record {
        words = set ws 2 ((get_or ws 2 0 + 1) % 18446744073709551616);
        homes = homes_after s.homes me.1 a;
        views = set s.views id v;
      }
      × Raises u (step slots 2 1 0 maybe.none) me (get_or ws 2 0) (v, carried_after me.1 a) in
      let one : tickets_at me.0.stage ≡ 1 = ap tickets_at serves in
      let q = busy tells start passes s r id me.0 at (omega arith) in
      let e : Entry = entry me.0.knowledge.number me.0.calls u in
      let longer = length-append r.log (e ∷ []) in
      let below = r.small in
      let next : (epoch_after tells start r.log + 1) % 18446744073709551616
      ≡ epoch_after tells start (r.log ++ e ∷ []) = omega arith in
      subst P (sym r.words) (
        raised me.0 t u,
        keeps,
        tt,
        subst (λ n. Rule (next_state r.next r.served n s.homes (set s.views id (raised me.0 t u))))
            (sym next) (raised_state s r id me.0 t u at serves q sound small),
        λ t' is. (ap (λ (z : ℕ). raised me.0 z u) (cc (serves, is)), refl),
      )
