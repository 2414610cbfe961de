-- Cutting a seat in two keeps the rule of turns.
use Rattle.std.proofs.Common.{◌≡◌, ◌≢◌, ℕ, zero, suc, ◌+◌, ◌<◌, ◌⊎◌, List, [], ◌∷◌, ◌++◌, length, set, refl, ap, sym, subst, inl, inr, ⊎_elim, arith, length-append}
use Rattle.std.specs.Prelude.{All}
use Rattle.std.proofs.lemmas.List.{length-set}
use Rattle.std.proofs.lemmas.List.Elements.{All-weaker}
use mathlib.Core.Option as maybe
use lib.ListN.{get_elem?}
use Rattle.atomic_table.specs.Table.{State, Splits}
use Rattle.atomic_table.proofs.Lists.{at_longer, at_snoc}
use Rattle.ov_peer.specs.Tells.{AnswererTells}
use Rattle.ov_turn.specs.declared.view.Entry.{Entry}
use Rattle.ov_turn.specs.declared.view.Knowledge.{Knowledge}
use Rattle.ov_turn.specs.declared.view.View.{View}
use Rattle.ov_turn.specs.Logs.{GoesOnFrom}
use Rattle.ov_turn.specs.Rule.{HasTicket, HaveOwnTickets, IsAtHome, IsKept, IsOut, IsSeat, IsSpentAt, KnowsFailure, draws_of, parts_of, tickets_of}
use Rattle.ov_turn.specs.Steps.{IsUnasked, SeatState}
use Rattle.ov_turn.specs.Views.{first_part, opened, other_parts, spent}
use Rattle.ov_turn.proofs.Lists.{own_of_later, total_push, total_set}
use Rattle.ov_turn.proofs.Seats.{live, out_elsewhere, same_ticket, seats_stay, spent_stays}

-- a fact of each seat, the new one included
seats_more : {X : Type 0} (K : ℕ → X → Type 0) (vs : List X) (a : X) → K (length vs) a
    → ((j : ℕ) (d : X) → get_elem? vs j ≡ maybe.some d → K j d)
    → (j : ℕ) (d : X) → get_elem? (vs ++ a ∷ []) j ≡ maybe.some d → K j d
seats_more K [] a mine others zero d e = subst (K 0) (maybe.some-injective a d e) mine
seats_more K [] a mine others (suc j) d e = absurd (maybe.some-ne-none d (sym e))
seats_more K (v ∷ vs) a mine others zero d e = others zero d e
seats_more K (v ∷ vs) a mine others (suc j) d e =
    seats_more (λ i x. K (suc i) x) vs a mine (λ i x f. others (suc i) x f) j d e

module _ {A : Type 0} (tells : AnswererTells A) (start : A) (passes : ℕ) where
  abbrev Rule : State A (View A) → Type 0
  Rule = IsKept tells start passes

  module _ (s : State A (View A)) (r : Rule s) (id n parts : ℕ)
      (at : get_elem? s.views id ≡ maybe.some (opened tells start n parts)) (some : 1 < parts) where
    abbrev v : View A
    v = opened tells start n parts

    abbrev one : View A
    one = first_part v

    abbrev others : View A
    others = other_parts v

    abbrev cut : List (View A)
    cut = set s.views id one ++ others ∷ []

    abbrev Seat : ℕ → View A → Type 0
    Seat = IsSeat tells start passes r.served r.next r.log s.homes cut

    mine : IsSeat tells start passes r.served r.next r.log s.homes s.views id v
    mine = live tells start passes s r id v at (omega arith)

    long : length cut ≡ length s.views + 1
    long =
        let a = length-append (set s.views id one) (others ∷ []) in
        let b : length (set s.views id one) ≡ length s.views = length-set s.views id one in
        omega arith

    gone : (k : ℕ) → IsSpentAt s.views k → IsSpentAt cut k
    gone k is = at_longer (set s.views id one) (others ∷ []) k spent
        (spent_stays s.views id v one at (omega arith) k is)

    place : (n ≡ id) × (id + 1 ≡ length s.views) × (id + parts ≡ passes)
    place = let l = mine.last some refl in (mine.named, l.0, l.1)

    one_seat : Seat id one
    one_seat = record {
      live = omega arith;
      begun = refl;
      named = mine.named;
      called = omega arith;
      staged = tt;
      known = mine.known;
      numbered = mine.numbered;
      last = λ many _. absurd (omega arith);
      taken_in = λ k d lt. absurd (omega arith);
    }

    others_seat : Seat (length (set s.views id one)) others
    others_seat =
        let same : length (set s.views id one) ≡ length s.views = length-set s.views id one in
        let a = place.0 in
        let b = place.1 in
        let c = place.2 in
        let l = long in
        let new : n + 1 ≡ length s.views = omega arith in
        let below : All (λ (e : Entry). e.pass < n + 1) r.log =
        subst (λ m. All (λ (e : Entry). e.pass < m) r.log) (sym new) r.numbered.0 in
        record {
          live = omega arith;
          begun = refl;
          named = omega arith;
          called = omega arith;
          staged = tt;
          known = (mine.known.0, own_of_later (n + 1) r.log below, mine.known.2, mine.known.3);
          numbered = All-weaker (λ (e : Entry). e.pass < n + 1)
              (λ e. e.pass ≡ length (set s.views id one) → e.call < 1)
              (λ e less is. absurd (let m = less in omega arith)) r.log below;
          last = λ many _. (omega arith, omega arith);
          taken_in = λ k d lt. absurd (omega arith);
        }

    -- no other seat is the last one
    third_seat : (j : ℕ) (d : View A) → j ≢ id
        → IsSeat tells start passes r.served r.next r.log s.homes s.views j d → Seat j d
    third_seat j d ne q = record {
      live = q.live;
      begun = q.begun;
      named = q.named;
      called = q.called;
      staged = q.staged;
      known = q.known;
      numbered = q.numbered;
      last = λ many none. absurd
          (let l = (q.last many none).0 in let m = place.1 in ne (omega arith));
      taken_in = All-weaker
          (λ (k : Knowledge). GoesOnFrom tells start k r.log × IsSpentAt s.views k.number)
          (λ k. GoesOnFrom tells start k r.log × IsSpentAt cut k.number)
          (λ k p. (p.0, gone k.number p.1)) d.taken_in q.taken_in;
    }

    tickets_apart : HaveOwnTickets cut
    tickets_apart i j x y t at_i at_j has_i has_j =
        let vs : List (View A) = set s.views id one in
        ⊎_elim
        (λ (p : get_elem? vs i ≡ maybe.some x). ⊎_elim
        (λ (q : get_elem? vs j ≡ maybe.some y).
        same_ticket tells start passes s r id v one at (λ t' h. h) i j x y t p q has_i
        has_j)
        (λ (q : others ≡ y).
        absurd (subst (λ (z : View A). HasTicket t z.stage) (sym q) has_j))
        (at_snoc vs others y j at_j))
        (λ (p : others ≡ x).
        absurd (subst (λ (z : View A). HasTicket t z.stage) (sym p) has_i))
        (at_snoc vs others x i at_i)

    cut_state : Rule record { words = s.words; homes = s.homes; views = cut }
    cut_state =
        let vs : List (View A) = set s.views id one in
        let tickets = total_set tickets_of s.views id v one at in
        let tickets' = total_push tickets_of vs others in
        let draws = total_set draws_of s.views id v one at in
        let draws' = total_push draws_of vs others in
        let parts_one = total_set parts_of s.views id v one at in
        let parts' = total_push parts_of vs others in
        let sum = r.tickets in
        let drawn = r.drawn in
        let whole = r.whole in
        let l = long in
        let a = place.1 in
        let b = place.2 in
        let f = r.failures id v at in
        let knows_one : KnowsFailure r.stuck one =
        record { own = f.own; taken_in = f.taken_in; held = λ h. absurd h } in
        let knows_others : KnowsFailure r.stuck others =
        record { own = f.own; taken_in = f.taken_in; held = λ h. absurd h } in
        record {
          next = r.next;
          served = r.served;
          log = r.log;
          stuck = r.stuck;
          words = r.words;
          small = r.small;
          tickets = omega arith;
          drawn = omega arith;
          few = r.few;
          whole = omega arith;
          known = omega arith;
          value = ⊎_elim (λ (h : IsAtHome tells start s r.log r.stuck). inl h)
              (λ (o : IsOut s).
              let p = out_elsewhere tells start passes s id v one vs at (λ h. h) refl o in
              inr (p.0, p.1, p.2, at_longer vs (others ∷ []) p.0 p.1 p.3, p.4))
              r.value;
          numbered = (
            All-weaker (λ (e : Entry). e.pass < length s.views) (λ e. e.pass < length cut)
                (λ e less. let m = less in omega arith) r.log r.numbered.0,
            r.numbered.1,
          );
          seats = seats_more (λ j d. (d ≡ spent) ⊎ Seat j d) vs others (inr others_seat)
              (seats_stay (λ j d. (d ≡ spent) ⊎ Seat j d) s.views id one (inr one_seat)
              (λ j d ne e. ⊎_elim (λ (p : d ≡ spent). inl p)
              (λ q. inr (third_seat j d ne q)) (r.seats j d e)));
          tickets_differ = tickets_apart;
          failures = seats_more (λ j d. KnowsFailure r.stuck d) vs others knows_others
              (seats_stay (λ j d. KnowsFailure r.stuck d) s.views id one knows_one
              (λ j d ne e. r.failures j d e));
        }

  pub cuts : (id : ℕ) (m : SeatState A) → IsUnasked tells start m → 1 < m.0.parts
      → Splits Rule id m.0 (first_part m.0) (other_parts m.0)
  cuts id m unasked some =
      let is : m.0 ≡ opened tells start m.0.knowledge.number m.0.parts =
      ap (λ n. n.0) unasked in
      subst (λ (z : View A). Splits Rule id z (first_part z) (other_parts z)) (sym is)
      (λ s r at. cut_state s r id m.0.knowledge.number m.0.parts at some)
