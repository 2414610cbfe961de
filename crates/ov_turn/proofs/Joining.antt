-- Taking a seat in keeps the rule of turns.
use Rattle.std.proofs.Common.{◌≡◌, ◌≢◌, ℕ, ◌<◌, ◌⊎◌, List, length, set, true, refl, ap, sym, ◌∙◌, subst, inl, inr, ⊎_elim, arith, true≢false}
use Rattle.std.specs.Prelude.{All}
use Rattle.std.proofs.lemmas.List.{length-set}
use Rattle.std.proofs.lemmas.List.Elements.{All-cons, All-nil, All-weaker}
use mathlib.Core.Option as maybe
use lib.ListN.{get_elem?}
use Rattle.atomic_table.specs.Table.{State, Joins}
use Rattle.atomic_table.proofs.Lists.{set_else}
use Rattle.ov_peer.specs.Tells.{AnswererTells}
use Rattle.ov_turn.specs.declared.view.Knowledge.{Knowledge}
use Rattle.ov_turn.specs.declared.view.Stage.TheVariants.{Idle}
use Rattle.ov_turn.specs.declared.view.View.{View}
use Rattle.ov_turn.specs.Logs.{GoesOnFrom, IsNumbered}
use Rattle.ov_turn.specs.Rule.{HasValue, IsAtHome, IsAtStage, IsKept, IsOut, IsSeat, IsSpentAt, KnowsFailure, draws_of, parts_of, tickets_at, tickets_of}
use Rattle.ov_turn.specs.Views.{joined, spent}
use Rattle.ov_turn.proofs.Lists.{total_set}
use Rattle.ov_turn.proofs.Seats.{apart_stays, live, next_state, out_elsewhere, same_ticket, seats_stay, set_there, spent_stays}

module _ {A : Type 0} (tells : AnswererTells A) (start : A) (passes : ℕ) where
  abbrev Rule : State A (View A) → Type 0
  Rule = IsKept tells start passes

  module _ (s : State A (View A)) (r : Rule s) (id other : ℕ) (v w : View A)
      (at : get_elem? s.views id ≡ maybe.some v) (apart : other ≢ id)
      (there : get_elem? (set s.views id (joined v w)) other ≡ maybe.some w)
      (idle : v.stage ≡ Idle) (idle' : w.stage ≡ Idle) (live_v : 0 < v.parts) (live_w : 0 < w.parts)
    where
      abbrev both : View A
      both = joined v w

      abbrev vs : List (View A)
      vs = set s.views id both

      abbrev us : List (View A)
      us = set vs other spent

      abbrev Seat : ℕ → View A → Type 0
      Seat = IsSeat tells start passes r.served r.next r.log s.homes us

      at' : get_elem? s.views other ≡ maybe.some w
      at' = sym (set_else s.views id other both apart) ∙ there

      mine : IsSeat tells start passes r.served r.next r.log s.homes s.views id v
      mine = live tells start passes s r id v at live_v

      theirs : IsSeat tells start passes r.served r.next r.log s.homes s.views other w
      theirs = live tells start passes s r other w at' live_w

      long : length us ≡ length s.views
      long = length-set vs other spent ∙ length-set s.views id both

      gone : (k : ℕ) → IsSpentAt s.views k → IsSpentAt us k
      gone k is = spent_stays vs other w spent there live_w k
          (spent_stays s.views id v both at live_v k is)

      gone_now : IsSpentAt us other
      gone_now = set_there vs other w spent there

      kept : (ks : List Knowledge)
          → All (λ k. GoesOnFrom tells start k r.log × IsSpentAt s.views k.number) ks
          → All (λ k. GoesOnFrom tells start k r.log × IsSpentAt us k.number) ks
      kept ks h = All-weaker
          (λ (k : Knowledge). GoesOnFrom tells start k r.log × IsSpentAt s.views k.number)
          (λ k. GoesOnFrom tells start k r.log × IsSpentAt us k.number)
          (λ k p. (p.0, gone k.number p.1)) ks h

      joined_seat : Seat id both
      joined_seat =
          let bound = mine.called in
          let bound' = theirs.called in
          record {
            live = omega arith;
            begun = mine.begun;
            named = mine.named;
            called = omega arith;
            staged = subst (λ st. IsAtStage r.served r.next r.log s.homes both st) (sym idle) tt;
            known = mine.known;
            numbered = mine.numbered;
            last = λ many none. absurd
                (let l : length both.taken_in ≡ 0 = ap length none in omega arith);
            taken_in = All-cons
                (λ (k : Knowledge). GoesOnFrom tells start k r.log × IsSpentAt us k.number)
                w.knowledge v.taken_in
                (theirs.known, subst (λ k. IsSpentAt us k) (sym theirs.named) gone_now)
                (kept v.taken_in mine.taken_in);
          }

      third_seat : (j : ℕ) (d : View A)
          → IsSeat tells start passes r.served r.next r.log s.homes s.views j d → Seat j d
      third_seat j d q = record {
        live = q.live;
        begun = q.begun;
        named = q.named;
        called = q.called;
        staged = q.staged;
        known = q.known;
        numbered = q.numbered;
        last = λ many none. (let l = q.last many none in (l.0 ∙ sym long, l.1));
        taken_in = kept d.taken_in q.taken_in;
      }

      knows_both : KnowsFailure r.stuck both
      knows_both =
          let f = r.failures id v at in
          let k = r.failures other w at' in
          record {
            own = f.own;
            taken_in = All-cons (λ (x : Knowledge). x.failed ≡ true → r.stuck ≡ true) w.knowledge
                v.taken_in k.own f.taken_in;
            held = λ h. absurd (subst HasValue idle h);
          }

      knows_spent : KnowsFailure {A = A} r.stuck spent
      knows_spent = record {
        own = λ failed. absurd (true≢false (sym failed));
        taken_in = All-nil (λ (x : Knowledge). x.failed ≡ true → r.stuck ≡ true);
        held = λ h. absurd h;
      }

      joined_state : Rule record { words = s.words; homes = s.homes; views = us }
      joined_state =
          let tickets = total_set tickets_of s.views id v both at in
          let tickets' = total_set tickets_of vs other w spent there in
          let draws = total_set draws_of s.views id v both at in
          let draws' = total_set draws_of vs other w spent there in
          let parts = total_set parts_of s.views id v both at in
          let parts' = total_set parts_of vs other w spent there in
          let none : tickets_at v.stage ≡ 0 = ap tickets_at idle in
          let none' : tickets_at w.stage ≡ 0 = ap tickets_at idle' in
          let sum = r.tickets in
          let drawn = r.drawn in
          let whole = r.whole in
          let l = long in
          let a = r.known in
          record {
            next = r.next;
            served = r.served;
            log = r.log;
            stuck = r.stuck;
            words = r.words;
            small = r.small;
            tickets = omega arith;
            drawn = omega arith;
            few = r.few;
            whole = omega arith;
            known = omega arith;
            value = ⊎_elim (λ (h : IsAtHome tells start s r.log r.stuck). inl h)
                (λ (o : IsOut s). inr
                (out_elsewhere tells start passes (next_state 0 0 0 s.homes vs) other w spent us
                there (λ h. subst HasValue idle' h) refl
                (out_elsewhere tells start passes s id v both vs at
                (λ h. subst HasValue idle h) refl o)))
                r.value;
            numbered = subst (λ n. IsNumbered n r.log) (sym l) r.numbered;
            seats = seats_stay (λ j d. (d ≡ spent) ⊎ Seat j d) vs other spent (inl refl)
                (λ j d _ e. seats_stay (λ j d. (d ≡ spent) ⊎ Seat j d) s.views id both
                (inr joined_seat)
                (λ i x _ f. ⊎_elim (λ (p : x ≡ spent). inl p) (λ q. inr (third_seat i x q))
                (r.seats i x f))
                j d e);
            tickets_differ = apart_stays vs other spent
                (same_ticket tells start passes s r id v both at (λ t h. h))
                (λ t j d ne e has _. absurd has);
            failures = seats_stay (λ j d. KnowsFailure r.stuck d) vs other spent knows_spent
                (λ j d _ e. seats_stay (λ j d. KnowsFailure r.stuck d) s.views id both knows_both
                (λ i x _ f. r.failures i x f) j d e);
          }

  pub joins : (id : ℕ) (v : View A) (other : ℕ) (w : View A) → v.stage ≡ Idle → w.stage ≡ Idle
      → 0 < v.parts → 0 < w.parts → Joins Rule id v other w (joined v w) spent
  joins id v other w idle idle' live_v live_w s r at apart there =
      joined_state s r id other v w at apart there idle idle' live_v live_w
