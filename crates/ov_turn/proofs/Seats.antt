-- A step changes one seat, and what the others know stays.
use Rattle.std.proofs.Common.{◌≡◌, ◌≢◌, ℕ, zero, suc, ◌+◌, ◌*◌, ◌<◌, ◌≤◌, ◌⊎◌, Bool, List, [], ◌∷◌, length, set, refl, ap, sym, ◌∙◌, subst, inl, inr, ⊎_elim, arith}
use Rattle.std.proofs.lemmas.List.{length-set}
use Rattle.std.proofs.lemmas.List.Elements.{All-weaker}
use mathlib.Core.Logic.{dite}
use mathlib.Core.Option as maybe
use native.Mathlib.Decide.{ℕ_discrete}
use lib.ListN.{get_elem?}
use Rattle.atomic_table.specs.Table.{State}
use Rattle.atomic_table.proofs.Lists.{at_set, set_else}
use Rattle.ov_peer.specs.Tells.{AnswererTells}
use Rattle.ov_turn.specs.declared.view.Entry.{Entry}
use Rattle.ov_turn.specs.declared.view.Knowledge.{Knowledge}
use Rattle.ov_turn.specs.declared.view.View.{View}
use Rattle.ov_turn.specs.Logs.{GoesOnFrom, IsNumbered, epoch_after}
use Rattle.ov_turn.specs.Rule.{HasTicket, HasValue, HaveOwnTickets, IsAtHome, IsAtStage, IsKept, IsOut, IsSeat, IsSpentAt, KnowsFailure, draws_of, parts_of, tickets_at, tickets_of, total}
use Rattle.ov_turn.specs.Views.{spent}
use Rattle.ov_turn.proofs.Lists.{total_below, total_set}
use Rattle.ov_turn.proofs.Stages.{value_served}

module _ {A : Type 0} where
  -- the table with these words
  abbrev pub next_state : ℕ → ℕ → ℕ → List (maybe.Option A) → List (View A) → State A (View A)
  next_state n m e hs vs = record { words = n ∷ m ∷ e ∷ []; homes = hs; views = vs }

  -- a fact of each seat stays, where it holds of the one that changed
  pub seats_stay : (K : ℕ → View A → Type 0) (vs : List (View A)) (me : ℕ) (w : View A) → K me w
      → ((j : ℕ) (d : View A) → j ≢ me → get_elem? vs j ≡ maybe.some d → K j d)
      → (j : ℕ) (d : View A) → get_elem? (set vs me w) j ≡ maybe.some d → K j d
  seats_stay K vs me w mine others j d e = ⊎_elim
      (λ (t : (j ≡ me) × (w ≡ d)).
      subst (λ (x : ℕ × View A). K x.0 x.1) (λ i. (sym t.0 i, t.1 i)) mine)
      (λ (t : (j ≢ me) × (get_elem? vs j ≡ maybe.some d)). others j d t.0 t.1)
      (at_set vs me j w d e)

  -- the tickets stay different where the new one is nobody else's
  pub apart_stays : (vs : List (View A)) (me : ℕ) (w : View A) → HaveOwnTickets vs
      → ((t j : ℕ) (d : View A) → j ≢ me → get_elem? vs j ≡ maybe.some d
      → HasTicket t w.stage → HasTicket t d.stage → ⊥) → HaveOwnTickets (set vs me w)
  apart_stays vs me w old other i j v d t at_i at_j has_i has_j = ⊎_elim
      (λ (p : (i ≡ me) × (w ≡ v)). ⊎_elim
      (λ (q : (j ≡ me) × (w ≡ d)). p.0 ∙ sym q.0)
      (λ (q : (j ≢ me) × (get_elem? vs j ≡ maybe.some d)).
      absurd (other t j d q.0 q.1
      (subst (λ (z : View A). HasTicket t z.stage) (sym p.1) has_i) has_j))
      (at_set vs me j w d at_j))
      (λ (p : (i ≢ me) × (get_elem? vs i ≡ maybe.some v)). ⊎_elim
      (λ (q : (j ≡ me) × (w ≡ d)).
      absurd (other t i v p.0 p.1
      (subst (λ (z : View A). HasTicket t z.stage) (sym q.1) has_j) has_i))
      (λ (q : (j ≢ me) × (get_elem? vs j ≡ maybe.some d)).
      old i j v d t p.1 q.1 has_i has_j)
      (at_set vs me j w d at_j))
      (at_set vs me i w v at_i)

  pub set_there : (vs : List (View A)) (i : ℕ) (v w : View A) → get_elem? vs i ≡ maybe.some v
      → get_elem? (set vs i w) i ≡ maybe.some w
  set_there [] i v w e = absurd (maybe.some-ne-none v (sym e))
  set_there (x ∷ xs) zero v w e = refl
  set_there (x ∷ xs) (suc i) v w e = set_there xs i v w e

  -- a seat that stands for a pass isn't spent
  pub not_spent : (v : View A) → 0 < v.parts → v ≡ spent → ⊥
  not_spent v live is =
      let none : v.parts ≡ 0 = ap (λ (z : View A). z.parts) is in absurd (omega arith)

  -- a seat that was taken in stays so, where another one changes
  pub spent_stays : (vs : List (View A)) (me : ℕ) (v w : View A)
      → get_elem? vs me ≡ maybe.some v → 0 < v.parts
      → (n : ℕ) → IsSpentAt vs n → IsSpentAt (set vs me w) n
  spent_stays vs me v w at live n is =
      let other : n ≢ me = λ e. not_spent v live
      (maybe.some-injective v spent (sym at ∙ (ap (get_elem? vs) (sym e) ∙ is))) in
      set_else vs me n w other ∙ is

module _ {A : Type 0} (tells : AnswererTells A) (start : A) (passes : ℕ) where
  abbrev pub Sat : ℕ → ℕ → List Entry → State A (View A) → ℕ → View A → Type 0
  Sat served next log s = IsSeat tells start passes served next log s.homes s.views

  abbrev pub Rule : State A (View A) → Type 0
  Rule = IsKept tells start passes

  -- a seat that stands for a pass
  pub live : (s : State A (View A)) (r : Rule s) (id : ℕ) (v : View A)
      → get_elem? s.views id ≡ maybe.some v → 0 < v.parts → Sat r.served r.next r.log s id v
  live s r id v at some_parts =
      ⊎_elim (λ (e : v ≡ spent). absurd (not_spent v some_parts e)) (λ q. q) (r.seats id v at)

  -- a seat with a ticket
  pub busy : (s : State A (View A)) (r : Rule s) (id : ℕ) (v : View A)
      → get_elem? s.views id ≡ maybe.some v → 0 < tickets_at v.stage
      → Sat r.served r.next r.log s id v
  busy s r id v at one = ⊎_elim
      (λ (e : v ≡ spent).
      let none : tickets_at v.stage ≡ 0 = ap (λ (z : View A). tickets_at z.stage) e in
      absurd (omega arith))
      (λ q. q) (r.seats id v at)

  -- a seat keeps what it knows, where the updates are the same and no seat moves
  pub same_log : (s t : State A (View A)) (served next served' next' : ℕ) (log : List Entry) (j : ℕ)
      (d : View A) → Sat served next log s j d → IsAtStage served' next' log t.homes d d.stage
      → length t.views ≡ length s.views → ((n : ℕ) → IsSpentAt s.views n → IsSpentAt t.views n)
      → Sat served' next' log t j d
  same_log s t served next served' next' log j d q stage long gone = record {
    live = q.live;
    begun = q.begun;
    named = q.named;
    called = q.called;
    staged = stage;
    known = q.known;
    numbered = q.numbered;
    last = λ many none. (let l = q.last many none in (l.0 ∙ sym long, l.1));
    taken_in = All-weaker
        (λ (k : Knowledge). GoesOnFrom tells start k log × IsSpentAt s.views k.number)
        (λ k. GoesOnFrom tells start k log × IsSpentAt t.views k.number)
        (λ k p. (p.0, gone k.number p.1)) d.taken_in q.taken_in;
  }

  -- a step of a seat that accepts no update
  pub steps : (s : State A (View A)) (r : Rule s) (id : ℕ) (v w : View A)
      → get_elem? s.views id ≡ maybe.some v → 0 < v.parts → w.parts ≡ v.parts
      → (served next : ℕ) (homes : List (maybe.Option A)) (stuck : Bool)
      → served + total tickets_of (set s.views id w) ≡ next
      → next ≤ total draws_of (set s.views id w)
      → (IsAtHome tells start (next_state 0 0 0 homes (set s.views id w)) r.log stuck
      ⊎ IsOut (next_state 0 0 0 homes (set s.views id w)))
      → Sat served next r.log (next_state 0 0 0 homes (set s.views id w)) id w
      → ((j : ℕ) (d : View A) → j ≢ id → get_elem? s.views j ≡ maybe.some d
      → Sat r.served r.next r.log s j d → IsAtStage served next r.log homes d d.stage)
      → HaveOwnTickets (set s.views id w) → KnowsFailure stuck w
      → ((j : ℕ) (d : View A) → j ≢ id → get_elem? s.views j ≡ maybe.some d
      → KnowsFailure r.stuck d → KnowsFailure stuck d)
      → Rule (next_state next served (epoch_after tells start r.log) homes (set s.views id w))
  steps s r id v w at some_parts parts served next homes stuck tickets drawn value mine others
      apart knows known =
      let long : length (set s.views id w) ≡ length s.views = length-set s.views id w in
      let t : State A (View A) = next_state 0 0 0 homes (set s.views id w) in
      record {
        next = next;
        served = served;
        log = r.log;
        stuck = stuck;
        words = refl;
        small = r.small;
        tickets = tickets;
        drawn = drawn;
        few = r.few;
        whole =
            (let same = total_set parts_of s.views id v w at in let a = r.whole in omega arith);
        known = (let a = r.known in omega arith);
        value = value;
        numbered = subst (λ n. IsNumbered n r.log) (sym long) r.numbered;
        seats = seats_stay (λ j d. (d ≡ spent) ⊎ Sat served next r.log t j d) s.views id w
            (inr mine)
            (λ j d ne e. ⊎_elim (λ (p : d ≡ spent). inl p)
            (λ q. inr (same_log s t r.served r.next served next r.log j d q
            (others j d ne e q) long (spent_stays s.views id v w at some_parts)))
            (r.seats j d e));
        tickets_differ = apart;
        failures = seats_stay (λ j d. KnowsFailure stuck d) s.views id w knows
            (λ j d ne e. known j d ne e (r.failures j d e));
      }

  -- a seat beside the one whose ticket is served hasn't the value
  pub no_value : (s : State A (View A)) (r : Rule s) (id : ℕ) (v : View A)
      → get_elem? s.views id ≡ maybe.some v → HasTicket r.served v.stage
      → (j : ℕ) (d : View A) → j ≢ id → get_elem? s.views j ≡ maybe.some d
      → Sat r.served r.next r.log s j d → HasValue d.stage → ⊥
  no_value s r id v at mine j d other e q h =
      other (sym (r.tickets_differ id j v d r.served at e mine
      (value_served r.served r.next r.log s.homes d d.stage q.staged h)))

  -- and so hasn't any seat beside it, a spent one neither
  pub none_has_value : (s : State A (View A)) (r : Rule s) (id : ℕ) (v : View A)
      → get_elem? s.views id ≡ maybe.some v → HasTicket r.served v.stage
      → (j : ℕ) (d : View A) → j ≢ id → get_elem? s.views j ≡ maybe.some d
      → HasValue d.stage → ⊥
  none_has_value s r id v at mine j d other e h = ⊎_elim
      (λ (p : d ≡ spent). subst (λ (z : View A). HasValue z.stage) p h)
      (λ (q : Sat r.served r.next r.log s j d). no_value s r id v at mine j d other e q h)
      (r.seats j d e)

  -- the tickets stay different where the seat keeps its own
  pub same_ticket : (s : State A (View A)) (r : Rule s) (id : ℕ) (v w : View A)
      → get_elem? s.views id ≡ maybe.some v
      → ((t : ℕ) → HasTicket t w.stage → HasTicket t v.stage)
      → HaveOwnTickets (set s.views id w)
  same_ticket s r id v w at same = apart_stays s.views id w r.tickets_differ
      (λ t j d other e mine theirs.
      other (sym (r.tickets_differ id j v d t at e (same t mine) theirs)))

  -- so many tickets aren't drawn that their count would come round
  pub next_small : (s : State A (View A)) (r : Rule s) → r.next ≤ 281474976645120
  next_small s r =
      let uses : total draws_of s.views ≤ 4294967295 * total parts_of s.views =
      total_below draws_of parts_of 4294967295 s.views
      (λ i v e. ⊎_elim (λ (p : v ≡ spent). none v p)
      (λ (q : Sat r.served r.next r.log s i v). q.called) (r.seats i v e)) in
      let whole = r.whole in
      let few = r.few in
      let drawn = r.drawn in
      omega arith
    where
      none : (v : View A) → v ≡ spent → draws_of v ≤ 4294967295 * v.parts
      none v is =
          let a : draws_of v ≡ 0 = ap draws_of is in
          let b : v.parts ≡ 0 = ap (λ (z : View A). z.parts) is in omega arith

  -- whoever has the value has it still, where a seat without it changes
  pub out_elsewhere : (s : State A (View A)) (id : ℕ) (v w : View A) (views : List (View A))
      → get_elem? s.views id ≡ maybe.some v → (HasValue v.stage → ⊥)
      → views ≡ set s.views id w → IsOut s → IsOut (next_state 0 0 0 s.homes views)
  out_elsewhere s id v w views at not is out =
      let holder : ℕ = out.0 in
      let there = out.3 in
      let other : holder ≢ id = λ e. not (subst (λ (z : View A). HasValue z.stage)
      (maybe.some-injective out.1 v (sym there ∙ (ap (get_elem? s.views) e ∙ at))) out.4) in (
        holder,
        out.1,
        out.2,
        ap (λ (l : List (View A)). get_elem? l holder) is
            ∙ (set_else s.views id holder w other ∙ there),
        out.4,
      )

  -- and where a seat keeps its stage
  pub out_told : (s : State A (View A)) (id : ℕ) (v w : View A)
      → get_elem? s.views id ≡ maybe.some v → w.stage ≡ v.stage → IsOut s
      → IsOut (next_state 0 0 0 s.homes (set s.views id w))
  out_told s id v w at same out = dite (ℕ_discrete out.0 id)
      (λ here.
      let one : out.1 ≡ v = maybe.some-injective out.1 v
      (sym out.3 ∙ (ap (get_elem? s.views) here ∙ at)) in (
        id,
        w,
        out.2,
        set_there s.views id v w at,
        subst HasValue (sym same) (subst (λ (z : View A). HasValue z.stage) one out.4),
      ))
      (λ other.
      (out.0, out.1, out.2, set_else s.views id out.0 w other ∙ out.3, out.4))
