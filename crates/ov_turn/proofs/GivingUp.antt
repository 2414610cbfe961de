-- The value comes back for a seat that took all others in.
use Rattle.std.proofs.Common.{◌≡◌, ℕ, ◌<◌, true, List, length, ap, sym, ◌∙◌, subst, ⊎_elim, arith}
use Rattle.std.proofs.lemmas.List.Elements.{All-weaker}
use mathlib.Core.Logic.{dite}
use mathlib.Core.Option as maybe
use native.Mathlib.Decide.{ℕ_discrete}
use lib.ListN.{get_elem?}
use Rattle.atomic_table.specs.Table.{State}
use Rattle.ov_peer.specs.Tells.{AnswererTells}
use Rattle.ov_turn.specs.declared.view.Entry.{Entry}
use Rattle.ov_turn.specs.declared.view.Knowledge.{Knowledge}
use Rattle.ov_turn.specs.declared.view.Stage.TheVariants.{Idle}
use Rattle.ov_turn.specs.declared.view.View.{View}
use Rattle.ov_turn.specs.Logs.{GoesOnFrom, LeavesStuck, spellings}
use Rattle.ov_turn.specs.Rule.{HasValue, IsAtHome, IsKept, IsOut, IsSeat, IsSpentAt, parts_of}
use Rattle.ov_turn.specs.Steps.{GivesUp}
use Rattle.ov_turn.specs.Views.{spent}
use Rattle.ov_turn.proofs.Lists.{total_two}
use Rattle.ov_turn.proofs.Seats.{live}

module _ {A : Type 0} (tells : AnswererTells A) (start : A) (passes : ℕ) where
  abbrev Rule : State A (View A) → Type 0
  Rule = IsKept tells start passes

  -- where one seat stands for every pass, no other has a ticket: the value is at home
  closes : (s : State A (View A)) (r : Rule s) (id : ℕ) (v : View A)
      → get_elem? s.views id ≡ maybe.some v → v.stage ≡ Idle → v.parts ≡ passes
      → IsAtHome tells start s r.log r.stuck
  closes s r id v at idle whole = ⊎_elim (λ (h : IsAtHome tells start s r.log r.stuck). h)
      (λ (o : IsOut s). absurd (dite (ℕ_discrete o.0 id)
      (λ here. subst HasValue idle (subst (λ (z : View A). HasValue z.stage)
      (maybe.some-injective o.1 v (sym o.3 ∙ (ap (get_elem? s.views) here ∙ at))) o.4))
      (λ other. ⊎_elim
      (λ (p : o.1 ≡ spent). subst (λ (z : View A). HasValue z.stage) p o.4)
      (λ (q : IsSeat tells start passes r.served r.next r.log s.homes s.views o.0 o.1).
      let some = q.live in
      let two = total_two parts_of s.views o.0 id o.1 v other o.3 at in
      let all = r.whole in
      absurd (omega arith))
      (r.seats o.0 o.1 o.3))))
      r.value

  -- what is known of the value that comes back
  pub gives_up : (s : State A (View A)) (r : Rule s) (id : ℕ) (v : View A) (y : A)
      → get_elem? s.views id ≡ maybe.some v → v.stage ≡ Idle → 0 < v.parts → v.parts ≡ passes
      → ((z : A) → get_elem? s.homes 0 ≡ maybe.some (maybe.some z) → z ≡ y)
      → GivesUp tells start passes v y
  gives_up s r id v y at idle some whole out =
      let home = closes s r id v at idle whole in
      let same : home.0 ≡ y =
      out home.0 (ap (λ (hs : List (maybe.Option A)). get_elem? hs 0) home.1) in
      let q = live tells start passes s r id v at some in
      let f = r.failures id v at in
      let sticks : r.stuck ≡ true → tells.stuck y = λ is. subst tells.stuck same (home.3 is) in
      let few = r.known in (
        r.log,
        subst (λ (z : A). tells.reached start (spellings r.log) z) same home.2,
        (
          All-weaker (λ (e : Entry). e.pass < length s.views) (λ e. e.pass < passes)
              (λ e less. let m = less in omega arith) r.log r.numbered.0,
          r.numbered.1,
        ),
        q.known,
        All-weaker
            (λ (k : Knowledge). GoesOnFrom tells start k r.log × IsSpentAt s.views k.number)
            (λ k. GoesOnFrom tells start k r.log) (λ k p. p.0) v.taken_in q.taken_in,
        λ is. sticks (f.own is),
        All-weaker (λ (k : Knowledge). k.failed ≡ true → r.stuck ≡ true) (LeavesStuck tells y)
            (λ k p is. sticks (p is)) v.taken_in f.taken_in,
      )
