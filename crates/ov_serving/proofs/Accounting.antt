-- The list of accepted updates has, of each pass, what the sessions by it accepted.
use Rattle.std.proofs.Common.{◌≡◌, ◌≢◌, ◌∙◌, ℕ, zero, suc, ◌+◌, ◌<◌, ◌≤◌, List, [], ◌∷◌, ◌++◌, refl, sym, ap, subst, length, append-nil, append_assoc, arith, Bool, true, false, cond}
use Rattle.std.specs.Prelude.{All, nat_lt, slice_index_or, ◌==◌}
use Rattle.std.specs.List.{sum_by}
use Rattle.std.specs.List.Sorted.{IsPermutation}
use Rattle.std.proofs.lemmas.Bool.Decides.{nat_tests}
use Rattle.std.proofs.lemmas.List.Elements.{All-cons, All-head, All-nil, All-tail, All-weaker, filter-append}
use Rattle.std.proofs.lemmas.List.Sorted.{All-permutation, sum_by-IsPermutation}
use Rattle.std.proofs.lemmas.List.Sums.{sum_by-cons}
use mathlib.Core.Logic.{dite}
use native.Mathlib.Decide.{ℕ_discrete}
use Rattle.ov_io.specs.Tells.{SinkTells, SourceTells}
use Rattle.ov_peer.specs.Tells.{AnswererTells}
use Rattle.ov_turn.specs.declared.view.Entry.{Entry}
use Rattle.ov_turn.specs.Logs.{GoesOnFrom, own}
use Rattle.ov_turn.specs.Passes.{AreFirst, PassState, SharedState}
use Rattle.ov_turn.proofs.Lists.{own_of_later}
use Rattle.ov_serving.specs.Accepted.{accepted_in_session, accepted_in_sessions, exchanges_in}
use Rattle.ov_serving.specs.AtOnce.{IsServed, LeadsPasses, PassSession}
use Rattle.ov_serving.specs.Laws.{LogIsWhatSessionsAccepted, SeesItsOwn}
use Rattle.ov_serving.specs.Sessions.{serves_by_pass}
use Rattle.ov_serving.proofs.Owning.{own_all, own_nothing, sees_its_own}

-- ---- how many passes have a number

module _ {V : Type 0} (k : ℕ) where
  abbrev has_number : PassState V → ℕ
  has_number p = cond (p.knowledge.number == k) 1 0

  abbrev count : List (PassState V) → ℕ
  count passes = sum_by has_number passes

  has_it : (p : PassState V) → p.knowledge.number ≡ k → has_number p ≡ 1
  has_it p same = by_test (p.knowledge.number == k) refl where
    by_test : (b : Bool) → (p.knowledge.number == k) ≡ b → has_number p ≡ 1
    by_test true is = rw is refl
    by_test false is = absurd (grind (arith, nat_tests))

  has_other : (p : PassState V) → p.knowledge.number ≢ k → has_number p ≡ 0
  has_other p other = by_test (p.knowledge.number == k) refl where
    by_test : (b : Bool) → (p.knowledge.number == k) ≡ b → has_number p ≡ 0
    by_test true is = absurd (other (grind (arith, nat_tests)))
    by_test false is = rw is refl

  none_has_it : (passes : List (PassState V)) → count passes ≡ 0
      → All (λ (p : PassState V). p.knowledge.number ≢ k) passes
  none_has_it [] none = All-nil (λ (p : PassState V). p.knowledge.number ≢ k)
  none_has_it (p ∷ ps) none =
      let sum = sum_by-cons has_number p ps in
      All-cons (λ (x : PassState V). x.knowledge.number ≢ k) p ps
      (λ same. let one = has_it p same in absurd (omega (arith, sum, one, none)))
      (none_has_it ps (omega (arith, sum, none)))

  -- the pass that has it
  the_one : (P : PassState V → Type 0) (R : Type 0) (passes : List (PassState V))
      → 0 < count passes → All P passes
      → ((p : PassState V) → p.knowledge.number ≡ k → P p → R) → R
  the_one P R [] some all then = absurd (omega (arith, some))
  the_one P R (p ∷ ps) some all then =
      dite (ℕ_discrete p.knowledge.number k)
      (λ same. then p same (All-head P p ps all))
      (λ other.
      let sum = sum_by-cons has_number p ps in
      let zero_here = has_other p other in
      the_one P R ps (omega (arith, sum, zero_here, some)) (All-tail P p ps all) then)

  record Counted (from : ℕ) (passes : List (PassState V)) : Type 0 where
    few : count passes ≤ 1
    some : from ≤ k → k < from + length passes → 0 < count passes
    none_before : k < from → count passes ≡ 0
    none_behind : from + length passes ≤ k → count passes ≡ 0

  -- passes that are numbered from here on
  counted : (from : ℕ) (passes : List (PassState V))
      → ((i : ℕ) (d : PassState V) → i < length passes
      → (slice_index_or passes i d).knowledge.number ≡ from + i)
      → Counted from passes
  counted from [] numbered = record {
    few = omega arith;
    some = λ low high. absurd (omega (arith, low, high));
    none_before = λ low. refl;
    none_behind = λ high. refl;
  }
  counted from (p ∷ ps) numbered =
      let sum = sum_by-cons has_number p ps in
      let here : p.knowledge.number ≡ from + 0 = numbered 0 p (omega arith) in
      let rest = counted (from + 1) ps
      (λ i d lt. let is = numbered (suc i) d (omega (arith, lt)) in omega (arith, is)) in
      dite (ℕ_discrete p.knowledge.number k)
      (λ same.
      let one = has_it p same in
      let nothing = rest.none_before (omega (arith, here, same)) in
      record {
        few = omega (arith, sum, one, nothing);
        some = λ low high. omega (arith, sum, one);
        none_before = λ low. absurd (omega (arith, here, same, low));
        none_behind = λ high. absurd (omega (arith, here, same, high));
      })
      (λ other.
      let nothing = has_other p other in
      let few = rest.few in
      let differs : from ≢ k = λ same. other (omega (arith, here, same)) in
      record {
        few = omega (arith, sum, nothing, few);
        some = λ low high.
            let inside = rest.some (omega (arith, low, differs)) (omega (arith, high)) in
            omega (arith, sum, nothing, inside);
        none_before = λ low.
            let outside = rest.none_before (omega (arith, low)) in
            omega (arith, sum, nothing, outside);
        none_behind = λ high.
            let outside = rest.none_behind (omega (arith, high)) in
            omega (arith, sum, nothing, outside);
      })

-- ---- sessions, and one number

module _ {V S : Type 0} (answerer : AnswererTells V) (source : SourceTells S) (sink : SinkTells S)
    (k : ℕ) where
  abbrev Before : List (PassState V) → List (PassSession (PassState V) S) → List (PassState V) → Type 0
  Before passes sessions after = LeadsPasses (serves_by_pass answerer source sink) passes sessions after

  -- the pass with the number has seen this as its own
  abbrev Sees : List Entry → PassState V → Type 0
  Sees list p = p.knowledge.number ≡ k → own k p.knowledge.seen ≡ list

  module _ (s : PassSession (PassState V) S)
      (served : IsServed (serves_by_pass answerer source sink) s)
      (others : List (PassState V)) where
    abbrev accepted : List Entry
    accepted = accepted_in_session answerer source sink s served

    sees : SeesItsOwn s.before s.after (exchanges_in answerer source sink s served)
    sees = sees_its_own answerer source sink s served

    same_count : count k (s.after ∷ others) ≡ count k (s.before ∷ others)
    same_count =
        let number : has_number k s.after ≡ has_number k s.before =
        ap (λ (n : ℕ). cond (n == k) 1 0) sees.number in
        let new = sum_by-cons (has_number k) s.after others in
        let old = sum_by-cons (has_number k) s.before others in
        omega (arith, number, new, old)

    none_of_others : s.before.knowledge.number ≢ k → own k accepted ≡ []
    none_of_others other =
        own_nothing k s.before.knowledge.number other s.before.calls
        (exchanges_in answerer source sink s served)

    sees_more : own s.before.knowledge.number s.after.knowledge.seen
        ≡ own s.before.knowledge.number s.before.knowledge.seen
        ++ own s.before.knowledge.number accepted
    sees_more =
        sees.seen
        ∙ ap (λ l. own s.before.knowledge.number s.before.knowledge.seen ++ l)
        (sym (own_all s.before.knowledge.number s.before.calls
        (exchanges_in answerer source sink s served)))

    sees_on : (list : List Entry) → count k (s.before ∷ others) ≤ 1
        → All (Sees list) (s.before ∷ others)
        → All (Sees (list ++ own k accepted)) (s.after ∷ others)
    sees_on list few all =
        dite (ℕ_discrete s.before.knowledge.number k)
        (λ same.
        let sum = sum_by-cons (has_number k) s.before others in
        let one = has_it k s.before same in
        All-cons (Sees (list ++ own k accepted)) s.after others
        (λ is.
        subst (λ (n : ℕ). own n s.after.knowledge.seen
        ≡ own n s.before.knowledge.seen ++ own n accepted) same sees_more
        ∙ ap (λ l. l ++ own k accepted) (All-head (Sees list) s.before others all same))
        (All-weaker (λ (p : PassState V). p.knowledge.number ≢ k) (Sees (list ++ own k accepted))
        (λ p other is. absurd (other is)) others
        (none_has_it k others (omega (arith, sum, one, few)))))
        (λ other.
        subst (λ (l : List Entry). All (Sees l) (s.after ∷ others))
        (sym (ap (λ l. list ++ l) (none_of_others other) ∙ append-nil list))
        (All-cons (Sees list) s.after others
        (λ is. absurd (other (sym sees.number ∙ is)))
        (All-tail (Sees list) s.before others all)))

  abbrev all_accepted : (passes : List (PassState V)) (sessions : List (PassSession (PassState V) S))
      (after : List (PassState V)) → Before passes sessions after → List Entry
  all_accepted = accepted_in_sessions answerer source sink

  record Leaves (list : List Entry) (passes after : List (PassState V)) : Type 0 where
    sees : All (Sees list) after
    same : count k after ≡ count k passes

  leaves : (list : List Entry) (passes : List (PassState V))
      (sessions : List (PassSession (PassState V) S)) (after : List (PassState V))
      (leads : Before passes sessions after) → count k passes ≤ 1 → All (Sees list) passes
      → Leaves (list ++ own k (all_accepted passes sessions after leads)) passes after
  leaves list passes [] after moved few all = record {
    sees = subst (λ (l : List Entry). All (Sees l) after) (sym (append-nil list))
        (All-permutation (Sees list) passes after moved all);
    same = sum_by-IsPermutation (has_number k) passes after moved;
  }
  leaves list passes (s ∷ more) after (others, moved, served, leads) few all =
      let first = accepted s served others in
      let rest = all_accepted (s.after ∷ others) more after leads in
      let turned = sum_by-IsPermutation (has_number k) passes (s.before ∷ others) moved in
      let kept = same_count s served others in
      let on = sees_on s served others list (omega (arith, turned, few))
      (All-permutation (Sees list) passes (s.before ∷ others) moved all) in
      let r = leaves (list ++ own k first) (s.after ∷ others) more after leads
      (omega (arith, turned, kept, few)) on in
      record {
        sees = subst (λ (l : List Entry). All (Sees l) after)
            (append_assoc list (own k first) (own k rest)
            ∙ ap (λ l. list ++ l) (sym (filter-append (λ (e : Entry). e.pass == k) first rest)))
            r.sees;
        same = r.same ∙ (kept ∙ turned);
      }

  nothing_accepted : (passes : List (PassState V)) (sessions : List (PassSession (PassState V) S))
      (after : List (PassState V)) (leads : Before passes sessions after) → count k passes ≡ 0
      → own k (all_accepted passes sessions after leads) ≡ []
  nothing_accepted passes [] after moved none = refl
  nothing_accepted passes (s ∷ more) after (others, moved, served, leads) none =
      let first = accepted s served others in
      let rest = all_accepted (s.after ∷ others) more after leads in
      let turned = sum_by-IsPermutation (has_number k) passes (s.before ∷ others) moved in
      let kept = same_count s served others in
      let other = All-head (λ (p : PassState V). p.knowledge.number ≢ k) s.before others
      (none_has_it k (s.before ∷ others) (omega (arith, turned, none))) in
      filter-append (λ (e : Entry). e.pass == k) first rest
      ∙ (ap (λ l. l ++ own k rest) (none_of_others s served others other)
      ∙ nothing_accepted (s.after ∷ others) more after leads (omega (arith, turned, kept, none)))

-- ---- the list

module _ {V S : Type 0} (answerer : AnswererTells V) (source : SourceTells S) (sink : SinkTells S)
  where
    pub log_is_accepted : LogIsWhatSessionsAccepted answerer source sink
    log_is_accepted s passes after sessions log first many leads numbered goes k =
        by_test (nat_lt k s.passes) refl where
          all : Counted k 0 passes
          all = counted k 0 passes
              (λ i d lt.
              let is = ap (λ (p : PassState V). p.knowledge.number) (first i d lt) in omega (arith, is))

          accepted_all : List Entry
          accepted_all = accepted_in_sessions answerer source sink passes sessions after leads

          left : Leaves answerer source sink k (own k accepted_all) passes after
          left = leaves answerer source sink k [] passes sessions after leads all.few
              (λ i d lt is. ap (λ (p : PassState V). own k p.knowledge.seen) (first i d lt))

          by_test : (b : Bool) → nat_lt k s.passes ≡ b → own k log ≡ own k accepted_all
          by_test true is =
              let inside : k < s.passes = grind (arith, nat_tests) in
              let some = all.some (omega arith) (omega (arith, inside, many)) in
              let same = left.same in
              the_one k
              (λ (p : PassState V). (p.knowledge.number ≡ k → own k p.knowledge.seen ≡ own k accepted_all)
              × GoesOnFrom answerer s.start p.knowledge log)
              (own k log ≡ own k accepted_all) after (omega (arith, some, same))
              (λ i d lt. (left.sees i d lt, goes i d lt))
              (λ p number both.
              subst (λ (n : ℕ). own n log ≡ own n p.knowledge.seen) number both.1.1 ∙ both.0 number)
          by_test false is =
              let outside : s.passes ≤ k = grind (arith, nat_tests) in
              own_of_later k log
              (All-weaker (λ (e : Entry). e.pass < s.passes) (λ (e : Entry). e.pass < k)
              (λ e low. omega (arith, low, outside)) log numbered.0)
              ∙ sym (nothing_accepted answerer source sink k passes sessions after leads
              (all.none_behind (omega (arith, outside, many))))
