-- The first seat of a new table keeps the rule of turns.
use Rattle.std.proofs.Common.{◌≡◌, ℕ, zero, suc, ◌+◌, ◌<◌, ◌≤◌, ◌⊎◌, List, [], ◌∷◌, refl, ap, sym, subst, inl, inr, arith, true, false, true≢false}
use Rattle.std.proofs.lemmas.List.Elements.{All-nil}
use mathlib.Core.Option as maybe
use lib.ListN.{get_elem?}
use Rattle.ov_peer.specs.Tells.{AnswererTells}
use Rattle.ov_turn.specs.declared.view.Entry.{Entry}
use Rattle.ov_turn.specs.declared.view.Knowledge.{Knowledge}
use Rattle.ov_turn.specs.declared.view.View.{View}
use Rattle.ov_turn.specs.Rule.{HasTicket, IsKept, IsSeat, KnowsFailure}
use Rattle.ov_turn.specs.Views.{opened, spent}
use Rattle.ov_turn.proofs.Lists.{begins_self}

module _ {A : Type 0} (tells : AnswererTells A) (start : A) (passes : ℕ) where
  only : (K : ℕ → View A → Type 0) (v : View A) → K 0 v
      → (i : ℕ) (w : View A) → get_elem? (v ∷ []) i ≡ maybe.some w → K i w
  only K v k zero w e = subst (K 0) (maybe.some-injective v w e) k
  only K v k (suc i) w e = absurd (maybe.some-ne-none w (sym e))

  opened_seat : (homes : List (maybe.Option A)) → 0 < passes
      → IsSeat tells start passes 0 0 [] homes (opened tells start 0 passes ∷ []) 0
      (opened tells start 0 passes)
  opened_seat homes some = record {
    live = some;
    begun = refl;
    named = refl;
    called = omega arith;
    staged = tt;
    known = (begins_self [], refl, omega arith, λ failed. refl);
    numbered = All-nil (λ (e : Entry). e.pass ≡ 0 → e.call < 1);
    last = λ _ _. (refl, omega arith);
    taken_in = λ k d lt. absurd (omega arith);
  }

  pub opens : (epoch : ℕ) → tells.reached start [] start → epoch ≡ tells.epoch_of start + 0
      → epoch < 4294967296 → 0 < passes → passes ≤ 65536
      → IsKept tells start passes record {
        words = 0 ∷ 0 ∷ epoch ∷ [];
        homes = maybe.some start ∷ [];
        views = opened tells start 0 passes ∷ [];
      }
  opens epoch begins is small some few = record {
    next = 0;
    served = 0;
    log = [];
    stuck = false;
    words = ap (λ (z : ℕ). 0 ∷ 0 ∷ z ∷ []) is;
    small = omega arith;
    tickets = refl;
    drawn = omega arith;
    few = few;
    whole = omega arith;
    known = omega arith;
    value = inl (start, refl, begins, λ is. absurd (true≢false (sym is)));
    numbered =
        (All-nil (λ (e : Entry). e.pass < 1), λ i j d lt within. absurd (omega arith));
    seats = only
        (λ i v. (v ≡ spent) ⊎ IsSeat tells start passes 0 0 [] (maybe.some start ∷ [])
        (opened tells start 0 passes ∷ []) i v)
        (opened tells start 0 passes) (inr (opened_seat (maybe.some start ∷ []) some));
    tickets_differ = λ i j v w t at_i at_j has_i has_j. absurd
        (only (λ i v. HasTicket t v.stage → ⊥) (opened tells start 0 passes) (λ h. h) i v at_i
        has_i);
    failures = only (λ i v. KnowsFailure false v) (opened tells start 0 passes) (record {
      own = λ is. is;
      taken_in = All-nil (λ (k : Knowledge). k.failed ≡ true → false ≡ true);
      held = λ h. absurd h;
    });
  }
