-- Places in order, and the place that is left out of them.
use Rattle.std.proofs.Common.{◌≡◌, ◌≢◌, ◌<◌, ◌≤◌, ◌==◌, ℕ, zero, suc, Bool, true, false, List, [], ◌∷◌, ◌++◌}
use Rattle.std.proofs.Common.{length, get_or, refl, sym, ◌∙◌, ap, arith, eqb-true, eq-eqb}
use Rattle.std.specs.Prelude.{remove}
use Rattle.ov_thinning.specs.Thin.{left_out, unless}
use Rattle.ov_tidy.specs.Thins.{AreInOrder}

least : (low limit : ℕ) (ps : List ℕ) (j : ℕ) → AreInOrder low limit ps → j < length ps
    → low ≤ get_or ps j 0
least low limit [] j order inside = absurd (omega (arith, inside))
least low limit (p ∷ ps) zero order inside = order.0
least low limit (p ∷ ps) (suc j) order inside =
    omega (arith, order.0, least (suc p) limit ps j order.2 (omega (arith, inside)))

-- a later place isn't below an earlier one
pub rises : (low limit : ℕ) (ps : List ℕ) (i j : ℕ) → AreInOrder low limit ps → i ≤ j → j < length ps
    → get_or ps i 0 ≤ get_or ps j 0
rises low limit [] i j order up inside = absurd (omega (arith, inside))
rises low limit (p ∷ ps) zero zero order up inside = omega arith
rises low limit (p ∷ ps) zero (suc j) order up inside =
    let more : suc p ≤ get_or ps j 0 = least (suc p) limit ps j order.2 (omega (arith, inside)) in
    omega (arith, more)
rises low limit (p ∷ ps) (suc i) zero order up inside = absurd (omega (arith, up))
rises low limit (p ∷ ps) (suc i) (suc j) order up inside =
    rises (suc p) limit ps i j order.2 (omega (arith, up)) (omega (arith, inside))

lower : (low less limit : ℕ) (ps : List ℕ) → less ≤ low → AreInOrder low limit ps
    → AreInOrder less limit ps
lower low less limit [] under order = tt
lower low less limit (p ∷ ps) under order = (omega (arith, order.0), order.1, order.2)

pub more_order : (low limit more : ℕ) (ps : List ℕ) → limit ≤ more → AreInOrder low limit ps
    → AreInOrder low more ps
more_order low limit more [] over order = tt
more_order low limit more (p ∷ ps) over order =
    (order.0, omega (arith, order.1), more_order (suc p) limit more ps over order.2)

-- ---- one place more, and one less

pub push_order : (low place : ℕ) (ps : List ℕ) → low ≤ place → AreInOrder low place ps
    → AreInOrder low (suc place) (ps ++ place ∷ [])
push_order low place [] under order = (under, omega arith, tt)
push_order low place (p ∷ ps) under order = (
  order.0,
  omega (arith, order.1),
  push_order (suc p) place ps (omega (arith, order.1)) order.2,
)

unless_order : (b : Bool) (low limit p : ℕ) (ps : List ℕ) → low ≤ p → p < limit
    → AreInOrder (suc p) limit ps → AreInOrder low limit (unless b p ps)
unless_order true low limit p ps under inside order = lower (suc p) low limit ps (omega (arith, under)) order
unless_order false low limit p ps under inside order = (under, inside, order)

pub out_order : (low limit place : ℕ) (ps : List ℕ) → AreInOrder low limit ps
    → AreInOrder low limit (left_out place ps)
out_order low limit place [] order = tt
out_order low limit place (p ∷ ps) order =
    unless_order (p == place) low limit p (left_out place ps) order.0 order.1
    (out_order (suc p) limit place ps order.2)

-- a place that isn't among these isn't left out
pub not_there : (place : ℕ) (ps : List ℕ)
    → ((k : ℕ) → k < length ps → get_or ps k 0 ≢ place) → ps ≡ left_out place ps
not_there place [] none = refl
not_there place (p ∷ ps) none =
    by_test (p == place) refl (not_there place ps (λ k inside. none (suc k) (omega (arith, inside)))) where
      by_test : (b : Bool) → (p == place) ≡ b → ps ≡ left_out place ps
          → p ∷ ps ≡ unless b p (left_out place ps)
      by_test true is rest = absurd (none 0 (omega arith) (eqb-true p place is))
      by_test false is rest = ap (λ (qs : List ℕ). p ∷ qs) rest

-- the item at the place's own index is what is left out
pub removed : (low limit place : ℕ) (ps : List ℕ) (at : ℕ) → AreInOrder low limit ps
    → at < length ps → get_or ps at 0 ≡ place → remove ps at ≡ left_out place ps
removed low limit place [] at order inside is = absurd (omega (arith, inside))
removed low limit place (p ∷ ps) zero order inside is =
    let later : (k : ℕ) → k < length ps → get_or ps k 0 ≢ place =
    λ k within same. absurd (omega (arith, is, same, least (suc p) limit ps k order.2 within)) in
    not_there place ps later
    ∙ ap (λ (b : Bool). unless b p (left_out place ps)) (sym (eq-eqb p place is))
removed low limit place (p ∷ ps) (suc at) order inside is =
    let up : suc p ≤ get_or ps at 0 = least (suc p) limit ps at order.2 (omega (arith, inside)) in
    by_test (p == place) refl (removed (suc p) limit place ps at order.2 (omega (arith, inside)) is) where
      by_test : (b : Bool) → (p == place) ≡ b → remove ps at ≡ left_out place ps
          → p ∷ remove ps at ≡ unless b p (left_out place ps)
      by_test true same rest =
          let equal : p ≡ place = eqb-true p place same in
          let here : get_or ps at 0 ≡ place = is in
          absurd (omega (arith, least (suc p) limit ps at order.2 (omega (arith, inside)), equal, here))
      by_test false same rest = ap (λ (qs : List ℕ). p ∷ qs) rest
