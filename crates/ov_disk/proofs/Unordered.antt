-- Writes that tear one after the other, and the model that knows no order.
use Rattle.std.proofs.Common.{◌≡◌, ◌⊎◌, inl, inr, ℕ, zero, suc, ◌+◌, ◌-◌, ◌≤◌, ◌<◌, min, max, List, [], ◌∷◌, length, take, drop, get_or, Bool, true, false, leb, refl, sym, ◌∙◌, ap, subst, arith, length-drop}
use Rattle.std.proofs.lemmas.List.{get_or-take, get_or-drop, length-take}
use Rattle.std.proofs.lemmas.Grind.{same_number_lists}
use Rattle.std.proofs.lemmas.Bool.{le-leb, cases_lt}
use Rattle.std.proofs.lemmas.Bool.Decides.{leb_tells}
use Rattle.ov_disk.specs.declared.area.Area.{Area}
use Rattle.ov_disk.specs.declared.area.Area.TheVariants.{Book, Blobs}
use Rattle.ov_disk.specs.Disk.{Image, image, bytes_of, Torn, TornIn}
use Rattle.ov_disk.specs.Model.{Range, Put, longest, MayHold, with_range, ranges_in, LeftAfter, BeginInside}

-- one area: each write tears what those before it left
TornAfter : List Range → List ℕ → List ℕ → Type 0
TornAfter [] old new = new ≡ old
TornAfter (r ∷ rs) old new = (mid : List ℕ) × TornAfter rs old mid × Torn r.at r.count mid new

-- A torn write, place by place.

pub torn_get : (at n : ℕ) (old new : List ℕ) → Torn at n old new → (p : ℕ) → (p < at) ⊎ (at + n ≤ p) → get_or new p 0 ≡ get_or old p 0
torn_get at n old new torn p (inl lt) = sym (get_or-take at new p 0 lt) ∙ ap (λ (l : List ℕ). get_or l p 0) torn.before ∙ get_or-take at old p 0 lt
torn_get at n old new torn p (inr ge) =
    let q = p - (at + n) in
    let here : at + n + q ≡ p = omega (arith, ge) in
    ap (λ (k : ℕ). get_or new k 0) (sym here) ∙ sym (get_or-drop (at + n) new q 0) ∙ ap (λ (l : List ℕ). get_or l q 0) torn.after ∙ get_or-drop (at + n) old q 0 ∙ ap (λ (k : ℕ). get_or old k 0) here

torn_from : (at n : ℕ) (old new : List ℕ) → length old ≤ length new → length new ≤ max (length old) (at + n) → min at (length old) ≡ min at (length new)
    → ((p : ℕ) → p < length old → (p < at) ⊎ (at + n ≤ p) → get_or new p 0 ≡ get_or old p 0) → Torn at n old new
torn_from at n old new le most front same = record {
  before = same_number_lists (take at new) (take at old) (omega (arith, length-take at new, length-take at old, front)) (λ k lt.
      let inside : k < at = omega (arith, lt, length-take at new) in
      get_or-take at new k 0 inside ∙ same k (omega (arith, lt, length-take at new, front)) (inl inside) ∙ sym (get_or-take at old k 0 inside));
  after = same_number_lists (drop (at + n) new) (drop (at + n) old) (omega (arith, length-drop (at + n) new, length-drop (at + n) old, le, most)) (λ k lt.
      get_or-drop (at + n) new k 0 ∙ same (at + n + k) (omega (arith, lt, length-drop (at + n) new, le, most)) (inr (omega arith)) ∙ sym (get_or-drop (at + n) old k 0));
  no_shorter = le;
  no_longer = most;
}

longest_least : (rs : List Range) (n : ℕ) → n ≤ longest rs n
longest_least [] n = omega arith
longest_least (r ∷ rs) n = omega (arith, longest_least rs n)

-- torn one after the other: by the model
sound : (rs : List Range) (old new : List ℕ) → TornAfter rs old new → MayHold rs old new
unfolding TornAfter
sound [] old new left = record {
  no_shorter = omega (arith, ap length left);
  no_longer = omega (arith, ap length left);
  outside = λ p lt out. ap (λ (l : List ℕ). get_or l p 0) left;
}
sound (r ∷ rs) old new left =
    let so_far = sound rs old left.0 left.1 in
    record {
      no_shorter = omega (arith, so_far.no_shorter, left.2.no_shorter);
      no_longer = omega (arith, so_far.no_longer, left.2.no_longer);
      outside = λ p lt out. torn_get r.at r.count left.0 new left.2 p out.0 ∙ so_far.outside p lt out.1;
    }

-- A list by its places.

listing : ℕ → (ℕ → ℕ) → List ℕ
listing zero f = []
listing (suc n) f = f 0 ∷ listing n (λ p. f (suc p))

length-listing : (n : ℕ) (f : ℕ → ℕ) → length (listing n f) ≡ n
unfolding listing
length-listing zero f = refl
length-listing (suc n) f = ap suc (length-listing n (λ p. f (suc p)))

get_or-listing : (n : ℕ) (f : ℕ → ℕ) (p : ℕ) → p < n → get_or (listing n f) p 0 ≡ f p
unfolding listing
get_or-listing zero f p lt = absurd (omega (arith, lt))
get_or-listing (suc n) f zero lt = refl
get_or-listing (suc n) f (suc p) lt = get_or-listing n (λ p. f (suc p)) p (omega (arith, lt))

-- the byte of the old list in the range, and of the new one outside
picked : Bool → Bool → ℕ → ℕ → ℕ
picked true true old new = old
picked true false old new = new
picked false b old new = new

leb_no : (a b : ℕ) → b < a → leb a b ≡ false
leb_no a b lt = elim (leb_tells a b) [ inl holds ↦ absurd (omega (arith, holds.1, lt)) | inr fails ↦ fails.0 ]

module _ (r : Range) (old new : List ℕ) where
  pick : ℕ → ℕ
  pick p = picked (leb r.at p) (leb (suc p) (r.at + r.count)) (get_or old p 0) (get_or new p 0)

  pick_outside : (p : ℕ) → (p < r.at) ⊎ (r.at + r.count ≤ p) → pick p ≡ get_or new p 0
  unfolding pick picked
  pick_outside p (inl lt) = ap (λ (b : Bool). picked b (leb (suc p) (r.at + r.count)) (get_or old p 0) (get_or new p 0)) (leb_no r.at p lt)
  pick_outside p (inr ge) =
      elim (leb r.at p) as (λ b. picked b (leb (suc p) (r.at + r.count)) (get_or old p 0) (get_or new p 0) ≡ get_or new p 0) [
        | true ↦ ap (λ (b : Bool). picked true b (get_or old p 0) (get_or new p 0)) (leb_no (suc p) (r.at + r.count) (omega (arith, ge)))
        | false ↦ refl
      ]

  pick_inside : (p : ℕ) → r.at ≤ p → p < r.at + r.count → pick p ≡ get_or old p 0
  unfolding pick picked
  pick_inside p le lt = λ i. picked (le-leb r.at p le i) (le-leb (suc p) (r.at + r.count) (omega (arith, lt)) i) (get_or old p 0) (get_or new p 0)

-- by the model: torn one after the other
module _ (r : Range) (rs : List Range) (old new : List ℕ) (fits : r.at ≤ longest rs (length old)) (may : MayHold (r ∷ rs) old new) where
  -- what the writes before the last left: the new bytes, but the old ones in the last range
  size : ℕ
  size = min (length new) (longest rs (length old))

  mid : List ℕ
  mid = listing size (pick r old new)

  long : length mid ≡ size
  unfolding mid
  long = length-listing size (pick r old new)

  byte : (p : ℕ) → p < size → get_or mid p 0 ≡ pick r old new p
  unfolding mid
  byte p lt = get_or-listing size (pick r old new) p lt

  below : (p : ℕ) → p < length old → p < size
  unfolding size
  below p lt = omega (arith, lt, may.no_shorter, longest_least rs (length old))

  before_last : MayHold rs old mid
  unfolding size
  before_last = record {
    no_shorter = omega (arith, long, may.no_shorter, longest_least rs (length old));
    no_longer = omega (arith, long);
    outside = λ p lt out. byte p (below p lt) ∙ elim (cases_lt p r.at) [
      | inl early ↦ pick_outside r old new p (inl early) ∙ may.outside p lt (inl early, out)
      | inr from ↦ elim (cases_lt p (r.at + r.count)) [
        | inl inside ↦ pick_inside r old new p from inside
        | inr late ↦ pick_outside r old new p (inr late) ∙ may.outside p lt (inr late, out)
      ]
    ];
  }

  last : Torn r.at r.count mid new
  unfolding size
  last = torn_from r.at r.count mid new (omega (arith, long)) (omega (arith, long, may.no_longer)) (omega (arith, long, fits)) (λ p lt out. sym (byte p (omega (arith, lt, long)) ∙ pick_outside r old new p out))

-- each write began inside the area or at its end
FitIn : List Range → ℕ → Type 0
FitIn [] n = Unit {0}
FitIn (r ∷ rs) n = (r.at ≤ longest rs n) × FitIn rs n

complete : (rs : List Range) (old new : List ℕ) → FitIn rs (length old) → MayHold rs old new → TornAfter rs old new
unfolding TornAfter FitIn
complete [] old new fit may = same_number_lists new old (omega (arith, may.no_shorter, may.no_longer)) (λ k lt. may.outside k (omega (arith, lt, may.no_shorter, may.no_longer)) tt)
complete (r ∷ rs) old new fit may =
    (mid r rs old new fit.0 may, complete rs old (mid r rs old new fit.0 may) fit.1 (before_last r rs old new fit.0 may), last r rs old new fit.0 may)

-- Both areas.

split_areas : (ws : List Put) (i c : Image) → LeftAfter ws i c → TornAfter (ranges_in Book ws) i.book c.book × TornAfter (ranges_in Blobs ws) i.blobs c.blobs
unfolding TornAfter
split_areas [] i c left = (ap (λ (j : Image). j.book) left, ap (λ (j : Image). j.blobs) left)
split_areas (w ∷ ws) i c left =
    let so_far = split_areas ws i left.0 left.1 in
    elim w.area as (λ (a : Area). TornIn a w.range.at w.range.count left.0 c
    → TornAfter (with_range Book a w.range (ranges_in Book ws)) i.book c.book × TornAfter (with_range Blobs a w.range (ranges_in Blobs ws)) i.blobs c.blobs) [
      | Book ↦ λ torn. ((left.0.book, so_far.0, torn.0), subst (TornAfter (ranges_in Blobs ws) i.blobs) (sym torn.1) so_far.1)
      | Blobs ↦ λ torn. (subst (TornAfter (ranges_in Book ws) i.book) (sym torn.1) so_far.0, (left.0.blobs, so_far.1, torn.0))
    ] left.2

join_areas : (ws : List Put) (i c : Image) → TornAfter (ranges_in Book ws) i.book c.book → TornAfter (ranges_in Blobs ws) i.blobs c.blobs → LeftAfter ws i c
unfolding TornAfter
join_areas [] i c book blobs = λ k. record { book = book k; blobs = blobs k }
join_areas (w ∷ ws) i c book blobs =
    elim w.area as (λ (a : Area). TornAfter (with_range Book a w.range (ranges_in Book ws)) i.book c.book → TornAfter (with_range Blobs a w.range (ranges_in Blobs ws)) i.blobs c.blobs
    → (d : Image) × LeftAfter ws i d × TornIn a w.range.at w.range.count d c) [
      | Book ↦ λ book blobs. (image book.0 c.blobs, join_areas ws i (image book.0 c.blobs) book.1 blobs, (book.2, refl))
      | Blobs ↦ λ book blobs. (image c.book blobs.0, join_areas ws i (image c.book blobs.0) book blobs.1, (blobs.2, refl))
    ] book blobs

fit_areas : (ws : List Put) (i : Image) → BeginInside ws i → FitIn (ranges_in Book ws) (length i.book) × FitIn (ranges_in Blobs ws) (length i.blobs)
unfolding FitIn
fit_areas [] i fit = (tt, tt)
fit_areas (w ∷ ws) i fit =
    let so_far = fit_areas ws i fit.1 in
    elim w.area as (λ (a : Area). w.range.at ≤ longest (ranges_in a ws) (length (bytes_of a i))
    → FitIn (with_range Book a w.range (ranges_in Book ws)) (length i.book) × FitIn (with_range Blobs a w.range (ranges_in Blobs ws)) (length i.blobs)) [
      | Book ↦ λ le. ((le, so_far.0), so_far.1)
      | Blobs ↦ λ le. (so_far.0, (le, so_far.1))
    ] fit.0

pub by_the_model : (ws : List Put) (i c : Image) → LeftAfter ws i c → MayHold (ranges_in Book ws) i.book c.book × MayHold (ranges_in Blobs ws) i.blobs c.blobs
by_the_model ws i c left =
    let both = split_areas ws i c left in
    (sound (ranges_in Book ws) i.book c.book both.0, sound (ranges_in Blobs ws) i.blobs c.blobs both.1)

pub by_the_writes : (ws : List Put) (i c : Image) → BeginInside ws i → MayHold (ranges_in Book ws) i.book c.book → MayHold (ranges_in Blobs ws) i.blobs c.blobs → LeftAfter ws i c
by_the_writes ws i c fit book blobs =
    let both = fit_areas ws i fit in
    join_areas ws i c (complete (ranges_in Book ws) i.book c.book both.0 book) (complete (ranges_in Blobs ws) i.blobs c.blobs both.1 blobs)
