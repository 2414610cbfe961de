-- Streams by number: one of the sessions that go on is over, and one more stream comes.
use Rattle.std.proofs.Common.{◌≡◌, ◌∙◌, ℕ, zero, suc, ◌+◌, ◌<◌, List, [], ◌∷◌, ◌++◌, Some, None, refl, sym, ap, subst, length, append_assoc, map, arith}
use Rattle.std.specs.Prelude.{Option, slice_get}
use Rattle.std.specs.List.Sorted.{IsPermutation}
use Rattle.std.proofs.lemmas.List.{map-append}
use Rattle.std.proofs.lemmas.List.Sorted.{IsPermutation-refl, IsPermutation-sym, IsPermutation-cons, IsPermutation-to_front, IsPermutation-trans, IsPermutation-middle}
use Rattle.ov_session.specs.Doors.{Back, Given, IsOutAmong, TellsNone, and_one, back_at, told_back}
use Rattle.ov_session.specs.Serving.{OneSession, Session, and_all, entries}
use Rattle.ov_session.specs.Turns.{TellsMany}
use Rattle.ov_serving.specs.AtOnce.{IsServed, LeadsPasses, PassSession, plain}
use Rattle.ov_serving.specs.Places.{LeavesFree, Place, Runs, Over, and_places, going, told_of}

behind : {P : Type 0} (pool others : List P) (q p : P) → IsPermutation pool (p ∷ others)
    → IsPermutation (q ∷ pool) (p ∷ q ∷ others)
behind pool others q p perm =
    IsPermutation-trans (q ∷ pool) (q ∷ p ∷ others) (p ∷ q ∷ others)
    (IsPermutation-cons q pool (p ∷ others) perm)
    (IsPermutation-middle (q ∷ []) p others)

module _ {P S : Type 0} where
  -- the places, where one of the sessions that went on is over, behind so many others that go on
  abbrev pub over_at : List (Place P S) → ℕ → PassSession P S → List (Place P S)
  over_at [] k t = []
  over_at (Runs stream pass ∷ more) zero t = Over t ∷ more
  over_at (Runs stream pass ∷ more) (suc k) t = Runs stream pass ∷ over_at more k t
  over_at (Over s ∷ more) k t = Over s ∷ over_at more k t

  -- what is taken back of a session's stream
  abbrev pub back_of : PassSession P S → Back S
  back_of t = record { stream = t.session.left; ending = t.session.ending }

  -- the session behind so many others that go on has this number and this stream
  pub record RunsAt (places : List (Place P S)) (start k number : ℕ) (stream : S)
      (t : PassSession P S) (front rest : List (ℕ × S × P)) : Type 0 where
    pub place : ℕ
    pub number_is : number ≡ start + place
    pub inside : place < length places
    pub out : slice_get (map told_of places) place ≡ Some (record { stream = stream; back = None })
    pub back : map told_of (over_at places k t)
        ≡ back_at (map told_of places) place (back_of t)
    pub after : going start (over_at places k t) ≡ front ++ rest
    pub long : length (over_at places k t) ≡ length places

  pub runs_at : (places : List (Place P S)) (start number : ℕ) (stream : S) (pass : P)
      (t : PassSession P S) (front rest : List (ℕ × S × P)) → t.session.given ≡ stream
      → going start places ≡ front ++ (number, stream, pass) ∷ rest
      → RunsAt places start (length front) number stream t front rest
  runs_at [] start number stream pass t [] rest same e = absurd (cc e)
  runs_at [] start number stream pass t (f ∷ front) rest same e = absurd (cc e)
  runs_at (Runs st ps ∷ more) start number stream pass t [] rest same e =
      let head : (start, st, ps) ≡ (number, stream, pass) = cc in
      let tail : going (start + 1) more ≡ rest = cc in
      let is : start ≡ number = ap (λ (x : ℕ × S × P). x.0) head in
      let stream_is : st ≡ stream = ap (λ (x : ℕ × S × P). x.1) head in
      record {
        place = 0;
        number_is = omega (arith, is);
        inside = omega arith;
        out = ap (λ (x : S). Some (record { stream = x; back = None })) stream_is;
        back = ap (λ (x : S). record { stream = x; back = Some (back_of t) } ∷ map told_of more)
            (same ∙ sym stream_is);
        after = tail;
        long = refl;
      }
  runs_at (Runs st ps ∷ more) start number stream pass t (f ∷ front) rest same e =
      let head : (start, st, ps) ≡ f = cc in
      let tail : going (start + 1) more ≡ front ++ (number, stream, pass) ∷ rest = cc in
      let r = runs_at more (start + 1) number stream pass t front rest same tail in
      record {
        place = suc r.place;
        number_is = omega (arith, r.number_is);
        inside = omega (arith, r.inside);
        out = r.out;
        back = ap (λ (l : List (Given S)). told_of (Runs st ps) ∷ l) r.back;
        after = ap (λ (x : ℕ × S × P). x ∷ going (start + 1) (over_at more (length front) t)) head
            ∙ ap (λ (l : List (ℕ × S × P)). f ∷ l) r.after;
        long = ap suc r.long;
      }
  runs_at (Over s ∷ more) start number stream pass t front rest same e =
      let r = runs_at more (start + 1) number stream pass t front rest same e in
      record {
        place = suc r.place;
        number_is = omega (arith, r.number_is);
        inside = omega (arith, r.inside);
        out = r.out;
        back = ap (λ (l : List (Given S)). told_of (Over s) ∷ l) r.back;
        after = r.after;
        long = ap suc r.long;
      }

  -- ---- what the door tells

  pub out_among : (told : Option (List (Given S))) (places : List (Place P S))
      (number place : ℕ) (stream : S) → TellsNone told → number ≡ place
      → slice_get (map told_of places) place ≡ Some (record { stream = stream; back = None })
      → IsOutAmong (and_places told places) number
  out_among None places number place stream none is out = tt
  out_among (Some l) places number place stream none is out = (
    stream,
    subst (λ (m : List (Given S)). slice_get (m ++ map told_of places) number
        ≡ Some (record { stream = stream; back = None })) (sym none)
        (subst (λ (n : ℕ). slice_get (map told_of places) n
        ≡ Some (record { stream = stream; back = None })) (sym is) out),
  )

  pub told_over : (told : Option (List (Given S))) (places after : List (Place P S))
      (number place : ℕ) (b : Back S) → TellsNone told → number ≡ place
      → map told_of after ≡ back_at (map told_of places) place b
      → told_back (and_places told places) number b ≡ and_places told after
  told_over None places after number place b none is back = refl
  told_over (Some l) places after number place b none is back =
      let bare : back_at (map told_of places) number b ≡ map told_of after =
      ap (λ (n : ℕ). back_at (map told_of places) n b) is ∙ sym back in
      ap (λ (m : List (Given S)). Some m)
      (subst (λ (m : List (Given S)). back_at (m ++ map told_of places) number b
      ≡ m ++ map told_of after) (sym none) bare)

  pub told_one : (told : Option (List (Given S))) (places : List (Place P S)) (stream : S)
      (pass : P) → and_one (and_places told places) stream
      ≡ and_places told (places ++ Runs stream pass ∷ [])
  told_one None places stream pass = refl
  told_one (Some l) places stream pass =
      ap (λ (m : List (Given S)). Some m)
      (append_assoc l (map told_of places) (map told_of (Runs stream pass ∷ []))
      ∙ ap (λ (m : List (Given S)). l ++ m)
      (sym (map-append told_of places (Runs stream pass ∷ []))))

  pub told_more : (told : Option (List (Given S))) (places : List (Place P S))
      (t : PassSession P S) → and_all (and_places told places) (t.session ∷ [])
      ≡ and_places told (places ++ Over t ∷ [])
  told_more None places t = refl
  told_more (Some l) places t =
      ap (λ (m : List (Given S)). Some m)
      (append_assoc l (map told_of places) (map told_of (Over t ∷ []))
      ∙ ap (λ (m : List (Given S)). l ++ m) (sym (map-append told_of places (Over t ∷ []))))

  length_told : (places : List (Place P S)) → length (map told_of places) ≡ length places
  length_told [] = refl
  length_told (x ∷ places) = ap suc (length_told places)

  pub tells_many : (told : Option (List (Given S))) (places : List (Place P S)) (number : ℕ)
      → TellsNone told → number ≡ length places → TellsMany (and_places told places) number
  tells_many None places number none is = tt
  tells_many (Some l) places number none is =
      subst (λ (m : List (Given S)). length (m ++ map told_of places) ≡ number) (sym none)
      (length_told places ∙ sym is)

  -- ---- sessions that go on

  pub going_one : (places : List (Place P S)) (start : ℕ) (stream : S) (pass : P)
      → going start (places ++ Runs stream pass ∷ [])
      ≡ going start places ++ (start + length places, stream, pass) ∷ []
  going_one [] start stream pass =
      let e : start ≡ start + 0 = omega arith in
      ap (λ (n : ℕ). (n, stream, pass) ∷ []) e
  going_one (Runs st ps ∷ more) start stream pass =
      let e : start + 1 + length more ≡ start + suc (length more) = omega arith in
      ap (λ (l : List (ℕ × S × P)). (start, st, ps) ∷ l)
      (going_one more (start + 1) stream pass
      ∙ ap (λ (n : ℕ). going (start + 1) more ++ (n, stream, pass) ∷ []) e)
  going_one (Over s ∷ more) start stream pass =
      let e : start + 1 + length more ≡ start + suc (length more) = omega arith in
      going_one more (start + 1) stream pass
      ∙ ap (λ (n : ℕ). going (start + 1) more ++ (n, stream, pass) ∷ []) e

  pub going_same : (places : List (Place P S)) (start : ℕ) (t : PassSession P S)
      → going start (places ++ Over t ∷ []) ≡ going start places
  going_same [] start t = refl
  going_same (Runs st ps ∷ more) start t =
      ap (λ (l : List (ℕ × S × P)). (start, st, ps) ∷ l) (going_same more (start + 1) t)
  going_same (Over s ∷ more) start t = going_same more (start + 1) t

  -- ---- passes

  module _ (one : OneSession P S) where
    leaves_pool : (places : List (Place P S)) (pool other free : List P)
        → IsPermutation other pool → LeavesFree one pool places free
        → LeavesFree one other places free
    leaves_pool [] pool other free moved perm = IsPermutation-trans other pool free moved perm
    leaves_pool (Runs st ps ∷ more) pool other free moved (others, perm, leaves) =
        (others, IsPermutation-trans other pool (ps ∷ others) moved perm, leaves)
    leaves_pool (Over s ∷ more) pool other free moved (others, perm, is, leaves) =
        (others, IsPermutation-trans other pool (s.before ∷ others) moved perm, is, leaves)

    leaves_more : (places : List (Place P S)) (pool free : List P) (q : P)
        → LeavesFree one pool places free → LeavesFree one (q ∷ pool) places (q ∷ free)
    leaves_more [] pool free q perm = IsPermutation-cons q pool free perm
    leaves_more (Runs st ps ∷ more) pool free q (others, perm, leaves) =
        (q ∷ others, behind pool others q ps perm, leaves_more more others free q leaves)
    leaves_more (Over s ∷ more) pool free q (others, perm, is, leaves) = (
      q ∷ others,
      behind pool others q s.before perm,
      is,
      leaves_pool more (q ∷ s.after ∷ others) (s.after ∷ q ∷ others) (q ∷ free)
          (IsPermutation-middle (s.after ∷ []) q others)
          (leaves_more more (s.after ∷ others) free q leaves),
    )

    leaves_free : (places : List (Place P S)) (pool free other : List P)
        → IsPermutation free other → LeavesFree one pool places free
        → LeavesFree one pool places other
    leaves_free [] pool free other moved perm = IsPermutation-trans pool free other perm moved
    leaves_free (Runs st ps ∷ more) pool free other moved (others, perm, leaves) =
        (others, perm, leaves_free more others free other moved leaves)
    leaves_free (Over s ∷ more) pool free other moved (others, perm, is, leaves) =
        (others, perm, is, leaves_free more (s.after ∷ others) free other moved leaves)

    over_leaves : (places : List (Place P S)) (pool free : List P) (start number : ℕ) (stream : S)
        (t : PassSession P S) (front rest : List (ℕ × S × P)) → IsServed one t
        → going start places ≡ front ++ (number, stream, t.before) ∷ rest
        → LeavesFree one pool places free
        → LeavesFree one pool (over_at places (length front) t) (t.after ∷ free)
    over_leaves [] pool free start number stream t [] rest served e leaves = absurd (cc e)
    over_leaves [] pool free start number stream t (f ∷ front) rest served e leaves = absurd (cc e)
    over_leaves (Runs st ps ∷ more) pool free start number stream t [] rest served e (others, perm, leaves) =
        let head : (start, st, ps) ≡ (number, stream, t.before) = cc in (
          others,
          subst (λ (p : P). IsPermutation pool (p ∷ others))
              (ap (λ (x : ℕ × S × P). x.2) head) perm,
          served,
          leaves_more more others free t.after leaves,
        )
    over_leaves (Runs st ps ∷ more) pool free start number stream t (f ∷ front) rest served e (others, perm, leaves) =
        let tail : going (start + 1) more ≡ front ++ (number, stream, t.before) ∷ rest = cc in (
          others,
          perm,
          over_leaves more others free (start + 1) number stream t front rest served tail leaves,
        )
    over_leaves (Over s ∷ more) pool free start number stream t front rest served e (others, perm, is, leaves) = (
      others,
      perm,
      is,
      over_leaves more (s.after ∷ others) free (start + 1) number stream t front rest served e leaves,
    )

    -- one of the sessions that went on is over, and its pass stands behind the free ones
    pub leaves_over : (places : List (Place P S)) (pool free : List P) (number : ℕ) (stream : S)
        (t : PassSession P S) (front rest : List (ℕ × S × P)) → IsServed one t
        → going 0 places ≡ front ++ (number, stream, t.before) ∷ rest
        → LeavesFree one pool places free
        → LeavesFree one pool (over_at places (length front) t) (free ++ t.after ∷ [])
    leaves_over places pool free number stream t front rest served e leaves =
        leaves_free (over_at places (length front) t) pool (t.after ∷ free) (free ++ t.after ∷ [])
        (IsPermutation-sym (free ++ t.after ∷ []) (t.after ∷ free)
        (IsPermutation-to_front free t.after))
        (over_leaves places pool free 0 number stream t front rest served e leaves)

    -- the last of the free passes serves one more stream
    pub leaves_one : (places : List (Place P S)) (pool others : List P) (stream : S) (pass : P)
        → LeavesFree one pool places (others ++ pass ∷ [])
        → LeavesFree one pool (places ++ Runs stream pass ∷ []) others
    leaves_one [] pool others stream pass perm = (
      others,
      IsPermutation-trans pool (others ++ pass ∷ []) (pass ∷ others) perm
          (IsPermutation-to_front others pass),
      IsPermutation-refl others,
    )
    leaves_one (Runs st ps ∷ more) pool others stream pass (apart, perm, leaves) =
        (apart, perm, leaves_one more apart others stream pass leaves)
    leaves_one (Over s ∷ more) pool others stream pass (apart, perm, is, leaves) =
        (apart, perm, is, leaves_one more (s.after ∷ apart) others stream pass leaves)

    -- the last of the free passes has served one more stream
    pub leaves_served : (places : List (Place P S)) (pool others : List P) (t : PassSession P S)
        → IsServed one t → LeavesFree one pool places (others ++ t.before ∷ [])
        → LeavesFree one pool (places ++ Over t ∷ []) (others ++ t.after ∷ [])
    leaves_served [] pool others t served perm = (
      others,
      IsPermutation-trans pool (others ++ t.before ∷ []) (t.before ∷ others) perm
          (IsPermutation-to_front others t.before),
      served,
      IsPermutation-sym (others ++ t.after ∷ []) (t.after ∷ others)
          (IsPermutation-to_front others t.after),
    )
    leaves_served (Runs st ps ∷ more) pool others t served (apart, perm, leaves) =
        (apart, perm, leaves_served more apart others t served leaves)
    leaves_served (Over s ∷ more) pool others t served (apart, perm, is, leaves) =
        (apart, perm, is, leaves_served more (s.after ∷ apart) others t served leaves)

    -- ---- where no session goes on

    pub leads_all : (ss : List (PassSession P S)) (pool free : List P)
        → LeavesFree one pool (map Over ss) free → LeadsPasses one pool ss free
    leads_all [] pool free perm = perm
    leads_all (s ∷ ss) pool free (others, perm, is, leaves) =
        (others, perm, is, leads_all ss (s.after ∷ others) free leaves)

  pub all_over : (places : List (Place P S)) (start : ℕ) → going start places ≡ []
      → (ss : List (PassSession P S)) × (places ≡ map Over ss)
  all_over [] start none = ([], refl)
  all_over (Runs st ps ∷ more) start none = absurd (cc none)
  all_over (Over s ∷ more) start none =
      let r = all_over more (start + 1) none in
      (s ∷ r.0, ap (λ (l : List (Place P S)). Over s ∷ l) r.1)

  told_plain : (ss : List (PassSession P S)) → map told_of (map Over ss) ≡ entries (plain ss)
  told_plain [] = refl
  told_plain (s ∷ ss) = ap (λ (l : List (Given S)). told_of (Over s) ∷ l) (told_plain ss)

  pub told_all : (told : Option (List (Given S))) (ss : List (PassSession P S))
      → and_places told (map Over ss) ≡ and_all told (plain ss)
  told_all None ss = refl
  told_all (Some l) ss = ap (λ (m : List (Given S)). Some (l ++ m)) (told_plain ss)

  pub length_over : (ss : List (PassSession P S)) → length (map Over ss) ≡ length ss
  length_over [] = refl
  length_over (s ∷ ss) = ap suc (length_over ss)
