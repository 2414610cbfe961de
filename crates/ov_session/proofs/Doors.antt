-- Streams that a door gives and takes back.
use Rattle.std.proofs.Common.{◌≡◌, ◌∙◌, Bool, ℕ, zero, suc, ◌+◌, ◌<◌, List, [], ◌∷◌, ◌++◌, Some, None, refl, sym, ap, subst, length, length-append, append_assoc, get_or, set, arith}
use Rattle.std.specs.Prelude.{Option, codes, slice_get}
use Rattle.std.proofs.lemmas.List.{map-append}
use Rattle.ov_io.specs.declared.stream.MemStream.{MemStream}
use Rattle.ov_session.specs.declared.memory.Gave.{Gave}
use Rattle.ov_session.specs.declared.memory.Returned.{Returned}
use Rattle.ov_session.specs.Memory.{Keeping, all_seen, seen, seen_back}
use Rattle.ov_session.specs.Doors.{Back, Doorway, Given, IsOut, IsOutAmong, and_one, back_at, taken_back, told_back}
use Rattle.ov_session.specs.Serving.{Follows, OneSession, Session, and_all, entries}
use Rattle.ov_session.specs.Turns.{IsAt, ServesIt, ServesSome, TellsMany}

module _ {S : Type 0} where
  back_last : (l : List (Given S)) (g : Given S) (b : Back S)
      → back_at (l ++ g ∷ []) (length l) b ≡ l ++ record g { back = Some b } ∷ []
  back_last [] g b = refl
  back_last (x ∷ l) g b = ap (λ (m : List (Given S)). x ∷ m) (back_last l g b)

  told_then : (told : Option (List (Given S))) (number : ℕ) (s : Session S) → TellsMany told number
      → told_back (and_one told s.given) number (record { stream = s.left; ending = s.ending })
      ≡ and_all told (s ∷ [])
  told_then None number s many = refl
  told_then (Some l) number s many =
      let g : Given S = record { stream = s.given; back = None } in
      let b : Back S = record { stream = s.left; ending = s.ending } in
      ap (λ (m : List (Given S)). Some m)
      (ap (λ (n : ℕ). back_at (l ++ g ∷ []) n b) (sym many) ∙ back_last l g b)

  -- the stream that was just given was served and taken back
  pub served_one : (old mid new : Doorway S) (number : ℕ) (s : Session S) → IsAt old number
      → mid ≡ record old { told = and_one old.told s.given; given = old.given + 1 }
      → new ≡ taken_back mid number s.left s.ending
      → new ≡ record old { told = and_all old.told (s ∷ []); given = old.given + 1 }
  served_one old mid new number s at_it given taken =
      taken
      ∙ ap (λ (d : Doorway S). taken_back d number s.left s.ending) given
      ∙ ap (λ (t : Option (List (Given S))). record old { told = t; given = old.given + 1 })
      (told_then old.told number s at_it.told)

-- ---- sessions in a row

follows_on : {V S : Type 0} (one : OneSession V S) (u v w : V) (ss : List (Session S)) (s : Session S)
    → Follows one u ss v → one v w s.given s.left s.ending → Follows one u (ss ++ s ∷ []) w
follows_on one u v w [] s same next =
    (w, subst (λ x. one x w s.given s.left s.ending) (sym same) next, refl)
follows_on one u v w (x ∷ ss) s (m, first, more) next =
    (m, first, follows_on one m v w ss s more next)

all_more : {S : Type 0} (told : Option (List (Given S))) (ss : List (Session S)) (s : Session S)
    → and_all (and_all told ss) (s ∷ []) ≡ and_all told (ss ++ s ∷ [])
all_more None ss s = refl
all_more {S} (Some l) ss s =
    ap (λ (m : List (Given S)). Some m)
    (append_assoc l (entries ss) (entries (s ∷ []))
    ∙ ap (λ (m : List (Given S)). l ++ m) (sym (map-append entry ss (s ∷ [])))) where
      entry : Session S → Given S
      entry x = record { stream = x.given; back = Some (record { stream = x.left; ending = x.ending }) }

many_more : {S : Type 0} (told : Option (List (Given S))) (number : ℕ) (s : Session S)
    → TellsMany told number → TellsMany (and_all told (s ∷ [])) (number + 1)
many_more None number s many = tt
many_more (Some l) number s many = omega (arith, many, length-append l (entries (s ∷ [])))

-- one session more
pub more_served : {V S : Type 0} (one : OneSession V S) (u v w : V) (old mid new : Doorway S)
    (number : ℕ) → ServesSome one u v old mid number → ServesIt one v w mid new
    → ServesSome one u w old new (number + 1)
more_served {V} {S} one u v w old mid new number so_far it =
    let s = it.session in
    let ss = so_far.sessions in
    let told : and_all mid.told (s ∷ []) ≡ and_all old.told (ss ++ s ∷ []) =
    ap (λ (d : Doorway S). and_all d.told (s ∷ [])) so_far.shows ∙ all_more old.told ss s in
    let given : mid.given + 1 ≡ old.given + (number + 1) =
    omega (arith, ap (λ (d : Doorway S). d.given) so_far.shows) in
    record {
      sessions = ss ++ s ∷ [];
      follows = follows_on one u v w ss s so_far.follows it.served;
      count = omega (arith, so_far.count, length-append ss (s ∷ []));
      shows = it.shows
          ∙ ap (λ (t : Option (List (Given S))). record mid { told = t; given = mid.given + 1 }) told
          ∙ ap (λ (n : ℕ). record mid { told = and_all old.told (ss ++ s ∷ []); given = n }) given
          ∙ ap (λ (d : Doorway S). record d {
            told = and_all old.told (ss ++ s ∷ []);
            given = old.given + (number + 1);
          }) so_far.shows;
      is_at = subst (λ (d : Doorway S). IsAt d (number + 1)) (sym it.shows) (record {
        given = omega (arith, so_far.is_at.given);
        told = many_more mid.told number s so_far.is_at.told;
      });
    }

-- ---- a door in memory

-- the stream of a number was taken back
back_seen : (gave : List Gave) (number : ℕ) (g : Gave) (r : Returned) → number < length gave
    → g ≡ get_or gave number g
    → all_seen (set gave number (record { stream = g.stream; back = Some r }))
    ≡ back_at (all_seen gave) number (seen_back r)
back_seen [] number g r lt is = absurd (omega (arith, lt))
back_seen (x ∷ gave) zero g r lt is =
    ap (λ (y : Gave). seen (record { stream = y.stream; back = Some r }) ∷ all_seen gave) is
back_seen (x ∷ gave) (suc number) g r lt is =
    ap (λ (l : List (Given MemStream)). seen x ∷ l) (back_seen gave number g r (omega (arith, lt)) is)

length_back : {S : Type 0} (l : List (Given S)) (number : ℕ) (b : Back S)
    → length (back_at l number b) ≡ length l
length_back [] number b = refl
length_back (x ∷ l) zero b = refl
length_back (x ∷ l) (suc number) b = ap suc (length_back l number b)

pub shows_back : (k : Keeping) (gave : List Gave) (closed : Bool) (faults : ℕ) (number : ℕ) (g : Gave)
    (r : Returned) → k.gave ≡ all_seen gave → k.closed ≡ closed → k.faults ≡ faults
    → number < length gave → g ≡ get_or gave number g
    → (let after = all_seen (set gave number (record { stream = g.stream; back = Some r })) in
    let before : Doorway MemStream = record {
      listens_at = Some (codes "memory");
      told = Some k.gave;
      given = length k.gave;
      closed = k.closed;
      faults = k.faults;
    } in
    let now : Doorway MemStream = record {
      listens_at = Some (codes "memory");
      told = Some after;
      given = length after;
      closed = closed;
      faults = faults;
    } in now ≡ taken_back before number r.stream r.ending)
shows_back k gave closed faults number g r same shut count lt is =
    let after = all_seen (set gave number (record { stream = g.stream; back = Some r })) in
    let b : Back MemStream = seen_back r in
    let told : after ≡ back_at k.gave number b =
    back_seen gave number g r lt is ∙ ap (λ (l : List (Given MemStream)). back_at l number b) (sym same) in
    let D : List (Given MemStream) → ℕ → Bool → ℕ → Doorway MemStream =
    λ l n c f. record {
      listens_at = Some (codes "memory");
      told = Some l;
      given = n;
      closed = c;
      faults = f;
    } in
    ap (λ (l : List (Given MemStream)). D l (length after) closed faults) told
    ∙ ap (λ (n : ℕ). D (back_at k.gave number b) n closed faults)
    (ap length told ∙ length_back k.gave number b)
    ∙ ap (λ (x : Bool). D (back_at k.gave number b) (length k.gave) x faults) (sym shut)
    ∙ ap (λ (n : ℕ). D (back_at k.gave number b) (length k.gave) k.closed n) (sym count)
