-- What stands between two steps of serving goes on to stand.
use Rattle.std.proofs.Common.{◌≡◌, ◌∙◌, ◌⊎◌, inl, inr, ℕ, suc, ◌+◌, ◌<◌, ◌≤◌, List, [], ◌∷◌, ◌++◌, Some, None, refl, sym, ap, subst, append_assoc, length, length-append, map, arith, Bool, true, false}
use Rattle.std.specs.Prelude.{All, Option, Ok, max}
use Rattle.std.proofs.lemmas.Bool.Decides.{nat_tests}
use Rattle.std.proofs.lemmas.List.{map-append}
use Rattle.std.proofs.lemmas.List.Elements.{All-append, All-cons, All-head, All-nil, All-push, All-tail}
use Rattle.ov_session.specs.declared.end.SessionEnd.{SessionEnd}
use Rattle.ov_session.specs.declared.end.SessionEnd.TheVariants as ends
use Rattle.ov_session.specs.Doors.{Doorway, Given, IsOut, IsOutAmong, IsUnused, and_one, taken_back, told_back}
use Rattle.ov_session.specs.Serving.{OneSession, Session, and_all}
use Rattle.ov_session.specs.Turns.{IsAt, TellsMany}
use Rattle.ov_session.proofs.Doors.{served_one}
use Rattle.ov_turn.specs.Passes.{IsPassOf, PassState, SharedState}
use Rattle.ov_serving.specs.declared.session.Ended.{Ended}
use Rattle.ov_serving.specs.declared.session.Session as made
use Rattle.ov_serving.specs.AtOnce.{IsServed, PassSession}
use Rattle.ov_serving.specs.Places.{AreOut, Begins, ComesBack, FreesOne, LeavesFree, Place, Runs, Over, Settles, Stands, and_places, gave, going, parts, told_of}
use Rattle.ov_serving.specs.Sessions.{IsOfSame}
use Rattle.ov_serving.specs.Spawning.{Finishes, SpawnerState, Starts}
use Rattle.ov_serving.proofs.Placing.{all_over, back_of, going_one, going_same, leaves_one, leaves_over, leaves_served, out_among, over_at, runs_at, tells_many, told_more, told_one, told_over}

-- a door by what it shows
pub same_door : {S : Type 0} (d : Doorway S) (listens : Option (List ℕ)) (told : Option (List (Given S)))
    (given : ℕ) → d.listens_at ≡ listens → d.told ≡ told → d.given ≡ given
    → d ≡ record {
      listens_at = listens;
      told = told;
      given = given;
      closed = d.closed;
      faults = d.faults;
    }
same_door d listens told given a b c =
    ap (λ x. record d { listens_at = x }) a
    ∙ ap (λ x. record d { listens_at = listens; told = x }) b
    ∙ ap (λ x. record d { listens_at = listens; told = told; given = x }) c

at_most_max : (a b : ℕ) → (a ≤ max a b) × (b ≤ max a b)
at_most_max a b = (grind (arith, nat_tests), grind (arith, nat_tests))

All-front : {X : Type 0} (P : X → Type 0) (xs ys : List X) → All P (xs ++ ys) → All P xs
All-front P [] ys all = All-nil P
All-front P (x ∷ xs) ys all =
    All-cons P x xs (All-head P x (xs ++ ys) all) (All-front P xs ys (All-tail P x (xs ++ ys) all))

All-behind : {X : Type 0} (P : X → Type 0) (xs ys : List X) → All P (xs ++ ys) → All P ys
All-behind P [] ys all = all
All-behind P (x ∷ xs) ys all = All-behind P xs ys (All-tail P x (xs ++ ys) all)

length-more : (a b : ℕ) → a + suc b ≡ suc (a + b)
length-more a b = omega arith

All-last : {X : Type 0} (P : X → Type 0) (xs : List X) (x : X) → All P (xs ++ x ∷ []) → P x
All-last P [] x all = All-head P x [] all
All-last P (y ∷ xs) x all = All-last P xs x (All-tail P y (xs ++ x ∷ []) all)

-- a session of this stream and pass, that ended so
abbrev over : {L V : Type 0} → L → PassState V → Ended L V → PassSession (PassState V) L
over stream pass e = record {
  session = record { given = stream; left = e.stream; ending = e.ending };
  before = pass;
  after = e.pass;
}

module _ {L V G : Type 0} (one : OneSession (PassState V) L) where
  out_among_all : (d : Doorway L) (before : List (made.Session L V G)) (s : made.Session L V G)
      (others : List (made.Session L V G)) → AreOut d (before ++ s ∷ others) → IsOut d s.number
  out_among_all d [] s others all = all.0
  out_among_all d (first ∷ before) s others all = out_among_all d before s others all.1

  -- the session that was finished is out of the door
  pub ended_out : (d : Doorway L) (spawner after : SpawnerState L V G) (e : Ended L V)
      → Finishes one spawner (Some e) after → AreOut d spawner.started → IsOut d e.number
  ended_out d spawner after e (before, s, others, listed, (number, served), is) all =
      subst (λ (n : ℕ). IsOut d n) (sym number)
      (out_among_all d before s others (subst (λ l. AreOut d l) listed all))

  -- and there is room for its pass
  pub ended_room : (spawner after : SpawnerState L V G) (e : Ended L V)
      → Finishes one spawner (Some e) after → (free room : ℕ)
      → length spawner.started + free ≤ room → free < room
  ended_room spawner after e (before, s, others, listed, ends, is) free room fits =
      let many : length spawner.started ≡ length before + suc (length others) =
      ap length listed ∙ length-append before (s ∷ others) in
      omega (arith, many, fits)

module _ {L V G : Type 0} where
  module _ (one : OneSession (PassState V) L) (shared : SharedState V) (passes : List (PassState V))
      (old : Doorway L) (unused : IsUnused old) where
    abbrev StandsAt : List (PassState V) → Doorway L → SpawnerState L V G → ℕ → Type 0
    StandsAt free new spawner served = Stands one shared passes free old new spawner served

    module _ (free : List (PassState V)) (new : Doorway L) (spawner : SpawnerState L V G)
        (served : ℕ) (so : StandsAt free new spawner served) where
      -- a started session has a pass of the shared value
      abbrev IsOwn : made.Session L V G → Type 0
      IsOwn x = IsPassOf shared x.pass

      told_is : new.told ≡ and_places old.told so.places
      told_is = ap (λ (d : Doorway L). d.told) so.shows

      given_is : new.given ≡ served
      given_is = ap (λ (d : Doorway L). d.given) so.shows

      listens_is : new.listens_at ≡ old.listens_at
      listens_is = ap (λ (d : Doorway L). d.listens_at) so.shows

      all_out_of : (front : List (ℕ × L × PassState V)) (started : List (made.Session L V G))
          → front ++ map parts started ≡ going 0 so.places → AreOut new started
      all_out_of front [] same = tt
      all_out_of front (s ∷ more) same =
          let t : PassSession (PassState V) L = record {
            session = record { given = s.stream; left = s.stream; ending = ends.End };
            before = s.pass;
            after = s.pass;
          } in
          let r = runs_at so.places 0 s.number s.stream s.pass t front (map parts more) refl (sym same) in
          let number : s.number ≡ r.place = omega (arith, r.number_is) in (
            record {
              given = omega (arith, given_is, so.number, number, r.inside);
              out = subst (λ (told : Option (List (Given L))). IsOutAmong told s.number) (sym told_is)
                  (out_among old.told so.places s.number r.place s.stream unused.told number r.out);
            },
            all_out_of (front ++ parts s ∷ []) more
                (append_assoc front (parts s ∷ []) (map parts more) ∙ same),
          )

      -- the started sessions are out of the door
      pub all_out : AreOut new spawner.started
      all_out = all_out_of [] spawner.started so.running

      -- the door has given as many streams
      pub is_at : IsAt new served
      is_at = record {
        given = given_is;
        told = subst (λ (told : Option (List (Given L))). TellsMany told served) (sym told_is)
            (tells_many old.told so.places served unused.told so.number);
      }

      -- one of the started sessions was finished
      pub finished : ((p q : PassState V) (given left : L) (ending : SessionEnd)
          → one p q given left ending → IsOfSame p q)
          → (e : Ended L V) (after : SpawnerState L V G) (newer : Doorway L)
          (freed : List (PassState V)) → Finishes one spawner (Some e) after
          → ComesBack e new newer free freed → StandsAt freed newer after served
      finished keeps e after newer freed (before, s, others, listed, (number_is, served_so), is) back =
          let t = over s.stream s.pass e in
          let front = map parts before in
          let rest = map parts others in
          let left : after.started ≡ before ++ others = ap (λ (x : SpawnerState L V G). x.started) is in
          let starts : going 0 so.places ≡ front ++ (s.number, s.stream, s.pass) ∷ rest =
          sym so.running ∙ ap (map parts) listed ∙ map-append parts before (s ∷ others) in
          let placed = over_at so.places (length front) t in
          let r = runs_at so.places 0 s.number s.stream s.pass t front rest refl starts in
          let number : e.number ≡ r.place = omega (arith, number_is, r.number_is) in
          let same = keeps s.pass e.pass s.stream e.stream e.ending served_so in
          let running : All IsOwn (before ++ s ∷ others) = subst (λ l. All IsOwn l) listed so.own_running in
          let own = All-head IsOwn s others (All-behind IsOwn before (s ∷ others) running) in
          let many : length spawner.started ≡ suc (length after.started) =
          ap length listed ∙ length-append before (s ∷ others)
          ∙ length-more (length before) (length others)
          ∙ ap suc (sym (ap length left ∙ length-append before others)) in
          let longer : length freed ≡ length free + 1 =
          ap length back.frees ∙ length-append free (e.pass ∷ []) in
          let most : after.most ≡ spawner.most = ap (λ (x : SpawnerState L V G). x.most) is in
          record {
            places = placed;
            number = so.number ∙ sym r.long;
            shows = same_door newer old.listens_at (and_places old.told placed) served
                (ap (λ (d : Doorway L). d.listens_at) back.shows ∙ listens_is)
                (ap (λ (d : Doorway L). d.told) back.shows
                ∙ ap (λ (told : Option (List (Given L))). told_back told e.number (back_of t)) told_is
                ∙ told_over old.told so.places placed e.number r.place (back_of t)
                unused.told number r.back)
                (ap (λ (d : Doorway L). d.given) back.shows ∙ given_is);
            running = ap (map parts) left ∙ map-append parts before others ∙ sym r.after;
            leaves = subst (λ (l : List (PassState V)). LeavesFree one passes placed l) (sym back.frees)
                (leaves_over one so.places passes free s.number s.stream t front rest
                served_so starts so.leaves);
            own_free = subst (λ (l : List (PassState V)). All (IsPassOf shared) l) (sym back.frees)
                (All-push (IsPassOf shared) free e.pass so.own_free
                (same.0 ∙ own.0, same.1 ∙ own.1));
            own_running = subst (λ l. All IsOwn l) (sym left)
                (All-append IsOwn before others (All-front IsOwn before (s ∷ others) running)
                (All-tail IsOwn s others (All-behind IsOwn before (s ∷ others) running)));
            all = omega (arith, so.all, many, longer);
            within = omega (arith, so.within, many, most);
          }

      -- one more stream was given, and its session started or served here by the last free pass
      module _ (others : List (PassState V)) (pass : PassState V)
          (free_is : free ≡ others ++ pass ∷ []) where
        leaves : LeavesFree one passes so.places (others ++ pass ∷ [])
        leaves = subst (λ l. LeavesFree one passes so.places l) free_is so.leaves

        own : All (IsPassOf shared) (others ++ pass ∷ [])
        own = subst (λ l. All (IsPassOf shared) l) free_is so.own_free

        own_others : All (IsPassOf shared) others
        own_others = All-front (IsPassOf shared) others (pass ∷ []) own

        own_pass : IsPassOf shared pass
        own_pass = All-last (IsPassOf shared) others pass own

        all_but_one : length spawner.started + (length others + 1) ≡ length passes
        all_but_one = omega (
          arith,
          so.all,
          ap length free_is ∙ length-append others (pass ∷ []),
        )

        pub started_one : (stream : L) (s : made.Session L V G) (after : SpawnerState L V G)
            (newer : Doorway L) (freed : List (PassState V)) → parts s ≡ (served, stream, pass)
            → Starts spawner s (Ok tt) after → newer ≡ gave new stream → freed ≡ others
            → StandsAt freed newer after (served + 1)
        started_one stream s after newer freed is starts same freed_is =
            let listed : after.started ≡ spawner.started ++ s ∷ [] =
            ap (λ (x : SpawnerState L V G). x.started) starts in
            let most : after.most ≡ max spawner.most (length spawner.started + 1) =
            ap (λ (x : SpawnerState L V G). x.most) starts in
            let many : length after.started ≡ length spawner.started + 1 =
            ap length listed ∙ length-append spawner.started (s ∷ []) in
            let placed = so.places ++ Runs stream pass ∷ [] in
            let number : 0 + length so.places ≡ served = omega (arith, so.number) in
            let long : length placed ≡ length so.places + 1 =
            length-append so.places (Runs stream pass ∷ []) in
            record {
              places = placed;
              number = omega (arith, so.number, long);
              shows = same_door newer old.listens_at (and_places old.told placed) (served + 1)
                  (ap (λ (d : Doorway L). d.listens_at) same ∙ listens_is)
                  (ap (λ (d : Doorway L). d.told) same
                  ∙ ap (λ (told : Option (List (Given L))). and_one told stream) told_is
                  ∙ told_one old.told so.places stream pass)
                  (ap (λ (d : Doorway L). d.given) same ∙ ap (λ (n : ℕ). n + 1) given_is);
              running = ap (map parts) listed
                  ∙ map-append parts spawner.started (s ∷ [])
                  ∙ ap (λ (l : List (ℕ × L × PassState V)). l ++ parts s ∷ []) so.running
                  ∙ ap (λ (x : ℕ × L × PassState V). going 0 so.places ++ x ∷ []) is
                  ∙ ap (λ (n : ℕ). going 0 so.places ++ (n, stream, pass) ∷ []) (sym number)
                  ∙ sym (going_one so.places 0 stream pass);
              leaves = subst (λ l. LeavesFree one passes placed l) (sym freed_is)
                  (leaves_one one so.places passes others stream pass leaves);
              own_free = subst (λ l. All (IsPassOf shared) l) (sym freed_is) own_others;
              own_running = subst (λ l. All (λ (x : made.Session L V G). IsPassOf shared x.pass) l)
                  (sym listed)
                  (All-push (λ (x : made.Session L V G). IsPassOf shared x.pass) spawner.started s
                  so.own_running
                  (subst (λ (x : ℕ × L × PassState V). IsPassOf shared x.2) (sym is) own_pass));
              all = omega (arith, all_but_one, many, ap length freed_is);
              within = let low = at_most_max spawner.most (length spawner.started + 1) in
                  omega (arith, low.1, most, many);
            }

        pub served_one_here : ((p q : PassState V) (given left : L) (ending : SessionEnd)
            → one p q given left ending → IsOfSame p q)
            → (stream : L) (e : Ended L V) (after : SpawnerState L V G) (newer : Doorway L)
            (freed : List (PassState V))
            → Begins one served stream pass spawner after (Some e)
            → ComesBack e (gave new stream) newer others freed
            → StandsAt freed newer after (served + 1)
        served_one_here keeps stream e after newer freed (number, served_so, is) back =
            let t = over stream pass e in
            let placed = so.places ++ Over t ∷ [] in
            let same = keeps pass e.pass stream e.stream e.ending served_so in
            let listed : after.started ≡ spawner.started =
            ap (λ (x : SpawnerState L V G). x.started) is in
            let most : after.most ≡ spawner.most = ap (λ (x : SpawnerState L V G). x.most) is in
            let taken : newer ≡ taken_back (gave new stream) served e.stream e.ending =
            back.shows ∙ ap (λ (n : ℕ). taken_back (gave new stream) n e.stream e.ending) number in
            let shows = served_one new (gave new stream) newer served t.session is_at refl taken in
            let long : length placed ≡ length so.places + 1 =
            length-append so.places (Over t ∷ []) in
            let longer : length freed ≡ length others + 1 =
            ap length back.frees ∙ length-append others (e.pass ∷ []) in
            record {
              places = placed;
              number = omega (arith, so.number, long);
              shows = same_door newer old.listens_at (and_places old.told placed) (served + 1)
                  (ap (λ (d : Doorway L). d.listens_at) shows ∙ listens_is)
                  (ap (λ (d : Doorway L). d.told) shows
                  ∙ ap (λ (told : Option (List (Given L))). and_all told (t.session ∷ [])) told_is
                  ∙ told_more old.told so.places t)
                  (ap (λ (d : Doorway L). d.given) shows ∙ ap (λ (n : ℕ). n + 1) given_is);
              running = ap (map parts) listed ∙ so.running ∙ sym (going_same so.places 0 t);
              leaves = subst (λ l. LeavesFree one passes placed l) (sym back.frees)
                  (leaves_served one so.places passes others t served_so leaves);
              own_free = subst (λ l. All (IsPassOf shared) l) (sym back.frees)
                  (All-push (IsPassOf shared) others e.pass own_others
                  (same.0 ∙ own_pass.0, same.1 ∙ own_pass.1));
              own_running = subst (λ l. All (λ (x : made.Session L V G). IsPassOf shared x.pass) l)
                  (sym listed) so.own_running;
              all = omega (arith, all_but_one, ap length listed, longer);
              within = omega (arith, so.within, ap length listed, most);
            }

      -- the door shows something else of its faults, and whether it has more streams
      pub stands_too : (newer : Doorway L) → newer.listens_at ≡ new.listens_at
          → newer.told ≡ new.told → newer.given ≡ new.given → StandsAt free newer spawner served
      stands_too newer listens told given = record {
        places = so.places;
        number = so.number;
        shows = same_door newer old.listens_at (and_places old.told so.places) served
            (listens ∙ listens_is) (told ∙ told_is) (given ∙ given_is);
        running = so.running;
        leaves = so.leaves;
        own_free = so.own_free;
        own_running = so.own_running;
        all = so.all;
        within = so.within;
      }
