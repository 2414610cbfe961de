-- Serving goes on, and ends.
use Rattle.std.proofs.Common.{◌≡◌, ◌∙◌, ◌⊎◌, inl, inr, ℕ, zero, suc, ◌+◌, ◌-◌, ◌^◌, ◌<◌, ◌≤◌, List, [], ◌∷◌, ◌++◌, Some, None, refl, sym, ap, subst, length, length-append, append-nil, map, arith, Bool, true, false}
use Rattle.std.specs.Prelude.{All, Option, Ok, max, min}
use Rattle.std.proofs.lemmas.Bool.Decides.{nat_tests}
use Rattle.std.proofs.lemmas.List.Elements.{All-nil}
use Rattle.std.specs.List.Sorted.{IsPermutation}
use Rattle.std.proofs.lemmas.List.Sorted.{IsPermutation-refl}
use Rattle.ov_base.specs.Causes.{Rose}
use Rattle.ov_io.specs.Tells.{SinkTells, SourceTells}
use Rattle.ov_peer.specs.Tells.{AnswererTells}
use Rattle.ov_session.specs.declared.end.SessionEnd.{SessionEnd}
use Rattle.ov_session.specs.Doors.{Doorway, FailsOnce, Given, IsUnused, TellsNone}
use Rattle.ov_session.specs.Serving.{OneSession, SaysRose, and_all}
use Rattle.ov_turn.specs.Passes.{IsPassOf, PassState, SharedState}
use Rattle.ov_serving.specs.declared.session.Ended.{Ended}
use Rattle.ov_serving.specs.declared.session.Session as made
use Rattle.ov_serving.specs.declared.serving.Next.TheVariants as nexts
use Rattle.ov_serving.specs.AtOnce.{PassSession, ServesAll, plain}
use Rattle.ov_serving.specs.Places.{Begins, ComesBack, EndsOne, FreesOne, GoesOn, HasServed, IsBusy, LeavesFree, Over, Stands, TakesNext, and_places, parts}
use Rattle.ov_serving.specs.Sessions.{IsOfSame, serves_by_pass}
use Rattle.ov_serving.specs.Spawning.{CountsRefused, Finishes, SpawnerState}
use Rattle.ov_serving.proofs.Placing.{all_over, leads_all, length_over, told_all}
use Rattle.ov_serving.proofs.Standing.{finished, same_door, served_one_here, stands_too, started_one}

-- a session by a pass leaves it a pass of the same value
pub keeps_same : {V S : Type 0} (answerer : AnswererTells V) (source : SourceTells S)
    (sink : SinkTells S) (p q : PassState V) (given left : S) (ending : SessionEnd)
    → serves_by_pass answerer source sink p q given left ending → IsOfSame p q
keeps_same answerer source sink p q given left ending served = served.1

most_first : (most passes : ℕ) → most ≤ max most passes
most_first most passes = grind (arith, nat_tests)

most_within : (most first after started passes : ℕ) → after ≡ max most (started + 1)
    → most ≤ max first passes → started + 1 ≤ passes → after ≤ max first passes
most_within most first after started passes is low fits = grind (arith, nat_tests)

least_within : (served passes most started : ℕ) → started ≤ most
    → (passes ≤ most) ⊎ (served ≡ started) → min served passes ≤ most
least_within served passes most started within (inl full) = grind (arith, nat_tests)
least_within served passes most started within (inr all) = grind (arith, nat_tests)

one_more : (first mid last alone : ℕ) → mid ≡ min (first + alone) (2 ^ 64 - 1) → last ≡ min (mid + 1) (2 ^ 64 - 1)
    → last ≡ min (first + (alone + 1)) (2 ^ 64 - 1)
one_more first mid last alone so is = grind (arith, nat_tests)

-- one more session wasn't started
refused_one : (first mid last alone now : ℕ) → CountsRefused first mid alone → last ≡ min (mid + 1) (2 ^ 64 - 1) → now ≡ alone + 1
    → CountsRefused first last now
refused_one first mid last alone now so is count = record {
  none = λ quiet. absurd (omega (arith, quiet, count));
  some = λ several. subst (λ (n : ℕ). last ≡ min (first + n) (2 ^ 64 - 1)) (sym count) (by_number alone refl);
} where
  by_number : (n : ℕ) → alone ≡ n → last ≡ min (first + (alone + 1)) (2 ^ 64 - 1)
  by_number zero quiet =
      let same : mid ≡ first = so.none quiet in
      is ∙ ap (λ (n : ℕ). min n (2 ^ 64 - 1)) (omega (arith, same, quiet))
  by_number (suc n) several = one_more first mid last alone (so.some (omega (arith, several))) is

-- what is so of one count is so of an equal one
refused_same : (first mid last alone now : ℕ) → CountsRefused first mid alone → last ≡ mid → now ≡ alone → CountsRefused first last now
refused_same first mid last alone now so is count = record {
  none = λ quiet. is ∙ so.none (sym count ∙ quiet);
  some = λ several.
      is ∙ so.some (subst (λ (n : ℕ). 0 < n) count several)
      ∙ ap (λ (n : ℕ). min (first + n) (2 ^ 64 - 1)) (sym count);
}

finish_leaves : {L V G : Type 0} (one : OneSession (PassState V) L)
    (spawner after : SpawnerState L V G) (e : Ended L V) → Finishes one spawner (Some e) after
    → after ≡ record spawner { started = after.started }
finish_leaves {L} {V} {G} one spawner after e (before, s, others, listed, (number, served), is) =
    is ∙ ap (λ l. record spawner { started = l }) (sym (ap (λ (x : SpawnerState L V G). x.started) is))

begin_leaves : {L V G : Type 0} (one : OneSession (PassState V) L) (number : ℕ) (stream : L)
    (pass : PassState V) (spawner after : SpawnerState L V G) (e : Ended L V)
    → Begins one number stream pass spawner after (Some e)
    → after ≡ record spawner { refused = min (spawner.refused + 1) (2 ^ 64 - 1) }
begin_leaves one number stream pass spawner after e (same, served, is) = is

full_on : {L V G : Type 0} (alone now served : ℕ) (spawner after : SpawnerState L V G) (passes : ℕ)
    → now ≡ 0 → now ≡ alone → after.most ≡ max spawner.most (length spawner.started + 1)
    → length after.started ≡ length spawner.started + 1
    → (alone ≡ 0 → (passes ≤ spawner.most) ⊎ (served ≡ length spawner.started))
    → (passes ≤ after.most) ⊎ (served + 1 ≡ length after.started)
full_on alone now served spawner after passes quiet count most many full =
    cases (full (omega (arith, quiet, count))) where
      cases : (passes ≤ spawner.most) ⊎ (served ≡ length spawner.started)
          → (passes ≤ after.most) ⊎ (served + 1 ≡ length after.started)
      cases (inl high) =
          let low : spawner.most ≤ max spawner.most (length spawner.started + 1) =
          grind (arith, nat_tests) in
          inl (omega (arith, high, low, most))
      cases (inr all) = inr (omega (arith, all, many))

module _ {L V G : Type 0} (one : OneSession (PassState V) L)
    (keeps : (p q : PassState V) (given left : L) (ending : SessionEnd)
    → one p q given left ending → IsOfSame p q) (shared : SharedState V)
    (passes : List (PassState V)) (some : 0 < length passes) (old : Doorway L)
    (unused : IsUnused old) (before : SpawnerState L V G) where
  abbrev Goes : List (PassState V) → Doorway L → SpawnerState L V G → ℕ → ℕ → Type 0
  Goes free new after served alone = GoesOn one shared passes free old new before after served alone

  -- ---- the beginning

  told_first : (told : Option (List (Given L))) → told ≡ and_places {P = PassState V} told []
  told_first None = refl
  told_first (Some l) = ap (λ (m : List (Given L)). Some m) (sym (append-nil l))

  pub begun : (alone : ℕ) → before.started ≡ [] → alone ≡ 0 → All (IsPassOf shared) passes
      → Goes passes old before 0 alone
  begun alone idle none own = record {
    stands = record {
      places = [];
      number = refl;
      shows = same_door old old.listens_at (and_places old.told []) 0 refl (told_first old.told)
          unused.given;
      running = ap (map parts) idle;
      leaves = IsPermutation-refl passes;
      own_free = own;
      own_running = subst (λ l. All (λ (x : made.Session L V G). IsPassOf shared x.pass) l)
          (sym idle) (All-nil (λ (x : made.Session L V G). IsPassOf shared x.pass));
      all = omega (arith, ap length idle);
      within = omega (arith, ap length idle);
    };
    busy = record {
      bounded = most_first before.most (length passes);
      full = λ quiet. inr (sym (ap length idle));
      counted = omega (arith, none);
      refuses = record { none = λ quiet. refl; some = λ several. absurd (omega (arith, none, several)) };
    };
    calm = refl;
  }

  -- ---- a pass is free

  freed_one : (free freed : List (PassState V)) (new newer : Doorway L)
      (spawner after : SpawnerState L V G) (served alone : ℕ) → Goes free new spawner served alone
      → free ≡ [] → (e : Ended L V) → Finishes one spawner (Some e) after
      → ComesBack e new newer free freed
      → Goes freed newer after served alone × (0 < length freed)
  freed_one free freed new newer spawner after served alone so none e ends back =
      let most : after.most ≡ spawner.most = ap (λ (x : SpawnerState L V G). x.most) (finish_leaves one spawner after e ends) in
      let empty : length free ≡ 0 = ap length none in
      let longer : length freed ≡ length free + 1 =
      ap length back.frees ∙ length-append free (e.pass ∷ []) in (
        record {
          stands = finished one shared passes old unused free new spawner served so.stands keeps e
              after newer freed ends back;
          busy = record {
            bounded = subst (λ (n : ℕ). n ≤ max before.most (length passes)) (sym most)
                so.busy.bounded;
            full = λ quiet. inl (omega (arith, most, empty, so.stands.all, so.stands.within));
            counted = so.busy.counted;
            refuses = refused_same before.refused spawner.refused after.refused alone alone
                so.busy.refuses
                (ap (λ (x : SpawnerState L V G). x.refused) (finish_leaves one spawner after e ends))
                refl;
          };
          calm = ap (λ (d : Doorway L). d.faults) back.shows ∙ so.calm;
        },
        omega (arith, longer),
      )

  -- one pass at least is free
  pub freed : (free left : List (PassState V)) (new newer : Doorway L)
      (spawner after : SpawnerState L V G) (served alone : ℕ) → Goes free new spawner served alone
      → FreesOne one spawner after new newer free left
      → Goes left newer after served alone × (0 < length left)
  freed free left new newer spawner after served alone so (inl (is, same, door, list)) = (
    subst (λ (l : List (PassState V)). Goes l newer after served alone) (sym list)
        (subst (λ (d : Doorway L). Goes free d after served alone) (sym door)
        (subst (λ (x : SpawnerState L V G). Goes free new x served alone) (sym same) so)),
    subst (λ (l : List (PassState V)). 0 < length l) (sym list) is,
  )
  freed free left new newer spawner after served alone so (inr (true, none, (e, ends, back))) =
      freed_one free left new newer spawner after served alone so none e ends back
  freed free left new newer spawner after served alone so (inr (false, none, (idle, same, door, list))) =
      let empty : length free ≡ 0 = ap length none in
      let still : length spawner.started ≡ 0 = ap length idle in
      absurd (omega (arith, empty, still, so.stands.all, some))

  -- ---- one more stream

  pub taken : (free left : List (PassState V)) (new newer : Doorway L)
      (spawner after : SpawnerState L V G) (served alone now : ℕ)
      → Goes free new spawner served alone
      → TakesNext one served spawner after new newer free left alone now nexts.Served
      → Goes left newer after (served + 1) now
  taken free left new newer spawner after served alone now so (stream, pass, others, is, inl ((s, made_of, starts), door, list, count)) =
      let most : after.most ≡ max spawner.most (length spawner.started + 1) =
      ap (λ (x : SpawnerState L V G). x.most) starts in
      let many : length after.started ≡ length spawner.started + 1 =
      ap (λ (x : SpawnerState L V G). length x.started) starts
      ∙ length-append spawner.started (s ∷ []) in
      let shorter : length free ≡ length others + 1 =
      ap length is ∙ length-append others (pass ∷ []) in
      record {
        stands = started_one one shared passes old unused free new spawner served so.stands others
            pass is stream s after newer left made_of starts door list;
        busy = record {
          bounded = most_within spawner.most before.most after.most (length spawner.started)
              (length passes) most so.busy.bounded
              (omega (arith, so.stands.all, shorter));
          full = λ quiet. full_on alone now served spawner after (length passes) quiet count most many
              so.busy.full;
          counted = omega (arith, so.busy.counted, count);
          refuses = refused_same before.refused spawner.refused after.refused alone now
              so.busy.refuses (ap (λ (x : SpawnerState L V G). x.refused) starts) count;
        };
        calm = ap (λ (d : Doorway L). d.faults) door ∙ so.calm;
      }
  taken free left new newer spawner after served alone now so (stream, pass, others, is, inr (e, begins, back, count)) =
      let most : after.most ≡ spawner.most =
      ap (λ (x : SpawnerState L V G). x.most)
      (begin_leaves one served stream pass spawner after e begins) in
      record {
        stands = served_one_here one shared passes old unused free new spawner served so.stands
            others pass is keeps stream e after newer left begins back;
        busy = record {
          bounded = subst (λ (n : ℕ). n ≤ max before.most (length passes)) (sym most)
              so.busy.bounded;
          full = λ quiet. absurd (omega (arith, quiet, count));
          counted = omega (arith, so.busy.counted, count);
          refuses = refused_one before.refused spawner.refused after.refused alone now
              so.busy.refuses
              (ap (λ (x : SpawnerState L V G). x.refused)
              (begin_leaves one served stream pass spawner after e begins))
              count;
        };
        calm = ap (λ (d : Doorway L). d.faults) back.shows ∙ so.calm;
      }

  -- ---- no more streams

  abbrev Has : List (PassState V) → Doorway L → SpawnerState L V G → ℕ → ℕ → ℕ → Bool → Type 0
  Has free new after wanted served alone failed =
      HasServed one shared passes free old new before after wanted served alone failed

  once : (free : List (PassState V)) (new : Doorway L) (after : SpawnerState L V G)
      (served alone : ℕ) → Goes free new after served alone → alone ≡ 0
      → min served (length passes) ≤ after.most
  once free new after served alone so quiet =
      least_within served (length passes) after.most (length after.started) so.stands.within
      (so.busy.full quiet)

  pub door_closed : (free : List (PassState V)) (new newer : Doorway L)
      (after : SpawnerState L V G) (wanted served alone : ℕ) → Goes free new after served alone
      → served < wanted → newer ≡ record new { closed = true }
      → Has free newer after wanted served alone false
  door_closed free new newer after wanted served alone so less is = record {
    stands = stands_too one shared passes old unused free new after served so.stands newer
        (ap (λ (d : Doorway L). d.listens_at) is) (ap (λ (d : Doorway L). d.told) is)
        (ap (λ (d : Doorway L). d.given) is);
    bounded = so.busy.bounded;
    at_once = λ quiet. once free new after served alone so quiet;
    counted = so.busy.counted;
    refuses = so.busy.refuses;
    most = omega (arith, less);
    fewer = λ short. inl (ap (λ (d : Doorway L). d.closed) is);
    says = ap (λ (d : Doorway L). d.faults) is ∙ so.calm;
  }

  pub door_failed : (free : List (PassState V)) (new newer : Doorway L)
      (after : SpawnerState L V G) (wanted served alone : ℕ) → Goes free new after served alone
      → served < wanted → FailsOnce new newer → Has free newer after wanted served alone true
  door_failed free new newer after wanted served alone so less (is, rose) = record {
    stands = stands_too one shared passes old unused free new after served so.stands newer
        (ap (λ (d : Doorway L). d.listens_at) is) (ap (λ (d : Doorway L). d.told) is)
        (ap (λ (d : Doorway L). d.given) is);
    bounded = so.busy.bounded;
    at_once = λ quiet. once free new after served alone so quiet;
    counted = so.busy.counted;
    refuses = so.busy.refuses;
    most = omega (arith, less);
    fewer = λ short. inr refl;
    says = subst (λ (n : ℕ). Rose n newer.faults) so.calm rose;
  }

  pub closed_next : (free left : List (PassState V)) (new newer : Doorway L)
      (spawner after : SpawnerState L V G) (wanted served alone now : ℕ)
      → Goes free new spawner served alone → served < wanted
      → TakesNext one served spawner after new newer free left alone now nexts.Closed
      → Has left newer after wanted served now false
  closed_next free left new newer spawner after wanted served alone now so less (same, is, list, count) =
      subst (λ (n : ℕ). Has left newer after wanted served n false) (sym count)
      (subst (λ (l : List (PassState V)). Has l newer after wanted served alone false) (sym list)
      (subst (λ (x : SpawnerState L V G). Has free newer x wanted served alone false) (sym same)
      (door_closed free new newer spawner wanted served alone so less is)))

  pub failed_next : (free left : List (PassState V)) (new newer : Doorway L)
      (spawner after : SpawnerState L V G) (wanted served alone now : ℕ)
      → Goes free new spawner served alone → served < wanted
      → TakesNext one served spawner after new newer free left alone now nexts.Failed
      → Has left newer after wanted served now true
  failed_next free left new newer spawner after wanted served alone now so less (same, fails, list, count) =
      subst (λ (n : ℕ). Has left newer after wanted served n true) (sym count)
      (subst (λ (l : List (PassState V)). Has l newer after wanted served alone true) (sym list)
      (subst (λ (x : SpawnerState L V G). Has free newer x wanted served alone true) (sym same)
      (door_failed free new newer spawner wanted served alone so less fails)))

  -- ---- the end

  pub one_finished : (free left : List (PassState V)) (new newer : Doorway L)
      (spawner after : SpawnerState L V G) (wanted served alone : ℕ) (failed : Bool)
      → Has free new spawner wanted served alone failed
      → EndsOne one spawner after new newer free left true
      → Has left newer after wanted served alone failed
  one_finished free left new newer spawner after wanted served alone failed so (e, ends, back) =
      let most : after.most ≡ spawner.most = ap (λ (x : SpawnerState L V G). x.most) (finish_leaves one spawner after e ends) in
      record {
        stands = finished one shared passes old unused free new spawner served so.stands keeps e
            after newer left ends back;
        bounded = subst (λ (n : ℕ). n ≤ max before.most (length passes)) (sym most) so.bounded;
        at_once = λ quiet. subst (λ (n : ℕ). min served (length passes) ≤ n) (sym most)
            (so.at_once quiet);
        counted = so.counted;
        refuses = refused_same before.refused spawner.refused after.refused alone alone so.refuses
            (ap (λ (x : SpawnerState L V G). x.refused) (finish_leaves one spawner after e ends))
            refl;
        most = so.most;
        fewer = λ less. subst (λ (b : Bool). (b ≡ true) ⊎ (failed ≡ true))
            (sym (ap (λ (d : Doorway L). d.closed) back.shows)) (so.fewer less);
        says = subst (λ (n : ℕ). SaysRose old.faults n failed)
            (sym (ap (λ (d : Doorway L). d.faults) back.shows)) so.says;
      }

  module _ (free : List (PassState V)) (new : Doorway L) (after : SpawnerState L V G)
      (wanted served alone : ℕ) (failed : Bool) (so : Has free new after wanted served alone failed)
      (idle : after.started ≡ []) where
    over : (ss : List (PassSession (PassState V) L)) × (so.stands.places ≡ map Over ss)
    over = all_over so.stands.places 0 (sym so.stands.running ∙ ap (map parts) idle)

    pub all_served : ServesAll one passes free old new wanted served failed
    all_served =
        let told : new.told ≡ and_places old.told so.stands.places =
        ap (λ (d : Doorway L). d.told) so.stands.shows in
        let given : new.given ≡ served = ap (λ (d : Doorway L). d.given) so.stands.shows in
        record {
          sessions = over.0;
          passes = leads_all one over.0 passes free
              (subst (λ l. LeavesFree one passes l free) over.1 so.stands.leaves);
          number = so.stands.number ∙ ap length over.1 ∙ length_over over.0;
          given = omega (arith, given, unused.given);
          told = told ∙ ap (λ l. and_places old.told l) over.1 ∙ told_all old.told over.0;
          stays = ap (λ (d : Doorway L). d.listens_at) so.stands.shows;
          most = so.most;
          fewer = so.fewer;
          says = so.says;
        }

  pub ended_all : (free left : List (PassState V)) (new newer : Doorway L)
      (spawner after : SpawnerState L V G) (wanted served alone : ℕ) (failed : Bool)
      → Has free new spawner wanted served alone failed
      → EndsOne one spawner after new newer free left false
      → ServesAll one passes left old newer wanted served failed
  ended_all free left new newer spawner after wanted served alone failed so (idle, same, door, list) =
      subst (λ (d : Doorway L). ServesAll one passes left old d wanted served failed) (sym door)
      (subst (λ (l : List (PassState V)). ServesAll one passes l old new wanted served failed)
      (sym list) (all_served free new spawner wanted served alone failed so idle))
