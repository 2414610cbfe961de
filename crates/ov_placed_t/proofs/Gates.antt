-- Where the gates of records are.
use Rattle.std.proofs.Common.{◌≡◌, ℕ, ◌+◌, ◌≤◌, ◌<◌, ◌^◌, List, [], ◌∷◌, ◌++◌, length, take, drop, get_or, refl, sym, ◌∙◌, ap, subst, arith, take-append-drop}
use Rattle.std.specs.Prelude.{None}
use Rattle.std.proofs.lemmas.List.{drop_more, take_all, take_more}
use Rattle.ov_base.specs.declared.mode.Mode.{Mode}
use Rattle.ov_journal.specs.Runs.{end_from}
use Rattle.ov_journal.specs.Book.{Records}
use Rattle.ov_journal.proofs.Reading.{end_from-size}
use Rattle.ov_images.specs.Damage.{HasBadRecord, Spot}
use Rattle.ov_record.specs.Forms.{second_form}
use Rattle.ov_placed.specs.Contents.{PlacedStore}
use Rattle.ov_placed.specs.Faults.{IsBadFor, NamesSpot}
use Rattle.ov_placed.specs.Replaying.{IsReplayOf, TakesRecord}
use Rattle.ov_placed.specs.declared.fault.ReplayFault.{ReplayFault}
use Rattle.ov_placed.specs.declared.fault.ReplayFault.TheVariants.{Damaged, Memory}
use Rattle.ov_placed.proofs.Replays.{replay_more, replay_stops}

-- the records of a store of the second format with these bodies
abbrev pub second_of : List (List ℕ) → Records
second_of bodies = record { bodies = bodies; step = None; bad = None }

end-append : (place : ℕ) (front rest : List (List ℕ))
    → end_from place (front ++ rest) ≡ end_from (end_from place front) rest
end-append place [] rest = refl
end-append place (body ∷ front) rest = end-append (place + 5 + length body) front rest

module _ (bodies : List (List ℕ)) (i : ℕ) (d : List ℕ) (lt : i < length bodies) where
  pub end-more : end_from 78 (take (i + 1) bodies)
      ≡ end_from 78 (take i bodies) + 5 + length (get_or bodies i d)
  end-more =
      ap (end_from 78) (take_more bodies i d lt)
      ∙ end-append 78 (take i bodies) (get_or bodies i d ∷ [])

  -- the next record ends where all do, or before
  pub next-ends : end_from 78 (take i bodies) + 5 + length (get_or bodies i d) ≤ end_from 78 bodies
  next-ends =
      let rest : List (List ℕ) = drop (i + 1) bodies in
      let place : ℕ = end_from 78 (take i bodies) + 5 + length (get_or bodies i d) in
      omega (
        arith,
        ap (end_from 78) (take-append-drop i bodies),
        end-append 78 (take i bodies) (drop i bodies),
        ap (end_from (end_from 78 (take i bodies))) (drop_more bodies i d lt),
        end_from-size place rest,
      )

  module _ (master : List ℕ) (mode : Mode) (first blocks : ℕ) (s : PlacedStore)
      (so_far : IsReplayOf master mode first blocks None (take i bodies) s) where
    pub next_replayed : (t : PlacedStore) → TakesRecord master second_form blocks s (get_or bodies i d) t
        → IsReplayOf master mode first blocks None (take (i + 1) bodies) t
    next_replayed t takes =
        subst (λ (l : List (List ℕ)). IsReplayOf master mode first blocks None l t)
        (sym (take_more bodies i d lt))
        (replay_more master mode first blocks None (take i bodies) s so_far t (get_or bodies i d) takes)

    pub next_stops : (gate : ℕ) (fault : ReplayFault)
        → (end_from 78 bodies < 2 ^ 64 → gate ≡ end_from 78 (take i bodies))
        → NamesSpot (IsBadFor second_form blocks s.catalogue s.placed (get_or bodies i d) gate) fault
        → NamesSpot (λ spot. end_from 78 bodies < 2 ^ 64
        → HasBadRecord master mode first blocks (second_of bodies) spot) fault
    next_stops gate (Damaged area offset) at_gate wrong = λ low.
        let body : List ℕ = get_or bodies i d in
        let rest : List (List ℕ) = drop (i + 1) bodies in
        let split : take i bodies ++ body ∷ rest ≡ bodies =
        ap (λ (l : List (List ℕ)). take i bodies ++ l) (sym (drop_more bodies i d lt))
        ∙ take-append-drop i bodies in
        let spot : Spot = record { area = area; place = offset } in
        subst (λ (l : List (List ℕ)). HasBadRecord master mode first blocks (second_of l) spot) split
        (replay_stops master mode first blocks None (take i bodies) s so_far rest None body gate spot
        (at_gate low) (omega (arith, low, at_gate low, next-ends)) wrong)
    next_stops gate Memory at_gate wrong = tt

pub all_replayed : (master : List ℕ) (mode : Mode) (first blocks : ℕ) (bodies : List (List ℕ))
    (i : ℕ) (s : PlacedStore) → length bodies ≤ i
    → IsReplayOf master mode first blocks None (take i bodies) s
    → IsReplayOf master mode first blocks None bodies s
all_replayed master mode first blocks bodies i s all so_far =
    subst (λ (l : List (List ℕ)). IsReplayOf master mode first blocks None l s) (take_all i bodies all)
    so_far
