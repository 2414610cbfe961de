-- The passes that are given back.
use Rattle.std.proofs.Common.{◌≡◌, List, [], ◌∷◌, ◌++◌, map, ap, sym, ◌∙◌, arith, subst, append-nil}
use Rattle.std.proofs.lemmas.List.{get_or-map, length-map}
use Rattle.std.specs.Prelude.{All}
use Rattle.std.proofs.lemmas.List.Elements.{All-push}
use Rattle.ov_peer.specs.Tells.{AnswererTells}
use Rattle.ov_turn.specs.declared.view.Entry.{Entry}
use Rattle.ov_turn.specs.declared.view.Knowledge.{Knowledge}
use Rattle.ov_turn.specs.declared.view.View.{View}
use Rattle.ov_turn.specs.Passes.{IsLeft, PassState, SharedState}
use Rattle.ov_turn.specs.Logs.{GoesOnFrom, LeavesStuck}
use Rattle.ov_turn.specs.Steps.{GivesUp, TakesIn}

-- what holds of the image of each holds of each
all_of_map : {X Y : Type 0} (P : Y → Type 0) (f : X → Y) (xs : List X) → All P (map f xs)
    → All (λ x. P (f x)) xs
all_of_map P f xs h k d lt =
    subst P (get_or-map f xs k d (f d) lt) (h k (f d) (omega (arith, length-map xs f)))

module _ {A : Type 0} (tells : AnswererTells A) where
  -- all passes given back
  pub left_by_all : (s : SharedState A) (passes rest : List (PassState A)) (last : PassState A)
      (v w : View A) (value : A) → passes ≡ rest ++ last ∷ [] → v.knowledge ≡ last.knowledge
      → v.taken_in ≡ [] → TakesIn v rest [] w → GivesUp tells s.start s.passes w value
      → IsLeft tells s passes value
  left_by_all s passes rest last v w value is same none taken given =
      let log : List Entry = given.0 in
      let ks : List Knowledge = map (λ (q : PassState A). q.knowledge) rest in
      let K : Knowledge → Type 0 = λ k. GoesOnFrom tells s.start k log in
      let all : w.taken_in ≡ ks = taken.2 ∙ (ap (λ l. ks ++ l) none ∙ append-nil ks) in
      let others : All (λ (q : PassState A). K q.knowledge) rest =
      all_of_map K (λ q. q.knowledge) rest (subst (All K) all given.4) in
      let one : K last.knowledge = subst K (taken.0 ∙ same) given.3 in
      let S : Knowledge → Type 0 = LeavesStuck tells value in
      let others_stuck : All (λ (q : PassState A). S q.knowledge) rest =
      all_of_map S (λ q. q.knowledge) rest (subst (All S) all given.6) in
      let one_stuck : S last.knowledge = subst S (taken.0 ∙ same) given.5 in (
        log,
        given.1,
        given.2,
        subst (All (λ (q : PassState A). K q.knowledge)) (sym is)
            (All-push (λ (q : PassState A). K q.knowledge) rest last others one),
        subst (All (λ (q : PassState A). S q.knowledge)) (sym is)
            (All-push (λ (q : PassState A). S q.knowledge) rest last others_stuck one_stuck),
      )
