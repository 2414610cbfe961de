-- All sessions are told of one list of accepted updates.
use Rattle.std.proofs.Common.{◌≡◌, ◌∙◌, ℕ, ◌+◌, List, [], ◌∷◌, ◌++◌, Some, None, refl, sym, ap, subst, append_assoc}
use Rattle.std.specs.Prelude.{◌||◌, All, Bool, true, false, Option}
use Rattle.std.specs.List.Sorted.{IsPermutation}
use Rattle.std.proofs.lemmas.Bool.{or_left, or_right}
use Rattle.std.proofs.lemmas.List.Elements.{All-cons, All-head, All-tail, All-weaker}
use Rattle.std.proofs.lemmas.List.Sorted.{All-permutation, IsPermutation-sym}
use Rattle.ov_io.specs.Tells.{SinkTells, SourceTells}
use Rattle.ov_peer.specs.Spellings.{fails_update, says_accepted}
use Rattle.ov_peer.specs.Tells.{AnswererTells}
use Rattle.ov_peer.proofs.Failing.{failed_accepts_none}
use Rattle.ov_session.specs.Exchanges.{Exchange, Leads}
use Rattle.ov_turn.specs.declared.view.Entry.{Entry}
use Rattle.ov_turn.specs.Logs.{BeginsWith, GoesOnFrom, longer_if}
use Rattle.ov_turn.specs.Passes.{AreFirst, IsPassOf, PassState, SharedState, after_call, next_entry}
use Rattle.ov_turn.proofs.Lists.{begins_push}
use Rattle.ov_serving.specs.Accepted.{exchanges_in}
use Rattle.ov_serving.specs.AtOnce.{LeadsPasses, PassSession}
use Rattle.ov_serving.specs.Calls.{TakesTurn, in_turns}
use Rattle.ov_serving.specs.Laws.{FirstPassesAreOfIt, SessionsAreToldOneHistory}
use Rattle.ov_serving.specs.Sessions.{serves_by_pass}
use Rattle.ov_serving.specs.Told.{AreTold, IsTold, SessionsAreTold}
use Rattle.ov_serving.proofs.Calls.{turn_same}
use Rattle.ov_serving.proofs.Owning.{asked_in, turn_numbers}

pub first_are_of_it : {V : Type 0} (answerer : AnswererTells V) → FirstPassesAreOfIt answerer
first_are_of_it answerer s items first i d lt =
    subst (IsPassOf s) (sym (first i d lt)) (refl, refl)

begins_before : (log middle first : List Entry) → BeginsWith log middle → BeginsWith middle first
    → BeginsWith log first
begins_before log middle first (rest, is) (more, so) =
    (more ++ rest, is ∙ (ap (λ l. l ++ rest) so ∙ append_assoc first more rest))

begins_longer : (b : Bool) (log first : List Entry) (e : Entry) → BeginsWith log first
    → BeginsWith (longer_if b log e) first
begins_longer true log first e begins = begins_push log first e begins
begins_longer false log first e begins = begins

-- The list begins with what a pass has seen. Once the pass was told that the disk failed in an
-- update, it is no more than that.
abbrev Shows : {V : Type 0} → List Entry → PassState V → Type 0
Shows log p = BeginsWith log p.knowledge.seen × (p.knowledge.failed ≡ true → log ≡ p.knowledge.seen)

module _ {V : Type 0} (answerer : AnswererTells V) (start : V) (log : List Entry) where
  abbrev Knows : PassState V → Type 0
  Knows p = Shows log p

  -- what the pass after a call shows of the list
  called : (p q : PassState V) (seen : List Entry) (failed : Bool)
      → q ≡ after_call p seen failed → Knows q
      → BeginsWith log seen × ((failed || p.knowledge.failed) ≡ true → log ≡ seen)
  called p q seen failed is knows = (
    subst (BeginsWith log) (ap (λ (x : PassState V). x.knowledge.seen) is) knows.0,
    λ fails.
        knows.1 (ap (λ (x : PassState V). x.knowledge.failed) is ∙ fails)
        ∙ ap (λ (x : PassState V). x.knowledge.seen) is,
  )

  turn_told : (p : PassState V) (request : List ℕ) (reply : Option (List ℕ)) (q : PassState V)
      → TakesTurn answerer start p request reply q → Knows q
      → IsTold answerer start log p.knowledge.number (p.calls + 1) request reply × Knows p
  turn_told p request (Some reply) q (before, goes, replies, refuses, is) knows =
      let e : Entry = next_entry p request in
      let seen = longer_if (says_accepted reply) before e in
      let fails = fails_update request reply in
      let here = called p q seen fails is knows in
      let same : says_accepted reply ≡ false → seen ≡ before =
      λ none. ap (λ (b : Bool). longer_if b before e) none in (
        (
          before,
          replies,
          here.0,
          λ failed. here.1 (or_left fails p.knowledge.failed failed)
              ∙ same (failed_accepts_none request reply failed),
        ),
        (
          begins_before log seen p.knowledge.seen here.0
              (begins_longer (says_accepted reply) before p.knowledge.seen e goes.0),
          λ failed. here.1 (or_right fails p.knowledge.failed failed)
              ∙ (same (refuses failed) ∙ goes.3 failed),
        ),
      )
  turn_told p request None q (before, goes, is) knows =
      let here = called p q before false is knows in (
        tt,
        (
          begins_before log before p.knowledge.seen here.0 goes.0,
          λ failed. here.1 failed ∙ goes.3 failed,
        ),
      )

  calls_told : (p q : PassState V) (es : List Exchange) → Leads (in_turns answerer) p es q
      → p.start ≡ Some start → Knows q
      → AreTold answerer start log p.knowledge.number p.calls es × Knows p
  calls_told p q [] same began knows = (tt, subst Knows (sym same) knows)
  calls_told p q (e ∷ es) (m, (first, is, turn), more) began knows =
      let one : first ≡ start = cc in
      let taken : TakesTurn answerer start p e.request e.reply m =
      subst (λ (v : V). TakesTurn answerer v p e.request e.reply m) one turn in
      let same = turn_same answerer start p e.request e.reply m taken in
      let rest = calls_told m q es more (same.1 ∙ began) knows in
      let told = turn_told p e.request e.reply m taken rest.1 in
      let numbers = turn_numbers answerer start p e.request e.reply m taken in (
        (
          told.0,
          subst (λ (c : ℕ). AreTold answerer start log p.knowledge.number c es) numbers.1
              (subst (λ (n : ℕ). AreTold answerer start log n m.calls es) numbers.0 rest.0),
        ),
        told.1,
      )

module _ {V S : Type 0} (answerer : AnswererTells V) (source : SourceTells S) (sink : SinkTells S)
    (s : SharedState V) (log : List Entry) where
  abbrev Seen : PassState V → Type 0
  Seen p = Shows log p

  sessions_told : (passes after : List (PassState V))
      (sessions : List (PassSession (PassState V) S)) → All (IsPassOf s) passes
      → (leads : LeadsPasses (serves_by_pass answerer source sink) passes sessions after)
      → All Seen after
      → SessionsAreTold answerer s.start log source sink passes sessions after leads
      × All Seen passes
  sessions_told passes after [] own moved seen =
      (tt, All-permutation Seen after passes (IsPermutation-sym passes after moved) seen)
  sessions_told passes after (x ∷ more) own (others, moved, served, leads) seen =
      let mine = All-permutation (IsPassOf s) passes (x.before ∷ others) moved own in
      let this = All-head (IsPassOf s) x.before others mine in
      let later = All-cons (IsPassOf s) x.after others
      (served.1.0 ∙ this.0, served.1.1 ∙ this.1) (All-tail (IsPassOf s) x.before others mine) in
      let rest = sessions_told (x.after ∷ others) after more later leads seen in
      let told = calls_told answerer s.start log x.before x.after
      (exchanges_in answerer source sink x served) (asked_in answerer source sink x served) this.1
      (All-head Seen x.after others rest.1) in (
        (told.0, rest.0),
        All-permutation Seen (x.before ∷ others) passes
            (IsPermutation-sym passes (x.before ∷ others) moved)
            (All-cons Seen x.before others told.1 (All-tail Seen x.after others rest.1)),
      )

module _ {V S : Type 0} (answerer : AnswererTells V) (source : SourceTells S) (sink : SinkTells S)
  where
    pub told_one_history : SessionsAreToldOneHistory answerer source sink
    told_one_history s passes after sessions log own leads goes =
        (sessions_told answerer source sink s log passes after sessions own leads
        (All-weaker (λ (p : PassState V). GoesOnFrom answerer s.start p.knowledge log)
        (λ (p : PassState V). Shows log p) (λ p on. (on.0, on.3)) after goes)).0
