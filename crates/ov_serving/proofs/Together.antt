-- Two lists that have the same updates of each pass have the same updates.
use Rattle.std.proofs.Common.{◌≡◌, ◌≢◌, ◌∙◌, ℕ, List, [], ◌∷◌, ◌++◌, refl, sym, ap, subst}
use Rattle.std.specs.List.Sorted.{IsPermutation}
use Rattle.std.proofs.lemmas.List.Sorted.{IsPermutation-cons, IsPermutation-middle, IsPermutation-refl, IsPermutation-sym, IsPermutation-trans}
use mathlib.Core.Logic.{dite}
use native.Mathlib.Decide.{ℕ_discrete}
use Rattle.ov_io.specs.Tells.{SinkTells, SourceTells}
use Rattle.ov_peer.specs.Tells.{AnswererTells}
use Rattle.ov_turn.specs.declared.view.Entry.{Entry}
use Rattle.ov_turn.specs.Logs.{own}
use Rattle.ov_serving.specs.Accepted.{accepted_in_sessions}
use Rattle.ov_serving.specs.Laws.{LogIsAllThatSessionsAccepted, SessionsLeaveValues}
use Rattle.ov_serving.proofs.Accounting.{log_is_accepted}
use Rattle.ov_serving.proofs.Owning.{own_both, own_here, own_there}
use Rattle.ov_serving.proofs.Telling.{first_are_of_it, told_one_history}

-- the list at a pass's first update
record Cut (k : ℕ) (log : List Entry) (e : Entry) (rest : List Entry) : Type 0 where
  before : List Entry
  after : List Entry
  is : log ≡ before ++ e ∷ after
  none : own k before ≡ []
  more : own k after ≡ rest

cut_at : (k : ℕ) (log : List Entry) (e : Entry) (rest : List Entry) → own k log ≡ e ∷ rest
    → Cut k log e rest
cut_at k [] e rest same = absurd (cc same)
cut_at k (f ∷ log) e rest same =
    dite (ℕ_discrete f.pass k)
    (λ mine.
    let both : f ∷ own k log ≡ e ∷ rest = sym (own_here k f log mine) ∙ same in
    let first : f ≡ e = cc in
    let others : own k log ≡ rest = cc in
    record {
      before = [];
      after = log;
      is = ap (λ (x : Entry). x ∷ log) first;
      none = refl;
      more = others;
    })
    (λ other.
    let r = cut_at k log e rest (sym (own_there k f log other) ∙ same) in
    record {
      before = f ∷ r.before;
      after = r.after;
      is = ap (λ (l : List Entry). f ∷ l) r.is;
      none = own_there k f r.before other ∙ r.none;
      more = r.more;
    })

same_updates : (xs ys : List Entry) → ((k : ℕ) → own k xs ≡ own k ys) → IsPermutation xs ys
same_updates [] [] same = IsPermutation-refl []
same_updates [] (y ∷ ys) same =
    let is : [] ≡ y ∷ own y.pass ys = same y.pass ∙ own_here y.pass y ys refl in absurd (cc is)
same_updates (x ∷ xs) ys same =
    subst (IsPermutation (x ∷ xs)) (sym c.is)
    (IsPermutation-trans (x ∷ xs) (x ∷ (c.before ++ c.after)) (c.before ++ x ∷ c.after)
    (IsPermutation-cons x xs (c.before ++ c.after) (same_updates xs (c.before ++ c.after) less))
    (IsPermutation-sym (c.before ++ x ∷ c.after) (x ∷ (c.before ++ c.after))
    (IsPermutation-middle c.before x c.after)))
  where
    c : Cut x.pass ys x (own x.pass xs)
    c = cut_at x.pass ys x (own x.pass xs) (sym (same x.pass) ∙ own_here x.pass x xs refl)

    less_mine : own x.pass xs ≡ own x.pass (c.before ++ c.after)
    less_mine =
        sym c.more
        ∙ (ap (λ (l : List Entry). l ++ own x.pass c.after) (sym c.none)
        ∙ sym (own_both x.pass c.before c.after))

    less_other : (k : ℕ) → x.pass ≢ k → own k xs ≡ own k (c.before ++ c.after)
    less_other k other =
        sym (own_there k x xs other)
        ∙ (same k
        ∙ (ap (own k) c.is
        ∙ (own_both k c.before (x ∷ c.after)
        ∙ (ap (λ (l : List Entry). own k c.before ++ l) (own_there k x c.after other)
        ∙ sym (own_both k c.before c.after)))))

    less : (k : ℕ) → own k xs ≡ own k (c.before ++ c.after)
    less k =
        dite (ℕ_discrete x.pass k)
        (λ is. subst (λ (n : ℕ). own n xs ≡ own n (c.before ++ c.after)) is less_mine)
        (λ other. less_other k other)

module _ {V S : Type 0} (answerer : AnswererTells V) (source : SourceTells S) (sink : SinkTells S)
  where
    pub log_is_all : LogIsAllThatSessionsAccepted answerer source sink
    log_is_all s passes after sessions log first many leads numbered goes =
        same_updates log (accepted_in_sessions answerer source sink passes sessions after leads)
        (log_is_accepted answerer source sink s passes after sessions log first many leads numbered
        goes)

    pub leave_values : SessionsLeaveValues answerer source sink
    leave_values s left passes after sessions first many leads (log, reached, numbered, goes, stuck) = record {
      log = log;
      reached = reached;
      each = log_is_accepted answerer source sink s passes after sessions log first many leads numbered goes;
      all = log_is_all s passes after sessions log first many leads numbered goes;
      told = told_one_history answerer source sink s passes after sessions log
          (first_are_of_it answerer s passes first) leads goes;
    }
