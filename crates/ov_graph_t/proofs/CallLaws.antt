-- Graphs that agree, after the same calls of both.
use Rattle.std.proofs.Common.{ℕ, ◌≡◌, ◌<◌, ◌+◌, true, List, [], ◌∷◌, ◌++◌, length, get_or, drop, add-one, sym, ◌∙◌, ap, ap₂, subst, inl, inr}
use Rattle.std.proofs.Math.Seq.{drop-cons}
use Rattle.std.proofs.lemmas.List.{append-nil}
use Rattle.ov_tokens.specs.declared.token.Token.{Token}
use Rattle.ov_graph.specs.declared.cover.Cover.{Cover}
use Rattle.ov_graph.specs.Contents.{Contents, joined, plan_of}
use Rattle.ov_graph.specs.Reach.{IsRooted}
use Rattle.ov_index.specs.Agreement.{Agree}
use Rattle.ov_index.proofs.AgreementLaws.{agree-sym}
use Rattle.ov_graph_t.specs.Calls.{HasAtEnd, IsAccepted, IsAdded, IsCalled, AreCalled}
use Rattle.ov_graph_t.specs.declared.calls.Call.{Call}
use Rattle.ov_graph_t.specs.declared.calls.Call.TheVariants.{Reserve, Add}

agree-through : (one other third : Contents) → Agree one other → Agree other third → Agree one third
agree-through one other third a b = record { sets = a.sets ∙ b.sets; edges = a.edges ∙ b.edges }

-- ---- one call

module _ (set : ℕ) (tokens : List Token) (one other one2 other2 : Contents) (same : Agree one other) where
  both_at_end : HasAtEnd set tokens one one2 → HasAtEnd set tokens other other2 → Agree one2 other2
  both_at_end first second = record {
    sets = first.sets ∙ ap (λ sets. sets ++ set ∷ []) same.sets ∙ sym second.sets;
    edges = first.edges
        ∙ ap₂ (λ sets edges. edges ++ joined (plan_of sets set).from tokens ∷ []) same.sets same.edges
        ∙ sym second.edges;
  }

  both_added : IsAdded set tokens one one2 → IsAdded set tokens other other2 → Agree one2 other2
  both_added (inl (accepted, first)) (inl (also, second)) = both_at_end first second
  both_added (inl (accepted, first)) (inr (not, still)) = absurd (not (subst (λ sets. IsAccepted sets set tokens) same.sets accepted))
  both_added (inr (not, kept)) (inl (accepted, second)) = absurd (not (subst (λ sets. IsAccepted sets set tokens) (sym same.sets) accepted))
  both_added (inr (not, kept)) (inr (neither, still)) =
      agree-through one2 one other2 (agree-sym one one2 kept) (agree-through one other other2 same still)

both_called : {W : ℕ} (call : Call W) (one other one2 other2 : Contents) → Agree one other
    → IsCalled call one one2 → IsCalled call other other2 → Agree one2 other2
both_called (Reserve sets edges) one other one2 other2 same kept still =
    agree-through one2 one other2 (agree-sym one one2 kept) (agree-through one other other2 same still)
both_called (Add set tokens) one other one2 other2 same first second =
    both_added set tokens one other one2 other2 same first second

-- an addition that a graph accepts, in the words of its method
pub added_at_end : (set : ℕ) (tokens : List Token) (cover : Cover) (old mid new : Contents)
    → cover ≡ plan_of (old.sets ++ []) set → cover.fresh ≡ true → IsRooted old.sets set → length tokens ≡ length cover.from
    → mid.sets ≡ old.sets → mid.edges ≡ old.edges
    → new.sets ≡ mid.sets ++ set ∷ [] → new.edges ≡ mid.edges ++ joined cover.from tokens ∷ []
    → IsAdded set tokens old new
added_at_end set tokens cover old mid new plan fresh rooted each same still sets edges =
    let is : cover ≡ plan_of old.sets set = plan ∙ ap (λ s. plan_of s set) (append-nil old.sets) in
    inl (
      record { fresh = ap (λ k. k.fresh) (sym is) ∙ fresh; rooted = rooted; each = each ∙ ap (λ k. length k.from) is },
      record {
        sets = sets ∙ ap (λ s. s ++ set ∷ []) same;
        edges = edges ∙ ap₂ (λ es k. es ++ joined k.from tokens ∷ []) still is;
      },
    )

-- ---- calls, one after the other

-- one call more is made
pub call_step : {W : ℕ} (calls : List (Call W)) (i : ℕ) (call : Call W) (old next new : Contents) → i < length calls
    → call ≡ get_or calls i call → IsCalled call old next
    → AreCalled (drop (i + 1) calls) next new → AreCalled (drop i calls) old new
call_step calls i call old next new there is done rest =
    let ahead : drop i calls ≡ call ∷ drop (i + 1) calls = rw add-one (drop-cons calls i call there) ∙ ap (λ x. x ∷ drop (i + 1) calls) (sym is) in
    subst (λ xs. AreCalled xs old new) (sym ahead) (next, done, rest)

pub all_called : {W : ℕ} (calls : List (Call W)) (one other one2 other2 : Contents) → Agree one other
    → AreCalled calls one one2 → AreCalled calls other other2 → Agree one2 other2
all_called [] one other one2 other2 same kept still =
    agree-through one2 one other2 (agree-sym one one2 kept) (agree-through one other other2 same still)
all_called (call ∷ calls) one other one2 other2 same (next, first, rest) (then, second, others) =
    all_called calls next then one2 other2 (both_called call one other next then same first second) rest others
