-- What was copied is the shorter history, right for the masters.
use Rattle.std.proofs.Common.{ℕ, ◌+◌, ◌∙◌, ◌≡◌, ◌⊎◌, Bool, List, [], ◌∷◌, Option, ap, inl, inr, refl, subst, sym}
use Rattle.ov_disk.specs.Tells.{DiskTells}
use Rattle.ov_history.proofs.Fading.{outer_faded_of}
use Rattle.ov_history.proofs.Sealing.{sealing_is_outer}
use Rattle.ov_history.specs.Fading.{AgreeButGone, is_gone_from, made_by}
use Rattle.ov_history.specs.FadingLaws.{IsRight}
use Rattle.ov_history.specs.History.{History}
use Rattle.ov_history.specs.Masters.{Masters}
use Rattle.ov_history.specs.Plain.{PlainHistory, history_of}
use Rattle.ov_history.specs.Refusals.{IsLegal}
use Rattle.ov_history.specs.Sealed.{SealedHistory, outer_of}
use Rattle.ov_history.specs.Sealing.{IsSealedAs, sealed}
use Rattle.ov_history.specs.Sent.{SealedUpdate}
use Rattle.ov_history.specs.Texts.{brief_all, brief_of}
use Rattle.ov_images.specs.Images.{Keys, keys_of}
use Rattle.ov_thinning.proofs.SealedLaws.{thinned_is_outer}
use Rattle.ov_thinning.proofs.ThinLaws.{thinned_is_legal}
use Rattle.ov_thinning.specs.SealedThin.{thinned_plain, thinned_sealed}
use Rattle.ov_thinning.specs.Thin.{AreThinned, thinned}
use Rattle.ov_tidy.proofs.CopyRight.{copy_agrees, copy_is_right}
use Rattle.ov_tidy.specs.Agreeing.{AllAgree, IsCopyOf}
use Rattle.ov_tidying.proofs.Endings.{by_more}
use Rattle.ov_tidying.specs.Promises.{EndsEarly, Tidies, WritesShorter}
use Rattle.ov_tidying.specs.Writing.{MakesCopy, WritesCopy}

-- histories that agree but for what is gone are the same without bytes, tags and tokens
agree_outer : (g h : SealedHistory) → AgreeButGone g h → outer_of g ≡ outer_of h
agree_outer g h agree =
    sym (outer_faded_of g) ∙ ap (λ (x : SealedHistory). outer_of x) agree ∙ outer_faded_of h

-- so is one that is right, and its history with bytes
right_outer : (k : Masters) (p : PlainHistory) (g : SealedHistory) → IsSealedAs k p g
    → outer_of g ≡ history_of p
right_outer k p g right = agree_outer g (sealed k p) right ∙ sealing_is_outer k p

-- updates that agree one by one have the same tokens and tags
same_briefs : (is_gone : ℕ → Bool) (number : ℕ) (us vs : List SealedUpdate)
    → AllAgree is_gone number us vs → brief_all vs ≡ brief_all us
same_briefs is_gone number [] [] all = refl
same_briefs is_gone number [] (v ∷ vs) all = absurd all
same_briefs is_gone number (u ∷ us) [] all = absurd all
same_briefs is_gone number (u ∷ us) (v ∷ vs) all =
    let rest = same_briefs is_gone (number + made_by u) us vs all.1 in
    λ j. all.0.0 j ∷ rest j

-- so has a copy
copy_briefs : (g h : SealedHistory) (kept : List ℕ) → IsCopyOf g kept h
    → brief_of h ≡ brief_of (thinned_sealed g kept)
copy_briefs g h kept copy =
    let short = thinned_sealed g kept in
    let updates = same_briefs (is_gone_from short) 0 short.updates h.updates copy.agree in
    λ j. record { mode = copy.mode_is j; first = copy.first_is j; updates = updates j }

module _ (k : Masters) (p : PlainHistory) (g : SealedHistory) (right : IsRight k p g)
    (kept : List ℕ) (thin : AreThinned (outer_of g) kept) where
  thin_plain : AreThinned (history_of p) kept
  thin_plain = subst (λ (h : History). AreThinned h kept) (right_outer k p g right.1) thin

  -- a copy is right for the shorter history
  copy_right : (h : SealedHistory) → IsCopyOf g kept h → IsRight k (thinned_plain p kept) h
  copy_right h copy =
      let sealed_so : IsSealedAs k (thinned_plain p kept) h =
      copy_is_right k p g h kept right.0 thin_plain right.1 copy in
      let legal : IsLegal (thinned (outer_of g) kept) =
      thinned_is_legal (outer_of g) kept
      (subst (λ (x : History). IsLegal x) (sym (right_outer k p g right.1)) right.0) thin in
      let same : thinned (outer_of g) kept ≡ history_of (thinned_plain p kept) =
      sym (thinned_is_outer g kept)
      ∙ sym (agree_outer h (thinned_sealed g kept) (copy_agrees g h kept copy))
      ∙ right_outer k (thinned_plain p kept) h sealed_so in
      (subst (λ (x : History). IsLegal x) same legal, sealed_so)

module _ {E : Type 0} (tells : DiskTells E) (k : Masters) (p : PlainHistory) (g : SealedHistory)
    (right : IsRight k p g) (status : ℕ) (old new : Option (List ℕ)) (first last : E) where
  shorter_of : (kept : List ℕ) → WritesCopy tells (keys_of k) g kept status old new first last
      → WritesShorter tells k p g status old new first last
  shorter_of kept w = record {
    kept = kept;
    thinned = w.thinned;
    ends = w.ends;
    shorter = record {
      history = w.history;
      right = copy_right k p g right kept w.thinned w.history w.copy;
      agree = copy_agrees g w.history kept w.copy;
      tags = copy_briefs g w.history kept w.copy;
      gets = w.gets;
    };
  }

  made_of : (((kept : List ℕ) × WritesCopy tells (keys_of k) g kept status old new first last)
      ⊎ (EndsEarly old new status × (last ≡ first)))
      → WritesShorter tells k p g status old new first last
      ⊎ (EndsEarly old new status × (last ≡ first))
  made_of (inl (kept, w)) = inl (shorter_of kept w)
  made_of (inr early) = inr early

  -- what is made of a history is so of one that is right
  pub tidies_of : (ks : Keys) → ks ≡ keys_of k → (faults more : Type 0) → (faults → more)
      → MakesCopy tells ks g status old new first last faults
      → Tidies tells k p g status old new first last more
  tidies_of ks same faults more so makes =
      let m : MakesCopy tells (keys_of k) g status old new first last faults =
      subst (λ (x : Keys). MakesCopy tells x g status old new first last faults) same makes in
      record {
        made = made_of m.made;
        ends = by_more (tells.reads first) status faults more so m.ends;
      }

-- more may have been a fault
pub more_faults : {E : Type 0} (tells : DiskTells E) (k : Masters) (p : PlainHistory)
    (g : SealedHistory) (status : ℕ) (old new : Option (List ℕ)) (first last : E)
    (faults more : Type 0) → (faults → more)
    → Tidies tells k p g status old new first last faults
    → Tidies tells k p g status old new first last more
more_faults tells k p g status old new first last faults more so t = record {
  made = t.made;
  ends = by_more (tells.reads first) status faults more so t.ends;
}
