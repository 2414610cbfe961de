-- Histories whose updates agree one by one.
use Rattle.std.proofs.Common.{◌≡◌, ℕ, Bool, List, [], ◌∷◌, ◌++◌, refl, sym, ◌∙◌, ap, subst, arith}
use Rattle.std.specs.Prelude.{◌+◌, not}
use Rattle.ov_history.specs.Briefs.{Brief, BriefCreate, BriefEnrol, BriefGrant, BriefRemove, BriefReplace, BriefRevoke, brief, outer}
use Rattle.ov_history.specs.Fading.{faded_all, is_gone_from, made_by}
use Rattle.ov_history.specs.History.{History, matrix_of}
use Rattle.ov_history.specs.Lists.{is_file}
use Rattle.ov_history.specs.Sealed.{outer_all, outer_of}
use Rattle.ov_history.proofs.Agreeing.{made_all}
use Rattle.ov_history.specs.Sent.{SealedUpdate, SealedCreate, SealedEnrol, SealedGrant, SealedRemove, SealedReplace, SealedRevoke}
use Rattle.ov_tidy.specs.Agreeing.{Agree, AgreeingOneByOne, AllAgree}

-- whether a file is gone after a history
abbrev gone_by : History → ℕ → Bool
gone_by h file = not (is_file (matrix_of h) file)

-- how many files an update makes follows from its brief
abbrev made_of : Brief → ℕ
made_of (BriefEnrol user) = 0
made_of (BriefCreate file list tokens tag size) = 1
made_of (BriefGrant user file token) = 0
made_of (BriefRevoke user file) = 0
made_of (BriefRemove file) = 0
made_of (BriefReplace file tokens tag size) = 1

made_is : (u : SealedUpdate) → made_by u ≡ made_of (brief u)
made_is (SealedEnrol user) = refl
made_is (SealedCreate file list tokens tag text) = refl
made_is (SealedGrant user file token) = refl
made_is (SealedRevoke user file) = refl
made_is (SealedRemove file) = refl
made_is (SealedReplace file tokens tag text) = refl

made_same : (u v : SealedUpdate) → brief v ≡ brief u → made_by v ≡ made_by u
made_same u v same = made_is v ∙ ap made_of same ∙ sym (made_is u)

pub outer_same : (is_gone : ℕ → Bool) (n : ℕ) (us vs : List SealedUpdate) → AllAgree is_gone n us vs
    → outer_all vs ≡ outer_all us
outer_same is_gone n [] [] all = refl
outer_same is_gone n [] (v ∷ vs) all = absurd all
outer_same is_gone n (u ∷ us) [] all = absurd all
outer_same is_gone n (u ∷ us) (v ∷ vs) all =
    let rest = outer_same is_gone (n + made_by u) us vs all.1 in
    λ j. outer (all.0.0 j) ∷ rest j

faded_same : (is_gone : ℕ → Bool) (n : ℕ) (us vs : List SealedUpdate) → AllAgree is_gone n us vs
    → faded_all is_gone n vs ≡ faded_all is_gone n us
faded_same is_gone n [] [] all = refl
faded_same is_gone n [] (v ∷ vs) all = absurd all
faded_same is_gone n (u ∷ us) [] all = absurd all
faded_same is_gone n (u ∷ us) (v ∷ vs) all =
    let rest : faded_all is_gone (n + made_by v) vs ≡ faded_all is_gone (n + made_by u) us =
    ap (λ (m : ℕ). faded_all is_gone (n + m) vs) (made_same u v all.0.0)
    ∙ faded_same is_gone (n + made_by u) us vs all.1 in
    λ j. all.0.1 j ∷ rest j

pub agreeing_one_by_one : AgreeingOneByOne
agreeing_one_by_one g h mode first all =
    let updates = outer_same (is_gone_from g) 0 g.updates h.updates all in
    let outer_is : outer_of h ≡ outer_of g =
    λ j. record { mode = mode j; first = first j; updates = updates j } in
    let tests : is_gone_from h ≡ is_gone_from g = λ j file. gone_by (outer_is j) file in
    let faded : faded_all (is_gone_from h) 0 h.updates ≡ faded_all (is_gone_from g) 0 g.updates =
    ap (λ (t : ℕ → Bool). faded_all t 0 h.updates) tests
    ∙ faded_same (is_gone_from g) 0 g.updates h.updates all in
    λ j. record { mode = mode j; first = first j; updates = faded j }

-- one update more on both sides
pub agree_push : (is_gone : ℕ → Bool) (n : ℕ) (us vs : List SealedUpdate) (u v : SealedUpdate)
    → AllAgree is_gone n us vs → Agree (is_gone (n + made_all us)) u v
    → AllAgree is_gone n (us ++ u ∷ []) (vs ++ v ∷ [])
agree_push is_gone n [] [] u v all one =
    let none : n + 0 ≡ n = omega arith in
    (subst (λ (m : ℕ). Agree (is_gone m) u v) none one, tt)
agree_push is_gone n [] (w ∷ vs) u v all one = absurd all
agree_push is_gone n (w ∷ us) [] u v all one = absurd all
agree_push is_gone n (w ∷ us) (x ∷ vs) u v all one =
    let same : n + (made_by w + made_all us) ≡ (n + made_by w) + made_all us = omega arith in (
      all.0,
      agree_push is_gone (n + made_by w) us vs u v all.1
          (subst (λ (m : ℕ). Agree (is_gone m) u v) same one),
    )

-- as many files are made on both sides
pub made_same_all : (is_gone : ℕ → Bool) (n : ℕ) (us vs : List SealedUpdate) → AllAgree is_gone n us vs
    → made_all vs ≡ made_all us
made_same_all is_gone n [] [] all = refl
made_same_all is_gone n [] (v ∷ vs) all = absurd all
made_same_all is_gone n (u ∷ us) [] all = absurd all
made_same_all is_gone n (u ∷ us) (v ∷ vs) all =
    let rest : made_all vs ≡ made_all us = made_same_all is_gone (n + made_by u) us vs all.1 in
    let one : made_by v ≡ made_by u = made_same u v all.0.0 in
    omega (arith, rest, one)

-- updates agree with themselves
pub agree_alone : (is_gone : ℕ → Bool) (n : ℕ) (us : List SealedUpdate) → AllAgree is_gone n us us
agree_alone is_gone n [] = tt
agree_alone is_gone n (u ∷ us) = ((refl, refl), agree_alone is_gone (n + made_by u) us)

-- the same updates more on both sides
pub agree_more : (is_gone : ℕ → Bool) (n : ℕ) (us vs ws : List SealedUpdate) → AllAgree is_gone n us vs
    → AllAgree is_gone n (us ++ ws) (vs ++ ws)
agree_more is_gone n [] [] ws all = agree_alone is_gone n ws
agree_more is_gone n [] (v ∷ vs) ws all = absurd all
agree_more is_gone n (u ∷ us) [] ws all = absurd all
agree_more is_gone n (u ∷ us) (v ∷ vs) ws all =
    (all.0, agree_more is_gone (n + made_by u) us vs ws all.1)
