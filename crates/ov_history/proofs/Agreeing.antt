-- Sealed histories that agree but for files that are gone go on alike, and each that is right is a
-- sealed history with the catalogue and the stored bytes of the one that its owner seals.
use Rattle.std.proofs.Common.{◌≡◌, ◌∙◌, ℕ, ◌+◌, ◌<◌, Bool, true, false, List, [], ◌∷◌, ◌++◌, length}
use Rattle.std.proofs.Common.{refl, sym, ap, subst, arith, length-append, true≢false}
use Rattle.std.specs.Prelude.{Some, not, option_map, replicate}
use Rattle.std.proofs.lemmas.List.{length-replicate}
use Rattle.ov_history.specs.Briefs.{brief, outer}
use Rattle.ov_history.specs.Fading.{AgreeButGone, faded, faded_all, faded_if, faded_of}
use Rattle.ov_history.specs.Fading.{is_gone_from, made_by, no_tag}
use Rattle.ov_history.specs.History.{History, Matrix, Update, changed, changed_all}
use Rattle.ov_history.specs.History.{File, delisted, file_at, listed, matrix_of, no_one, resized}
use Rattle.ov_history.specs.History.{start_of, with_update}
use Rattle.ov_history.specs.Layers.{Layers, layers_of}
use Rattle.ov_history.specs.Lists.{is_file}
use Rattle.ov_history.specs.Masters.{Masters}
use Rattle.ov_history.specs.Places.{change_at, gone}
use Rattle.ov_history.specs.Plain.{PlainHistory, PlainUpdate, history_of, with_plain}
use Rattle.ov_history.specs.Refusals.{IsLegal, refusal_of}
use Rattle.ov_history.specs.Sealed.{AllFit, HasParts, IsSealed, SealedHistory, catalogue_of}
use Rattle.ov_history.specs.Sealed.{outer_all, outer_of, stored_of, with_sealed}
use Rattle.ov_history.specs.Sealing.{IsSealedAs, sealed, sealed_update}
use Rattle.ov_history.specs.Sent.{SealedUpdate, SealedEnrol, SealedCreate, SealedGrant}
use Rattle.ov_history.specs.Sent.{SealedRevoke, SealedRemove, SealedReplace}
use Rattle.ov_history.specs.Words.{HasFile}
use Rattle.ov_history.proofs.ChangeLaws.{length-change_at}
use Rattle.ov_history.proofs.FadedBytes.{agreeing_store_the_same}
use Rattle.ov_history.proofs.Fading.{agreeing_show_the_same, faded_is_sealed}
use Rattle.ov_history.proofs.Fading.{outer_faded, outer_faded_of}
use Rattle.ov_history.proofs.GoingOn.{outer_of-push}
use Rattle.ov_history.proofs.Sealing.{sealed_is_sealed, sealing_goes_on}
use Rattle.ov_history.proofs.Staying.{gone_stays_gone}

-- ---- one update

-- an update that fades twice fades once
faded_twice : (u : SealedUpdate) → faded (faded u) ≡ faded u
faded_twice (SealedEnrol user) = refl
faded_twice (SealedCreate file list tokens tag text) =
    ap (λ n. SealedCreate file list tokens no_tag (replicate n 0))
    (length-replicate (length text) 0)
faded_twice (SealedGrant user file token) = refl
faded_twice (SealedRevoke user file) = refl
faded_twice (SealedRemove file) = refl
faded_twice (SealedReplace file tokens tag text) =
    ap (λ n. SealedReplace file tokens no_tag (replicate n 0))
    (length-replicate (length text) 0)

-- what fades by a first test, of a file that is then gone by a second one, fades by the second
faded_both : (small big : Bool) (u : SealedUpdate)
    → (made_by u ≡ 1 → small ≡ true → big ≡ true)
    → faded_if big (faded_if small u) ≡ faded_if big u
faded_both false big u goes = refl
faded_both true true u goes = faded_twice u
faded_both true false (SealedEnrol user) goes = refl
faded_both true false (SealedCreate file list tokens tag text) goes =
    absurd (true≢false (sym (goes refl refl)))
faded_both true false (SealedGrant user file token) goes = refl
faded_both true false (SealedRevoke user file) goes = refl
faded_both true false (SealedRemove file) goes = refl
faded_both true false (SealedReplace file tokens tag text) goes =
    absurd (true≢false (sym (goes refl refl)))

-- what fades makes as many files
pub made-faded : (b : Bool) (u : SealedUpdate) → made_by (faded_if b u) ≡ made_by u
made-faded false u = refl
made-faded true (SealedEnrol user) = refl
made-faded true (SealedCreate file list tokens tag text) = refl
made-faded true (SealedGrant user file token) = refl
made-faded true (SealedRevoke user file) = refl
made-faded true (SealedRemove file) = refl
made-faded true (SealedReplace file tokens tag text) = refl

-- an update that has its parts once it fades had them before
parts_back : (y : Layers) (b : Bool) (u : SealedUpdate) → HasParts y (brief (faded_if b u))
    → HasParts y (brief u)
parts_back y false u parts = parts
parts_back y true (SealedEnrol user) parts = parts
parts_back y true (SealedCreate file list tokens tag text) parts = parts
parts_back y true (SealedGrant user file token) parts = parts
parts_back y true (SealedRevoke user file) parts = parts
parts_back y true (SealedRemove file) parts = parts
parts_back y true (SealedReplace file tokens tag text) parts = parts

-- ---- all updates

-- how many files these updates make
abbrev pub made_all : List SealedUpdate → ℕ
made_all [] = 0
made_all (u ∷ updates) = made_by u + made_all updates

pub made_after : (m : Matrix) (u : SealedUpdate)
    → length (changed m (outer (brief u))).files ≡ length m.files + made_by u
made_after m (SealedEnrol user) = omega arith
made_after m (SealedCreate file list tokens tag text) =
    length-append m.files (Some (record { name = file; length = length text; list = list }) ∷ [])
made_after m (SealedGrant user file token) =
    omega (arith, length-change_at (option_map (listed user)) file m.files)
made_after m (SealedRevoke user file) =
    omega (arith, length-change_at (option_map (delisted user)) file m.files)
made_after m (SealedRemove file) = omega (arith, length-change_at gone file m.files)
made_after m (SealedReplace file tokens tag text) =
    let new : File = resized (length text) (file_at m file) in
    omega (
      arith,
      length-append (change_at gone file m.files) (Some new ∷ []),
      length-change_at gone file m.files,
    )

-- the numbers of files are as many as the updates made
pub made_many : (m : Matrix) (updates : List SealedUpdate)
    → length (changed_all m (outer_all updates)).files ≡ length m.files + made_all updates
made_many m [] = omega arith
made_many m (u ∷ updates) =
    made_many (changed m (outer (brief u))) updates
    ∙ ap (λ n. n + made_all updates) (made_after m u) ∙ omega arith

module _ (is_out : ℕ → Bool) where
  pub made_all-faded : (number : ℕ) (updates : List SealedUpdate)
      → made_all (faded_all is_out number updates) ≡ made_all updates
  made_all-faded number [] = refl
  made_all-faded number (u ∷ updates) =
      ap (λ n. n + made_all (faded_all is_out (number + made_by u) updates))
      (made-faded (is_out number) u)
      ∙ ap (λ n. made_by u + n) (made_all-faded (number + made_by u) updates)

  -- one more update fades by its own number
  pub faded-append : (number : ℕ) (updates : List SealedUpdate) (u : SealedUpdate)
      → faded_all is_out number (updates ++ u ∷ [])
      ≡ faded_all is_out number updates
      ++ faded_if (is_out (number + made_all updates)) u ∷ []
  faded-append number [] u = ap (λ n. faded_if (is_out n) u ∷ []) (omega arith)
  faded-append number (first ∷ updates) u =
      let rest : List SealedUpdate = faded_all is_out (number + made_by first) updates in
      ap (λ (us : List SealedUpdate). faded_if (is_out number) first ∷ us)
      (faded-append (number + made_by first) updates u
      ∙ ap (λ n. rest ++ faded_if (is_out n) u ∷ []) (omega arith))

  -- updates that fit once some of them fade fitted before
  fit_back : (h : History) (number : ℕ) (updates : List SealedUpdate)
      → AllFit h (faded_all is_out number updates) → AllFit h updates
  fit_back h number [] fit = tt
  fit_back h number (u ∷ updates) fit =
      let same : outer (brief (faded_if (is_out number) u)) ≡ outer (brief u) =
      outer_faded is_out (is_out number) u in (
        ap (λ (v : Update). refusal_of h v) (sym same) ∙ fit.0,
        parts_back (layers_of h) (is_out number) u fit.1,
        fit_back (with_update h (outer (brief u))) (number + made_by u) updates
            (subst
            (λ (v : Update). AllFit (with_update h v)
            (faded_all is_out (number + made_by u) updates)) same fit.2),
      )

-- what fades by a first test fades by a second one, by which no fewer files are gone
pub faded_more : (small big : ℕ → Bool) (number : ℕ) (updates : List SealedUpdate)
    → ((n : ℕ) → n < number + made_all updates → small n ≡ true → big n ≡ true)
    → faded_all big number (faded_all small number updates) ≡ faded_all big number updates
faded_more small big number [] goes = refl
faded_more small big number (u ∷ updates) goes =
    let rest : List SealedUpdate = faded_all small (number + made_by u) updates in
    ap (λ (v : SealedUpdate).
    v ∷ faded_all big (number + made_by (faded_if (small number) u)) rest)
    (faded_both (small number) (big number) u (λ one. goes number (omega (arith, one))))
    ∙ ap (λ n. faded_if (big number) u ∷ faded_all big (number + n) rest)
    (made-faded (small number) u)
    ∙ ap (λ (us : List SealedUpdate). faded_if (big number) u ∷ us)
    (faded_more small big (number + made_by u) updates
    (λ n low. goes n (omega (arith, low))))

-- ---- histories

-- a file that is gone stays so with one more update
stays_gone : (g : SealedHistory) (u : SealedUpdate) (n : ℕ) → n < 0 + made_all g.updates
    → is_gone_from g n ≡ true → is_gone_from (with_sealed g u) n ≡ true
stays_gone g u n low gone_now =
    by_test (is_file (matrix_of (outer_of (with_sealed g u))) n) refl where
      below : n < length (matrix_of (outer_of g)).files
      below =
          let many : length (matrix_of (outer_of g)).files ≡ 0 + made_all g.updates =
          made_many no_one g.updates in
          omega (arith, low, many)

      by_test : (b : Bool) → is_file (matrix_of (outer_of (with_sealed g u))) n ≡ b
          → is_gone_from (with_sealed g u) n ≡ true
      by_test false is = ap not is
      by_test true is =
          let there : HasFile (with_update (outer_of g) (outer (brief u))) n =
          subst (λ (h : History). HasFile h n) (outer_of-push g u) is in
          let still : is_file (matrix_of (outer_of g)) n ≡ true =
          gone_stays_gone (outer_of g) (outer (brief u) ∷ []) n below there in
          absurd (true≢false (sym gone_now ∙ ap not still))

-- this history with one more update, both faded by a test
abbrev faded_next : (ℕ → Bool) → SealedHistory → SealedUpdate → SealedHistory
faded_next is_out g u = record g {
  updates = faded_all is_out 0 g.updates ++ faded_if (is_out (0 + made_all g.updates)) u ∷ [];
}

-- a history with one more update fades as the faded one does with it
faded-push : (g : SealedHistory) (u : SealedUpdate)
    → faded_of (with_sealed g u) ≡ faded_next (is_gone_from (with_sealed g u)) (faded_of g) u
faded-push g u =
    let now : ℕ → Bool = is_gone_from g in
    let next : ℕ → Bool = is_gone_from (with_sealed g u) in
    ap (λ (us : List SealedUpdate). record g { updates = us })
    (faded-append next 0 g.updates u
    ∙ ap (λ (us : List SealedUpdate). us ++ faded_if (next (0 + made_all g.updates)) u ∷ [])
    (sym (faded_more now next 0 g.updates (λ n low. stays_gone g u n low)))
    ∙ ap (λ n. faded_all next 0 (faded_all now 0 g.updates) ++ faded_if (next (0 + n)) u ∷ [])
    (sym (made_all-faded now 0 g.updates)))

-- histories that agree do so with one more update
pub agreement_goes_on : (g h : SealedHistory) (u : SealedUpdate) → AgreeButGone g h
    → AgreeButGone (with_sealed g u) (with_sealed h u)
agreement_goes_on g h u agree =
    let before : outer_of g ≡ outer_of h =
    sym (outer_faded_of g) ∙ ap (λ (it : SealedHistory). outer_of it) agree ∙ outer_faded_of h in
    let after : outer_of (with_sealed g u) ≡ outer_of (with_sealed h u) =
    outer_of-push g u ∙ ap (λ (it : History). with_update it (outer (brief u))) before
    ∙ sym (outer_of-push h u) in
    faded-push g u
    ∙ (λ i. faded_next (λ n. not (is_file (matrix_of (after i)) n)) (agree i) u)
    ∙ sym (faded-push h u)

-- ---- histories that are right

-- a history that is right is a sealed one
pub right_is_sealed : (k : Masters) (p : PlainHistory) (g : SealedHistory)
    → IsLegal (history_of p) → IsSealedAs k p g → IsSealed g
right_is_sealed k p g legal right =
    fit_back (is_gone_from g) (start_of (outer_of g)) 0 g.updates
    (subst (λ (h : SealedHistory). IsSealed h) (sym right)
    (faded_is_sealed (sealed k p) (sealed_is_sealed k p legal)))

-- what is right shows what the form shows in which its owner seals it
pub right_shows : (k : Masters) (p : PlainHistory) (g : SealedHistory)
    → IsLegal (history_of p) → IsSealedAs k p g
    → catalogue_of k.surface g ≡ catalogue_of k.surface (sealed k p)
right_shows k p g legal right =
    agreeing_show_the_same k.surface g (sealed k p) (right_is_sealed k p g legal right)
    (sealed_is_sealed k p legal) right

-- what is right has the same stored bytes as the form in which its owner seals it
pub right_keeps : (k : Masters) (p : PlainHistory) (g : SealedHistory)
    → IsLegal (history_of p) → IsSealedAs k p g
    → stored_of k.surface g ≡ stored_of k.surface (sealed k p)
right_keeps k p g legal right =
    agreeing_store_the_same k.surface g (sealed k p) (right_is_sealed k p g legal right)
    (sealed_is_sealed k p legal) right
