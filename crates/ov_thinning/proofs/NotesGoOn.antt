-- The notes of all files go on with the next update.
use Rattle.std.proofs.Common.{◌≡◌, ◌≢◌, ◌⊎◌, ◌<◌, ◌+◌, ◌==◌, ℕ, zero, suc, Bool, true, false, List, [], ◌∷◌, ◌++◌}
use Rattle.std.proofs.Common.{length, refl, sym, ◌∙◌, ap, subst, arith, inl, inr, eq-eqb}
use Rattle.std.specs.Prelude.{◌↔◌, Contains, Option, Some, None, not, ◌||◌, ◌&&◌, is_some}
use Rattle.std.specs.Prelude.{slice_index_or}
use Rattle.std.proofs.lemmas.Bool.{cases_eq}
use Rattle.std.proofs.lemmas.Option.{slice_get_within}
use Rattle.ov_graph.specs.Contents.{node_of as node_with}
use Rattle.ov_graph.proofs.ListLaws.{Contains-place, node_none, node_some, place-Contains}
use Rattle.ov_history.specs.Places.{change_at, gone, living_at}
use Rattle.ov_history.specs.History.{Update, Enrolled, Created, Granted, Revoked, Removed, Replaced, History}
use Rattle.ov_history.specs.History.{file_at, matrix_of, with_update}
use Rattle.ov_history.specs.Layers.{Layers, layers_of, list_in}
use Rattle.ov_history.specs.Refusals.{IsLegal}
use Rattle.ov_history.proofs.ChangeLaws.{change_at-here, change_at-other}
use Rattle.ov_history.proofs.Staying.{list_of-file}
use Rattle.ov_thinning.specs.Idle.{IsUpdateAt, as_before, file_named, list_before, publishes}
use Rattle.ov_thinning.specs.Notes.{IsNoteOf, Last, ends_pair, has_node, is_paired, kept_after}
use Rattle.ov_thinning.specs.Notes.{list_by, notes_after, noted, place_in_note, place_noted, unless_noted, update_by}
use Rattle.ov_thinning.specs.Notes.{update_noted}
use Rattle.ov_thinning.specs.Thin.{AreThinned, NamesAt, left_out}
use Rattle.ov_thinning.proofs.Keeping.{Contains_kept, is_kept, kept_Contains, kept_out, kept_push}
use Rattle.ov_thinning.proofs.Noted.{list_then, named_by}
use Rattle.ov_thinning.proofs.Taking.{at_last, kept_still, kept_was, low_kept, many, none_now, note_moves, noted_file, now}

has_is : (sets : List ℕ) (set : ℕ) → (has_node sets set ≡ true) ↔ Contains sets set
has_is sets set = (λ is. there (node_with sets set) refl is, λ found. by_node (node_with sets set) refl found) where
  there : (o : Option ℕ) → node_with sets set ≡ o → is_some o ≡ true → Contains sets set
  there None at is = absurd (cc)
  there (Some n) at is = let found = node_some sets set n at in place-Contains sets n set found.0 found.1

  by_node : (o : Option ℕ) → node_with sets set ≡ o → Contains sets set → has_node sets set ≡ true
  by_node None at found =
      let place = Contains-place sets set found in
      absurd (node_none sets set at place.0 place.1 place.2)
  by_node (Some n) at found = ap (λ (o : Option ℕ). is_some o) at

change_inside : {A : Type 0} (f : A → A) (place : ℕ) (xs : List A) (d : A) → place < length xs
    → slice_index_or (change_at f place xs) place d ≡ f (slice_index_or xs place d)
change_inside f place [] d low = absurd (omega arith)
change_inside f zero (x ∷ xs) d low = refl
change_inside f (suc place) (x ∷ xs) d low = change_inside f place xs d (omega arith)

none_more : {A : Type 0} (xs : List (Option A)) (n : ℕ) → living_at (xs ++ None ∷ []) n ≡ living_at xs n
none_more [] zero = refl
none_more [] (suc n) = refl
none_more (x ∷ xs) zero = refl
none_more (x ∷ xs) (suc n) = none_more xs n

module _ (h : History) (v : Update) (legal : IsLegal (with_update h v)) (kept : List ℕ) (thin : AreThinned h kept)
    (notes : List (Option Last)) (has : (file : ℕ) → IsNoteOf h kept file (living_at notes file))
    (room : (file : ℕ) → file_named v ≡ Some file → file < length notes) where
  abbrev y : Layers
  y = layers_of h

  abbrev n : ℕ
  n = length h.updates

  -- the note of a grant or a revocation that publishes nothing and is kept
  tell_now : (grants : Bool) (user file : ℕ) → v ≡ update_by grants user file
      → publishes (layers_of h) v ≡ false
      → IsNoteOf (with_update h v) (kept ++ length h.updates ∷ []) file
      (noted false (layers_of h) (length h.updates) grants user file)
  tell_now grants user file is silent =
      let at : IsUpdateAt (with_update h v) (length h.updates) (update_by grants user file) =
      at_last h v legal ∙ ap (λ (u : Update). Some u) is in
      let then : as_before (with_update h v) (length h.updates) ≡ h = now h v legal in
      let list : list_before (with_update h v) (length h.updates) file ≡ list_in (layers_of h) file =
      ap (λ (g : History). (file_at (matrix_of g) file).list) then ∙ sym (list_of-file h file) in
      let one_more : length h.updates + 1 ≡ suc (length h.updates) = omega arith in
      let after : list_before (with_update h v) (length h.updates + 1) file
      ≡ list_by grants (list_in (layers_of h) file) user =
      ap (λ k. list_before (with_update h v) k file) one_more
      ∙ list_then (with_update h v) (suc (length h.updates)) (length h.updates) grants user file legal (omega arith)
      (omega (arith, many h v legal)) at (λ q u begun ends is. absurd (omega arith))
      ∙ ap (λ set. list_by grants set user) list in
      record {
        held =
            kept_Contains (kept ++ length h.updates ∷ []) (length h.updates)
            (kept_push kept (length h.updates) (length h.updates)
            ∙ second (is_kept kept (length h.updates)) (length h.updates == length h.updates)
            (eq-eqb (length h.updates) (length h.updates) refl));
        at = at;
        none_later = λ q u begun is.
            absurd (omega (arith, slice_get_within (with_update h v).updates q u is, many h v legal));
        silent =
            ap (λ (g : History). publishes (layers_of g) (update_by grants user file)) then
            ∙ ap (λ (u : Update). publishes (layers_of h) u) (sym is) ∙ silent;
        before =
            subst
            (λ (g : History). (has_node (layers_of h).surface (list_in (layers_of h) file) ≡ true)
            ↔ Contains (layers_of g).surface (list_before (with_update h v) (length h.updates) file)) (sym then)
            (subst
            (λ set. (has_node (layers_of h).surface (list_in (layers_of h) file) ≡ true)
            ↔ Contains (layers_of h).surface set) (sym list)
            (has_is (layers_of h).surface (list_in (layers_of h) file)));
        after =
            subst
            (λ (g : History). (has_node (layers_of h).surface (list_by grants (list_in (layers_of h) file) user) ≡ true)
            ↔ Contains (layers_of g).surface (list_before (with_update h v) (length h.updates + 1) file)) (sym then)
            (subst
            (λ set. (has_node (layers_of h).surface (list_by grants (list_in (layers_of h) file) user) ≡ true)
            ↔ Contains (layers_of h).surface set) (sym after)
            (has_is (layers_of h).surface (list_by grants (list_in (layers_of h) file) user)));
      } where
        second : (a b : Bool) → b ≡ true → (a || b) ≡ true
        second true b is = refl
        second false b is = is

  -- a file that the update doesn't name, where the partner names another
  others : (b : Bool) (i g : ℕ) → file_named v ≢ Some g
      → (b ≡ true → (file : ℕ) × NamesAt h i file × (file ≢ g)) → (note : Option Last) → IsNoteOf h kept g note
      → IsNoteOf (with_update h v) (kept_after b kept i (length h.updates)) g note
  others b i g other partner note is =
      note_moves h v legal kept thin notes has (kept_after b kept i (length h.updates)) g other
      (λ p there. kept_was h v legal kept thin notes has b i p there)
      (λ p there named. kept_still h v legal kept thin notes has b i p
      (λ paired same. not_it (partner paired) p named same) there) note is where
        not_it : ((file : ℕ) × NamesAt h i file × (file ≢ g)) → (p : ℕ) → NamesAt h p g → p ≡ i → ⊥
        not_it (file, (u, at, named), different) p (w, too, also) same =
            let here : IsUpdateAt h i w = subst (λ k. IsUpdateAt h k w) same too in
            let one : u ≡ w = cc in
            let f : file_named w ≡ Some file = ap (λ (x : Update). file_named x) (sym one) ∙ named in
            let equal : file ≡ g = cc in
            different equal

  -- the file that a grant or a revocation names
  own : (grants : Bool) (user file : ℕ) → v ≡ update_by grants user file → (note : Option Last) → IsNoteOf h kept file note
      → (loud : Bool) → publishes (layers_of h) v ≡ loud → (ends : Bool) → ends_pair (layers_of h) note grants user file ≡ ends
      → IsNoteOf (with_update h v) (kept_after (not loud && ends) kept (place_in_note note) (length h.updates)) file
      (unless_noted (not loud && ends) (noted loud (layers_of h) (length h.updates) grants user file))
  own grants user file is note tells true loud ends pair =
      none_now h v legal kept thin notes has (kept ++ length h.updates ∷ []) file
      (ap (λ (u : Update). file_named u) is ∙ named_by grants user file)
      (λ there silent which. absurd (cc))
  own grants user file is note tells false silent true pair =
      none_now h v legal kept thin notes has (left_out (place_in_note note) kept) file
      (ap (λ (u : Update). file_named u) is ∙ named_by grants user file)
      (λ there quiet which.
      elim (kept_was h v legal kept thin notes has true (place_in_note note) (length h.updates) there) [
        | inl old ↦ absurd (omega (arith, low_kept h v legal kept thin (length h.updates) old))
        | inr same ↦ gone_it there
      ]) where
        and_true : (a b : Bool) → (a && b) ≡ true → a ≡ true
        and_true true b is = refl
        and_true false b is = absurd (cc)

        gone_it : Contains (left_out (place_in_note note) kept) (length h.updates) → ⊥
        gone_it there =
            absurd
            (omega (
              arith,
              low_kept h v legal kept thin (length h.updates)
                  (kept_Contains kept (length h.updates)
                  (and_true (is_kept kept (length h.updates)) (not (length h.updates == place_in_note note))
                  (sym (kept_out kept (place_in_note note) (length h.updates))
                  ∙ Contains_kept (left_out (place_in_note note) kept) (length h.updates) there))),
            ))
  own grants user file is note tells false silent false pair = tell_now grants user file is silent

  partner_names : (note : Option Last) (file g : ℕ) (grants : Bool) (user : ℕ) → IsNoteOf h kept file note → file ≢ g
      → ends_pair (layers_of h) note grants user file ≡ true
      → (f : ℕ) × NamesAt h (place_in_note note) f × (f ≢ g)
  partner_names None file g grants user tells different ends = absurd (cc)
  partner_names (Some last) file g grants user tells different ends =
      (file, (update_noted last file, tells.at, noted_file last file), different)

  relisted_notes : (grants : Bool) (user file : ℕ) → v ≡ update_by grants user file → (loud : Bool)
      → publishes (layers_of h) v ≡ loud → (g : ℕ)
      → let ends = ends_pair (layers_of h) (living_at notes file) grants user file in
      IsNoteOf (with_update h v)
      (kept_after (not loud && ends) kept (place_in_note (living_at notes file)) (length h.updates)) g
      (living_at
      (change_at (λ o. unless_noted (not loud && ends) (noted loud (layers_of h) (length h.updates) grants user file))
      file notes) g)
  relisted_notes grants user file is loud at g = by_file (cases_eq g file) where
    ends : Bool
    ends = ends_pair (layers_of h) (living_at notes file) grants user file

    v_named : file_named v ≡ Some file
    v_named = ap (λ (u : Update). file_named u) is ∙ named_by grants user file

    and_second : (a b : Bool) → (a && b) ≡ true → b ≡ true
    and_second true b is = is
    and_second false b is = absurd (cc)

    by_file : (g ≡ file) ⊎ (g ≢ file)
        → IsNoteOf (with_update h v)
        (kept_after (not loud && ends_pair (layers_of h) (living_at notes file) grants user file) kept
        (place_in_note (living_at notes file)) (length h.updates)) g
        (living_at
        (change_at
        (λ o. unless_noted (not loud && ends_pair (layers_of h) (living_at notes file) grants user file)
        (noted loud (layers_of h) (length h.updates) grants user file)) file notes) g)
    by_file (inl same) =
        subst
        (λ k. IsNoteOf (with_update h v)
        (kept_after (not loud && ends_pair (layers_of h) (living_at notes file) grants user file) kept
        (place_in_note (living_at notes file)) (length h.updates)) k
        (living_at
        (change_at
        (λ o. unless_noted (not loud && ends_pair (layers_of h) (living_at notes file) grants user file)
        (noted loud (layers_of h) (length h.updates) grants user file)) file notes) k)) (sym same)
        (subst
        (λ (o : Option Last). IsNoteOf (with_update h v)
        (kept_after (not loud && ends_pair (layers_of h) (living_at notes file) grants user file) kept
        (place_in_note (living_at notes file)) (length h.updates)) file o)
        (sym
        (change_inside
        (λ o. unless_noted (not loud && ends_pair (layers_of h) (living_at notes file) grants user file)
        (noted loud (layers_of h) (length h.updates) grants user file)) file notes None (room file v_named)))
        (own grants user file is (living_at notes file) (has file) loud at
        (ends_pair (layers_of h) (living_at notes file) grants user file) refl))
    by_file (inr different) =
        subst
        (λ (o : Option Last). IsNoteOf (with_update h v)
        (kept_after (not loud && ends_pair (layers_of h) (living_at notes file) grants user file) kept
        (place_in_note (living_at notes file)) (length h.updates)) g o)
        (sym
        (change_at-other
        (λ o. unless_noted (not loud && ends_pair (layers_of h) (living_at notes file) grants user file)
        (noted loud (layers_of h) (length h.updates) grants user file)) file g notes None different))
        (others (not loud && ends_pair (layers_of h) (living_at notes file) grants user file)
        (place_in_note (living_at notes file)) g
        (λ named. different (same_file named))
        (λ paired. partner_names (living_at notes file) file g grants user (has file)
        (λ same. different (sym same))
        (and_second (not loud) (ends_pair (layers_of h) (living_at notes file) grants user file) paired))
        (living_at notes g) (has g)) where
          same_file : file_named v ≡ Some g → g ≡ file
          same_file named = let own = v_named in cc

  gone_note : (file : ℕ) → v ≡ Removed file ⊎ ((size : ℕ) × (v ≡ Replaced file size)) → (g : ℕ)
      → IsNoteOf (with_update h v) (kept ++ length h.updates ∷ []) g (living_at (change_at gone file notes) g)
  gone_note file is g = by_file (cases_eq g file) (named is) where
    named : v ≡ Removed file ⊎ ((size : ℕ) × (v ≡ Replaced file size)) → file_named v ≡ Some file
    named (inl is) = ap (λ (u : Update). file_named u) is
    named (inr (size, is)) = ap (λ (u : Update). file_named u) is

    no_relist : v ≡ Removed file ⊎ ((size : ℕ) × (v ≡ Replaced file size))
        → (user : ℕ) → (v ≡ Granted user file) ⊎ (v ≡ Revoked user file) → ⊥
    no_relist (inl is) user (inl which) = absurd (cc)
    no_relist (inl is) user (inr which) = absurd (cc)
    no_relist (inr (size, is)) user (inl which) = absurd (cc)
    no_relist (inr (size, is)) user (inr which) = absurd (cc)

    by_file : (g ≡ file) ⊎ (g ≢ file) → file_named v ≡ Some file
        → IsNoteOf (with_update h v) (kept ++ length h.updates ∷ []) g (living_at (change_at gone file notes) g)
    by_file (inl same) v_named =
        subst
        (λ k. IsNoteOf (with_update h v) (kept ++ length h.updates ∷ []) k (living_at (change_at gone file notes) k))
        (sym same)
        (subst (λ (o : Option Last). IsNoteOf (with_update h v) (kept ++ length h.updates ∷ []) file o)
        (sym (change_at-here gone file notes None refl))
        (none_now h v legal kept thin notes has (kept ++ length h.updates ∷ []) file v_named
        (λ there silent which. no_relist is which.0 which.1)))
    by_file (inr different) v_named =
        subst (λ (o : Option Last). IsNoteOf (with_update h v) (kept ++ length h.updates ∷ []) g o)
        (sym (change_at-other gone file g notes None different))
        (others false 0 g (λ also. different (same_file v_named also)) (λ paired. absurd (cc)) (living_at notes g) (has g)) where
          same_file : file_named v ≡ Some file → file_named v ≡ Some g → g ≡ file
          same_file one two = cc

  pub all_notes : (u : Update) → v ≡ u → (g : ℕ)
      → IsNoteOf (with_update h v)
      (kept_after (is_paired (layers_of h) notes u) kept (place_noted notes u) (length h.updates)) g
      (living_at (notes_after (layers_of h) notes (length h.updates) u) g)
  all_notes (Enrolled user) is g =
      others false 0 g (λ named. absurd (cc (ap (λ (w : Update). file_named w) is))) (λ paired. absurd (cc))
      (living_at notes g) (has g)
  all_notes (Created name list size) is g =
      subst (λ (o : Option Last). IsNoteOf (with_update h v) (kept ++ length h.updates ∷ []) g o)
      (sym (none_more notes g))
      (others false 0 g (λ named. absurd (cc (ap (λ (w : Update). file_named w) is))) (λ paired. absurd (cc))
      (living_at notes g) (has g))
  all_notes (Granted user file) is g =
      relisted_notes true user file is (publishes (layers_of h) (Granted user file))
      (ap (λ (w : Update). publishes (layers_of h) w) is) g
  all_notes (Revoked user file) is g =
      relisted_notes false user file is false (ap (λ (w : Update). publishes (layers_of h) w) is) g
  all_notes (Removed file) is g = gone_note file (inl is) g
  all_notes (Replaced file size) is g =
      subst (λ (o : Option Last). IsNoteOf (with_update h v) (kept ++ length h.updates ∷ []) g o)
      (sym (none_more (change_at gone file notes) g)) (gone_note file (inr (size, is)) g)
