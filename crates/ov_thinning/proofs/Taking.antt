-- What is noted goes on with the next update.
use Rattle.std.proofs.Common.{◌≡◌, ◌≢◌, ◌⊎◌, ◌<◌, ◌≤◌, ◌+◌, ◌==◌, ℕ, Bool, true, false, List, [], ◌∷◌, ◌++◌}
use Rattle.std.proofs.Common.{length, refl, sym, ◌∙◌, ap, subst, arith, inl, inr, length-append, eqb-true}
use Rattle.std.specs.Prelude.{◌↔◌, Contains, Option, Some, None, slice_get, not, ◌||◌, ◌&&◌}
use Rattle.std.proofs.Math.Seq.{take-length}
use Rattle.std.proofs.lemmas.Bool.{cases_lt}
use Rattle.std.proofs.lemmas.Option.{slice_get_within}
use Rattle.ov_history.specs.Places.{living_at}
use Rattle.ov_history.specs.History.{Update, Enrolled, Created, Granted, Revoked, Removed, Replaced, History}
use Rattle.ov_history.specs.History.{file_at, matrix_of, with_update}
use Rattle.ov_history.specs.Layers.{layers_of}
use Rattle.ov_history.specs.Refusals.{IsLegal}
use Rattle.ov_history.specs.Words.{cut_to}
use Rattle.ov_thinning.specs.Idle.{AreOpposite, IsIdlePair, IsUpdateAt, as_before, file_named, list_before, publishes}
use Rattle.ov_thinning.specs.Notes.{IsNoteOf, Last, NoneToTell, TellsOfLast, ends_pair, is_paired, kept_after}
use Rattle.ov_thinning.specs.Notes.{place_in_note, place_noted, update_by, update_noted}
use Rattle.ov_thinning.specs.Thin.{AreThinned, IsPartner, KeepsNext, NamesAt, left_out}
use Rattle.ov_thinning.proofs.Fronts.{AgreeTo, agree_more}
use Rattle.ov_thinning.proofs.Keeping.{Contains_kept, is_kept, kept_Contains, kept_below, kept_out, kept_push}
use Rattle.ov_thinning.proofs.Noted.{if_pair, named_by, pair_if}
use Rattle.ov_thinning.proofs.Pairing.{all_sorted}

get_last : (us : List Update) (v : Update) → slice_get (us ++ v ∷ []) (length us) ≡ Some v
get_last [] v = refl
get_last (u ∷ us) v = get_last us v

pub noted_file : (last : Last) (file : ℕ) → file_named (update_noted last file) ≡ Some file
noted_file last file = named_by last.grants last.user file

-- which update a grant or a revocation is
by_grants : (u : Update) (file : ℕ) → ((user : ℕ) × ((u ≡ Granted user file) ⊎ (u ≡ Revoked user file)))
    → (grants : Bool) × (user : ℕ) × (u ≡ update_by grants user file)
by_grants u file (user, inl is) = (true, user, is)
by_grants u file (user, inr is) = (false, user, is)

module _ (h : History) (v : Update) (legal : IsLegal (with_update h v)) where
  abbrev next : History
  next = with_update h v

  abbrev n : ℕ
  n = length h.updates

  agree : AgreeTo (length h.updates) h (with_update h v)
  agree = agree_more h v

  pub at_last : IsUpdateAt (with_update h v) (length h.updates) v
  at_last = get_last h.updates v

  pub many : length (with_update h v).updates ≡ length h.updates + 1
  many = length-append h.updates (v ∷ [])

  pub now : as_before (with_update h v) (length h.updates) ≡ h
  now =
      sym (agree.before (length h.updates) (omega arith))
      ∙ ap (λ (us : List Update). cut_to h us) (take-length h.updates)

  back : (p : ℕ) (u : Update) → p < length h.updates → IsUpdateAt (with_update h v) p u → IsUpdateAt h p u
  back p u low at = agree.at p low ∙ at

  on : (p : ℕ) (u : Update) → p < length h.updates → IsUpdateAt h p u → IsUpdateAt (with_update h v) p u
  on p u low at = sym (agree.at p low) ∙ at

  most : (p : ℕ) (u : Update) → IsUpdateAt (with_update h v) p u → (p < length h.updates) ⊎ (p ≡ length h.updates)
  most p u at = elim (cases_lt p (length h.updates)) [
    | inl less ↦ inl less
    | inr past ↦ inr (omega (arith, slice_get_within (with_update h v).updates p u at, many))
  ]

  module _ (kept : List ℕ) (thin : AreThinned h kept) where
    pub low_kept : (p : ℕ) → Contains kept p → p < length h.updates
    low_kept p there =
        kept_below (length h.updates) kept p (all_sorted h (length h.updates) kept thin).below
        (Contains_kept kept p there)

    -- ---- whether the update ends a pair

    module _ (file : ℕ) (last : Last) (tells : TellsOfLast h kept file last) (grants : Bool) (user : ℕ)
        (is : v ≡ update_by grants user file) (silent : publishes (layers_of h) v ≡ false) where
      low : last.place < length h.updates
      low = slice_get_within h.updates last.place (update_noted last file) tells.at

      before_is : as_before h last.place ≡ as_before (with_update h v) last.place
      before_is = agree.before last.place (omega (arith, low))

      after_is : as_before h (last.place + 1) ≡ as_before (with_update h v) (last.place + 1)
      after_is = agree.before (last.place + 1) (omega (arith, low))

      told_before : (last.before ≡ true)
          ↔ Contains (layers_of (as_before (with_update h v) last.place)).surface
          (list_before (with_update h v) last.place file)
      told_before =
          subst
          (λ (g : History). (last.before ≡ true)
          ↔ Contains (layers_of g).surface (file_at (matrix_of g) file).list) before_is tells.before

      told_after : (last.after ≡ true)
          ↔ Contains (layers_of (as_before (with_update h v) last.place)).surface
          (list_before (with_update h v) (last.place + 1) file)
      told_after =
          subst
          (λ (g : History). (last.after ≡ true)
          ↔ Contains (layers_of (as_before (with_update h v) last.place)).surface (file_at (matrix_of g) file).list)
          after_is
          (subst
          (λ (g : History). (last.after ≡ true)
          ↔ Contains (layers_of g).surface (list_before h (last.place + 1) file)) before_is tells.after)

      silent_then : publishes (layers_of (as_before (with_update h v) last.place)) (update_noted last file) ≡ false
      silent_then =
          ap (λ (g : History). publishes (layers_of g) (update_noted last file)) (sym before_is) ∙ tells.silent

      second : IsUpdateAt (with_update h v) (length h.updates) (update_by grants user file)
      second = at_last ∙ ap (λ (u : Update). Some u) is

      silent_now : publishes (layers_of (as_before (with_update h v) (length h.updates))) (update_by grants user file)
          ≡ false
      silent_now =
          ap (λ (g : History). publishes (layers_of g) (update_by grants user file)) now
          ∙ ap (λ (u : Update). publishes (layers_of h) u) (sym is) ∙ silent

      none_between : (q : ℕ) (u : Update) → last.place < q → q < length h.updates
          → IsUpdateAt (with_update h v) q u → file_named u ≢ Some file
      none_between q u begun ends at = tells.none_later q u begun (back q u ends at)

      pair_by : ends_pair (layers_of h) (Some last) grants user file ≡ true
          → IsIdlePair (with_update h v) last.place (length h.updates)
      pair_by ends =
          pair_if (with_update h v) (length h.updates) 0 legal kept file last low (omega (arith, many))
          (on last.place (update_noted last file) low tells.at) none_between silent_then told_before told_after
          grants user second silent_now
          (ap (λ (g : History). ends_pair (layers_of g) (Some last) grants user file) now ∙ ends)

      by_pair : IsIdlePair (with_update h v) last.place (length h.updates)
          → ends_pair (layers_of h) (Some last) grants user file ≡ true
      by_pair pair =
          ap (λ (g : History). ends_pair (layers_of g) (Some last) grants user file) (sym now)
          ∙ if_pair (with_update h v) (length h.updates) 0 legal kept file last low (omega (arith, many))
          (on last.place (update_noted last file) low tells.at) none_between silent_then told_before told_after
          grants user second silent_now pair

      pub is_partner : ends_pair (layers_of h) (Some last) grants user file ≡ true
          → IsPartner (with_update h v) kept (length h.updates) last.place
      is_partner ends = (
        record {
          file = file;
          own = (v, at_last, ap (λ (u : Update). file_named u) is ∙ named_by grants user file);
          held = tells.held;
          named = (update_noted last file, on last.place (update_noted last file) low tells.at, noted_file last file);
          last = λ p there less named. by_order p less named (cases_lt last.place p);
        },
        pair_by ends,
      ) where
        by_order : (p : ℕ) → p < length h.updates → NamesAt (with_update h v) p file
            → (last.place < p) ⊎ (p ≤ last.place) → p ≤ last.place
        by_order p less (u, at, named) (inl later) = absurd (tells.none_later p u later (back p u less at) named)
        by_order p less named (inr not_later) = not_later

      pub partner_ends : (i : ℕ) → IsPartner (with_update h v) kept (length h.updates) i
          → ends_pair (layers_of h) (Some last) grants user file ≡ true
      partner_ends i (one, pair) =
          by_place (cases_lt i last.place) (cases_lt last.place i) where
            own_file : one.file ≡ file
            own_file =
                let named = one.own in
                let at_own = one.own.1 in
                let same : one.own.0 ≡ v = cc (at_last) in
                let v_named : file_named v ≡ Some file =
                ap (λ (u : Update). file_named u) is ∙ named_by grants user file in
                let o_named : file_named one.own.0 ≡ Some one.file = one.own.2 in
                cc

            less : i < length h.updates
            less = low_kept i one.held

            by_place : (i < last.place) ⊎ (last.place ≤ i) → (last.place < i) ⊎ (i ≤ last.place)
                → ends_pair (layers_of h) (Some last) grants user file ≡ true
            by_place (inl earlier) order =
                let own = one.last last.place tells.held low (
                  update_noted last file,
                  on last.place (update_noted last file) low tells.at,
                  noted_file last file ∙ ap (λ f. Some f) (sym own_file),
                ) in
                absurd (omega arith)
            by_place (inr not_earlier) (inl later) =
                absurd
                (tells.none_later i one.named.0 later (back i one.named.0 less one.named.1)
                (one.named.2 ∙ ap (λ f. Some f) own_file))
            by_place (inr not_earlier) (inr not_later) =
                let same : i ≡ last.place = omega arith in
                by_pair (subst (λ k. IsIdlePair (with_update h v) k (length h.updates)) same pair)

    -- a file of which nothing is to tell has no partner for the update
    none_partner : (file : ℕ) → NoneToTell h kept file → (grants : Bool) (user : ℕ) → v ≡ update_by grants user file
        → (i : ℕ) → IsPartner (with_update h v) kept (length h.updates) i → ⊥
    none_partner file none grants user is i (one, pair) =
        let less : i < length h.updates = low_kept i one.held in
        let v_named : file_named v ≡ Some file =
        ap (λ (u : Update). file_named u) is ∙ named_by grants user file in
        let second_at = pair.second in
        let two : pair.other ≡ v = cc (at_last) in
        let same : pair.file ≡ file = other_file pair.opposite two v_named in
        none i pair.one one.held (back i pair.one less pair.first) (which pair.opposite same)
        (ap (λ (g : History). publishes (layers_of g) pair.one) (agree.before i (omega (arith, less)))
        ∙ pair.silent)
        (λ q u begun at named. later q u begun at named same) where
          other_file : AreOpposite pair.one pair.other pair.user pair.file → pair.other ≡ v
              → file_named v ≡ Some file → pair.file ≡ file
          other_file (inl order) two named =
              let o : file_named pair.other ≡ Some pair.file = ap (λ (u : Update). file_named u) order.1 in
              let t : file_named pair.other ≡ file_named v = ap (λ (u : Update). file_named u) two in
              cc
          other_file (inr order) two named =
              let o : file_named pair.other ≡ Some pair.file = ap (λ (u : Update). file_named u) order.1 in
              let t : file_named pair.other ≡ file_named v = ap (λ (u : Update). file_named u) two in
              cc

          which : AreOpposite pair.one pair.other pair.user pair.file → pair.file ≡ file
              → (w : ℕ) × ((pair.one ≡ Granted w file) ⊎ (pair.one ≡ Revoked w file))
          which (inl order) same = (pair.user, inl (order.0 ∙ ap (λ f. Granted pair.user f) same))
          which (inr order) same = (pair.user, inr (order.0 ∙ ap (λ f. Revoked pair.user f) same))

          later : (q : ℕ) (u : Update) → i < q → IsUpdateAt h q u → file_named u ≡ Some file
              → pair.file ≡ file → ⊥
          later q u begun at named same =
              let ends : q < length h.updates = slice_get_within h.updates q u at in
              pair.apart q u begun ends (on q u ends at) (named ∙ ap (λ f. Some f) (sym same))

    -- what publishes has none either, nor what is no grant and no revocation
    loud_partner : publishes (layers_of h) v ≡ true
        → (i : ℕ) → IsPartner (with_update h v) kept (length h.updates) i → ⊥
    loud_partner loud i (one, pair) =
        let second_at = pair.second in
        let two : pair.other ≡ v = cc (at_last) in
        let quiet : publishes (layers_of h) v ≡ false =
        ap (λ (u : Update). publishes (layers_of h) u) (sym two)
        ∙ ap (λ (g : History). publishes (layers_of g) pair.other) (sym now) ∙ pair.silent_too in
        absurd (cc)

    other_partner : ((grants : Bool) (user file : ℕ) → v ≢ update_by grants user file)
        → (i : ℕ) → IsPartner (with_update h v) kept (length h.updates) i → ⊥
    other_partner other i (one, pair) =
        let second_at = pair.second in
        let two : pair.other ≡ v = cc (at_last) in
        by_order pair.opposite two where
          by_order : AreOpposite pair.one pair.other pair.user pair.file → pair.other ≡ v → ⊥
          by_order (inl order) two = other false pair.user pair.file (sym two ∙ order.1)
          by_order (inr order) two = other true pair.user pair.file (sym two ∙ order.1)

    -- ---- which places are kept with it

    no_note : (note : Option Last) (file : ℕ) → IsNoteOf h kept file note → (grants : Bool) (user : ℕ)
        → v ≡ update_by grants user file → publishes (layers_of h) v ≡ false
        → ends_pair (layers_of h) note grants user file ≡ false
        → (i : ℕ) → IsPartner (with_update h v) kept (length h.updates) i → ⊥
    no_note None file none grants user is silent ends i partner = none_partner file none grants user is i partner
    no_note (Some last) file tells grants user is silent ends i partner =
        let yes_it_ends = partner_ends file last tells grants user is silent i partner in
        absurd (cc)

    module _ (notes : List (Option Last)) (has : (file : ℕ) → IsNoteOf h kept file (living_at notes file)) where
      -- a grant or a revocation that publishes nothing
      quiet_keeps : (note : Option Last) (grants : Bool) (user file : ℕ) → v ≡ update_by grants user file
          → publishes (layers_of h) v ≡ false → IsNoteOf h kept file note → (b : Bool)
          → ends_pair (layers_of h) note grants user file ≡ b
          → KeepsNext (with_update h v) (length h.updates) kept
          (kept_after b kept (place_in_note note) (length h.updates))
      quiet_keeps None grants user file is silent tells true ends = absurd (cc)
      quiet_keeps (Some last) grants user file is silent tells true ends =
          inl (last.place, is_partner file last tells grants user is silent ends, refl)
      quiet_keeps note grants user file is silent tells false ends =
          inr (no_note note file tells grants user is silent ends, refl)

      granted_keeps : (user file : ℕ) → v ≡ Granted user file → (b : Bool) → publishes (layers_of h) (Granted user file) ≡ b
          → KeepsNext (with_update h v) (length h.updates) kept
          (kept_after (not b && ends_pair (layers_of h) (living_at notes file) true user file) kept
          (place_in_note (living_at notes file)) (length h.updates))
      granted_keeps user file is true loud =
          inr (loud_partner (ap (λ (u : Update). publishes (layers_of h) u) is ∙ loud), refl)
      granted_keeps user file is false silent =
          quiet_keeps (living_at notes file) true user file is
          (ap (λ (u : Update). publishes (layers_of h) u) is ∙ silent) (has file)
          (ends_pair (layers_of h) (living_at notes file) true user file) refl

      by_update : (u : Update) → v ≡ u
          → KeepsNext (with_update h v) (length h.updates) kept
          (kept_after (is_paired (layers_of h) notes u) kept (place_noted notes u) (length h.updates))
      by_update (Enrolled user) is =
          inr (other_partner (λ grants w f same. no_such grants w f (sym is ∙ same)), refl) where
            no_such : (grants : Bool) (w f : ℕ) → Enrolled user ≡ update_by grants w f → ⊥
            no_such true w f same = absurd (cc)
            no_such false w f same = absurd (cc)
      by_update (Created name list size) is =
          inr (other_partner (λ grants w f same. no_such grants w f (sym is ∙ same)), refl) where
            no_such : (grants : Bool) (w f : ℕ) → Created name list size ≡ update_by grants w f → ⊥
            no_such true w f same = absurd (cc)
            no_such false w f same = absurd (cc)
      by_update (Granted user file) is =
          granted_keeps user file is (publishes (layers_of h) (Granted user file)) refl
      by_update (Revoked user file) is =
          quiet_keeps (living_at notes file) false user file is
          (ap (λ (u : Update). publishes (layers_of h) u) is) (has file)
          (ends_pair (layers_of h) (living_at notes file) false user file) refl
      by_update (Removed file) is =
          inr (other_partner (λ grants w f same. no_such grants w f (sym is ∙ same)), refl) where
            no_such : (grants : Bool) (w f : ℕ) → Removed file ≡ update_by grants w f → ⊥
            no_such true w f same = absurd (cc)
            no_such false w f same = absurd (cc)
      by_update (Replaced file size) is =
          inr (other_partner (λ grants w f same. no_such grants w f (sym is ∙ same)), refl) where
            no_such : (grants : Bool) (w f : ℕ) → Replaced file size ≡ update_by grants w f → ⊥
            no_such true w f same = absurd (cc)
            no_such false w f same = absurd (cc)

      -- the places that are kept with the update
      pub keeps_next : KeepsNext (with_update h v) (length h.updates) kept
          (kept_after (is_paired (layers_of h) notes v) kept (place_noted notes v) (length h.updates))
      keeps_next = by_update v refl

      -- ---- the notes after it

      -- all that is kept was kept, or is the place of the update
      pub kept_was : (b : Bool) (i p : ℕ) → Contains (kept_after b kept i (length h.updates)) p
          → Contains kept p ⊎ (p ≡ length h.updates)
      kept_was true i p there =
          inl (kept_Contains kept p (and_true (is_kept kept p) (not (p == i)) (sym (kept_out kept i p)
          ∙ Contains_kept (left_out i kept) p there))) where
            and_true : (a b : Bool) → (a && b) ≡ true → a ≡ true
            and_true true b is = refl
            and_true false b is = absurd (cc)
      kept_was false i p there =
          elim (or_true (is_kept kept p) (length h.updates == p)
          (sym (kept_push kept (length h.updates) p) ∙ Contains_kept (kept ++ length h.updates ∷ []) p there)) [
            | inl old ↦ inl (kept_Contains kept p old)
            | inr new ↦ inr (sym (eqb-true (length h.updates) p new))
          ] where
            or_true : (a b : Bool) → (a || b) ≡ true → (a ≡ true) ⊎ (b ≡ true)
            or_true true b is = inl refl
            or_true false b is = inr is

      -- what isn't the partner stays kept
      pub kept_still : (b : Bool) (i p : ℕ) → (b ≡ true → p ≢ i) → Contains kept p
          → Contains (kept_after b kept i (length h.updates)) p
      kept_still true i p other there =
          kept_Contains (left_out i kept) p
          (kept_out kept i p ∙ both (is_kept kept p) (p == i) (Contains_kept kept p there) (out (p == i) refl)) where
            out : (b : Bool) → (p == i) ≡ b → (p == i) ≡ false
            out true is = absurd (other refl (eqb-true p i is))
            out false is = is

            both : (a b : Bool) → a ≡ true → b ≡ false → (a && not b) ≡ true
            both true true one two = absurd (cc)
            both true false one two = refl
            both false b one two = absurd (cc)
      kept_still false i p other there =
          kept_Contains (kept ++ length h.updates ∷ []) p
          (kept_push kept (length h.updates) p
          ∙ first (is_kept kept p) (length h.updates == p) (Contains_kept kept p there)) where
            first : (a b : Bool) → a ≡ true → (a || b) ≡ true
            first true b is = refl
            first false b is = absurd (cc)

      -- the note of a file that the update doesn't name stays
      module _ (after : List ℕ) (g : ℕ) (other : file_named v ≢ Some g)
          (was : (p : ℕ) → Contains after p → Contains kept p ⊎ (p ≡ length h.updates))
          (still : (p : ℕ) → Contains kept p → NamesAt h p g → Contains after p) where
        told_moves : (last : Last) → TellsOfLast h kept g last → TellsOfLast (with_update h v) after g last
        told_moves last tells =
            let low : last.place < length h.updates =
            slice_get_within h.updates last.place (update_noted last g) tells.at in
            let here : as_before h last.place ≡ as_before (with_update h v) last.place =
            agree.before last.place (omega arith) in
            let then : as_before h (last.place + 1) ≡ as_before (with_update h v) (last.place + 1) =
            agree.before (last.place + 1) (omega arith) in record {
              held = still last.place tells.held (update_noted last g, tells.at, noted_file last g);
              at = on last.place (update_noted last g) low tells.at;
              none_later = λ q u begun at. by_place q u begun at (most q u at);
              silent = ap (λ (x : History). publishes (layers_of x) (update_noted last g)) (sym here) ∙ tells.silent;
              before =
                  subst (λ (x : History). (last.before ≡ true) ↔ Contains (layers_of x).surface (file_at (matrix_of x) g).list)
                  here tells.before;
              after =
                  subst
                  (λ (x : History). (last.after ≡ true)
                  ↔ Contains (layers_of (as_before (with_update h v) last.place)).surface (file_at (matrix_of x) g).list)
                  then
                  (subst
                  (λ (x : History). (last.after ≡ true)
                  ↔ Contains (layers_of x).surface (list_before h (last.place + 1) g)) here tells.after);
            } where
              by_place : (q : ℕ) (u : Update) → last.place < q → IsUpdateAt (with_update h v) q u
                  → (q < length h.updates) ⊎ (q ≡ length h.updates) → file_named u ≢ Some g
              by_place q u begun at (inl less) = tells.none_later q u begun (back q u less at)
              by_place q u begun at (inr same) =
                  let here : IsUpdateAt (with_update h v) (length h.updates) u =
                  subst (λ k. IsUpdateAt (with_update h v) k u) same at in
                  let is : u ≡ v = cc (at_last) in
                  λ named. other (ap (λ (w : Update). file_named w) (sym is) ∙ named)

        none_moves : NoneToTell h kept g → NoneToTell (with_update h v) after g
        none_moves none p u there at which silent later = by_place (was p there) (most p u at) where
          by_place : Contains kept p ⊎ (p ≡ length h.updates) → (p < length h.updates) ⊎ (p ≡ length h.updates) → ⊥
          by_place held (inr same) =
              let here : IsUpdateAt (with_update h v) (length h.updates) u =
              subst (λ k. IsUpdateAt (with_update h v) k u) same at in
              let is : u ≡ v = cc (at_last) in
              let by = by_grants u g which in
              other (ap (λ (w : Update). file_named w) (sym is ∙ by.2) ∙ named_by by.0 by.1 g)
          by_place (inr same) (inl less) = absurd (omega arith)
          by_place (inl held) (inl less) =
              none p u held (back p u less at) which
              (ap (λ (x : History). publishes (layers_of x) u) (agree.before p (omega arith)) ∙ silent)
              (λ q w begun is. later q w begun (on q w (slice_get_within h.updates q w is) is))

        pub note_moves : (note : Option Last) → IsNoteOf h kept g note → IsNoteOf (with_update h v) after g note
        note_moves None none = none_moves none
        note_moves (Some last) tells = told_moves last tells

      -- nothing is to tell of a file that the update names, unless it is kept, a grant or a revocation,
      -- and publishes nothing
      pub none_now : (after : List ℕ) (file : ℕ) → file_named v ≡ Some file
          → (Contains after (length h.updates) → publishes (layers_of h) v ≡ false
          → ((user : ℕ) × ((v ≡ Granted user file) ⊎ (v ≡ Revoked user file))) → ⊥)
          → NoneToTell (with_update h v) after file
      none_now after file named out p u there at which silent later = by_place (most p u at) where
        by_place : (p < length h.updates) ⊎ (p ≡ length h.updates) → ⊥
        by_place (inl less) = later (length h.updates) v less at_last named
        by_place (inr same) =
            let here : IsUpdateAt (with_update h v) (length h.updates) u =
            subst (λ k. IsUpdateAt (with_update h v) k u) same at in
            let is : u ≡ v = cc (at_last) in
            out (subst (λ k. Contains after k) same there)
            (ap (λ (w : Update). publishes (layers_of h) w) (sym is)
            ∙ ap (λ (x : History). publishes (layers_of x) u) (sym now)
            ∙ ap (λ k. publishes (layers_of (as_before (with_update h v) k)) u) (sym same) ∙ silent)
            (subst (λ (w : Update). (user : ℕ) × ((w ≡ Granted user file) ⊎ (w ≡ Revoked user file))) is which)
