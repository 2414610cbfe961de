-- The wanted sets after the list of one file changed are those of the update.
use Rattle.std.proofs.Common.{◌≡◌, ◌≢◌, ℕ, zero, suc, ◌+◌, ◌<◌, ◌==◌, Bool, true, false, List, [], ◌∷◌, length, refl, sym, ◌∙◌, ap, subst, arith, inl, inr, eqb-true, eq-eqb}
use Rattle.std.specs.Prelude.{option_map, unwrap_or, Option, Some, None}
use Rattle.std.proofs.lemmas.Bool.Decides.{nat_tests}
use Rattle.ov_base.specs.Sets.{single, has, with, without, IsBelow, Within}
use Rattle.ov_base.proofs.SetLaws.{union-Has, Has-single, within_with, without_within}
use Rattle.ov_base_layer.specs.Holders.{Access, holders_in, with_if}
use Rattle.ov_base_layer.proofs.HolderLaws.{again_held, with_accesses-append}
use Rattle.ov_surface.specs.Wanted.{wanted_surface}
use Rattle.std.specs.Prelude.{slice_index}
use Rattle.ov_history.specs.History.{Granted, Revoked}
use Rattle.ov_history.specs.Places.{change_at, living_at}
use Rattle.ov_history.specs.Layers.{Place, Layers, node_of, holders, given, grown, list_at, lists_at, lists_of, lists_after, want_at, wants_at, wants_of}
use Rattle.ov_history.specs.Catalogue.{Filed, Catalogue, no_filed, outline, filed_at, place_of_file, places}
use Rattle.ov_history.specs.Sound.{IsSound}
use Rattle.ov_history.proofs.ChangeLaws.{length-change_at}
use Rattle.ov_history.proofs.Listing.{length-lists_at}
use Rattle.ov_history.proofs.Outlining.{places-at, node-shown}
use Rattle.ov_state.specs.declared.relisting.Relisting.{Relisting}
use Rattle.ov_state.specs.Relistings.{list_after, list_if, want_if, want_after, want_left, wants_after, IsListing, IsRelisting}
use Rattle.ov_state.proofs.FilesByNumber.{filed-there}
use Rattle.ov_state.proofs.WantedSets.{list_below}

-- ---- lists by number

changed-here : {A : Type 0} (f : A → A) (place : ℕ) (xs : List (Option A)) → living_at (change_at (option_map f) place xs) place ≡ option_map f (living_at xs place)
changed-here f place [] = refl
changed-here f zero (x ∷ xs) = refl
changed-here f (suc place) (x ∷ xs) = changed-here f place xs

changed-else : {A : Type 0} (f : Option A → Option A) (place n : ℕ) (xs : List (Option A)) → n ≢ place → living_at (change_at f place xs) n ≡ living_at xs n
changed-else f place n [] other = refl
changed-else f zero zero (x ∷ xs) other = absurd (other refl)
changed-else f zero (suc n) (x ∷ xs) other = refl
changed-else f (suc place) zero (x ∷ xs) other = refl
changed-else f (suc place) (suc n) (x ∷ xs) other = changed-else f place n xs (λ e. other (ap suc e))

pub list-of : (y : Layers) (placed : List (Option Place)) (n : ℕ) (p : Place) → living_at placed n ≡ Some p → living_at (lists_at y placed) n ≡ Some (list_at y p)
list-of y [] n p is = absurd (cc)
list-of y (first ∷ placed) zero p is = ap (option_map (list_at y)) is
list-of y (first ∷ placed) (suc n) p is = list-of y placed n p is

-- ---- wanted sets by number

wants-alike : {W : ℕ} (y z : Layers) (r : Relisting W) (lists : List (Option ℕ)) (number : ℕ) (placed : List (Option Place)) → length lists ≡ length placed
    → ((n : ℕ) → want_left y r (number + n) (living_at placed n) ≡ want_at z (living_at lists n) (living_at placed n))
    → wants_after y r number placed ≡ wants_at z lists placed
wants-alike y z r [] number [] many each = refl
wants-alike y z r [] number (p ∷ placed) many each = absurd (omega arith)
wants-alike y z r (list ∷ lists) number [] many each = absurd (omega arith)
wants-alike y z r (list ∷ lists) number (p ∷ placed) many each =
    let here : number + 0 ≡ number = omega arith in
    let first : want_left y r number p ≡ want_at z list p = ap (λ n. want_left y r n p) (sym here) ∙ each 0 in
    ap (λ want. want ∷ wants_after y r (number + 1) placed) first
    ∙ ap (λ (rest : List (Option ℕ)). want_at z list p ∷ rest)
    (wants-alike y z r lists (number + 1) placed (omega arith)
    (λ n. let later : number + 1 + n ≡ number + suc n = omega arith in ap (λ k. want_left y r k (living_at placed n)) later ∙ each (suc n)))

-- none is wanted of a file that is gone
want-none : (z : Layers) (list : Option ℕ) → want_at z list None ≡ None
want-none z None = refl
want-none z (Some list) = refl

-- ---- the change of one list

module _ {W : ℕ} (s : Catalogue) (z : Layers) (r : Relisting W) (change : ℕ → ℕ)
    (mode : z.mode ≡ s.mode)
    (node : r.node ≡ (filed_at s r.file).node)
    (list : r.list ≡ change (list_at (outline s) (place_of_file (filed_at s r.file))))
    (own : (n : ℕ) → n ≡ r.node → holders z n ≡ r.after)
    (other : (n : ℕ) → n ≢ r.node → holders z n ≡ holders (outline s) n) where
  abbrev lists : List (Option ℕ)
  lists = change_at (option_map change) r.file (lists_of (outline s))

  place_of_one : (o : Option Filed) (p : Place) → option_map place_of_file o ≡ Some p → p ≡ place_of_file (unwrap_or o no_filed)
  place_of_one None p is = absurd (cc)
  place_of_one (Some f) p is = ap (λ (o : Option Place). unwrap_or o p) (sym is)

  place_is : (n : ℕ) (p : Place) → living_at (places s.files) n ≡ Some p → n ≡ r.file → p ≡ place_of_file (filed_at s r.file)
  place_is n p is same =
      place_of_one (living_at s.files n) p (sym (places-at s.files n) ∙ is) ∙ ap (λ n. place_of_file (filed_at s n)) same

  list_is : (n : ℕ) (p : Place) → living_at (places s.files) n ≡ Some p → (b : Bool) → (n == r.file) ≡ b
      → Some (list_if b r.list (list_at (outline s) p)) ≡ living_at lists n
  list_is n p is true test =
      let same : n ≡ r.file = eqb-true n r.file test in
      ap Some (list ∙ ap (λ (q : Place). change (list_at (outline s) q)) (sym (place_is n p is same)))
      ∙ ap (option_map change) (sym (list-of (outline s) (places s.files) n p is))
      ∙ sym (changed-here change n (lists_of (outline s)))
      ∙ ap (λ place. living_at (change_at (option_map change) place (lists_of (outline s))) n) same
  list_is n p is false test =
      let apart : n ≢ r.file = grind (arith, nat_tests) in
      sym (list-of (outline s) (places s.files) n p is) ∙ sym (changed-else (option_map change) r.file n (lists_of (outline s)) apart)

  want_is : (n : ℕ) (p : Place) → living_at (places s.files) n ≡ Some p → (b : Bool) → (p.node == r.node) ≡ b
      → want_if b (outline s) r n p ≡ want_at z (living_at lists n) (Some p)
  want_is n p is true test =
      let l : ℕ = list_after (outline s) r n p in
      ap (λ held. wanted_surface s.mode l held) (sym (own p.node (eqb-true p.node r.node test)))
      ∙ ap (λ m. wanted_surface m l (holders z p.node)) (sym mode)
      ∙ ap (λ (o : Option ℕ). want_at z o (Some p)) (list_is n p is (n == r.file) refl)
  want_is n p is false test =
      let apart : p.node ≢ r.node = grind (arith, nat_tests) in
      let elsewhere : n ≢ r.file = λ same. apart (ap (λ (q : Place). q.node) (place_is n p is same) ∙ sym node) in
      ap (λ held. wanted_surface s.mode (list_at (outline s) p) held) (sym (other p.node apart))
      ∙ ap (λ m. wanted_surface m (list_at (outline s) p) (holders z p.node)) (sym mode)
      ∙ ap (λ (o : Option ℕ). want_at z o (Some p))
      (sym (list-of (outline s) (places s.files) n p is) ∙ sym (changed-else (option_map change) r.file n (lists_of (outline s)) elsewhere))

  pub wants-changed : wants_after (outline s) r 0 (places s.files) ≡ wants_at z lists (places s.files)
  wants-changed =
      wants-alike (outline s) z r lists 0 (places s.files)
      (length-change_at (option_map change) r.file (lists_of (outline s)) ∙ length-lists_at (outline s) (places s.files))
      (λ n. by_place n (living_at (places s.files) n) refl) where
        by_place : (n : ℕ) (o : Option Place) → living_at (places s.files) n ≡ o
            → want_left (outline s) r (0 + n) o ≡ want_at z (living_at lists n) o
        by_place n None is = sym (want-none z (living_at lists n))
        by_place n (Some p) is =
            let same : 0 + n ≡ n = omega arith in
            ap (λ n. want_after (outline s) r n p) same ∙ want_is n p is (p.node == r.node) refl

-- ---- holders after an update

-- a grant lets its user hold the file's base node, and changes nothing else
holders_granted : (y : Layers) (user file n : ℕ)
    → holders (grown y (Granted user file)) n ≡ with_if (node_of y file == n) (holders y n) user
holders_granted y user file n = by_test (has (holders y (node_of y file)) user) refl where
  new : Access
  new = record { user = user; node = node_of y file }

  by_test : (b : Bool) → has (holders y (node_of y file)) user ≡ b
      → holders_in y.base (given b y.accesses user (node_of y file)) n ≡ with_if (node_of y file == n) (holders y n) user
  by_test true held = sym (again_held y.base y.accesses new n held) ∙ with_accesses-append y.accesses new n (slice_index y.base n)
  by_test false held = with_accesses-append y.accesses new n (slice_index y.base n)

-- ---- the wanted sets of both updates

module _ {W : ℕ} (s : Catalogue) (user file : ℕ) (r : Relisting W) (listing : IsListing s user file r) where
  node_is : r.node ≡ (filed_at s r.file).node
  node_is = listing.node ∙ ap (λ n. (filed_at s n).node) (sym listing.number)

  list_here : r.list ≡ list_at (outline s) (place_of_file (filed_at s r.file))
  list_here = listing.list ∙ ap (λ n. list_at (outline s) (place_of_file (filed_at s n))) (sym listing.number)

  held_after : r.after ≡ holders (outline s) r.node
  held_after = listing.after ∙ listing.before

  pub wants-revoked :
      wants_after (outline s) (record r { list = without r.list user }) 0 (places s.files)
      ≡ wants_of (grown (outline s) (Revoked user file)) (lists_after (lists_of (outline s)) (Revoked user file))
  wants-revoked =
      wants-changed s (grown (outline s) (Revoked user file)) (record r { list = without r.list user }) (λ list. without list user)
      refl node_is (ap (λ list. without list user) list_here)
      (λ n same. ap (holders (outline s)) same ∙ sym held_after) (λ n other. refl)
      ∙ ap (λ place. wants_at (grown (outline s) (Revoked user file)) (change_at (option_map (λ list. without list user)) place (lists_of (outline s))) (places s.files))
      listing.number

  pub granted_node : node_of (outline s) file ≡ r.node
  granted_node = sym (node-shown s file) ∙ sym listing.node

  pub wants-granted :
      wants_after (outline s) (record r { list = with r.list user; after = with r.after user }) 0 (places s.files)
      ≡ wants_of (grown (outline s) (Granted user file)) (lists_after (lists_of (outline s)) (Granted user file))
  wants-granted =
      wants-changed s (grown (outline s) (Granted user file)) (record r { list = with r.list user; after = with r.after user })
      (λ list. with list user) refl node_is (ap (λ list. with list user) list_here) own other
      ∙ ap (λ place. wants_at (grown (outline s) (Granted user file)) (change_at (option_map (λ list. with list user)) place (lists_of (outline s))) (places s.files))
      listing.number where
        own : (n : ℕ) → n ≡ r.node → holders (grown (outline s) (Granted user file)) n ≡ with r.after user
        own n same =
            let test : (node_of (outline s) file == n) ≡ true = eq-eqb (node_of (outline s) file) n (granted_node ∙ sym same) in
            holders_granted (outline s) user file n ∙ ap (λ b. with_if b (holders (outline s) n) user) test
            ∙ ap (λ m. with (holders (outline s) m) user) same ∙ ap (λ held. with held user) (sym held_after)

        other : (n : ℕ) → n ≢ r.node → holders (grown (outline s) (Granted user file)) n ≡ holders (outline s) n
        other n apart =
            let elsewhere : node_of (outline s) file ≢ n = λ e. apart (sym e ∙ granted_node) in
            let test : (node_of (outline s) file == n) ≡ false = grind (arith, nat_tests) in
            holders_granted (outline s) user file n ∙ ap (λ b. with_if b (holders (outline s) n) user) test

  -- ---- their lists

  list_fine : IsSound s → IsBelow (length s.users) r.list
  list_fine sound =
      subst (λ list. IsBelow (length s.users) list) (sym listing.list)
      (list_below s (filed_at s file) sound (sound.files file (filed_at s file) (filed-there s file listing.there)))

  pub relisting-revoked : IsSound s → IsRelisting s (record r { list = without r.list user })
  relisting-revoked sound = record {
    before = listing.before;
    grows = subst (λ set. Within r.before set) (sym listing.after) (λ other one. one);
    list = λ other one. list_fine sound other (without_within r.list user other one);
  }

  pub relisting-granted : IsSound s → IsRelisting s (record r { list = with r.list user; after = with r.after user })
  relisting-granted sound = record {
    before = listing.before;
    grows = subst (λ set. Within r.before (with set user)) (sym listing.after) (within_with r.before user);
    list = λ other one. elim (union-Has r.list (single user) other one) [
      | inl old ↦ list_fine sound other old
      | inr new ↦ subst (λ n. n < length s.users) (sym (Has-single user other new)) listing.enrolled
    ];
  }
