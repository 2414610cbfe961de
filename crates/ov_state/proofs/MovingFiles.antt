-- Which files may move after a relisting.
use Rattle.std.proofs.Common.{◌≡◌, ℕ, ◌<◌, true, false, List, length, sym, ◌∙◌, ap, subst, arith, ⊎_elim}
use Rattle.std.specs.Prelude.{option_map, slice_index, Contains, Some}
use Rattle.std.proofs.lemmas.Bool.{cases_eq}
use Rattle.std.proofs.lemmas.List.{get_or_default}
use Rattle.ov_history.specs.Catalogue.{Filed, Catalogue}
use Rattle.ov_history.specs.Places.{living_at}
use Rattle.ov_state.specs.declared.files.FileEntry.{FileEntry}
use Rattle.ov_state.specs.declared.relisting.Relisting.{Relisting}
use Rattle.ov_state.specs.Contents.{IsWell}
use Rattle.ov_state.specs.Entries.{node_of, plain_file, AreOfNode, IsOnly}
use Rattle.ov_state.specs.Relistings.{AreMoving, IsRelisting, MayMove, WantsStay}
use Rattle.ov_state.proofs.ChangedWants.{list-stays, other-node}

module _ {W : ℕ} (s : Catalogue) (r : Relisting W) (limit : ℕ) (well : IsWell limit s) (numbers : List ℕ)
    (are : AreOfNode s.files r.node numbers) where
  other : (file : ℕ) (f : FileEntry) → living_at s.files file ≡ Some (plain_file f) → ¬ Contains numbers file → MayMove false s r file f
  other file f here not =
      other-node s r file f here limit well
      (λ same. not (are.all file (ap (option_map (λ (g : Filed). g.node)) here ∙ ap Some same)))

  -- none may move but those of the base node
  pub moving-all : AreMoving s r numbers
  moving-all = record { own = are.own; rise = are.rise; others = other }

  module _ (relisting : IsRelisting s r) (stay : WantsStay true s.mode r) (left : List ℕ) (only : IsOnly r.file numbers left) where
    own-left : (i : ℕ) → i < length left → node_of s.files (slice_index left i) ≡ Some r.node
    own-left i inside =
        let found : Contains numbers (slice_index left i) = only.own i inside in
        let at : slice_index numbers found.0 ≡ slice_index left i = get_or_default numbers found.0 0 (slice_index left i) found.1 ∙ found.2 in
        subst (λ n. node_of s.files n ≡ Some r.node) at (are.own found.0 found.1)

    other-left : (file : ℕ) (f : FileEntry) → living_at s.files file ≡ Some (plain_file f) → ¬ Contains left file → MayMove false s r file f
    other-left file f here not =
        ⊎_elim
        (λ own. other file f here (λ found. not (subst (λ n. Contains left n) (sym own) (only.kept (subst (λ n. Contains numbers n) own found)))))
        (λ beside.
        ⊎_elim (λ same. list-stays s r file f here limit well relisting stay same beside) (λ another. other-node s r file f here limit well another)
        (cases_eq f.node r.node))
        (cases_eq file r.file)

    -- none may move but the file of the relisting, where the wanted sets of lists that stay do so
    pub moving-one : AreMoving s r left
    moving-one = record {
      own = own-left;
      rise = λ i j less inside. absurd (omega (arith, only.few));
      others = other-left;
    }
