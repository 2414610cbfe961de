-- Files that keep their surfaces, whose wanted sets stay while those of the files that may move are
-- collected.
use Rattle.std.proofs.Common.{◌≡◌, ℕ, zero, suc, ◌+◌, ◌-◌, ◌<◌, ◌≤◌, true, false, List, [], ◌∷◌, ◌++◌, length, take, refl, sym, ◌∙◌, ap, subst, arith, ⊎_elim, le_of_lt, le_refl}
use Rattle.std.specs.Prelude.{is_some, option_map, slice_index, Contains, IfSome, Option, Some, None}
use Rattle.std.proofs.lemmas.Bool.{cases_eq, cases_lt}
use Rattle.std.proofs.lemmas.List.{get_or_default}
use Rattle.ov_history.specs.Catalogue.{Filed, Catalogue, outline, places}
use Rattle.ov_history.specs.Layers.{same_surface, surface_at}
use Rattle.ov_history.specs.Places.{living_at}
use Rattle.ov_state.specs.declared.files.FileEntry.{FileEntry}
use Rattle.ov_state.specs.declared.relisting.Relisting.{Relisting}
use Rattle.ov_state.specs.Contents.{IsWell}
use Rattle.ov_state.specs.Entries.{node_of, plain_file}
use Rattle.ov_state.specs.Relistings.{wants_after, AreMoving, MayMove}
use Rattle.ov_state.proofs.ChangedWants.{file-gone, file-stays, take-all}
use Rattle.ov_state.proofs.FilesByNode.{node-low}

-- ---- places between the numbers of files that may move

-- the first number behind so many of these
abbrev pub number_behind : List ℕ → ℕ → ℕ
number_behind numbers zero = 0
number_behind numbers (suc n) = slice_index numbers n + 1

pub behind-more : (numbers : List ℕ) (n : ℕ) → slice_index numbers n + 1 ≡ number_behind numbers (n + 1)
behind-more numbers n =
    let next : suc n ≡ n + 1 = omega arith in
    ap (number_behind numbers) next

-- a file of a node is there
pub node-there : (o : Option Filed) (node : ℕ) → option_map (λ (f : Filed). f.node) o ≡ Some node → is_some o ≡ true
node-there None node is = absurd (cc)
node-there (Some f) node is = refl

-- a file that is looked up has the node of its number
pub own_node : (files : List (Option Filed)) (file node : ℕ) (f : FileEntry) → living_at files file ≡ Some (plain_file f)
    → node_of files file ≡ Some node → f.node ≡ node
own_node files file node f here is =
    let both : Some f.node ≡ Some node = sym (ap (option_map (λ (g : Filed). g.node)) here) ∙ is in
    cc

module _ {W : ℕ} (s : Catalogue) (r : Relisting W) (numbers : List ℕ) (are : AreMoving s r numbers) where
  number-low : (i : ℕ) → i < length numbers → slice_index numbers i < length s.files
  number-low i inside = node-low s.files (slice_index numbers i) (ap is_some (are.own i inside))

  behind-low : (k : ℕ) → k ≤ length numbers → number_behind numbers k ≤ length s.files
  behind-low zero inside = omega arith
  behind-low (suc k) inside = omega (arith, number-low k (omega arith))

  behind-next : (k : ℕ) → k < length numbers → number_behind numbers k ≤ slice_index numbers k
  behind-next zero inside = omega arith
  behind-next (suc k) inside = omega (arith, are.rise k (suc k) (omega arith) inside)

  number-behind : (k i : ℕ) → i < k → k ≤ length numbers → slice_index numbers i < number_behind numbers k
  number-behind zero i less inside = absurd (omega arith)
  number-behind (suc k) i less inside =
      ⊎_elim
      (λ same. omega (arith, ap (λ n. slice_index numbers n) same))
      (λ other. omega (arith, are.rise i k (omega arith) (omega arith)))
      (cases_eq i k)

  -- a file between two of the numbers in a row isn't among them
  none-between : (k file : ℕ) → k ≤ length numbers → number_behind numbers k ≤ file
      → ((i : ℕ) → k ≤ i → i < length numbers → file < slice_index numbers i) → ¬ Contains numbers file
  none-between k file few from before found =
      let at : slice_index numbers found.0 ≡ file = get_or_default numbers found.0 0 file found.1 ∙ found.2 in
      ⊎_elim
      (λ less. absurd (omega (arith, number-behind k found.0 less few)))
      (λ le. absurd (omega (arith, before found.0 le found.1)))
      (cases_lt found.0 k)

  before-next : (k file : ℕ) → k < length numbers → file < slice_index numbers k
      → (i : ℕ) → k ≤ i → i < length numbers → file < slice_index numbers i
  before-next k file inside low i le within =
      ⊎_elim
      (λ same. omega (arith, ap (λ n. slice_index numbers n) same))
      (λ other. omega (arith, are.rise k i (omega arith) within))
      (cases_eq k i)

-- ---- files that are passed over

-- a file as it is kept
abbrev entry_of : Filed → FileEntry
entry_of f = record {
  name = f.name;
  node = f.node;
  surface = f.surface;
  generation = f.generation;
  tag = f.tag;
  length = f.length;
}

-- what holds of wanted sets goes on with that of a file that has its surface already
abbrev pub GoesOn : Catalogue → (List (Option ℕ) → Type 0) → Type 0
GoesOn s Holds =
    (wants : List (Option ℕ)) (want : Option ℕ) (f : FileEntry) → Holds wants
    → living_at s.files (length wants) ≡ Some (plain_file f)
    → IfSome f.surface (λ node. node < length s.surface.sets)
    → same_surface f.surface (surface_at s.surface.sets want) ≡ true
    → Holds (wants ++ want ∷ [])

-- and it goes on with none for a file that is gone
abbrev pub GoesOnGone : Catalogue → (List (Option ℕ) → Type 0) → Type 0
GoesOnGone s Holds =
    (wants : List (Option ℕ)) → Holds wants → living_at s.files (length wants) ≡ None → Holds (wants ++ None ∷ [])

-- the file of this number has the wanted surface that it should have afterwards
abbrev Stays : {W : ℕ} → Catalogue → Relisting W → ℕ → Type 0
Stays s r file = (f : FileEntry) → living_at s.files file ≡ Some (plain_file f) → MayMove false s r file f

module _ {W : ℕ} (s : Catalogue) (r : Relisting W) (limit : ℕ) (well : IsWell limit s)
    (Holds : List (Option ℕ) → Type 0) (goes_on : GoesOn s Holds) (goes_on_gone : GoesOnGone s Holds) where
  abbrev wants : List (Option ℕ)
  wants = wants_after (outline s) r 0 (places s.files)

  skip-one : (file : ℕ) → file < length s.files → Stays s r file → Holds (take file wants) → Holds (take (file + 1) wants)
  skip-one file low stays holds = by_file (living_at s.files file) refl where
    by_file : (o : Option Filed) → living_at s.files file ≡ o → Holds (take (file + 1) wants)
    by_file None none = file-gone s r file low none Holds goes_on_gone holds
    by_file (Some own) here =
        let f : FileEntry = entry_of own in
        file-stays s r file f here Holds limit well (stays f here) (λ at surface same. goes_on (take file wants) _ f holds at surface same)

  skip-some : (from n : ℕ) → from + n ≤ length s.files → ((file : ℕ) → from ≤ file → file < from + n → Stays s r file)
      → Holds (take from wants) → Holds (take (from + n) wants)
  skip-some from zero low stay holds =
      let none : from ≡ from + zero = omega arith in
      subst (λ n. Holds (take n wants)) none holds
  skip-some from (suc n) low stay holds =
      let one : from + n + 1 ≡ from + suc n = omega arith in
      let before = skip-some from n (omega arith) (λ file at less. stay file at (omega arith)) holds in
      subst (λ n. Holds (take n wants)) one (skip-one (from + n) (omega arith) (stay (from + n) (omega arith) (omega arith)) before)

  skip-to : (from to : ℕ) → from ≤ to → to ≤ length s.files → ((file : ℕ) → from ≤ file → file < to → Stays s r file)
      → Holds (take from wants) → Holds (take to wants)
  skip-to from to rise low stay holds =
      let whole : from + (to - from) ≡ to = omega arith in
      subst (λ n. Holds (take n wants)) whole (skip-some from (to - from) (omega arith) (λ file at less. stay file at (omega arith)) holds)

  module _ (numbers : List ℕ) (are : AreMoving s r numbers) where
    -- up to the next file that may move
    pub next-moving : (k : ℕ) → k < length numbers → Holds (take (number_behind numbers k) wants) → Holds (take (slice_index numbers k) wants)
    next-moving k inside holds =
        skip-to (number_behind numbers k) (slice_index numbers k) (behind-next s r numbers are k inside)
        (le_of_lt (number-low s r numbers are k inside))
        (λ file from less f here. are.others file f here
        (none-between s r numbers are k file (le_of_lt inside) from (before-next s r numbers are k file inside less)))
        holds

    -- behind the last file that may move
    pub last-moving : (k : ℕ) → k ≡ length numbers → Holds (take (number_behind numbers k) wants) → Holds wants
    last-moving k last holds =
        let few : k ≤ length numbers = omega arith in
        subst Holds (take-all s r (length s.files) refl)
        (skip-to (number_behind numbers k) (length s.files) (behind-low s r numbers are k few) (le_refl (length s.files))
        (λ file from less f here. are.others file f here (none-between s r numbers are k file few from (λ i le within. absurd (omega arith)))) holds)
