-- Files as a state keeps them, and rewrites, as the catalogue has them.
use Rattle.std.specs.Prelude.{◌≡◌, ℕ, ◌+◌, ◌<◌, ◌≤◌, true, List, [], ◌∷◌, length, Contains}
use Rattle.std.specs.Prelude.{Option, Some, None, is_some, option_map, remove, slice_index}
use Rattle.std.specs.Prelude.{unwrap_or}
use Rattle.ov_base.specs.declared.limits.TheConstants.{MAX_FILES}
use Rattle.ov_history.specs.Catalogue.{Filed}
use Rattle.ov_history.specs.Places.{living_at}
use Rattle.ov_history.specs.Rewrites.{Rewrite as PlainRewrite}
use Rattle.ov_state.specs.declared.files.FileEntry.{FileEntry}
use Rattle.ov_state.specs.declared.change.Rewrite.{Rewrite}

-- a file as the catalogue has it
abbrev pub plain_file : FileEntry → Filed
plain_file f = record {
  name = f.name;
  node = f.node;
  surface = f.surface;
  generation = f.generation;
  tag = f.tag;
  length = f.length;
}

-- the files as the catalogue has them, but for those that are gone
abbrev pub plain_files : List (Option FileEntry) → List (Option Filed)
plain_files [] = []
plain_files (f ∷ files) = option_map plain_file f ∷ plain_files files

-- a rewrite in the words of histories
abbrev pub plain_rewrite : Rewrite → PlainRewrite
plain_rewrite r = record { file = r.file; length = r.length; old = r.old; new = r.new }

-- the rewrites in the words of histories
abbrev pub plain_rewrites : List Rewrite → List PlainRewrite
plain_rewrites [] = []
plain_rewrites (r ∷ rewrites) = plain_rewrite r ∷ plain_rewrites rewrites

-- the files by number, but for those that are gone, and for how many more there is room
pub record FileList : Type 0 where
  pub files : List (Option Filed)
  pub spare : ℕ

-- the name of a file, and the empty one of a file that is gone
abbrev pub filed_name : Option Filed → List ℕ
filed_name None = []
filed_name (Some f) = f.name

-- the names of these files
abbrev pub filed_names : List (Option Filed) → List (List ℕ)
filed_names [] = []
filed_names (f ∷ files) = filed_name f ∷ filed_names files

-- this is the name of the file of this number
abbrev pub HasName : List (Option Filed) → ℕ → List ℕ → Type 0
HasName files number name = (f : Filed) → living_at files number ≡ Some f → name ≡ f.name

-- the names of these files with their numbers, of which the first is this; a file that is gone has
-- neither
abbrev pub numbered : ℕ → List (Option Filed) → List (List ℕ × ℕ)
numbered number [] = []
numbered number (None ∷ files) = numbered (number + 1) files
numbered number (Some f ∷ files) = (f.name, number) ∷ numbered (number + 1) files

-- each name leads to the number of its file, and no more numbers are given than a store may have
abbrev pub AreNumbered : List (Option Filed) → List (List ℕ × ℕ) → Type 0
AreNumbered files numbers = (numbers ≡ numbered 0 files) × (length files ≤ MAX_FILES)

-- ---- files by base node

-- the base node of the file of this number, where it is there
abbrev pub node_of : List (Option Filed) → ℕ → Option ℕ
node_of files file = option_map (λ (f : Filed). f.node) (living_at files file)

-- the base node of the file of this number, and 0 where it isn't there
abbrev pub node_at : List (Option Filed) → ℕ → ℕ
node_at files file = unwrap_or (node_of files file) 0

-- one file comes before another: its base node is lower, or the same and its number is lower
abbrev pub ComesBefore : List (Option Filed) → ℕ → ℕ → Type 0
ComesBefore files one other =
    (node_at files one ≤ node_at files other)
    × (node_at files one ≡ node_at files other → one < other)

-- the numbers are those of all files that are there, ordered by base node and then by number
pub record AreByNode (files : List (Option Filed)) (numbers : List ℕ) : Type 0 where
  pub there : (i : ℕ) → i < length numbers
      → is_some (node_of files (slice_index numbers i)) ≡ true
  pub all : (file : ℕ) → is_some (node_of files file) ≡ true → Contains numbers file
  pub ordered : (i j : ℕ) → i < j → j < length numbers
      → ComesBefore files (slice_index numbers i) (slice_index numbers j)

-- so many of the numbers are of files of base nodes below this one, and all behind them are not
pub record IsCountBelow (files : List (Option Filed)) (node : ℕ) (numbers : List ℕ)
    (count : ℕ) : Type 0 where
  pub inside : count ≤ length numbers
  pub below : (i : ℕ) → i < count → node_at files (slice_index numbers i) < node
  pub behind : (i : ℕ) → count ≤ i → i < length numbers
      → node ≤ node_at files (slice_index numbers i)

-- the number was one of these, and now it is left out of them
abbrev pub IsTakenOut : ℕ → List ℕ → List ℕ → Type 0
IsTakenOut number old new =
    (place : ℕ) × (place < length old) × (slice_index old place ≡ number)
    × (new ≡ remove old place)

-- each number is below those after it
abbrev pub Ascend : List ℕ → Type 0
Ascend numbers =
    (i j : ℕ) → i < j → j < length numbers → slice_index numbers i < slice_index numbers j

-- the numbers are those of all files with this base node, and ascend
pub record AreOfNode (files : List (Option Filed)) (node : ℕ) (numbers : List ℕ) : Type 0 where
  pub own : (i : ℕ) → i < length numbers → node_of files (slice_index numbers i) ≡ Some node
  pub all : (file : ℕ) → node_of files file ≡ Some node → Contains numbers file
  pub rise : Ascend numbers

-- at most one of the numbers is left, and that is this one where it is among them
pub record IsOnly (number : ℕ) (numbers left : List ℕ) : Type 0 where
  pub few : length left ≤ 1
  pub own : (i : ℕ) → i < length left → Contains numbers (slice_index left i)
  pub kept : Contains numbers number → Contains left number
