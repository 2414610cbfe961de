-- Files by base node, as their numbers are kept and looked up.
use Rattle.std.proofs.Common.{Bor, length, ◌≡◌, ℕ, zero, suc, ◌+◌, ◌-◌, ◌<◌, ◌≤◌, ◌⊎◌, inl, inr, ⊎_elim, true, true≢false, List, [], ◌∷◌, ◌++◌, refl, sym, ◌∙◌, ap, subst, arith, length-append}
use Rattle.std.proofs.Common.{◌≢◌}
use Rattle.std.specs.Prelude.{is_some, insert, option_map, remove, slice_index, slice_index_or, slice_range, unwrap_or, Contains, Option, Some, None}
use Rattle.std.specs.List.Sorted.{IsNonDecreasingBy}
use Rattle.std.proofs.lemmas.Bool.{cases_eq, cases_lt}
use Rattle.std.proofs.lemmas.List.{get_or_default}
use Rattle.std.proofs.lemmas.List.Edits.{get_or-between, get_or-insert_above, get_or-insert_at, get_or-insert_below, get_or-remove_above, get_or-remove_below, length-between, length-insert, length-remove}
use Rattle.std.proofs.lemmas.List.Sorted.{IsNonDecreasingBy-from_default}
use Rattle.ov_history.specs.Catalogue.{Filed}
use Rattle.ov_history.specs.Places.{change_at, gone, living_at}
use Rattle.ov_history.proofs.ChangeLaws.{change_at-other, gone_not}
use Rattle.ov_history.proofs.SoundTests.{is_some-map}
use Rattle.ov_state.proofs.FilesByNumber.{length-plain}
use Rattle.ov_state.specs.declared.files.FileEntry.{FileEntry}
use Rattle.ov_state.specs.Entries.{node_at, node_of, plain_file, plain_files, AreByNode, AreOfNode, ComesBefore, IsCountBelow, IsTakenOut}

-- ---- an item that is put in

-- where the item of this place comes from, after an item was put in
abbrev IsPlaced : List ℕ → ℕ → ℕ → ℕ → Type 0
IsPlaced xs place x i =
    ((i < place) × (slice_index (insert xs place x) i ≡ slice_index xs i))
    ⊎ (((i ≡ place) × (slice_index (insert xs place x) i ≡ x))
    ⊎ ((place < i) × (slice_index (insert xs place x) i ≡ slice_index xs (i - 1))))

placed : (xs : List ℕ) (place x i : ℕ) → place ≤ length xs → IsPlaced xs place x i
placed xs place x i low =
    ⊎_elim
    (λ before. inl (before, get_or-insert_below xs place x 0 i before low))
    (λ from. ⊎_elim
    (λ here. inr (inl (here, ap (λ n. slice_index (insert xs place x) n) here ∙ get_or-insert_at xs place x 0 low)))
    (λ other.
    let back : i ≡ i - 1 + 1 = omega arith in
    inr (inr (omega arith, ap (λ n. slice_index (insert xs place x) n) back ∙ get_or-insert_above xs place x 0 (i - 1) (omega arith) low)))
    (cases_eq i place))
    (cases_lt i place)

same_for : (R : ℕ → ℕ → Type 0) (a b c d : ℕ) → c ≡ a → d ≡ b → R a b → R c d
same_for R a b c d one other holds = subst (λ n. R n d) (sym one) (subst (λ n. R a n) (sym other) holds)

-- what holds of each two goes on where an item is put in that it suits
pairs-insert : (R : ℕ → ℕ → Type 0) (xs : List ℕ) (place x : ℕ) → place ≤ length xs
    → ((i j : ℕ) → i < j → j < length xs → R (slice_index xs i) (slice_index xs j))
    → ((i : ℕ) → i < place → R (slice_index xs i) x)
    → ((i : ℕ) → place ≤ i → i < length xs → R x (slice_index xs i))
    → (i j : ℕ) → i < j → j < length (insert xs place x) → R (slice_index (insert xs place x) i) (slice_index (insert xs place x) j)
pairs-insert R xs place x low each before behind i j less within =
    at (placed xs place x i low) (placed xs place x j low) (omega (arith, length-insert xs place x low)) where
      at : IsPlaced xs place x i → IsPlaced xs place x j → j < length xs + 1 → R (slice_index (insert xs place x) i) (slice_index (insert xs place x) j)
      at (inl (a, is)) (inl (b, js)) inside = same_for R _ _ _ _ is js (each i j less (omega arith))
      at (inl (a, is)) (inr (inl (b, js))) inside = same_for R _ _ _ _ is js (before i a)
      at (inl (a, is)) (inr (inr (b, js))) inside = same_for R _ _ _ _ is js (each i (j - 1) (omega arith) (omega arith))
      at (inr (inl (a, is))) (inl (b, js)) inside = absurd (omega arith)
      at (inr (inl (a, is))) (inr (inl (b, js))) inside = absurd (omega arith)
      at (inr (inl (a, is))) (inr (inr (b, js))) inside = same_for R _ _ _ _ is js (behind (j - 1) (omega arith) (omega arith))
      at (inr (inr (a, is))) (inl (b, js)) inside = absurd (omega arith)
      at (inr (inr (a, is))) (inr (inl (b, js))) inside = absurd (omega arith)
      at (inr (inr (a, is))) (inr (inr (b, js))) inside = same_for R _ _ _ _ is js (each (i - 1) (j - 1) (omega arith) (omega arith))

-- each item is still there
kept-insert : (xs : List ℕ) (place x y : ℕ) → place ≤ length xs → Contains xs y → Contains (insert xs place x) y
kept-insert xs place x y low (k, inside, is) =
    let longer : length (insert xs place x) ≡ length xs + 1 = length-insert xs place x low in
    ⊎_elim
    (λ before. (k, omega arith, get_or-insert_below xs place x y k before low ∙ is))
    (λ from. (k + 1, omega arith, get_or-insert_above xs place x y k from low ∙ is))
    (cases_lt k place)

put-insert : (xs : List ℕ) (place x y : ℕ) → place ≤ length xs → y ≡ x → Contains (insert xs place x) y
put-insert xs place x y low same =
    let longer : length (insert xs place x) ≡ length xs + 1 = length-insert xs place x low in
    (place, omega arith, get_or-insert_at xs place x y low ∙ sym same)

-- ---- an item that is taken out

-- where the item of this place comes from, after an item was taken out
abbrev IsLeftOf : List ℕ → ℕ → ℕ → Type 0
IsLeftOf xs place i =
    ((i < place) × (slice_index (remove xs place) i ≡ slice_index xs i))
    ⊎ ((place ≤ i) × (slice_index (remove xs place) i ≡ slice_index xs (i + 1)))

left : (xs : List ℕ) (place i : ℕ) → place < length xs → IsLeftOf xs place i
left xs place i low =
    ⊎_elim
    (λ before. inl (before, get_or-remove_below xs place 0 i before low))
    (λ from. inr (from, get_or-remove_above xs place 0 i from low))
    (cases_lt i place)

-- what holds of each two goes on where an item is taken out
pairs-remove : (R : ℕ → ℕ → Type 0) (xs : List ℕ) (place : ℕ) → place < length xs
    → ((i j : ℕ) → i < j → j < length xs → R (slice_index xs i) (slice_index xs j))
    → (i j : ℕ) → i < j → j < length (remove xs place) → R (slice_index (remove xs place) i) (slice_index (remove xs place) j)
pairs-remove R xs place low each i j less within =
    at (left xs place i low) (left xs place j low) (omega (arith, length-remove xs place low)) where
      at : IsLeftOf xs place i → IsLeftOf xs place j → j + 1 < length xs → R (slice_index (remove xs place) i) (slice_index (remove xs place) j)
      at (inl (a, is)) (inl (b, js)) inside = same_for R _ _ _ _ is js (each i j less (omega arith))
      at (inl (a, is)) (inr (b, js)) inside = same_for R _ _ _ _ is js (each i (j + 1) (omega arith) inside)
      at (inr (a, is)) (inl (b, js)) inside = absurd (omega arith)
      at (inr (a, is)) (inr (b, js)) inside = same_for R _ _ _ _ is js (each (i + 1) (j + 1) (omega arith) inside)

-- another item is there still
kept-remove : (xs : List ℕ) (place y : ℕ) → place < length xs → slice_index xs place ≢ y → Contains xs y → Contains (remove xs place) y
kept-remove xs place y low other (k, inside, is) =
    let shorter : length (remove xs place) + 1 ≡ length xs = length-remove xs place low in
    let at : slice_index xs k ≡ y = get_or_default xs k 0 y inside ∙ is in
    ⊎_elim
    (λ before. (k, omega arith, get_or-remove_below xs place y k before low ∙ is))
    (λ from.
    let apart : place ≢ k = λ same. other (ap (λ n. slice_index xs n) same ∙ at) in
    let back : k - 1 + 1 ≡ k = omega arith in
    (k - 1, omega arith, get_or-remove_above xs place y (k - 1) (omega arith) low ∙ ap (λ n. slice_index_or xs n y) back ∙ is))
    (cases_lt k place)

-- ---- nodes of files

-- a file that is there is one of the files
pub node-low : (files : List (Option Filed)) (file : ℕ) → is_some (node_of files file) ≡ true → file < length files
node-low [] file there = absurd (true≢false (sym there))
node-low (f ∷ files) zero there = omega arith
node-low (f ∷ files) (suc file) there = omega (arith, node-low files file there)

node-before : (files : List (Option Filed)) (f : Filed) (file : ℕ) → file < length files
    → node_of (files ++ Some f ∷ []) file ≡ node_of files file
node-before [] f file low = absurd (omega arith)
node-before (first ∷ files) f zero low = refl
node-before (first ∷ files) f (suc file) low = node-before files f file (omega arith)

node-last : (files : List (Option Filed)) (f : Filed) → node_of (files ++ Some f ∷ []) (length files) ≡ Some f.node
node-last [] f = refl
node-last (first ∷ files) f = node-last files f

-- a change of a file that leaves its node leaves all nodes
pub node-alike : (files : List (Option Filed)) (change : Filed → Filed) (place file : ℕ) → ((f : Filed) → (change f).node ≡ f.node)
    → node_of (change_at (option_map change) place files) file ≡ node_of files file
node-alike [] change place file same = refl
node-alike (None ∷ files) change zero zero same = refl
node-alike (Some f ∷ files) change zero zero same = ap Some (same f)
node-alike (first ∷ files) change zero (suc file) same = refl
node-alike (first ∷ files) change (suc place) zero same = refl
node-alike (first ∷ files) change (suc place) (suc file) same = node-alike files change place file same

-- each other file keeps its node where one is gone
pub node-still : (files : List (Option Filed)) (place file : ℕ) → file ≢ place → node_of (change_at gone place files) file ≡ node_of files file
node-still files place file other =
    ap (λ (o : Option Filed). option_map (λ (f : Filed). f.node) o) (change_at-other gone place file files None other)

-- a file that is there isn't the one that is gone
pub node-other : (files : List (Option Filed)) (place file : ℕ) → is_some (node_of (change_at gone place files) file) ≡ true → file ≢ place
node-other files place file there =
    gone_not place files file
    (sym (is_some-map (λ (f : Filed). f.node) (living_at (change_at gone place files) file)) ∙ there)

-- the node of a file that is looked up by its number
pub node-got : (files : List (Option Filed)) (file : ℕ) (r : Option (Bor FileEntry))
    → option_map (λ f. plain_file f.now) r ≡ living_at files file
    → unwrap_or (option_map (λ (f : Bor FileEntry). f.now.node) r) 0 ≡ node_at files file
node-got files file r is =
    sides r ∙ ap (λ (o : Option Filed). unwrap_or (option_map (λ (f : Filed). f.node) o) 0) is where
      sides : (r : Option (Bor FileEntry)) → unwrap_or (option_map (λ (f : Bor FileEntry). f.now.node) r) 0
          ≡ unwrap_or (option_map (λ (f : Filed). f.node) (option_map (λ (f : Bor FileEntry). plain_file f.now) r)) 0
      sides None = refl
      sides (Some f) = refl

-- ---- numbers by node

before-alike : (files others : List (Option Filed)) (one other : ℕ) → node_of others one ≡ node_of files one → node_of others other ≡ node_of files other
    → ComesBefore files one other → ComesBefore others one other
before-alike files others one other first second (low, less) =
    let a : node_at others one ≡ node_at files one = ap (λ (o : Option ℕ). unwrap_or o 0) first in
    let b : node_at others other ≡ node_at files other = ap (λ (o : Option ℕ). unwrap_or o 0) second in
    (omega arith, λ same. less (sym a ∙ same ∙ b))

-- files of the same nodes have the same numbers by node
pub by_node-alike : (files others : List (Option Filed)) (numbers : List ℕ) → ((file : ℕ) → node_of others file ≡ node_of files file)
    → AreByNode files numbers → AreByNode others numbers
by_node-alike files others numbers same are = record {
  there = λ i low. ap is_some (same (slice_index numbers i)) ∙ are.there i low;
  all = λ file there. are.all file (sym (ap is_some (same file)) ∙ there);
  ordered = λ i j less low. before-alike files others (slice_index numbers i) (slice_index numbers j) (same (slice_index numbers i)) (same (slice_index numbers j)) (are.ordered i j less low);
}

module _ (files : List (Option Filed)) (f : Filed) (numbers : List ℕ) (place : ℕ)
    (here : IsCountBelow files (f.node + 1) numbers place) (are : AreByNode files numbers) where
  abbrev more : List (Option Filed)
  more = files ++ Some f ∷ []

  own : node_at more (length files) ≡ f.node
  own = ap (λ (o : Option ℕ). unwrap_or o 0) (node-last files f)

  low : (i : ℕ) → i < length numbers → slice_index numbers i < length files
  low i inside = node-low files (slice_index numbers i) (are.there i inside)

  kept : (i : ℕ) → i < length numbers → node_of more (slice_index numbers i) ≡ node_of files (slice_index numbers i)
  kept i inside = node-before files f (slice_index numbers i) (low i inside)

  kept_at : (i : ℕ) → i < length numbers → node_at more (slice_index numbers i) ≡ node_at files (slice_index numbers i)
  kept_at i inside = ap (λ (o : Option ℕ). unwrap_or o 0) (kept i inside)

  new-before : (i : ℕ) → i < place → ComesBefore more (slice_index numbers i) (length files)
  new-before i before =
      let inside : i < length numbers = omega (arith, here.inside) in
      (omega (arith, kept_at i inside, here.below i before, own), λ same. low i inside)

  new-behind : (i : ℕ) → place ≤ i → i < length numbers → ComesBefore more (length files) (slice_index numbers i)
  new-behind i from inside =
      let higher = here.behind i from inside in
      (omega (arith, kept_at i inside, higher, own), λ same. absurd (omega (arith, same, kept_at i inside, higher, own)))

  new-there : (i : ℕ) → i < length (insert numbers place (length files))
      → is_some (node_of more (slice_index (insert numbers place (length files)) i)) ≡ true
  new-there i inside = at (placed numbers place (length files) i here.inside) (omega (arith, length-insert numbers place (length files) here.inside)) where
    at : IsPlaced numbers place (length files) i → i < length numbers + 1 → is_some (node_of more (slice_index (insert numbers place (length files)) i)) ≡ true
    at (inl (before, is)) within =
        let there : i < length numbers = omega (arith, here.inside) in
        ap (λ n. is_some (node_of more n)) is ∙ ap is_some (kept i there) ∙ are.there i there
    at (inr (inl (same, is))) within = ap (λ n. is_some (node_of more n)) is ∙ ap is_some (node-last files f)
    at (inr (inr (behind, is))) within =
        let there : i - 1 < length numbers = omega arith in
        ap (λ n. is_some (node_of more n)) is ∙ ap is_some (kept (i - 1) there) ∙ are.there (i - 1) there

  new-all : (file : ℕ) → is_some (node_of more file) ≡ true → Contains (insert numbers place (length files)) file
  new-all file there =
      let inside : file < length more = node-low more file there in
      let longer : length more ≡ length files + 1 = length-append files (Some f ∷ []) in
      ⊎_elim
      (λ old. kept-insert numbers place (length files) file here.inside
      (are.all file (sym (ap is_some (node-before files f file old)) ∙ there)))
      (λ last. put-insert numbers place (length files) file here.inside (omega arith))
      (cases_lt file (length files))

  -- the number of a new file stands behind those of its node and of lower ones
  pub by_node-push : AreByNode more (insert numbers place (length files))
  by_node-push = record {
    there = new-there;
    all = new-all;
    ordered = pairs-insert (ComesBefore more) numbers place (length files) here.inside
        (λ i j less inside. before-alike files more (slice_index numbers i) (slice_index numbers j) (kept i (omega arith)) (kept j inside) (are.ordered i j less inside))
        new-before new-behind;
  }

module _ (files : List (Option Filed)) (file : ℕ) (numbers : List ℕ) (place : ℕ) (inside : place < length numbers)
    (here : slice_index numbers place ≡ file) (are : AreByNode files numbers) where
  abbrev fewer : List (Option Filed)
  fewer = change_at gone file files

  -- each number is there once
  once : (i j : ℕ) → i < j → j < length numbers → slice_index numbers i ≢ slice_index numbers j
  once i j less low same = absurd (omega (arith, (are.ordered i j less low).1 (ap (node_at files) same), same))

  -- none of those that are left is that of the file
  left-other : (i : ℕ) → i < length (remove numbers place) → slice_index (remove numbers place) i ≢ file
  left-other i within same = at (left numbers place i inside) (omega (arith, length-remove numbers place inside)) where
    at : IsLeftOf numbers place i → i + 1 < length numbers → ⊥
    at (inl (before, is)) low = once i place before inside (sym is ∙ same ∙ sym here)
    at (inr (from, is)) low = once place (i + 1) (omega arith) low (here ∙ sym same ∙ is)

  left-node : (i : ℕ) → i < length (remove numbers place)
      → node_of fewer (slice_index (remove numbers place) i) ≡ node_of files (slice_index (remove numbers place) i)
  left-node i within = node-still files file (slice_index (remove numbers place) i) (left-other i within)

  left-there : (i : ℕ) → i < length (remove numbers place) → is_some (node_of files (slice_index (remove numbers place) i)) ≡ true
  left-there i within = at (left numbers place i inside) (omega (arith, length-remove numbers place inside)) where
    at : IsLeftOf numbers place i → i + 1 < length numbers → is_some (node_of files (slice_index (remove numbers place) i)) ≡ true
    at (inl (before, is)) low = ap (λ n. is_some (node_of files n)) is ∙ are.there i (omega arith)
    at (inr (from, is)) low = ap (λ n. is_some (node_of files n)) is ∙ are.there (i + 1) low

  left-all : (other : ℕ) → is_some (node_of fewer other) ≡ true → Contains (remove numbers place) other
  left-all other there =
      let apart : other ≢ file = node-other files file other there in
      kept-remove numbers place other inside (λ same. apart (sym same ∙ here))
      (are.all other (sym (ap is_some (node-still files file other apart)) ∙ there))

  -- the number of a file that is gone is left out
  pub by_node-remove : AreByNode fewer (remove numbers place)
  by_node-remove = record {
    there = λ i within. ap is_some (left-node i within) ∙ left-there i within;
    all = left-all;
    ordered = λ i j less within.
        before-alike files fewer (slice_index (remove numbers place) i) (slice_index (remove numbers place) j)
        (left-node i (omega arith)) (left-node j within)
        (pairs-remove (ComesBefore files) numbers place inside are.ordered i j less within);
  }

-- a file that is gone leaves its number out of those that are kept
pub by_node-gone : (files : List (Option Filed)) (file : ℕ) (numbers next : List ℕ) → AreByNode files numbers → IsTakenOut file numbers next
    → AreByNode (change_at gone file files) next
by_node-gone files file numbers next are (place, inside, here, left) =
    subst (λ ns. AreByNode (change_at gone file files) ns) (sym left) (by_node-remove files file numbers place inside here are)

-- the number of a file that is there is among them
pub by_node-among : (files : List (Option Filed)) (file : ℕ) (numbers : List ℕ) → AreByNode files numbers
    → is_some (living_at files file) ≡ true → Contains numbers file
by_node-among files file numbers are there = are.all file (is_some-map (λ (f : Filed). f.node) (living_at files file) ∙ there)

-- the numbers by node of lists that are kept elsewhere
pub by_node-held : (list held : List (Option FileEntry)) (numbers kept : List ℕ) → held ≡ list → kept ≡ numbers
    → AreByNode (plain_files list) numbers → AreByNode (plain_files held) kept
by_node-held list held numbers kept same alike are =
    subst (λ (fs : List (Option FileEntry)). AreByNode (plain_files fs) kept) (sym same) (subst (λ ns. AreByNode (plain_files list) ns) (sym alike) are)

-- a new file that is kept with the others has its number behind those of its node
pub by_node_then : (list held : List (Option FileEntry)) (numbers kept next : List ℕ) (f : FileEntry) (place number end : ℕ)
    → held ≡ list → kept ≡ numbers → end ≡ f.node + 1 → number ≡ length list
    → IsCountBelow (plain_files held) end kept place → AreByNode (plain_files list) numbers
    → next ≡ insert numbers place number → AreByNode (plain_files list ++ Some (plain_file f) ∷ []) next
by_node_then list held numbers kept next f place number end same alike last counted here are inserted =
    let files = plain_files list in
    let own : IsCountBelow files (f.node + 1) numbers place =
    subst (λ n. IsCountBelow files n numbers place) last
    (subst (λ ns. IsCountBelow files end ns place) alike (subst (λ (fs : List (Option FileEntry)). IsCountBelow (plain_files fs) end kept place) same here)) in
    let many : number ≡ length files = counted ∙ sym (length-plain list) in
    subst (λ ns. AreByNode (files ++ Some (plain_file f) ∷ []) ns) (sym (inserted ∙ ap (λ n. insert numbers place n) many))
    (by_node-push files (plain_file f) numbers place own are)

-- ---- numbers of one node

-- nodes don't fall along the numbers
pub nodes-rise : (files : List (Option Filed)) (numbers : List ℕ) → AreByNode files numbers → IsNonDecreasingBy (node_at files) numbers
nodes-rise files numbers are =
    IsNonDecreasingBy-from_default (node_at files) numbers 0
    (λ i j le inside. ⊎_elim
    (λ same. omega (arith, ap (λ n. node_at files (slice_index numbers n)) same))
    (λ other. (are.ordered i j (omega arith) inside).0)
    (cases_eq i j))

-- the count below a higher node is no lower
pub counts-rise : (files : List (Option Filed)) (node : ℕ) (numbers : List ℕ) (from to : ℕ)
    → IsCountBelow files node numbers from → IsCountBelow files (node + 1) numbers to → from ≤ to
counts-rise files node numbers from to first second =
    ⊎_elim
    (λ less. absurd (omega (arith, first.below to less, second.behind to (omega arith) (omega (arith, first.inside)))))
    (λ le. le)
    (cases_lt to from)

is_node : (o : Option ℕ) (node : ℕ) → is_some o ≡ true → unwrap_or o 0 ≡ node → o ≡ Some node
is_node None node there is = absurd (true≢false (sym there))
is_node (Some n) node there is = ap Some is

module _ (files : List (Option Filed)) (node : ℕ) (numbers : List ℕ) (from to : ℕ)
    (first : IsCountBelow files node numbers from) (second : IsCountBelow files (node + 1) numbers to) (are : AreByNode files numbers) where
  many : length (slice_range numbers from to) ≡ to - from
  many = length-between numbers from to second.inside

  part : (i : ℕ) → i < length (slice_range numbers from to) → slice_index (slice_range numbers from to) i ≡ slice_index numbers (from + i)
  part i inside = get_or-between numbers from to i 0 (omega (arith, many))

  between : (i : ℕ) → from ≤ i → i < to → node_of files (slice_index numbers i) ≡ Some node
  between i low high =
      let inside : i < length numbers = omega (arith, second.inside) in
      is_node (node_of files (slice_index numbers i)) node (are.there i inside) (omega (arith, first.behind i low inside, second.below i high))

  all-between : (file : ℕ) → node_of files file ≡ Some node → Contains (slice_range numbers from to) file
  all-between file is =
      let found : Contains numbers file = are.all file (ap is_some is) in
      let k : ℕ = found.0 in
      let inside : k < length numbers = found.1 in
      let at : slice_index numbers k ≡ file = get_or_default numbers k 0 file inside ∙ found.2 in
      let own : node_at files (slice_index numbers k) ≡ node =
      ap (node_at files) at ∙ ap (λ (o : Option ℕ). unwrap_or o 0) is in
      let low : from ≤ k =
      ⊎_elim (λ less. absurd (omega (arith, first.below k less))) (λ le. le) (cases_lt k from) in
      let high : k < to =
      ⊎_elim (λ less. less) (λ le. absurd (omega (arith, second.behind k le inside))) (cases_lt k to) in
      let back : from + (k - from) ≡ k = omega arith in
      (k - from, omega (arith, many), get_or-between numbers from to (k - from) file (omega arith) ∙ ap (λ n. slice_index_or numbers n file) back ∙ found.2)

  -- the numbers from the count below the node to the count below the next are those of the node
  pub of_node-between : AreOfNode files node (slice_range numbers from to)
  of_node-between = record {
    own = λ i inside. ap (node_of files) (part i inside) ∙ between (from + i) (omega arith) (omega (arith, many));
    all = all-between;
    rise = λ i j less inside.
        let less_too : i < length (slice_range numbers from to) = omega arith in
        same_for (λ a b. a < b) _ _ _ _ (part i less_too) (part j inside)
        ((are.ordered (from + i) (from + j) (omega arith) (omega (arith, many, second.inside))).1
        (ap (λ (o : Option ℕ). unwrap_or o 0)
        (between (from + i) (omega arith) (omega (arith, many)) ∙ sym (between (from + j) (omega arith) (omega (arith, many))))));
  }
