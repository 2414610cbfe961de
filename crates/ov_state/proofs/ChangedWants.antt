-- The wanted sets of files after the list of one changed, by number.
use Rattle.ov_history.specs.Places.{living_at}
use Rattle.std.specs.Prelude.{option_map}
use Rattle.ov_history.proofs.Storing.{living_below}
use Rattle.std.proofs.Common.{◌≡◌, ◌≢◌, ℕ, zero, suc, ◌+◌, ◌<◌, ◌≤◌, ◌==◌, Bool, true, false, List, [], ◌∷◌, ◌++◌, length, take, drop, refl, sym, ◌∙◌, ap, subst, arith, eqb-true, length-append}
use Rattle.std.specs.Prelude.{slice_get, Option, Some, None, IfSome, is_some, not}
use Rattle.std.proofs.lemmas.Bool.{false≢true}
use Rattle.std.proofs.lemmas.Bool.Decides.{nat_tests}
use Rattle.std.proofs.lemmas.List.{take_all, take_more, take-append-drop, length-take-le}
use Rattle.std.proofs.lemmas.Option.{get_or_from_slice_get, slice_get_within}
use Rattle.ov_base.specs.Sets.{Has, Within}
use Rattle.ov_base.specs.declared.mode.Mode.{Mode}
use Rattle.ov_base.specs.declared.mode.Mode.TheVariants.{Full, Delta}
use Rattle.ov_base.proofs.SetLaws.{each_within}
use Rattle.ov_graph.specs.Contents.{plan_of}
use Rattle.ov_graph.specs.declared.cover.GraphRefusal.{GraphRefusal}
use Rattle.ov_graph.specs.declared.cover.GraphRefusal.TheVariants.{NodesFull, Memory as GraphMemory}
use Rattle.ov_surface.specs.Wanted.{none_where, wanted_surface}
use Rattle.ov_history.specs.Layers.{Place, Layers, holders, list_at, surface_at, same_surface, appended, with_set, with_wants}
use Rattle.ov_history.specs.Catalogue.{Filed, Nodes, Catalogue, outline, place_of_file, places}
use Rattle.ov_history.proofs.Listing.{same_surface-is}
use Rattle.ov_history.proofs.Outlining.{length-places, places-at}
use Rattle.ov_state.specs.declared.files.FileEntry.{FileEntry}
use Rattle.ov_state.specs.declared.relisting.Relisting.{Relisting}
use Rattle.ov_state.specs.Contents.{IsWell}
use Rattle.ov_state.specs.Entries.{plain_file}
use Rattle.ov_state.specs.Relistings.{list_if, want_if, want_after, want_left, wants_after, IsFull, IsNext, IsRelisting, MayMove, WantsStay}

-- ---- by number

pub place-at : (files : List (Option Filed)) (file : ℕ) (f : Filed) → living_at files file ≡ Some f
    → living_at (places files) file ≡ Some (place_of_file f)
place-at [] file f is = absurd (cc)
place-at (first ∷ files) zero f is =
    ap (λ (o : Option Filed). option_map place_of_file o) is
place-at (first ∷ files) (suc file) f is = place-at files file f is

pub length-wants_after : {W : ℕ} (y : Layers) (r : Relisting W) (placed : List (Option Place)) (number : ℕ)
    → length (wants_after y r number placed) ≡ length placed
length-wants_after y r [] number = refl
length-wants_after y r (p ∷ placed) number = ap suc (length-wants_after y r placed (number + 1))

pub want-at : {W : ℕ} (y : Layers) (r : Relisting W) (placed : List (Option Place)) (number file : ℕ) (p : Place)
    → living_at placed file ≡ Some p → slice_get (wants_after y r number placed) file ≡ Some (want_after y r (number + file) p)
want-at y r [] number file p is = absurd (cc)
want-at y r (first ∷ placed) number zero p is =
    let n : number ≡ number + 0 = omega arith in
    ap (λ (o : Option Place). Some (want_left y r number o)) is ∙ ap (λ n. Some (want_after y r n p)) n
want-at y r (first ∷ placed) number (suc file) p is =
    let n : number + 1 + file ≡ number + suc file = omega arith in
    want-at y r placed (number + 1) file p is ∙ ap (λ n. Some (want_after y r n p)) n

-- none is wanted of a file that is gone
pub want-gone : {W : ℕ} (y : Layers) (r : Relisting W) (placed : List (Option Place)) (number file : ℕ) → file < length placed
    → living_at placed file ≡ None → slice_get (wants_after y r number placed) file ≡ Some None
want-gone y r [] number file low is = absurd (omega arith)
want-gone y r (first ∷ placed) number zero low is = ap (λ (o : Option Place). Some (want_left y r number o)) is
want-gone y r (first ∷ placed) number (suc file) low is = want-gone y r placed (number + 1) file (omega arith) is

take-next : {A : Type 0} (xs : List A) (n : ℕ) (x : A) → slice_get xs n ≡ Some x → take (n + 1) xs ≡ take n xs ++ x ∷ []
take-next xs n x is =
    take_more xs n x (slice_get_within xs n x is) ∙ ap (λ y. take n xs ++ y ∷ []) (get_or_from_slice_get xs n x x is)

-- ---- wanted sets that stay

-- a file whose list lacks a holder goes on wanting a surface as the holders grow
want-grown : (sets : List ℕ) (mode : Mode) (list held more : ℕ) → is_some (surface_at sets (wanted_surface mode list held)) ≡ true
    → Within list held → Within held more → wanted_surface mode list more ≡ wanted_surface mode list held
want-grown sets Full list held more there within grows = refl
want-grown sets Delta list held more there within grows = by_tests (list == held) refl (list == more) refl where
  by_tests : (a : Bool) → (list == held) ≡ a → (b : Bool) → (list == more) ≡ b → none_where b list ≡ none_where (list == held) list
  by_tests true all b test =
      absurd (false≢true (ap (λ b. is_some (surface_at sets (none_where b list))) (sym all) ∙ there))
  by_tests false some true test =
      let is : list ≡ more = eqb-true list more test in
      let same : list ≡ held =
      each_within list held within (λ user one. subst (λ set. Has set user) (sym is) (grows user one)) in
      absurd (grind (arith, nat_tests))
  by_tests false some false test = ap (λ b. none_where b list) (sym some)

-- ---- the next file

module _ {W : ℕ} (s : Catalogue) (r : Relisting W) (file : ℕ) (f : FileEntry)
    (here : living_at s.files file ≡ Some (plain_file f)) where
  abbrev own : Place
  own = place_of_file (plain_file f)

  abbrev wants : List (Option ℕ)
  wants = wants_after (outline s) r 0 (places s.files)

  abbrev want : Option ℕ
  want = want_after (outline s) r file own

  pub next : take (file + 1) wants ≡ take file wants ++ want ∷ []
  next =
      let same : 0 + file ≡ file = omega arith in
      take-next wants file want
      (want-at (outline s) r (places s.files) 0 file own (place-at s.files file (plain_file f) here)
      ∙ ap (λ n. Some (want_after (outline s) r n own)) same)

  many : file ≡ length (take file wants)
  many =
      let low : file < length s.files = living_below s.files file (plain_file f) here in
      let all : length wants ≡ length s.files = length-wants_after (outline s) r (places s.files) 0 ∙ length-places s.files in
      sym (length-take-le file wants (omega arith))

  pub wanted_is : f.node ≡ r.node → (wanted : Option ℕ) → wanted ≡ want_if true (outline s) r file own → wanted ≡ want
  wanted_is same wanted is =
      let test : (f.node == r.node) ≡ true = grind (arith, nat_tests) in
      is ∙ ap (λ b. want_if b (outline s) r file own) (sym test)

  -- the file stays as it is where it has another base node
  pub other-node : (limit : ℕ) → IsWell limit s → f.node ≢ r.node → MayMove false s r file f
  other-node limit well other =
      let test : (f.node == r.node) ≡ false = grind (arith, nat_tests) in
      let is : want ≡ wanted_surface s.mode (list_at (outline s) own) (holders (outline s) f.node) =
      ap (λ b. want_if b (outline s) r file own) test in
      subst (λ (o : Option ℕ). same_surface f.surface (surface_at s.surface.sets o) ≡ true) (sym is) (well.settled file _ here)

  -- the file stays as it is where it has a surface of its own, and isn't the file whose list
  -- changed
  pub surface-stays : (limit : ℕ) → IsWell limit s → IsRelisting s r → f.node ≡ r.node → file ≢ r.file → is_some f.surface ≡ true
      → MayMove false s r file f
  surface-stays limit well relisting same other there =
      let y = outline s in
      let settled : f.surface ≡ surface_at s.surface.sets (wanted_surface s.mode (list_at y own) (holders y f.node)) =
      same_surface-is f.surface _ (well.settled file _ here) in
      let wanted : is_some (surface_at s.surface.sets (wanted_surface s.mode (list_at y own) (holders y f.node))) ≡ true =
      ap is_some (sym settled) ∙ there in
      let before : holders y f.node ≡ r.before = ap (λ n. holders y n) same ∙ sym relisting.before in
      let grown : wanted_surface s.mode (list_at y own) r.after ≡ wanted_surface s.mode (list_at y own) (holders y f.node) =
      want-grown s.surface.sets s.mode (list_at y own) (holders y f.node) r.after wanted
      (well.sound.files file _ here).list (subst (λ set. Within set r.after) (sym before) relisting.grows) in
      let test : (f.node == r.node) ≡ true = grind (arith, nat_tests) in
      let else : (file == r.file) ≡ false = grind (arith, nat_tests) in
      let is : want ≡ wanted_surface s.mode (list_at y own) (holders y f.node) =
      ap (λ b. want_if b y r file own) test ∙ ap (λ b. wanted_surface s.mode (list_if b r.list (list_at y own)) r.after) else ∙ grown in
      subst (λ (o : Option ℕ). same_surface f.surface (surface_at s.surface.sets o) ≡ true) (sym is) (well.settled file _ here)

  -- another file stays as it is where each list that stays has the same wanted set as before
  pub list-stays : (limit : ℕ) → IsWell limit s → IsRelisting s r → WantsStay true s.mode r → f.node ≡ r.node → file ≢ r.file
      → MayMove false s r file f
  list-stays limit well relisting stay same other =
      let y = outline s in
      let before : holders y f.node ≡ r.before = ap (λ n. holders y n) same ∙ sym relisting.before in
      let test : (f.node == r.node) ≡ true = grind (arith, nat_tests) in
      let else : (file == r.file) ≡ false = grind (arith, nat_tests) in
      let is : want ≡ wanted_surface s.mode (list_at y own) (holders y f.node) =
      ap (λ b. want_if b y r file own) test ∙ ap (λ b. wanted_surface s.mode (list_if b r.list (list_at y own)) r.after) else
      ∙ stay (list_at y own) ∙ ap (λ held. wanted_surface s.mode (list_at y own) held) (sym before) in
      subst (λ (o : Option ℕ). same_surface f.surface (surface_at s.surface.sets o) ≡ true) (sym is) (well.settled file _ here)

  -- another file of the base node may move where it has no surface
  pub moves-by : (limit : ℕ) → IsWell limit s → IsRelisting s r → f.node ≡ r.node → file ≢ r.file
      → (lacks : Bool) → is_some f.surface ≡ not lacks → MayMove lacks s r file f
  moves-by limit well relisting same other true is = tt
  moves-by limit well relisting same other false is = surface-stays limit well relisting same other is

  pub is_next : (layer : Nodes) → s.surface ≡ layer → IsNext s (take file wants) layer file f
  is_next layer same = record { surface = same; number = many; kept = here }

  -- what holds of the files before and goes on for one that stays as it is
  pub file-stays : (Holds : List (Option ℕ) → Type 0) (limit : ℕ) → IsWell limit s → MayMove false s r file f
      → (living_at s.files (length (take file wants)) ≡ Some (plain_file f) → IfSome f.surface (λ node. node < length s.surface.sets)
      → same_surface f.surface (surface_at s.surface.sets want) ≡ true → Holds (take file wants ++ want ∷ []))
      → Holds (take (file + 1) wants)
  file-stays Holds limit well stays goes_on =
      subst Holds (sym next) (goes_on (ap (living_at s.files) (sym many) ∙ here) (well.sound.files file _ here).surface stays)

  -- what holds of the files before with the wanted set of this one
  pub file-moves : (Holds : List (Option ℕ) → Type 0) → f.node ≡ r.node → (wanted : Option ℕ) → wanted ≡ want_if true (outline s) r file own
      → Holds (take file wants ++ wanted ∷ []) → Holds (take (file + 1) wants)
  file-moves Holds same wanted is holds =
      subst Holds (sym next) (subst (λ (o : Option ℕ). Holds (take file wants ++ o ∷ [])) (wanted_is same wanted is) holds)

-- what holds of the files before goes on for one that is gone
pub file-gone : {W : ℕ} (s : Catalogue) (r : Relisting W) (file : ℕ) → file < length s.files → living_at s.files file ≡ None
    → (Holds : List (Option ℕ) → Type 0)
    → ((wants : List (Option ℕ)) → Holds wants → living_at s.files (length wants) ≡ None → Holds (wants ++ None ∷ []))
    → Holds (take file (wants_after (outline s) r 0 (places s.files))) → Holds (take (file + 1) (wants_after (outline s) r 0 (places s.files)))
file-gone s r file low none Holds goes_on holds =
    let wants : List (Option ℕ) = wants_after (outline s) r 0 (places s.files) in
    let place : living_at (places s.files) file ≡ None = places-at s.files file ∙ ap (option_map place_of_file) none in
    let next : take (file + 1) wants ≡ take file wants ++ None ∷ [] =
    take-next wants file None (want-gone (outline s) r (places s.files) 0 file (omega (arith, low, length-places s.files)) place) in
    let all : length wants ≡ length s.files = length-wants_after (outline s) r (places s.files) 0 ∙ length-places s.files in
    let many : length (take file wants) ≡ file = length-take-le file wants (omega arith) in
    subst Holds (sym next) (goes_on (take file wants) holds (ap (living_at s.files) many ∙ none))

-- ---- all files

pub with_wants-both : (wants more : List (Option ℕ)) (sets : List ℕ) → with_wants sets (wants ++ more) ≡ with_wants (with_wants sets wants) more
with_wants-both [] more sets = refl
with_wants-both (None ∷ wants) more sets = with_wants-both wants more sets
with_wants-both (Some set ∷ wants) more sets = with_wants-both wants more (with_set sets set)

longer_with : (b : Bool) (sets : List ℕ) (set : ℕ) → length sets ≤ length (appended b sets set)
longer_with true sets set = omega (arith, length-append sets (set ∷ []))
longer_with false sets set = omega arith

longer : (wants : List (Option ℕ)) (sets : List ℕ) → length sets ≤ length (with_wants sets wants)
longer [] sets = omega arith
longer (None ∷ wants) sets = longer wants sets
longer (Some set ∷ wants) sets = omega (arith, longer wants (with_set sets set), longer_with (plan_of sets set).fresh sets set)

longest : (sets more : List ℕ) (why : GraphRefusal) → length sets ≤ length more → IsFull sets why → IsFull more why
longest sets more NodesFull long full = omega (arith, full)
longest sets more GraphMemory long full = full

-- where there is no room for the wanted sets of some files, there is none for all
pub full-all : (sets : List ℕ) (wants : List (Option ℕ)) (n : ℕ) (why : GraphRefusal) → IsFull (with_wants sets (take n wants)) why
    → IsFull (with_wants sets wants) why
full-all sets wants n why full =
    let all : with_wants (with_wants sets (take n wants)) (drop n wants) ≡ with_wants sets wants =
    sym (with_wants-both (take n wants) (drop n wants) sets) ∙ ap (with_wants sets) (take-append-drop n wants) in
    longest (with_wants sets (take n wants)) (with_wants sets wants) why
    (subst (λ (more : List ℕ). length (with_wants sets (take n wants)) ≤ length more) all (longer (drop n wants) (with_wants sets (take n wants)))) full

-- all wanted sets are those of all files
pub take-all : {W : ℕ} (s : Catalogue) (r : Relisting W) (n : ℕ) → n ≡ length s.files
    → take n (wants_after (outline s) r 0 (places s.files)) ≡ wants_after (outline s) r 0 (places s.files)
take-all s r n is =
    let all : length (wants_after (outline s) r 0 (places s.files)) ≡ length s.files =
    length-wants_after (outline s) r (places s.files) 0 ∙ length-places s.files in
    take_all n (wants_after (outline s) r 0 (places s.files)) (omega arith)
