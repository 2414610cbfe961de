-- Each file has the surface of its wanted set, after every history.
use Rattle.std.proofs.Common.{◌≡◌, ℕ, zero, suc, ◌<◌, List, [], ◌∷◌, length, refl, sym, ◌∙◌, ap}
use Rattle.std.proofs.Common.{subst, arith}
use Rattle.std.specs.Prelude.{Contains, Option, Some}
use Rattle.std.proofs.Math.ListN.{get_or-map}
use Rattle.ov_surface.specs.Wanted.{wanted_surface}
use Rattle.ov_graph.proofs.ListLaws.{Contains-first, Contains-later}
use Rattle.std.specs.Prelude.{is_some}
use Rattle.ov_history.specs.History.{History, Update, matrix_of}
use Rattle.ov_history.specs.Layers.{Layers, Place, grown, holders, layers_after, layers_of}
use Rattle.ov_history.specs.Layers.{lists_after, lists_at, lists_of, no_place, settled_all, settled_at}
use Rattle.ov_history.specs.Layers.{surface_at, wants_at, wants_of}
use Rattle.ov_history.specs.Words.{want_of, HasFile, wanted_of}
use Rattle.ov_history.specs.WordLaws.{SurfaceIsWanted, WantedIsThere}
use Rattle.ov_history.proofs.SoundTests.{is_some-map}
use Rattle.ov_history.proofs.ChangeLaws.{below_some}
use Rattle.ov_history.proofs.Listing.{length-lists_after, length-lists_of, lists_of-layers_after}
use Rattle.ov_history.proofs.Listing.{settled_at-node, settled_at-surface}
use Rattle.ov_history.proofs.MatrixLaws.{files_of-layers_of, lists_of-layers_of}
use Rattle.ov_history.proofs.MatrixLaws.{mode_of-layers_of}
use Rattle.ov_history.proofs.PlanLaws.{with_wants-Contains}
use Rattle.ov_history.proofs.Pushing.{each_history, layers_of-push}
use Rattle.std.specs.Prelude.{option_map}
use Rattle.std.specs.Prelude.{None}
use Rattle.std.specs.Prelude.{unwrap_or}
use Rattle.ov_history.specs.Places.{living_at}
use Rattle.ov_history.specs.Layers.{want_at}
use Rattle.ov_history.specs.Layers.{list_at}
use Rattle.ov_history.specs.History.{File}
use Rattle.ov_history.specs.Lists.{is_file}

-- ---- one of several files

abbrev pub place_at : List (Option Place) → ℕ → Place
place_at places file = unwrap_or (living_at places file) no_place

-- the surface set that a file should have for these lists
abbrev pub wanted_at : Layers → List (Option ℕ) → List (Option Place) → ℕ → Option ℕ
wanted_at y lists places file = want_at y (living_at lists file) (living_at places file)

-- a place that is settled, where there is one, and what stands for one that isn't there
settled_either : (y : Layers) (epoch : ℕ) (sets : List ℕ) (list : Option ℕ) (o : Option Place)
    → unwrap_or (option_map (settled_at epoch sets (want_at y list o)) o) no_place
    ≡ settled_at epoch sets (want_at y list o) (unwrap_or o no_place)
settled_either y epoch sets None None = refl
settled_either y epoch sets (Some list) None = refl
settled_either y epoch sets list (Some p) = refl

one_settled : (y : Layers) (epoch : ℕ) (sets : List ℕ) (lists : List (Option ℕ))
    (places : List (Option Place)) (file : ℕ)
    → length lists ≡ length places
    → file < length places
    → living_at (settled_all epoch sets (wants_at y lists places) places) file
    ≡ option_map (settled_at epoch sets (wanted_at y lists places file)) (living_at places file)
one_settled y epoch sets lists [] file many below = absurd (omega arith)
one_settled y epoch sets [] (p ∷ places) file many below = absurd (omega arith)
one_settled y epoch sets (list ∷ lists) (p ∷ places) zero many below = refl
one_settled y epoch sets (list ∷ lists) (p ∷ places) (suc file) many below =
    one_settled y epoch sets lists places file (omega arith) (omega arith)

one_wanted : (y : Layers) (lists : List (Option ℕ)) (places : List (Option Place)) (file : ℕ)
    → length lists ≡ length places → file < length places
    → Contains (wants_at y lists places) (wanted_at y lists places file)
one_wanted y lists [] file many below = absurd (omega arith)
one_wanted y [] (p ∷ places) file many below = absurd (omega arith)
one_wanted y (list ∷ lists) (p ∷ places) zero many below =
    Contains-first (want_at y list p) (wants_at y lists places)
one_wanted y (list ∷ lists) (p ∷ places) (suc file) many below =
    Contains-later (want_at y list p) (wants_at y lists places) _
    (one_wanted y lists places file (omega arith) (omega arith))

-- ---- settled layers

abbrev pub wanted_in : Layers → ℕ → Option ℕ
wanted_in y file = wanted_at y (lists_of y) y.files file

-- each file has the surface of its wanted set, which is there
pub record IsSettled (y : Layers) : Type 0 where
  pub surface : (file : ℕ) → file < length y.files
      → (place_at y.files file).surface ≡ surface_at y.surface (wanted_in y file)
  pub there : (file set : ℕ) → file < length y.files → wanted_in y file ≡ Some set
      → Contains y.surface set

pub length-after : (y : Layers) (u : Update)
    → length (layers_after y u).files ≡ length (grown y u).files
length-after y u =
    sym (length-lists_of (layers_after y u)) ∙ ap length (lists_of-layers_after y u)
    ∙ length-lists_after y u

module _ (y : Layers) (u : Update) (file : ℕ) (below : file < length (grown y u).files) where
  -- the wanted set by which a file is settled
  abbrev want : Option ℕ
  want = wanted_at (grown y u) (lists_after (lists_of y) u) (grown y u).files file

  settled_by_want : living_at (layers_after y u).files file
      ≡ option_map (settled_at (grown y u).epoch (layers_after y u).surface want)
      (living_at (grown y u).files file)
  settled_by_want =
      one_settled (grown y u) (grown y u).epoch (layers_after y u).surface
      (lists_after (lists_of y) u) (grown y u).files file
      (length-lists_after y u) below

  want-is : want ≡ wanted_in (layers_after y u) file
  want-is =
      let list : Option ℕ = living_at (lists_of (layers_after y u)) file in
      ap (λ (lists : List (Option ℕ)). wanted_at (grown y u) lists (grown y u).files file)
      (sym (lists_of-layers_after y u))
      ∙ sym (same_want list (living_at (grown y u).files file))
      ∙ ap (λ (o : Option Place). want_at (grown y u) list o) (sym settled_by_want) where
        -- a file that is settled has the node that it had
        same_want : (list : Option ℕ) (o : Option Place)
            → want_at (grown y u) list
            (option_map (settled_at (grown y u).epoch (layers_after y u).surface want) o)
            ≡ want_at (grown y u) list o
        same_want None o = refl
        same_want (Some list) None = refl
        same_want (Some list) (Some p) =
            ap (λ n. wanted_surface (grown y u).mode list (holders (grown y u) n))
            (settled_at-node (grown y u).epoch (layers_after y u).surface want p)

  -- an update settles each file by its wanted set after it
  pub settled_after : place_at (layers_after y u).files file
      ≡ settled_at (grown y u).epoch (layers_after y u).surface (wanted_in (layers_after y u) file)
      (place_at (grown y u).files file)
  settled_after =
      ap (λ (o : Option Place). unwrap_or o no_place) settled_by_want
      ∙ settled_either (grown y u) (grown y u).epoch (layers_after y u).surface
      (living_at (lists_after (lists_of y) u) file) (living_at (grown y u).files file)
      ∙ ap
      (λ w. settled_at (grown y u).epoch (layers_after y u).surface w
      (place_at (grown y u).files file)) want-is

  surface_after : (place_at (layers_after y u).files file).surface
      ≡ surface_at (layers_after y u).surface (wanted_in (layers_after y u) file)
  surface_after =
      ap (λ (p : Place). p.surface) settled_after
      ∙ settled_at-surface (grown y u).epoch (layers_after y u).surface
      (wanted_in (layers_after y u) file) (place_at (grown y u).files file)

  there_after : (set : ℕ) → wanted_in (layers_after y u) file ≡ Some set
      → Contains (layers_after y u).surface set
  there_after set is =
      let lists : List (Option ℕ) = lists_after (lists_of y) u in
      with_wants-Contains (wants_of (grown y u) lists) (grown y u).surface set
      (subst (λ (w : Option ℕ). Contains (wants_of (grown y u) lists) w) (want-is ∙ is)
      (one_wanted (grown y u) lists (grown y u).files file (length-lists_after y u) below))

after-settled : (y : Layers) (u : Update) → IsSettled (layers_after y u)
after-settled y u =
    let among : (file : ℕ) → file < length (layers_after y u).files
    → file < length (grown y u).files = λ file below.
    subst (λ n. file < n) (length-after y u) below in record {
      surface = λ file below. surface_after y u file (among file below);
      there = λ file set below is. there_after y u file (among file below) set is;
    }

-- ---- histories

pub history-settled : (h : History) → IsSettled (layers_of h)
history-settled = each_history (λ (h : History). IsSettled (layers_of h))
    (λ h. record {
      surface = λ file below. absurd (omega arith);
      there =
          λ file set below is. absurd (omega arith);
    })
    (λ h u before. subst (λ (y : Layers). IsSettled y) (sym (layers_of-push h u))
    (after-settled (layers_of h) u))

-- the list that is read off the place of a number
pub read_off : (y : Layers) (places : List (Option Place)) (file : ℕ)
    → living_at (lists_at y places) file ≡ option_map (list_at y) (living_at places file)
read_off y [] file = refl
read_off y (p ∷ places) zero = refl
read_off y (p ∷ places) (suc file) = read_off y places file

-- a file is there in the layers where it is in the matrix
pub living_same : (h : History) (file : ℕ)
    → is_some (living_at (layers_of h).files file) ≡ is_file (matrix_of h) file
living_same h file =
    sym (is_some-map (list_at (layers_of h)) (living_at (layers_of h).files file))
    ∙ ap (λ (o : Option ℕ). is_some o) (sym (read_off (layers_of h) (layers_of h).files file))
    ∙ ap (λ (lists : List (Option ℕ)). is_some (living_at lists file)) (lists_of-layers_of h)
    ∙ ap (λ (o : Option ℕ). is_some o)
    (get_or-map (option_map (λ (f : File). f.list)) (matrix_of h).files file None)
    ∙ is_some-map (λ (f : File). f.list) (living_at (matrix_of h).files file)

-- and settling leaves it there
pub still_settled : (y : Layers) (u : Update) (file : ℕ)
    → is_some (living_at (layers_after y u).files file)
    ≡ is_some (living_at (grown y u).files file)
still_settled y u file =
    along (grown y u).epoch (layers_after y u).surface
    (wants_of (grown y u) (lists_after (lists_of y) u)) (grown y u).files file (many y u) where
      along : (epoch : ℕ) (sets : List ℕ) (wants : List (Option ℕ)) (places : List (Option Place))
          (n : ℕ) → length wants ≡ length places
          → is_some (living_at (settled_all epoch sets wants places) n)
          ≡ is_some (living_at places n)
      along epoch sets [] places n many = refl
      along epoch sets (want ∷ wants) [] n many = absurd (omega arith)
      along epoch sets (want ∷ wants) (p ∷ places) zero many =
          is_some-map (settled_at epoch sets want) p
      along epoch sets (want ∷ wants) (p ∷ places) (suc n) many =
          along epoch sets wants places n (omega arith)

      wants_many : (y : Layers) (lists : List (Option ℕ)) (places : List (Option Place))
          → length lists ≡ length places → length (wants_at y lists places) ≡ length places
      wants_many y [] [] same = refl
      wants_many y [] (p ∷ places) same = absurd (omega arith)
      wants_many y (list ∷ lists) [] same = absurd (omega arith)
      wants_many y (list ∷ lists) (p ∷ places) same =
          ap suc (wants_many y lists places (omega arith))

      many : (y : Layers) (u : Update)
          → length (wants_of (grown y u) (lists_after (lists_of y) u))
          ≡ length (grown y u).files
      many y u =
          wants_many (grown y u) (lists_after (lists_of y) u) (grown y u).files
          (length-lists_after y u)

-- the wanted set of a file, in the words of its history
pub wanted_of-is : (h : History) (file : ℕ) → wanted_of h file ≡ wanted_in (layers_of h) file
wanted_of-is h file =
    by_file (living_at (matrix_of h).files file) (living_at (layers_of h).files file) both
    ∙ ap (λ (list : Option ℕ). want_at (layers_of h) list (living_at (layers_of h).files file))
    (sym (read_off (layers_of h) (layers_of h).files file)) where
      y : Layers
      y = layers_of h

      -- the list of the file in the matrix and off the layers
      both : option_map (λ (f : File). f.list) (living_at (matrix_of h).files file)
          ≡ option_map (list_at (layers_of h)) (living_at (layers_of h).files file)
      both =
          sym (get_or-map (option_map (λ (f : File). f.list)) (matrix_of h).files file None)
          ∙ ap (λ (lists : List (Option ℕ)). living_at lists file) (sym (lists_of-layers_of h))
          ∙ read_off (layers_of h) (layers_of h).files file

      by_file : (f : Option File) (o : Option Place)
          → option_map (λ (f : File). f.list) f ≡ option_map (list_at (layers_of h)) o
          → want_of h (unwrap_or o no_place) f
          ≡ want_at (layers_of h) (option_map (list_at (layers_of h)) o) o
      by_file None None same = refl
      by_file None (Some p) same = absurd (cc)
      by_file (Some f) None same = absurd (cc)
      by_file (Some f) (Some p) same =
          let list : f.list ≡ list_at (layers_of h) p = cc in
          ap (λ mode. wanted_surface mode f.list (holders (layers_of h) p.node))
          (sym (mode_of-layers_of h))
          ∙ ap (λ set. wanted_surface (layers_of h).mode set (holders (layers_of h) p.node)) list

pub file_below : (h : History) (file : ℕ) → HasFile h file → file < length (layers_of h).files
file_below h file there =
    subst (λ n. file < n) (sym (files_of-layers_of h)) (below_some (matrix_of h).files file there)

pub surface_is_wanted : SurfaceIsWanted
surface_is_wanted h file there =
    (history-settled h).surface file (file_below h file there)
    ∙ ap (λ want. surface_at (layers_of h).surface want) (sym (wanted_of-is h file))

pub wanted_is_there : WantedIsThere
wanted_is_there h file set there is =
    (history-settled h).there file set (file_below h file there) (sym (wanted_of-is h file) ∙ is)
