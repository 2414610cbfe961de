-- Files that get their wanted surfaces, with one more of them.
use Rattle.std.proofs.Common.{◌≡◌, ℕ, zero, suc, ◌+◌, ◌<◌, List, [], ◌∷◌, ◌++◌, length, refl, sym, ◌∙◌, ap, arith}
use Rattle.std.specs.Prelude.{Contains, Option, Some, None, option_map}
use Rattle.ov_history.specs.Places.{living_at}
use Rattle.std.proofs.lemmas.List.{append-nil, append_assoc}
use Rattle.ov_graph.proofs.ListLaws.{Contains-later}
use Rattle.ov_history.specs.Places.{change_at, gone}
use Rattle.ov_history.specs.Layers.{node_for, with_set, with_wants, surface_at, same_surface}
use Rattle.ov_history.specs.Catalogue.{Filed, Nodes, refiled, settled_file, settled_files, with_surface, with_surfaces}
use Rattle.ov_history.specs.Rewrites.{Rewrite as PlainRewrite, rewrite_of, rewrite_unless, rewrites_from}
use Rattle.ov_history.proofs.Listing.{same_surface-refl}
use Rattle.ov_history.proofs.PlanLaws.{with_wants-Contains}
use Rattle.ov_state.specs.declared.change.Rewrite.{Rewrite}
use Rattle.ov_state.specs.Changes.{rewritten, all_rewritten, AreOfFiles}
use Rattle.ov_state.specs.Entries.{plain_rewrite, plain_rewrites}
use Rattle.ov_state.specs.Relistings.{with_want}
use Rattle.ov_state.proofs.StayingNodes.{node_for-with_wants}

-- ---- changes of one item

pub change-same : {A : Type 0} (f : A → A) (place : ℕ) (xs : List (Option A)) (x : A) → living_at xs place ≡ Some x → f x ≡ x
    → change_at (option_map f) place xs ≡ xs
change-same f place [] x is same = refl
change-same f zero (first ∷ xs) x is same = ap (λ y. y ∷ xs) (ap (option_map f) is ∙ ap Some same ∙ sym is)
change-same f (suc place) (first ∷ xs) x is same = ap (λ ys. first ∷ ys) (change-same f place xs x is same)

-- what is gone isn't changed
pub change-none : {A : Type 0} (f : A → A) (place : ℕ) (xs : List (Option A)) → living_at xs place ≡ None → change_at (option_map f) place xs ≡ xs
change-none f place [] none = refl
change-none f zero (first ∷ xs) none = ap (λ y. y ∷ xs) (ap (option_map f) none ∙ sym none)
change-none f (suc place) (first ∷ xs) none = ap (λ ys. first ∷ ys) (change-none f place xs none)

pub change-alike : {A : Type 0} (f g : A → A) (place : ℕ) (xs : List (Option A)) (x : A) → living_at xs place ≡ Some x → f x ≡ g x
    → change_at (option_map f) place xs ≡ change_at (option_map g) place xs
change-alike f g place [] x is same = refl
change-alike f g zero (first ∷ xs) x is same =
    ap (λ y. y ∷ xs) (ap (option_map f) is ∙ ap Some same ∙ ap (option_map g) (sym is))
change-alike f g (suc place) (first ∷ xs) x is same = ap (λ ys. first ∷ ys) (change-alike f g place xs x is same)

-- ---- one rewrite more

pub all_rewritten-append : (epoch : ℕ) (rewrites : List Rewrite) (rewrite : Rewrite) (files : List (Option Filed))
    → all_rewritten epoch (rewrites ++ rewrite ∷ []) files ≡ change_at (option_map (rewritten epoch rewrite)) rewrite.file (all_rewritten epoch rewrites files)
all_rewritten-append epoch [] rewrite files = refl
all_rewritten-append epoch (first ∷ rewrites) rewrite files =
    all_rewritten-append epoch rewrites rewrite (change_at (option_map (rewritten epoch first)) first.file files)

pub AreOfFiles-append : (files : ℕ) (rewrites : List Rewrite) (rewrite : Rewrite) → AreOfFiles files rewrites → rewrite.file < files
    → AreOfFiles files (rewrites ++ rewrite ∷ [])
AreOfFiles-append files [] rewrite before low = (low, tt)
AreOfFiles-append files (first ∷ rewrites) rewrite (is, before) low = (is, AreOfFiles-append files rewrites rewrite before low)

pub plain_rewrites-append : (rewrites : List Rewrite) (r : Rewrite) → plain_rewrites (rewrites ++ r ∷ []) ≡ plain_rewrites rewrites ++ plain_rewrite r ∷ []
plain_rewrites-append [] r = refl
plain_rewrites-append (first ∷ rewrites) r = ap (λ (rs : List PlainRewrite). plain_rewrite first ∷ rs) (plain_rewrites-append rewrites r)

-- ---- one wanted set more

pub with_wants-append : (wants : List (Option ℕ)) (sets : List ℕ) (want : Option ℕ)
    → with_wants sets (wants ++ want ∷ []) ≡ with_wants (with_wants sets wants) (want ∷ [])
with_wants-append [] sets want = refl
with_wants-append (None ∷ wants) sets want = with_wants-append wants sets want
with_wants-append (Some set ∷ wants) sets want = with_wants-append wants (with_set sets set) want

pub with_surfaces-append : (master : List ℕ) (wants : List (Option ℕ)) (nodes : Nodes) (want : Option ℕ)
    → with_surfaces master nodes (wants ++ want ∷ []) ≡ with_want master (with_surfaces master nodes wants) want
with_surfaces-append master [] nodes want = refl
with_surfaces-append master (None ∷ wants) nodes want = with_surfaces-append master wants nodes want
with_surfaces-append master (Some set ∷ wants) nodes want =
    with_surfaces-append master wants (with_surface master nodes set) want

module _ (epoch : ℕ) where
  -- files are settled alike where each wanted set has the same node
  pub settled-alike : (sets other : List ℕ) (wants : List (Option ℕ)) (files : List (Option Filed))
      → ((set : ℕ) → Contains wants (Some set) → node_for other set ≡ node_for sets set)
      → settled_files epoch other wants files ≡ settled_files epoch sets wants files
  settled-alike sets other [] files same = refl
  settled-alike sets other (want ∷ wants) [] same = refl
  settled-alike sets other (want ∷ wants) (f ∷ files) same =
      ap (λ (g : Option Filed). g ∷ settled_files epoch other wants files)
      (by_file f (at want (λ set e. same set (here set e))))
      ∙ ap (λ (rest : List (Option Filed)). option_map (settled_file epoch sets want) f ∷ rest)
      (settled-alike sets other wants files (λ set later. same set (Contains-later want wants (Some set) later))) where
        at : (o : Option ℕ) → ((set : ℕ) → o ≡ Some set → node_for other set ≡ node_for sets set) → surface_at other o ≡ surface_at sets o
        at None same = refl
        at (Some set) same = ap Some (same set refl)

        by_file : (f : Option Filed) → surface_at other want ≡ surface_at sets want
            → option_map (settled_file epoch other want) f ≡ option_map (settled_file epoch sets want) f
        by_file None one = refl
        by_file (Some f) one =
            ap (λ (surface : Option ℕ). Some (refiled (same_surface f.surface surface) epoch surface f)) one

        here : (set : ℕ) → want ≡ Some set → Contains (want ∷ wants) (Some set)
        here set e = (0, omega arith, e)

  pub settled-append : (sets : List ℕ) (wants : List (Option ℕ)) (want : Option ℕ) (files : List (Option Filed))
      → settled_files epoch sets (wants ++ want ∷ []) files
      ≡ change_at (option_map (settled_file epoch sets want)) (length wants) (settled_files epoch sets wants files)
  settled-append sets [] want [] = refl
  settled-append sets [] want (f ∷ files) = refl
  settled-append sets (w ∷ wants) want [] = refl
  settled-append sets (w ∷ wants) want (f ∷ files) =
      ap (λ (rest : List (Option Filed)). option_map (settled_file epoch sets w) f ∷ rest) (settled-append sets wants want files)

  -- the next file is as it was, or is gone as it was
  pub settled-next : (sets : List ℕ) (wants : List (Option ℕ)) (files : List (Option Filed)) (f : Option Filed)
      → living_at files (length wants) ≡ f → living_at (settled_files epoch sets wants files) (length wants) ≡ f
  settled-next sets [] files f is = is
  settled-next sets (w ∷ wants) [] f is = is
  settled-next sets (w ∷ wants) (first ∷ files) f is = settled-next sets wants files f is

  -- with one more wanted set the files that are settled already stay so
  pub settled-still : (sets : List ℕ) (wants : List (Option ℕ)) (want : Option ℕ) (files : List (Option Filed))
      → settled_files epoch (with_wants sets (wants ++ want ∷ [])) wants files ≡ settled_files epoch (with_wants sets wants) wants files
  settled-still sets wants want files =
      let before : List ℕ = with_wants sets wants in
      settled-alike before (with_wants sets (wants ++ want ∷ [])) wants files
      (λ set there. ap (λ (all : List ℕ). node_for all set) (with_wants-append wants sets want)
      ∙ node_for-with_wants (want ∷ []) before set (with_wants-Contains wants sets set there))

  -- files that are settled for one wanted set more
  pub settled-more : (sets : List ℕ) (wants : List (Option ℕ)) (want : Option ℕ) (files : List (Option Filed))
      → let after = with_wants sets (wants ++ want ∷ []) in
      settled_files epoch after (wants ++ want ∷ []) files
      ≡ change_at (option_map (settled_file epoch after want)) (length wants) (settled_files epoch (with_wants sets wants) wants files)
  settled-more sets wants want files =
      let after : List ℕ = with_wants sets (wants ++ want ∷ []) in
      settled-append after wants want files
      ∙ ap (λ (fs : List (Option Filed)). change_at (option_map (settled_file epoch after want)) (length wants) fs) (settled-still sets wants want files)

  -- one wanted set more of a file that is gone settles nothing
  pub settled-gone : (sets : List ℕ) (wants : List (Option ℕ)) (files : List (Option Filed)) → living_at files (length wants) ≡ None
      → settled_files epoch (with_wants sets (wants ++ None ∷ [])) (wants ++ None ∷ []) files
      ≡ settled_files epoch (with_wants sets wants) wants files
  settled-gone sets wants files none =
      settled-more sets wants None files
      ∙ change-none (settled_file epoch (with_wants sets (wants ++ None ∷ [])) None) (length wants)
      (settled_files epoch (with_wants sets wants) wants files)
      (settled-next (with_wants sets wants) wants files None none)

-- ---- which files have another surface

-- there is no rewrite where the file is the same
none_of : (number : ℕ) (f : Option Filed) → rewrite_of number f f ≡ []
none_of number None = refl
none_of number (Some f) = ap (λ b. rewrite_unless b number f f) (same_surface-refl f.surface)

-- there are no rewrites where no file changed
pub rewrites-none : (number : ℕ) (files : List (Option Filed)) → rewrites_from number files files ≡ []
rewrites-none number [] = refl
rewrites-none number (f ∷ files) =
    ap (λ (rs : List PlainRewrite). rs ++ rewrites_from (number + 1) files files) (none_of number f)
    ∙ rewrites-none (number + 1) files

-- there is none where a file goes
pub rewrites-gone : (number place : ℕ) (files : List (Option Filed)) → rewrites_from number files (change_at gone place files) ≡ []
rewrites-gone number place [] = refl
rewrites-gone number zero (f ∷ files) = rewrites-none (number + 1) files
rewrites-gone number (suc place) (f ∷ files) =
    ap (λ (rs : List PlainRewrite). rs ++ rewrites_from (number + 1) files (change_at gone place files)) (none_of number f)
    ∙ rewrites-gone (number + 1) place files

-- a new file is rewritten to its surface
pub rewrites-appended : (number : ℕ) (files : List (Option Filed)) (f : Filed)
    → rewrites_from number files (files ++ Some f ∷ []) ≡ record { file = number + length files; length = f.length; old = None; new = f.surface } ∷ []
rewrites-appended number [] f =
    let n : number ≡ number + 0 = omega arith in
    ap (λ n. record { file = n; length = f.length; old = None; new = f.surface } ∷ []) n
rewrites-appended number (first ∷ files) f =
    let n : number + 1 + length files ≡ number + suc (length files) = omega arith in
    ap (λ (rs : List PlainRewrite). rs ++ rewrites_from (number + 1) files (files ++ Some f ∷ [])) (none_of number first)
    ∙ rewrites-appended (number + 1) files f
    ∙ ap (λ n. record { file = n; length = f.length; old = None; new = f.surface } ∷ []) n

-- with one file more that is settled, its rewrite comes last
pub rewrites-settled : (epoch : ℕ) (sets : List ℕ) (change : Filed → Filed) (wants : List (Option ℕ)) (number : ℕ) (files : List (Option Filed)) (f : Filed)
    → living_at files (length wants) ≡ Some f
    → rewrites_from number files (change_at (option_map change) (length wants) (settled_files epoch sets wants files))
    ≡ rewrites_from number files (settled_files epoch sets wants files)
    ++ rewrite_unless (same_surface f.surface (change f).surface) (number + length wants) f (change f)
rewrites-settled epoch sets change [] number [] f is = absurd (cc)
rewrites-settled epoch sets change [] number (None ∷ files) f is = absurd (cc)
rewrites-settled epoch sets change [] number (Some first ∷ files) f is =
    let e : first ≡ f = cc in
    let n : number ≡ number + 0 = omega arith in
    let own : List PlainRewrite = rewrite_unless (same_surface f.surface (change f).surface) (number + 0) f (change f) in
    ap (λ (rest : List PlainRewrite). rewrite_unless (same_surface first.surface (change first).surface) number first (change first) ++ rest)
    (rewrites-none (number + 1) files)
    ∙ append-nil (rewrite_unless (same_surface first.surface (change first).surface) number first (change first))
    ∙ ap (λ (g : Filed). rewrite_unless (same_surface g.surface (change g).surface) number g (change g)) e
    ∙ ap (λ n. rewrite_unless (same_surface f.surface (change f).surface) n f (change f)) n
    ∙ ap (λ (none : List PlainRewrite). none ++ own) (sym (rewrites-none number (Some first ∷ files)))
rewrites-settled epoch sets change (w ∷ wants) number [] f is = absurd (cc)
rewrites-settled epoch sets change (w ∷ wants) number (first ∷ files) f is =
    let n : number + 1 + length wants ≡ number + suc (length wants) = omega arith in
    let now : Option Filed = option_map (settled_file epoch sets w) first in
    let own : List PlainRewrite = rewrite_of number first now in
    ap (λ (rest : List PlainRewrite). own ++ rest) (rewrites-settled epoch sets change wants (number + 1) files f is)
    ∙ ap (λ n. own ++ (rewrites_from (number + 1) files (settled_files epoch sets wants files)
    ++ rewrite_unless (same_surface f.surface (change f).surface) n f (change f))) n
    ∙ sym (append_assoc own (rewrites_from (number + 1) files (settled_files epoch sets wants files))
    (rewrite_unless (same_surface f.surface (change f).surface) (number + suc (length wants)) f (change f)))
