-- A file that an update removes or replaces has no first block afterwards, and none has it again. Each
-- other file keeps its own until it is rewritten.
use Rattle.std.proofs.Common.{◌≡◌, inl, inr, ℕ, zero, suc, ◌<◌, ◌≤◌, List, [], ◌∷◌, ◌++◌, length, refl, sym, ◌∙◌, ap, subst, arith}
use Rattle.std.specs.Prelude.{true, All, Contains, IfSome, Option, Some, None, is_some, slice_index_or}
use Rattle.std.specs.List.Sorted.{IsStrictlyIncreasing}
use Rattle.std.proofs.lemmas.Bool.{cases_lt}
use Rattle.std.proofs.lemmas.List.{get_or_append_left}
use Rattle.ov_graph.proofs.ListLaws.{Contains-cases, Contains-first, Contains-none}
use Rattle.ov_blocks.specs.Extents.{AreApart, AreGivenUp, BeginsOne, end_from}
use Rattle.ov_blocks.specs.declared.extents.Extent.{Extent}
use Rattle.ov_moves.specs.Releasing.{GivesUp}
use Rattle.ov_moves.proofs.Held.{end_above, last_end}
use Rattle.ov_history.specs.Places.{change_at, gone, living_at}
use Rattle.ov_history.specs.Layers.{list_in, lists_after, lists_of, wants_of, with_wants}
use Rattle.ov_history.specs.Briefs.{Brief, BriefEnrol, BriefCreate, BriefGrant, BriefRevoke, BriefRemove, BriefReplace, outer}
use Rattle.ov_history.specs.Catalogue.{Catalogue, Filed, filed_at, grown_catalogue, new_file, outline}
use Rattle.ov_history.specs.Placed.{with_unplaced}
use Rattle.ov_history.specs.Rewrites.{files_after, length_left}
use Rattle.ov_history.proofs.ChangeLaws.{below_some, change_at-here, change_at-other, gone_not, gone_other, length-change_at, some-there}
use Rattle.ov_history.proofs.Placing.{grown_size, size_after}
use Rattle.ov_history.proofs.Storing.{settled_still}
use Rattle.ov_updating.specs.Files.{removed_by}

-- ---- first blocks before any rewrite

-- behind these there is none
none_more : (xs : List (Option ℕ)) (m : ℕ) → length xs ≤ m → slice_index_or (xs ++ None ∷ []) m None ≡ None
none_more [] zero le = refl
none_more [] (suc m) le = refl
none_more (x ∷ xs) zero le = absurd (omega (arith, le))
none_more (x ∷ xs) (suc m) le = none_more xs m (omega (arith, le))

-- the file that takes the place of this one, in a store with this catalogue
abbrev follower : Catalogue → ℕ → List ℕ → ℕ → Option Filed
follower c file tag size =
    Some (new_file c (filed_at c file).name (list_in (outline c) file) tag size)

-- The file had this first block before the update, is as long as it was, and isn't the one that is
-- removed or replaced.
pub record IsPlacedStill (c : Catalogue) (placed : List (Option ℕ)) (b : Brief) (n first : ℕ) : Type 0 where
  pub was : slice_index_or placed n None ≡ Some first
  pub size_is : length_left (living_at (grown_catalogue c b).files n) ≡ length_left (living_at c.files n)
  pub stays : removed_by b ≡ Some n → ⊥

-- what has a first block before the rewrites of an update had it before the update
pub placed_still : (c : Catalogue) (placed : List (Option ℕ)) (b : Brief) (n first : ℕ) → length placed ≡ length c.files
    → slice_index_or (with_unplaced placed b) n None ≡ Some first → IsPlacedStill c placed b n first
placed_still c placed (BriefEnrol user) n first many at =
    record { was = at; size_is = refl; stays = λ is. absurd (cc is) }
placed_still c placed (BriefCreate file list tokens tag size) n first many at =
    let f : Option Filed = Some (new_file c file list tag size) in
    elim (cases_lt n (length placed)) [
      | inl low ↦ record {
        was = sym (get_or_append_left placed (None ∷ []) None n low) ∙ at;
        size_is = ap length_left (get_or_append_left c.files (f ∷ []) None n (omega (arith, low, many)));
        stays = λ is. absurd (cc is);
      }
      | inr past ↦ absurd (cc (none_more placed n past, at))
    ]
placed_still c placed (BriefGrant user file token) n first many at =
    record { was = at; size_is = refl; stays = λ is. absurd (cc is) }
placed_still c placed (BriefRevoke user file) n first many at =
    record { was = at; size_is = refl; stays = λ is. absurd (cc is) }
placed_still c placed (BriefRemove file) n first many at =
    let there : is_some (living_at (change_at gone file placed) n) ≡ true =
    some-there (living_at (change_at gone file placed) n) first at in
    let other = gone_not file placed n there in
    record {
      was = sym (gone_other file placed n there) ∙ at;
      size_is = ap length_left (change_at-other gone file n c.files None other);
      stays = λ is. let same : file ≡ n = cc is in other (sym same);
    }
placed_still c placed (BriefReplace file tokens tag size) n first many at =
    let left : List (Option ℕ) = change_at gone file placed in
    let files : List (Option Filed) = change_at gone file c.files in
    elim (cases_lt n (length left)) [
      | inl low ↦
          let here : slice_index_or left n None ≡ Some first =
          sym (get_or_append_left left (None ∷ []) None n low) ∙ at in
          let there : is_some (living_at left n) ≡ true = some-there (living_at left n) first here in
          let other = gone_not file placed n there in
          let below : n < length files =
          omega (arith, low, many, length-change_at gone file placed, length-change_at gone file c.files) in
          record {
            was = sym (gone_other file placed n there) ∙ here;
            size_is =
                ap length_left
                (get_or_append_left files (follower c file tag size ∷ []) None n below
                ∙ change_at-other gone file n c.files None other);
            stays = λ is. let same : file ≡ n = cc is in other (sym same);
          }
      | inr past ↦ absurd (cc (none_more left n past, at))
    ]

-- a file that is neither removed nor replaced has it before the rewrites
pub unplaced_still : (placed : List (Option ℕ)) (b : Brief) (n first : ℕ) → slice_index_or placed n None ≡ Some first
    → (removed_by b ≡ Some n → ⊥) → slice_index_or (with_unplaced placed b) n None ≡ Some first
unplaced_still placed (BriefEnrol user) n first at stays = at
unplaced_still placed (BriefCreate file list tokens tag size) n first at stays =
    get_or_append_left placed (None ∷ []) None n (below_some placed n (some-there (living_at placed n) first at)) ∙ at
unplaced_still placed (BriefGrant user file token) n first at stays = at
unplaced_still placed (BriefRevoke user file) n first at stays = at
unplaced_still placed (BriefRemove file) n first at stays =
    change_at-other gone file n placed None (λ same. stays (ap (λ (m : ℕ). Some m) (sym same))) ∙ at
unplaced_still placed (BriefReplace file tokens tag size) n first at stays =
    let below : n < length (change_at gone file placed) =
    omega (
      arith,
      below_some placed n (some-there (living_at placed n) first at),
      length-change_at gone file placed,
    ) in
    get_or_append_left (change_at gone file placed) (None ∷ []) None n below
    ∙ change_at-other gone file n placed None (λ same. stays (ap (λ (m : ℕ). Some m) (sym same))) ∙ at

-- ---- lengths

left_size : (c : Catalogue) (file n : ℕ) → file ≡ n
    → length_left (living_at (change_at gone file c.files) n) ≡ 0
left_size c file n same =
    subst (λ (m : ℕ). length_left (living_at (change_at gone file c.files) m) ≡ 0) same
    (ap length_left (change_at-here gone file c.files None refl))

gone_size : (c : Catalogue) (b : Brief) (n : ℕ) → n < length c.files → removed_by b ≡ Some n
    → length_left (living_at (grown_catalogue c b).files n) ≡ 0
gone_size c (BriefEnrol user) n below is = absurd (cc is)
gone_size c (BriefCreate file list tokens tag size) n below is = absurd (cc is)
gone_size c (BriefGrant user file token) n below is = absurd (cc is)
gone_size c (BriefRevoke user file) n below is = absurd (cc is)
gone_size c (BriefRemove file) n below is = left_size c file n (cc is)
gone_size c (BriefReplace file tokens tag size) n below is =
    ap length_left
    (get_or_append_left (change_at gone file c.files) (follower c file tag size ∷ []) None n
    (omega (arith, below, length-change_at gone file c.files)))
    ∙ left_size c file n (cc is)

-- a file that is removed or replaced has no byte afterwards
pub removed_size : (c : Catalogue) (b : Brief) (n : ℕ) → n < length c.files → removed_by b ≡ Some n
    → size_after c b n ≡ 0
removed_size c b n below is = grown_size c b n ∙ gone_size c b n below is

grown_living : (c : Catalogue) (b : Brief) (n : ℕ) (f : Filed) → n < length c.files
    → living_at (grown_catalogue c b).files n ≡ Some f → f.length ≡ length_left (living_at c.files n)
grown_living c (BriefEnrol user) n f below is = sym (ap length_left is)
grown_living c (BriefCreate file list tokens tag size) n f below is =
    let new : Option Filed = Some (new_file c file list tag size) in
    sym (ap length_left (sym (get_or_append_left c.files (new ∷ []) None n below) ∙ is))
grown_living c (BriefGrant user file token) n f below is = sym (ap length_left is)
grown_living c (BriefRevoke user file) n f below is = sym (ap length_left is)
grown_living c (BriefRemove file) n f below is =
    let there : is_some (living_at (change_at gone file c.files) n) ≡ true =
    some-there (living_at (change_at gone file c.files) n) f is in
    sym (ap length_left (sym (gone_other file c.files n there) ∙ is))
grown_living c (BriefReplace file tokens tag size) n f below is =
    let left : List (Option Filed) = change_at gone file c.files in
    let here : living_at left n ≡ Some f =
    sym (get_or_append_left left (follower c file tag size ∷ []) None n
    (omega (arith, below, length-change_at gone file c.files))) ∙ is in
    let there : is_some (living_at left n) ≡ true = some-there (living_at left n) f here in
    sym (ap length_left (sym (gone_other file c.files n there) ∙ here))

-- a file that is there after an update, and was given before it, is as long as it was
pub living_size : (c : Catalogue) (b : Brief) (n : ℕ) (now : Filed) → n < length c.files
    → living_at (files_after c b) n ≡ Some now → now.length ≡ length_left (living_at c.files n)
living_size c b n now below is =
    let next : Catalogue = grown_catalogue c b in
    let wants : List (Option ℕ) = wants_of (outline next) (lists_after (lists_of (outline c)) (outer b)) in
    let (f, was, same) = settled_still next.epoch (with_wants next.surface.sets wants) wants next.files n now is in
    same.length_is ∙ grown_living c b n f below was

-- ---- an extent that is given up

-- one block alone rises
pub one_rises : (first : ℕ) → IsStrictlyIncreasing (first ∷ [])
one_rises first k lt = absurd (omega (arith, lt))

pub all_begin : (held : List Extent) (o : Option ℕ) (first : ℕ) → o ≡ Some first → IfSome o (BeginsOne held)
    → All (BeginsOne held) (first ∷ [])
all_begin held o first some begins zero d lt =
    subst (λ (p : Option ℕ). IfSome p (BeginsOne held)) some begins
all_begin held o first some begins (suc k) d lt = absurd (omega (arith, lt))

pub given_one : (o : Option ℕ) (first : ℕ) (blocks : List ℕ) (old new : List Extent) → o ≡ Some first
    → blocks ≡ first ∷ [] → AreGivenUp blocks old new → GivesUp (λ block. o ≡ Some block) old new
given_one o first blocks old new some one up = record {
  kept = λ e there not. up.kept e there (λ inside. not (some ∙ ap (λ (n : ℕ). Some n) (is_it e.first inside)));
  less = up.less;
  none = λ e there is.
      let same : first ≡ e.first = cc (sym some ∙ is) in
      up.none e there
      (subst (λ (blocks : List ℕ). Contains blocks e.first) (sym one)
      (subst (Contains (first ∷ [])) same (Contains-first first [])));
} where
  is_it : (block : ℕ) → Contains blocks block → first ≡ block
  is_it block inside = elim (Contains-cases first [] block (subst (λ (all : List ℕ). Contains all block) one inside)) [
    | inl same ↦ same
    | inr later ↦ absurd (Contains-none block later)
  ]

pub given_none : (o : Option ℕ) (held : List Extent) → o ≡ None → GivesUp (λ block. o ≡ Some block) held held
given_none o held none = record {
  kept = λ e there not. there;
  less = λ e there. there;
  none = λ e there is. absurd (cc (none, is));
}

-- what is left ends no later
pub ends_no_later : (blocks : List ℕ) (old new : List Extent) → AreApart 0 old → AreGivenUp blocks old new
    → end_from 0 new ≤ end_from 0 old
ends_no_later blocks old new apart up = elim (last_end 0 new) [
  | inl none ↦ omega (arith, none)
  | inr more ↦ omega (arith, more.2, end_above 0 old more.0 apart (up.less more.0 more.1))
]
