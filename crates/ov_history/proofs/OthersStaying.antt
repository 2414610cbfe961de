-- A removal or a replacement leaves all other files as they are, and rewrites none of them.
use Rattle.std.proofs.Common.{◌≡◌, ◌≢◌, ◌<◌, ◌+◌, ℕ, zero, suc, Bool, List, [], ◌∷◌, ◌++◌, length}
use Rattle.std.proofs.Common.{refl, sym, ◌∙◌, ap, subst, arith, length-append}
use Rattle.std.specs.Prelude.{Option, Some, None, option_map, slice_index, unwrap_or}
use Rattle.std.proofs.lemmas.List.{get_or_append_left}
use Rattle.ov_base_layer.specs.Holders.{accesses_of, with_accesses}
use Rattle.ov_surface.specs.Wanted.{wanted_surface}
use Rattle.ov_tokens.specs.declared.token.Token.{Token}
use Rattle.ov_graph.proofs.GraphLaws.{last_item}
use Rattle.ov_history.specs.Briefs.{Brief, BriefRemove, BriefReplace}
use Rattle.ov_history.specs.Catalogue.{Catalogue, Filed, Nodes, catalogue_after, filed_at, new_file}
use Rattle.ov_history.specs.Catalogue.{no_filed, outline, place_of_file, places, refiled}
use Rattle.ov_history.specs.Catalogue.{settled_file, settled_files, with_node}
use Rattle.ov_history.specs.Laws.{OthersStay, RemovalsLeaveOthers, RemovalsRewriteNoFile}
use Rattle.ov_history.specs.Laws.{ReplacementsLeaveOthers, ReplacementsRewriteTheNewFile}
use Rattle.ov_history.specs.Layers.{Layers, Place, holders, list_among, list_in, lists_of, no_place}
use Rattle.ov_history.specs.Layers.{same_surface, surface_at, want_at, wants_at, wants_of, with_wants}
use Rattle.ov_history.specs.Places.{change_at, gone, living_at}
use Rattle.ov_history.specs.Rewrites.{Rewrite, files_after, length_left, rewrite_of}
use Rattle.ov_history.specs.Rewrites.{rewrite_unless, rewrites_from, rewrites_of}
use Rattle.ov_history.specs.Sealed.{SealedHistory, StandsFor, outer_of}
use Rattle.ov_history.specs.Sound.{IsSound}
use Rattle.ov_history.proofs.ChangeLaws.{change_at-other, gone_not, gone_other, length-change_at}
use Rattle.ov_history.proofs.ChangeLaws.{some-there}
use Rattle.ov_history.proofs.Generations.{surface_stays}
use Rattle.ov_history.proofs.Listing.{length-lists_of, same_surface-refl}
use Rattle.ov_history.proofs.Living.{new_there, settled-length}
use Rattle.ov_history.proofs.Outlining.{length-places, places-at, with_node-sets}
use Rattle.ov_history.proofs.PlanLaws.{with_set-keeps, with_wants-keeps}
use Rattle.ov_history.proofs.Showing.{history_is_shown}
use Rattle.ov_history.proofs.SoundHistories.{histories_are_sound}
use Rattle.ov_history.proofs.Storing.{length-files_after, living_below, settled_still}
use Rattle.ov_history.proofs.Wanting.{IsSettled, history-settled, wanted_in}

-- ---- files that have their wanted surfaces

-- a file that has the surface of its wanted set stays as it is
file_kept : (epoch : ℕ) (sets : List ℕ) (want : Option ℕ) (f : Filed)
    → f.surface ≡ surface_at sets want → settled_file epoch sets want f ≡ f
file_kept epoch sets want f own =
    ap (λ (b : Bool). refiled b epoch (surface_at sets want) f)
    (ap (λ (o : Option ℕ). same_surface o (surface_at sets want)) own
    ∙ same_surface-refl (surface_at sets want))

-- one of several files, under the surface of its wanted set
one_settled : (y : Layers) (epoch : ℕ) (sets : List ℕ) (lists : List (Option ℕ))
    (files : List (Option Filed)) (n : ℕ) (f : Filed)
    → length lists ≡ length files → living_at files n ≡ Some f
    → living_at (settled_files epoch sets (wants_at y lists (places files)) files) n
    ≡ Some (settled_file epoch sets (want_at y (living_at lists n) (Some (place_of_file f))) f)
one_settled y epoch sets lists [] n f many is = absurd (cc)
one_settled y epoch sets [] (first ∷ files) n f many is = absurd (omega arith)
one_settled y epoch sets (list ∷ lists) (first ∷ files) zero f many is =
    ap (λ (o : Option Filed).
    option_map (settled_file epoch sets (want_at y list (option_map place_of_file o))) o) is
one_settled y epoch sets (list ∷ lists) (first ∷ files) (suc n) f many is =
    one_settled y epoch sets lists files n f (omega arith) is

-- A file keeps its surface with an update that leaves it and its list, adds base nodes behind those
-- there are, and gives no access.
module _ (c : Catalogue) (base : Nodes) (files : List (Option Filed)) (lists : List (Option ℕ))
    (settled : IsSettled (outline c)) (sound : IsSound c) (many : length lists ≡ length files)
    (same : (node : ℕ) → node < length c.base.sets
    → slice_index base.sets node ≡ slice_index c.base.sets node)
    (n : ℕ) (f : Filed) (before : living_at c.files n ≡ Some f)
    (after : living_at files n ≡ Some f)
    (list : living_at lists n ≡ living_at (lists_of (outline c)) n) where
  abbrev next : Catalogue
  next = record c { epoch = c.epoch + 1; base = base; files = files }

  abbrev wants : List (Option ℕ)
  wants = wants_of (outline next) lists

  abbrev sets : List ℕ
  sets = with_wants c.surface.sets wants

  abbrev place : Place
  place = place_of_file f

  placed : living_at (places c.files) n ≡ Some place
  placed = places-at c.files n ∙ ap (λ (o : Option Filed). option_map place_of_file o) before

  below : n < length (places c.files)
  below = omega (arith, length-places c.files, living_below c.files n f before)

  held : holders (outline next) f.node ≡ holders (outline c) f.node
  held = ap (λ set. with_accesses (accesses_of c.grants) f.node set)
      (same f.node (sound.files n f before).base)

  -- its wanted set is the one that it had
  wanted : want_at (outline next) (living_at lists n) (Some place) ≡ wanted_in (outline c) n
  wanted =
      one (living_at lists n)
      ∙ ap (λ (l : Option ℕ). want_at (outline c) l (Some place)) list
      ∙ ap (λ (o : Option Place). want_at (outline c) (living_at (lists_of (outline c)) n) o)
      (sym placed) where
        one : (l : Option ℕ) → want_at (outline next) l (Some place)
            ≡ want_at (outline c) l (Some place)
        one None = refl
        one (Some set) = ap (λ users. wanted_surface c.mode set users) held

  own : f.surface ≡ surface_at sets (wanted_in (outline c) n)
  own =
      sym (ap (λ (o : Option Place). (unwrap_or o no_place).surface) placed)
      ∙ settled.surface n below
      ∙ sym (surface_stays c.surface.sets sets (wanted_in (outline c) n)
      (λ node low. with_wants-keeps wants c.surface.sets node low)
      (λ set is. settled.there n set below is))

  pub stays_filed : living_at (settled_files next.epoch sets wants files) n ≡ Some f
  stays_filed =
      one_settled (outline next) next.epoch sets lists files n f many after
      ∙ ap Some (file_kept next.epoch sets _ f
      (own ∙ ap (λ (want : Option ℕ). surface_at sets want) (sym wanted)))

-- ---- rewrites of files that stay

-- a file that is there afterwards as it was has no rewrite
as_it_was : (number : ℕ) (f now : Option Filed) → ((g : Filed) → now ≡ Some g → f ≡ Some g)
    → rewrite_of number f now ≡ []
as_it_was number f None same = refl
as_it_was number f (Some g) same =
    subst (λ (o : Option Filed). rewrite_of number o (Some g) ≡ []) (sym (same g refl))
    (ap (λ (b : Bool). rewrite_unless b number g g) (same_surface-refl g.surface))

no_rewrites : (first : ℕ) (files after : List (Option Filed))
    → ((n : ℕ) (f : Filed) → living_at after n ≡ Some f → living_at files n ≡ Some f)
    → rewrites_from first files after ≡ []
no_rewrites first files [] each = refl
no_rewrites first [] (None ∷ after) each =
    no_rewrites (first + 1) [] after (λ n f is. each (suc n) f is)
no_rewrites first [] (Some now ∷ after) each =
    let was : living_at [] 0 ≡ Some now = each 0 now refl in
    absurd (cc)
no_rewrites first (f ∷ files) (now ∷ after) each =
    ap (λ (rs : List Rewrite). rs ++ rewrites_from (first + 1) files after)
    (as_it_was first f now (λ g is. each 0 g is))
    ∙ no_rewrites (first + 1) files after (λ n g is. each (suc n) g is)

-- the rewrite of a new file
abbrev new_at : ℕ → Filed → Rewrite
new_at number now = record { file = number; length = now.length; old = None; new = now.surface }

-- one new file behind files that stay is rewritten alone
one_rewrite : (first : ℕ) (files after : List (Option Filed)) (new : Filed)
    → length after ≡ suc (length files)
    → ((n : ℕ) (f : Filed) → n < length files → living_at after n ≡ Some f
    → living_at files n ≡ Some f)
    → living_at after (length files) ≡ Some new
    → rewrites_from first files after ≡ new_at (first + length files) new ∷ []
one_rewrite first files [] new many each last = absurd (omega arith)
one_rewrite first [] (None ∷ after) new many each last = absurd (cc)
one_rewrite first [] (Some now ∷ other ∷ after) new many each last = absurd (omega arith)
one_rewrite first [] (Some now ∷ []) new many each last =
    let is : now ≡ new = cc in
    let number : first ≡ first + 0 = omega arith in
    ap (λ (g : Filed). new_at first g ∷ []) is ∙ ap (λ n. new_at n new ∷ []) number
one_rewrite first (f ∷ files) (now ∷ after) new many each last =
    let number : first + 1 + length files ≡ first + suc (length files) = omega arith in
    ap (λ (rs : List Rewrite). rs ++ rewrites_from (first + 1) files after)
    (as_it_was first f now (λ g is. each 0 g (omega arith) is))
    ∙ one_rewrite (first + 1) files after new (omega arith)
    (λ n g low is. each (suc n) g (omega (arith, low)) is) last
    ∙ ap (λ n. new_at n new ∷ []) number

-- ---- the two updates

module _ (c : Catalogue) (settled : IsSettled (outline c)) (sound : IsSound c) (file : ℕ) where
  abbrev left : List (Option Filed)
  left = change_at gone file c.files

  abbrev lists : List (Option ℕ)
  lists = lists_of (outline c)

  lists_many : length lists ≡ length c.files
  lists_many = length-lists_of (outline c) ∙ length-places c.files

  -- a file that is left is there afterwards as it was
  was_left : (after : List (Option Filed)) (n : ℕ) (f now : Filed)
      → ((other : ℕ) (f : Filed) → other ≢ file → living_at c.files other ≡ Some f
      → living_at after other ≡ Some f)
      → living_at left n ≡ Some f → living_at after n ≡ Some now → living_at c.files n ≡ Some now
  was_left after n f now stay is then_is =
      let there = some-there (living_at left n) f is in
      let was : living_at c.files n ≡ Some f = sym (gone_other file c.files n there) ∙ is in
      was ∙ sym (stay n f (gone_not file c.files n there) was) ∙ then_is

  pub removal_leaves : (master : List ℕ) → OthersStay master c (BriefRemove file) file
  removal_leaves master other f not is =
      stays_filed c c.base left (change_at gone file lists) settled sound
      (length-change_at gone file lists ∙ lists_many ∙ sym (length-change_at gone file c.files))
      (λ node low. refl) other f is
      (change_at-other gone file other c.files None not ∙ is)
      (change_at-other gone file other lists None not)

  pub removal_rewrites : rewrites_of c (BriefRemove file) ≡ []
  removal_rewrites =
      let after : List (Option Filed) = files_after c (BriefRemove file) in
      let grown = record c { epoch = c.epoch + 1; files = left } in
      let wants = wants_of (outline grown) (change_at gone file lists) in
      no_rewrites 0 c.files after (λ n now is.
      let (f, was, still) =
      settled_still (c.epoch + 1) (with_wants c.surface.sets wants) wants left n now is in
      was_left after n f now (removal_leaves []) was is)

  module _ (tokens : List Token) (tag : List ℕ) (size : ℕ) where
    abbrev update : Brief
    update = BriefReplace file tokens tag size

    abbrev list : ℕ
    list = list_in (outline c) file

    abbrev new : Filed
    new = new_file c (filed_at c file).name list tag size

    abbrev then_files : List (Option Filed)
    then_files = left ++ Some new ∷ []

    abbrev then_lists : List (Option ℕ)
    then_lists = change_at gone file lists ++ Some (list_among lists file) ∷ []

    then_many : length then_lists ≡ length then_files
    then_many =
        omega (
          arith,
          lists_many,
          length-change_at gone file lists,
          length-change_at gone file c.files,
          length-append (change_at gone file lists) (Some (list_among lists file) ∷ []),
          length-append left (Some new ∷ []),
        )

    pub replacement_leaves : (master : List ℕ) → OthersStay master c update file
    replacement_leaves master other f not is =
        let low : other < length c.files = living_below c.files other f is in
        stays_filed c (with_node c.base list tokens) then_files then_lists settled sound then_many
        (λ node below.
        ap (λ (sets : List ℕ). slice_index sets node) (with_node-sets c.base list tokens)
        ∙ (with_set-keeps c.base.sets list node below).1)
        other f is
        (get_or_append_left left (Some new ∷ []) None other
        (omega (arith, low, length-change_at gone file c.files))
        ∙ change_at-other gone file other c.files None not ∙ is)
        (get_or_append_left (change_at gone file lists) (Some (list_among lists file) ∷ []) None
        other (omega (arith, low, lists_many, length-change_at gone file lists))
        ∙ change_at-other gone file other lists None not)

    abbrev then_wants : List (Option ℕ)
    then_wants =
        wants_of (outline (record c {
          epoch = c.epoch + 1;
          base = with_node c.base list tokens;
          files = then_files;
        })) then_lists

    abbrev after : List (Option Filed)
    after = files_after c update

    length-left : length left ≡ length c.files
    length-left = length-change_at gone file c.files

    after_many : length after ≡ suc (length c.files)
    after_many =
        omega (
          arith,
          length-files_after c update,
          length-left,
          length-append left (Some new ∷ []),
        )

    others_were : (n : ℕ) (now : Filed) → n < length c.files → living_at after n ≡ Some now
        → living_at c.files n ≡ Some now
    others_were n now low is =
        let (f, was, still) =
        settled_still (c.epoch + 1) (with_wants c.surface.sets then_wants) then_wants then_files n
        now is in
        was_left after n f now (replacement_leaves [])
        (sym (get_or_append_left left (Some new ∷ []) None n (omega (arith, low, length-left)))
        ∙ was)
        is

    -- the new file has the bytes that were sent
    new_size : (now : Filed) → living_at after (length c.files) ≡ Some now → now.length ≡ size
    new_size now is =
        ap length_left (sym is)
        ∙ settled-length (c.epoch + 1) (with_wants c.surface.sets then_wants) then_wants then_files
        (length c.files)
        ∙ ap length_left (last_item left (Some new) (length c.files) None (sym length-left))

    pub replacement_rewrites : (master : List ℕ) → rewrites_of c update
        ≡ record {
          file = length c.files;
          length = size;
          old = None;
          new = (filed_at (catalogue_after master c update) (length c.files)).surface;
        } ∷ []
    replacement_rewrites master =
        let n : ℕ = length c.files in
        let (now, is) = new_there c update n (omega arith) (omega (arith, after_many)) in
        let own : (filed_at (catalogue_after master c update) n).surface ≡ now.surface =
        ap (λ (o : Option Filed). (unwrap_or o no_filed).surface) is in
        let number : 0 + n ≡ n = omega arith in
        one_rewrite 0 c.files after now after_many others_were is
        ∙ (λ i. record {
          file = number i;
          length = new_size now is i;
          old = None;
          new = sym own i;
        } ∷ [])

-- ---- histories

settled_shown : (master : List ℕ) (c : Catalogue) (g : SealedHistory) → StandsFor master c g
    → IsSettled (outline c)
settled_shown master c g stands =
    subst (λ (y : Layers). IsSettled y) (sym (history_is_shown master c g stands).layers)
    (history-settled (outer_of g))

pub removals_rewrite_no_file : RemovalsRewriteNoFile
removals_rewrite_no_file master c g file stands =
    removal_rewrites c (settled_shown master c g stands) (histories_are_sound master c g stands) file

pub removals_leave_others : RemovalsLeaveOthers
removals_leave_others master c g file stands =
    removal_leaves c (settled_shown master c g stands) (histories_are_sound master c g stands) file
    master

pub replacements_rewrite_the_new_file : ReplacementsRewriteTheNewFile
replacements_rewrite_the_new_file master c g file tokens tag size stands =
    replacement_rewrites c (settled_shown master c g stands) (histories_are_sound master c g stands)
    file tokens tag size master

pub replacements_leave_others : ReplacementsLeaveOthers
replacements_leave_others master c g file tokens tag size stands =
    replacement_leaves c (settled_shown master c g stands) (histories_are_sound master c g stands)
    file tokens tag size master
