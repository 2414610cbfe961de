-- What the catalogues of both histories show.
use Rattle.std.proofs.Common.{◌≡◌, ◌⊎◌, ℕ, Bool, true, false, List, [], ◌∷◌, ◌++◌}
use Rattle.std.proofs.Common.{length, map, refl, sym, ◌∙◌, ap, inl, inr}
use Rattle.std.specs.Prelude.{Option, Some, None, option_map, unwrap_or, not, is_some}
use Rattle.std.proofs.lemmas.List.{map-append}
use Rattle.std.proofs.Math.ListN.{get_or-map}
use Rattle.ov_base.specs.Sets.{single, has}
use Rattle.ov_base_layer.specs.declared.grant.Grant.{Grant}
use Rattle.ov_tokens.specs.declared.token.Token.{Token}
use Rattle.ov_graph.specs.Contents.{plan_of}
use Rattle.ov_history.specs.Places.{change_at, gone, living_at}
use Rattle.ov_history.specs.History.{Granted, Revoked}
use Rattle.ov_history.specs.Layers.{Layers, holders, list_in, lists_after, lists_of, node_for, node_of, wants_of}
use Rattle.ov_history.specs.Layers.{with_wants}
use Rattle.ov_history.specs.Briefs.{Brief, BriefEnrol, BriefCreate, BriefGrant, BriefRevoke, BriefRemove, BriefReplace}
use Rattle.ov_history.specs.Briefs.{outer}
use Rattle.ov_history.specs.Catalogue.{Catalogue, Filed, Nodes, added_if, catalogue_after, filed_at, granted}
use Rattle.ov_history.specs.Catalogue.{grown_catalogue, new_file, no_filed, outline, settled_file, settled_files}
use Rattle.ov_history.specs.Catalogue.{with_node, refiled}
use Rattle.ov_history.specs.Sealed.{HasParts}
use Rattle.ov_history.proofs.ChangeLaws.{map-change_at}
use Rattle.ov_thinning.specs.Idle.{publishes}
use Rattle.ov_thinning.proofs.Steps.{AreSame, SameReplaced, same_holders, same_node}

-- ---- files, without their surfaces and generations

abbrev pub bare_filed : Filed → Filed
bare_filed f = record f { surface = None; generation = 0 }

abbrev pub bare_files : List (Option Filed) → List (Option Filed)
bare_files files = map (option_map bare_filed) files

bare-gone : (file : ℕ) (files : List (Option Filed))
    → bare_files (change_at gone file files) ≡ change_at gone file (bare_files files)
bare-gone file files = map-change_at (option_map bare_filed) gone gone (λ o. refl) file files

bare-settled : (epoch : ℕ) (sets : List ℕ) (wants : List (Option ℕ)) (files : List (Option Filed))
    → bare_files (settled_files epoch sets wants files) ≡ bare_files files
bare-settled epoch sets [] files = refl
bare-settled epoch sets (want ∷ wants) [] = refl
bare-settled epoch sets (want ∷ wants) (f ∷ files) =
    ap (λ (x : Option Filed). x ∷ bare_files (settled_files epoch sets wants files)) (one f)
    ∙ ap (λ (xs : List (Option Filed)). option_map bare_filed f ∷ xs) (bare-settled epoch sets wants files) where
      by_test : (b : Bool) (surface : Option ℕ) (f : Filed) → bare_filed (refiled b epoch surface f) ≡ bare_filed f
      by_test true surface f = refl
      by_test false surface f = refl

      one : (f : Option Filed)
          → option_map bare_filed (option_map (settled_file epoch sets want) f) ≡ option_map bare_filed f
      one None = refl
      one (Some f) = ap Some (by_test _ _ f)

bare-at : (c : Catalogue) (file : ℕ) → bare_filed (filed_at c file)
    ≡ unwrap_or (living_at (bare_files c.files) file) no_filed
bare-at c file =
    by_file (living_at c.files file)
    ∙ ap (λ (o : Option Filed). unwrap_or o no_filed)
    (sym (get_or-map (option_map bare_filed) c.files file None)) where
      by_file : (o : Option Filed)
          → bare_filed (unwrap_or o no_filed) ≡ unwrap_or (option_map bare_filed o) no_filed
      by_file None = refl
      by_file (Some f) = refl

-- ---- the same but for surfaces

pub record AreShownAlike (c d : Catalogue) : Type 0 where
  pub users : c.users ≡ d.users
  pub base : c.base ≡ d.base
  pub grants : c.grants ≡ d.grants
  pub files : bare_files c.files ≡ bare_files d.files

same_filed : (c d : Catalogue) → AreShownAlike c d → (file : ℕ)
    → bare_filed (filed_at c file) ≡ bare_filed (filed_at d file)
same_filed c d same file =
    bare-at c file
    ∙ ap (λ (fs : List (Option Filed)). unwrap_or (living_at fs file) no_filed) same.files
    ∙ sym (bare-at d file)

pub shown_grown : (c d : Catalogue) (b : Brief) → AreShownAlike c d
    → SameReplaced (outline c) (outline d) (outer b)
    → AreShownAlike (grown_catalogue c b) (grown_catalogue d b)
shown_grown c d (BriefEnrol user) same lists = record {
  users = ap (λ (us : List (List ℕ)). us ++ user ∷ []) same.users;
  base = ap (λ (n : Nodes). added_if true n (single (length c.users)) []) same.base
      ∙ ap (λ (us : List (List ℕ)). added_if true d.base (single (length us)) []) same.users;
  grants = same.grants;
  files = same.files;
}
shown_grown c d (BriefCreate file list tokens tag size) same lists = record {
  users = same.users;
  base = ap (λ (n : Nodes). with_node n list tokens) same.base;
  grants = same.grants;
  files = map-append (option_map bare_filed) c.files (Some (new_file c file list tag size) ∷ [])
      ∙ ap (λ (fs : List (Option Filed)). fs ++ Some (bare_filed (new_file c file list tag size)) ∷ []) same.files
      ∙ ap (λ (n : Nodes). bare_files d.files
      ++ Some (record { name = file; node = node_for n.sets list; surface = None; generation = 0; tag = tag; length = size }) ∷ [])
      same.base
      ∙ sym (map-append (option_map bare_filed) d.files (Some (new_file d file list tag size) ∷ []));
}
shown_grown c d (BriefGrant user file token) same lists = record {
  users = same.users;
  base = same.base;
  grants = ap (λ (gs : List Grant). granted gs user (filed_at c file).node token) same.grants
      ∙ ap (λ (f : Filed). granted d.grants user f.node token) (same_filed c d same file);
  files = same.files;
}
shown_grown c d (BriefRevoke user file) same lists = record {
  users = same.users;
  base = same.base;
  grants = same.grants;
  files = same.files;
}
shown_grown c d (BriefRemove file) same lists = record {
  users = same.users;
  base = same.base;
  grants = same.grants;
  files = bare-gone file c.files ∙ ap (λ (fs : List (Option Filed)). change_at gone file fs) same.files
      ∙ sym (bare-gone file d.files);
}
shown_grown c d (BriefReplace file tokens tag size) same lists =
    let list : ℕ = list_in (outline c) file in
    let other : ℕ = list_in (outline d) file in
    let one : Filed = new_file c (filed_at c file).name list tag size in
    let two : Filed = new_file d (filed_at d file).name other tag size in
    let made : bare_filed one ≡ bare_filed two =
    ap (λ (f : Filed). record { name = f.name; node = node_for c.base.sets list; surface = None; generation = 0; tag = tag; length = size })
    (same_filed c d same file)
    ∙ ap (λ (n : Nodes). record { name = (filed_at d file).name; node = node_for n.sets list; surface = None; generation = 0; tag = tag; length = size })
    same.base
    ∙ ap (λ (set : ℕ). record { name = (filed_at d file).name; node = node_for d.base.sets set; surface = None; generation = 0; tag = tag; length = size })
    lists in record {
      users = same.users;
      base = ap (λ (n : Nodes). with_node n list tokens) same.base
          ∙ ap (λ (set : ℕ). with_node d.base set tokens) lists;
      grants = same.grants;
      files = map-append (option_map bare_filed) (change_at gone file c.files) (Some one ∷ [])
          ∙ ap (λ (fs : List (Option Filed)). fs ++ Some (bare_filed one) ∷ [])
          (bare-gone file c.files ∙ ap (λ (fs : List (Option Filed)). change_at gone file fs) same.files
          ∙ sym (bare-gone file d.files))
          ∙ ap (λ (f : Filed). bare_files (change_at gone file d.files) ++ Some f ∷ []) made
          ∙ sym (map-append (option_map bare_filed) (change_at gone file d.files) (Some two ∷ []));
    }

after-files : (master : List ℕ) (c : Catalogue) (b : Brief)
    → bare_files (catalogue_after master c b).files ≡ bare_files (grown_catalogue c b).files
after-files master c b =
    let z : Catalogue = grown_catalogue c b in
    let wants = wants_of (outline z) (lists_after (lists_of (outline c)) (outer b)) in
    bare-settled z.epoch (with_wants z.surface.sets wants) wants z.files

-- both catalogues after an update
pub shown_after : (master : List ℕ) (c d : Catalogue) (b : Brief) → AreShownAlike c d
    → SameReplaced (outline c) (outline d) (outer b)
    → AreShownAlike (catalogue_after master c b) (catalogue_after master d b)
shown_after master c d b same lists =
    let grows = shown_grown c d b same lists in record {
      users = grows.users;
      base = grows.base;
      grants = grows.grants;
      files = after-files master c b ∙ grows.files ∙ sym (after-files master d b);
    }

no_token : (token : Option Token) → is_some token ≡ false → token ≡ None
no_token None is = refl
no_token (Some token) is = absurd (cc)

-- a grant that publishes nothing, and a revocation, show nothing more
pub shown_left : (master : List ℕ) (c : Catalogue) (b : Brief)
    → ((user : ℕ) × (file : ℕ) × ((outer b ≡ Granted user file) ⊎ (outer b ≡ Revoked user file)))
    → HasParts (outline c) b → publishes (outline c) (outer b) ≡ false
    → AreShownAlike (catalogue_after master c b) c
shown_left master c (BriefEnrol user) (u, f, is) parts silent = absurd (elim is [ inl e ↦ cc | inr e ↦ cc ])
shown_left master c (BriefCreate file list tokens tag size) (u, f, is) parts silent =
    absurd (elim is [ inl e ↦ cc | inr e ↦ cc ])
shown_left master c (BriefGrant user file token) is parts silent = record {
  users = refl;
  base = refl;
  grants = ap (λ (o : Option Token). granted c.grants user (filed_at c file).node o)
      (no_token token (parts ∙ silent));
  files = after-files master c (BriefGrant user file token);
}
shown_left master c (BriefRevoke user file) is parts silent = record {
  users = refl;
  base = refl;
  grants = refl;
  files = after-files master c (BriefRevoke user file);
}
shown_left master c (BriefRemove file) (u, f, is) parts silent = absurd (elim is [ inl e ↦ cc | inr e ↦ cc ])
shown_left master c (BriefReplace file tokens tag size) (u, f, is) parts silent =
    absurd (elim is [ inl e ↦ cc | inr e ↦ cc ])

-- ---- parts

pub same_parts : (y x : Layers) (b : Brief) → AreSame y x → SameReplaced y x (outer b)
    → HasParts y b → HasParts x b
same_parts y x (BriefEnrol user) same lists parts = tt
same_parts y x (BriefCreate file list tokens tag size) same lists parts =
    parts ∙ ap (λ (sets : List ℕ). length (plan_of sets list).from) same.base
same_parts y x (BriefGrant user file token) same lists parts =
    parts
    ∙ ap (λ n. not (has (holders y n) user)) (same_node y x same file)
    ∙ ap (λ (set : ℕ). not (has set user)) (same_holders y x same (node_of x file))
same_parts y x (BriefRevoke user file) same lists parts = tt
same_parts y x (BriefRemove file) same lists parts = tt
same_parts y x (BriefReplace file tokens tag size) same lists parts =
    parts
    ∙ ap (λ (sets : List ℕ). length (plan_of sets (list_in y file)).from) same.base
    ∙ ap (λ (set : ℕ). length (plan_of x.base set).from) lists
