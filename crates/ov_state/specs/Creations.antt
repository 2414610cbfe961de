-- Inner: no public contract needs this. The changes that enrolments, creations, removals and
-- replacements make.
use Rattle.std.specs.Prelude.{◌≡◌, ℕ, ◌+◌, true, List, [], ◌∷◌, length, Some, None}
use Rattle.ov_base.specs.Sets.{single}
use Rattle.ov_tokens.specs.declared.token.Token.{Token}
use Rattle.ov_history.specs.Lists.{byte_sum}
use Rattle.ov_history.specs.Places.{change_at, gone}
use Rattle.ov_history.specs.Catalogue.{Catalogue, matrix_shown}
use Rattle.ov_state.specs.NewFiles.{new_node_if}
use Rattle.ov_state.specs.declared.change.NewNode.{NewNode}
use Rattle.ov_state.specs.declared.change.Growth.TheVariants.{User, File, Removal, Replacement}
use Rattle.ov_state.specs.declared.change.Change.{Change}
use Rattle.ov_state.specs.declared.files.FileEntry.{FileEntry}
use Rattle.ov_state.specs.declared.site.Site.{Site}

-- the node of a user alone, after this many nodes
abbrev pub alone : {W : ℕ} → ℕ → ℕ → NewNode W
alone nodes user = record {
  set = single user;
  cover = record { node = nodes; fresh = true; from = [] };
  tokens = [];
}

-- the change that enrols a user
pub record IsEnrolment {W : ℕ} (c : Catalogue) (name : List ℕ) (change : Change W) : Type 0 where
  pub growth : change.growth ≡ User name
  pub base : change.base ≡ Some (alone (length c.base.sets) (length c.users))
  pub surface : change.surface.items ≡ alone (length c.surface.sets) (length c.users) ∷ []
  pub rewrites : change.rewrites.items ≡ []
  pub size : change.size ≡ byte_sum (matrix_shown c).files

-- a new file of this name at a base node, before it has its surface
abbrev pub new_entry : Catalogue → List ℕ → ℕ → List ℕ → ℕ → FileEntry
new_entry c name node tag bytes = record {
  name = name;
  node = node;
  surface = None;
  generation = c.epoch + 1;
  tag = tag;
  length = bytes;
}

-- the change that files a new file at its place
pub record IsCreation {W : ℕ} (c : Catalogue) (site : Site W) (name : List ℕ) (list : ℕ)
    (tokens : List Token) (tag : List ℕ) (bytes : ℕ) (change : Change W) : Type 0 where
  pub growth : change.growth ≡ File (new_entry c name site.cover.node tag bytes)
  pub base : change.base
      ≡ new_node_if site.cover.fresh (record { set = list; cover = site.cover; tokens = tokens })
  pub surface : change.surface.items ≡ site.surface.items
  pub rewrites : change.rewrites.items
      ≡ record { file = length c.files; length = bytes; old = None; new = site.to } ∷ []
  pub size : change.size ≡ byte_sum (matrix_shown c).files + bytes

-- the change that takes a file away
pub record IsRemoval {W : ℕ} (c : Catalogue) (file : ℕ) (change : Change W) : Type 0 where
  pub growth : change.growth ≡ Removal file
  pub base : change.base ≡ None
  pub surface : change.surface.items ≡ []
  pub rewrites : change.rewrites.items ≡ []
  pub size : change.size ≡ byte_sum (change_at gone file (matrix_shown c).files)

-- the change that takes a file away, and files a new one at its own place
pub record IsReplacement {W : ℕ} (c : Catalogue) (site : Site W) (file list : ℕ)
    (tokens : List Token) (entry : FileEntry) (change : Change W) : Type 0 where
  pub growth : change.growth ≡ Replacement file entry
  pub base : change.base
      ≡ new_node_if site.cover.fresh (record { set = list; cover = site.cover; tokens = tokens })
  pub surface : change.surface.items ≡ site.surface.items
  pub rewrites : change.rewrites.items
      ≡ record { file = length c.files; length = entry.length; old = None; new = site.to } ∷ []
  pub size : change.size
      ≡ byte_sum (change_at gone file (matrix_shown c).files) + entry.length
