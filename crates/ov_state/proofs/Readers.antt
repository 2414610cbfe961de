-- A reader who is in a file's list: both chains are there.
use Rattle.ov_history.specs.Places.{living_at}
use Rattle.std.proofs.Common.{◌≡◌, ℕ, ◌<◌, length, sym, ◌∙◌, ap, subst, arith}
use Rattle.std.specs.Option.{ForSome}
use Rattle.std.specs.Prelude.{Contains, IfSome, Option, Some, slice_index}
use Rattle.ov_base.specs.Sets.{Has, single}
use Rattle.ov_history.specs.Layers.{holders, list_at, set_or}
use Rattle.ov_history.specs.Catalogue.{Filed, Catalogue, filed_at, outline, place_of_file}
use Rattle.ov_history.specs.Sound.{IsPlaced}
use Rattle.ov_history.specs.Keys.{AreTrueTokens}
use Rattle.ov_history.specs.Masters.{Masters}
use Rattle.ov_history.specs.Chains.{IsBaseChain, IsSurfaceChain}
use Rattle.ov_state.specs.Chains.{IsChained, LeadsToKeys}
use Rattle.ov_state.specs.Contents.{IsWell}
use Rattle.ov_state.specs.Entries.{plain_file}
use Rattle.ov_state.specs.declared.chained.Chained.{Chained}
use Rattle.ov_state.specs.declared.files.FileEntry.{FileEntry}
use Rattle.ov_state.proofs.ChainLaws.{base_chain_leads, surface_chain_leads}
use Rattle.ov_state.proofs.FilesByNumber.{filed-at}

-- the user has a root in both layers, holds the base node of the file, and is in the set of its surface
pub record IsReader (limit : ℕ) (s : Catalogue) (user : ℕ) (f : FileEntry) : Type 0 where
  pub low : user < limit
  pub base : Contains s.base.sets (single user)
  pub surface : Contains s.surface.sets (single user)
  pub node : f.node < length s.base.sets
  pub holder : Has (holders (outline s) f.node) user
  pub covered : ForSome f.surface (λ n. n < length s.surface.sets)
  pub member : ForSome f.surface (λ n. Has (slice_index s.surface.sets n) user)

-- each user who is in the list is a reader of the file
pub listed_reads : (limit : ℕ) (s : Catalogue) (user file : ℕ) (f : FileEntry) → IsWell limit s → living_at s.files file ≡ Some (plain_file f)
    → user < length s.users → Has (list_at (outline s) (place_of_file (filed_at s file))) user → IsReader limit s user f
listed_reads limit s user file f well kept there listed =
    let placed : IsPlaced s (plain_file f) = well.sound.files file (plain_file f) kept in
    let member : Has (list_at (outline s) (place_of_file (plain_file f))) user =
    subst (λ (g : Filed). Has (list_at (outline s) (place_of_file g)) user) (filed-at s file (plain_file f) kept) listed in
    record {
      low = omega (arith, there, well.users, well.width.0);
      base = well.sound.base.rooted user there;
      surface = well.sound.surface.rooted user there;
      node = placed.base;
      holder = placed.list user member;
      covered = λ n is. subst (λ (o : Option ℕ). IfSome o (λ m. m < length s.surface.sets)) is placed.surface;
      member = λ n is. subst (λ (o : Option ℕ). Has (set_or s.surface.sets o (holders (outline s) f.node)) user) is member;
    }

-- the chains to what is kept of a file, and the rest of it, are those of the file
pub chained_of : (s : Catalogue) (user file : ℕ) (f : FileEntry) (c : Chained) → living_at s.files file ≡ Some (plain_file f)
    → c.epoch ≡ s.epoch → c.file ≡ file → c.length ≡ f.length → c.generation ≡ f.generation → c.tag ≡ f.tag
    → IsBaseChain s.base s.grants user f.node c.base → IsSurfaceChain s.surface user f.surface c.surface
    → IsChained s user file c
chained_of s user file f c kept epoch number long generation tag base surface =
    let at : plain_file f ≡ filed_at s file = sym (filed-at s file (plain_file f) kept) in
    record {
      epoch = epoch;
      file = number;
      length = long ∙ ap (λ (g : Filed). g.length) at;
      generation = generation ∙ ap (λ (g : Filed). g.generation) at;
      tag = tag ∙ ap (λ (g : Filed). g.tag) at;
      base = subst (λ (g : Filed). IsBaseChain s.base s.grants user g.node c.base) at base;
      surface = subst (λ (g : Filed). IsSurfaceChain s.surface user g.surface c.surface) at surface;
    }

-- over true tokens the chains to a file lead to its keys
pub chained_leads : (k : Masters) (s : Catalogue) (user file : ℕ) (c : Chained) → AreTrueTokens k s → IsChained s user file c
    → LeadsToKeys k (filed_at s c.file) c
chained_leads k s user file c tokens is =
    let f : Filed = filed_at s file in
    subst (λ n. LeadsToKeys k (filed_at s n) c) (sym is.file)
    (record {
      base = base_chain_leads k s user f.node c.base tokens is.base;
      surface = surface_chain_leads k s user f.surface c.surface tokens is.surface;
    })
