-- An image that stands for a history is refused for nothing that stands in it.
use Rattle.std.proofs.Common.{◌≡◌, ◌⊎◌, inl, inr, ℕ, ◌≤◌, ◌<◌, List, ◌++◌, length, take, drop, get_or, refl, sym, ◌∙◌, ap, arith, lit<}
use Rattle.std.specs.Int.{w32, to_be_bytes}
use Rattle.std.proofs.lemmas.List.{get_or-take}
use Rattle.ov_base.specs.Modes.{mode_byte}
use Rattle.ov_base.proofs.Lists.{cut_once}
use Rattle.ov_base.specs.declared.mode.Mode.{Mode}
use Rattle.ov_base.specs.declared.mode.Mode.TheVariants.{Full, Delta}
use Rattle.ov_disk.specs.Disk.{Image}
use Rattle.ov_disk.specs.declared.area.Area.{Area}
use Rattle.ov_journal.specs.Book.{Contents, spelled}
use Rattle.ov_journal.specs.Standing.{HasNoMode}
use Rattle.ov_journal.specs.declared.header.Header.{Header}
use Rattle.ov_images.specs.Images.{IsImageOf, KeepsAt, Keys, header_of}
use Rattle.ov_images.specs.Damage.{HasBadRecords, HasHeader, IsFor, Spot}
use Rattle.ov_images.proofs.Damage.{damaged_keeps_none}
use Rattle.ov_images.proofs.Headers.{mode_of-spelled}
use Rattle.ov_images.proofs.Keeping.{is_born}
use Rattle.ov_history.specs.Placed.{PlacedHistory}
use Rattle.ov_history.specs.Sealed.{SealedHistory}
use Rattle.ov_history.specs.Texts.{BriefHistory}
use Rattle.ov_store.specs.Beginning.{IsBeginFault}
use Rattle.ov_store.proofs.CarriedOver.{never_born}
use Rattle.ov_store.specs.declared.fault.BeginFault.{BeginFault}
use Rattle.ov_store.specs.declared.fault.BeginFault.TheVariants.{Disk, NotAStore, Damaged, BaseDiffers, SurfaceDiffers, ModeDiffers, Memory}
use Rattle.ov_report.specs.Faults.{HasValues}

-- ---- headers

byte_low : (mode : Mode) → mode_byte mode ≤ 1
byte_low Full = omega arith
byte_low Delta = omega arith

-- a store whose header is this has its mode
has_mode : (book : List ℕ) (h : Header) → take 78 book ≡ spelled h → HasNoMode book → ⊥
has_mode book h head (has, no_mode) =
    let byte : get_or book 9 0 ≡ mode_byte h.mode = sym (get_or-take 78 book 9 0 (lit< tt)) ∙ ap (λ (l : List ℕ). get_or l 9 0) head in
    let past : 1 < get_or book 9 0 = no_mode in
    omega (arith, byte, past, byte_low h.mode)

-- what follows the first epoch of a header
behind_once : (g h : Header) → spelled g ≡ spelled h → g.base_check ++ g.surface_check ≡ h.base_check ++ h.surface_check
behind_once g h same =
    let from : to_be_bytes w32 g.first ++ g.base_check ++ g.surface_check ≡ to_be_bytes w32 h.first ++ h.base_check ++ h.surface_check =
    ap (λ (l : List ℕ). drop 10 l) same in
    (cut_once (to_be_bytes w32 g.first) (to_be_bytes w32 h.first) (g.base_check ++ g.surface_check) (h.base_check ++ h.surface_check) refl from).1

base_once : (g h : Header) → spelled g ≡ spelled h → length g.base_check ≡ length h.base_check
    → (g.base_check ≡ h.base_check) × (g.surface_check ≡ h.surface_check)
base_once g h same long = cut_once g.base_check h.base_check g.surface_check h.surface_check long (behind_once g h same)

-- ---- why a disk doesn't open

-- no store of these keys and mode is refused but for a fault of the disk or of memory
module _ (k : Keys) (mode : Mode) (g : SealedHistory) (i : Image) (mode_is : g.mode ≡ mode) where
  -- the header of an image that keeps the history
  abbrev own : (p : PlacedHistory) → KeepsAt k p g i → Header
  own p keeps = header_of k keeps.records.format p

  same_head : (p : PlacedHistory) (keeps : KeepsAt k p g i) (h : Header) → HasHeader h i
      → spelled (own p keeps) ≡ spelled h
  same_head p keeps h has = sym (ap (λ (c : Contents). c.head) keeps.records.book) ∙ has.head

  -- the first blocks don't change the mode
  mode_at : (p : PlacedHistory) → KeepsAt k p g i → p.mode ≡ mode
  mode_at p keeps = sym (ap (λ (b : BriefHistory). b.mode) keeps.briefs) ∙ mode_is

  not_foreign : IsImageOf k g i → IsBeginFault k mode i NotAStore → ⊥
  not_foreign (inl (unborn, blank_is)) (no_unborn, no_magic) = no_unborn unborn
  not_foreign (inr keeps) (no_unborn, no_magic) = no_magic (is_born k g i keeps).0

  never_bad : (spot : Spot) → IsImageOf k g i → (h : Header) → HasHeader h i → HasBadRecords h i spot → ⊥
  never_bad spot (inl (unborn, blank_is)) h has bad = never_born i.book unborn has.magic
  never_bad spot (inr keeps) h has bad = damaged_keeps_none k g h i spot has bad keeps

  no_mode_never : IsImageOf k g i → HasNoMode i.book → ⊥
  no_mode_never (inl (unborn, blank_is)) none = never_born i.book unborn none.0
  no_mode_never (inr (p, keeps)) none =
      has_mode i.book (own p keeps) (ap (λ (c : Contents). c.head) keeps.records.book) none

  not_damaged : (area : Area) (place : ℕ) → IsImageOf k g i → IsBeginFault k mode i (Damaged area place) → ⊥
  not_damaged area place opens (inl none) = no_mode_never opens none.2
  not_damaged area place opens (inr (h, has, for_it, bad)) =
      never_bad (record { area = area; place = place }) opens h has bad

  not_base : (stored given : List ℕ) → length stored ≡ length given → IsImageOf k g i → IsBeginFault k mode i (BaseDiffers stored given) → ⊥
  not_base stored given long (inl (unborn, blank_is)) (h, has, s, v, other) = never_born i.book unborn has.magic
  not_base stored given long (inr (p, keeps)) (h, has, s, v, other) =
      let lengths : length k.base_check ≡ length h.base_check = ap length (sym v) ∙ sym long ∙ ap length s in
      other (s ∙ sym (base_once (own p keeps) h (same_head p keeps h has) lengths).0 ∙ sym v)

  not_surface : (stored given : List ℕ) → IsImageOf k g i → IsBeginFault k mode i (SurfaceDiffers stored given) → ⊥
  not_surface stored given (inl (unborn, blank_is)) (h, has, b, s, v, other) = never_born i.book unborn has.magic
  not_surface stored given (inr (p, keeps)) (h, has, b, s, v, other) =
      other (s ∙ sym (base_once (own p keeps) h (same_head p keeps h has) (ap length (sym b))).1 ∙ sym v)

  not_mode : (stored given : Mode) → IsImageOf k g i → IsBeginFault k mode i (ModeDiffers stored given) → ⊥
  not_mode stored given (inl (unborn, blank_is)) (h, has, b, c, s, v, other) = never_born i.book unborn has.magic
  not_mode stored given (inr (p, keeps)) (h, has, b, c, s, v, other) =
      other (s ∙ sym (mode_of-spelled (own p keeps) h (same_head p keeps h has)) ∙ mode_at p keeps ∙ sym v)

  pub faulted_so : (fault : BeginFault) → HasValues fault → IsImageOf k g i → IsBeginFault k mode i fault → (fault ≡ Disk) ⊎ (fault ≡ Memory)
  faulted_so Disk values opens why = inl refl
  faulted_so Memory values opens why = inr refl
  faulted_so NotAStore values opens why = absurd (not_foreign opens why)
  faulted_so (Damaged area place) values opens why = absurd (not_damaged area place opens why)
  faulted_so (BaseDiffers stored given) values opens why = absurd (not_base stored given values opens why)
  faulted_so (SurfaceDiffers stored given) values opens why = absurd (not_surface stored given opens why)
  faulted_so (ModeDiffers stored given) values opens why = absurd (not_mode stored given opens why)
