-- Of each image there is at most one cause.
use Rattle.std.proofs.Common.{◌≡◌, ◌≢◌, inl, inr, ℕ, ◌≤◌, List, ◌++◌, length, take, drop, get_or}
use Rattle.std.proofs.Common.{refl, sym, ◌∙◌, ap, arith, lit<}
use Rattle.std.proofs.lemmas.List.{get_or-take, take_at, drop_at}
use Rattle.std.specs.Int.{w32, to_be_bytes}
use Rattle.ov_base.specs.declared.mode.Mode.{Mode}
use Rattle.ov_base.specs.declared.mode.Mode.TheVariants.{Full, Delta}
use Rattle.ov_base.specs.Modes.{mode_byte}
use Rattle.ov_tokens.specs.Keys.{check_value_of}
use Rattle.ov_disk.specs.Disk.{Image}
use Rattle.ov_disk.specs.declared.area.Area.TheVariants.{Book}
use Rattle.ov_journal.specs.Book.{spelled}
use Rattle.ov_journal.specs.Standing.{HasNoMode, IsForeign}
use Rattle.ov_journal.specs.declared.header.Header.{Header}
use Rattle.ov_images.specs.Damage.{HasBadRecords, HasHeader, IsFor, Spot}
use Rattle.ov_images.specs.Images.{Keys}
use Rattle.ov_images.proofs.Damage.{one_place}
use Rattle.ov_images.proofs.Headers.{mode_of-spelled}
use Rattle.ov_store.specs.Beginning.{IsBeginFault}
use Rattle.ov_store.specs.Causes.{CausesAreOne, IsOfImage}
use Rattle.ov_store.specs.declared.fault.BeginFault.{BeginFault}
use Rattle.ov_store.specs.declared.fault.BeginFault.TheVariants.{Disk as DiskFailed, NotAStore}
use Rattle.ov_store.specs.declared.fault.BeginFault.TheVariants.{Damaged, BaseDiffers}
use Rattle.ov_store.specs.declared.fault.BeginFault.TheVariants.{SurfaceDiffers, ModeDiffers, Memory}

-- ---- one header

-- both check values of a header
abbrev values_in : Header → List ℕ
values_in h = h.base_check ++ h.surface_check

least : (mode : Mode) → mode_byte mode ≤ 1
least Full = omega arith
least Delta = omega arith

-- a store with a header has a mode
has_mode : (book : List ℕ) (h : Header) → take 78 book ≡ spelled h → HasNoMode book → ⊥
has_mode book h is none =
    let byte : get_or book 9 0 ≡ mode_byte h.mode =
    sym (get_or-take 78 book 9 0 (lit< tt)) ∙ ap (λ (l : List ℕ). get_or l 9 0) is in
    omega (arith, none.1, byte, least h.mode)

module _ (i : Image) (h other : Header) (has : HasHeader h i) (too : HasHeader other i)
    (long : length h.base_check ≡ 32) (long_too : length other.base_check ≡ 32) where
  head : spelled h ≡ spelled other
  head = sym has.head ∙ too.head

  values : values_in h ≡ values_in other
  values =
      sym (drop_at (to_be_bytes w32 h.first) (values_in h) 4 refl)
      ∙ ap (λ (l : List ℕ). drop 4 (drop 10 l)) head
      ∙ drop_at (to_be_bytes w32 other.first) (values_in other) 4 refl

  mode_same : h.mode ≡ other.mode
  mode_same = mode_of-spelled h other head

  base_same : h.base_check ≡ other.base_check
  base_same =
      sym (take_at h.base_check h.surface_check 32 long)
      ∙ ap (λ (l : List ℕ). take 32 l) values
      ∙ take_at other.base_check other.surface_check 32 long_too

  surface_same : h.surface_check ≡ other.surface_check
  surface_same =
      sym (drop_at h.base_check h.surface_check 32 long)
      ∙ ap (λ (l : List ℕ). drop 32 l) values
      ∙ drop_at other.base_check other.surface_check 32 long_too

-- ---- what a cause says of the header

-- the cause is one that a store with this header gives
abbrev Says : Keys → Mode → Image → Header → BeginFault → Type 0
Says k mode i h DiskFailed = ⊥
Says k mode i h NotAStore = ⊥
Says k mode i h (Damaged area place) =
    IsFor k mode h × HasBadRecords h i (record { area = area; place = place })
Says k mode i h (BaseDiffers stored given) =
    (stored ≡ h.base_check) × (given ≡ k.base_check) × (stored ≢ given)
Says k mode i h (SurfaceDiffers stored given) =
    (h.base_check ≡ k.base_check) × (stored ≡ h.surface_check)
    × (given ≡ check_value_of k.surface) × (stored ≢ given)
Says k mode i h (ModeDiffers stored given) =
    (h.base_check ≡ k.base_check) × (h.surface_check ≡ check_value_of k.surface)
    × (stored ≡ h.mode) × (given ≡ mode) × (stored ≢ given)
Says k mode i h Memory = ⊥

-- the image has a header of which the cause is said
record IsSaid (k : Keys) (mode : Mode) (i : Image) (fault : BeginFault) : Type 0 where
  header : Header
  has : HasHeader header i
  long : length header.base_check ≡ 32
  says : Says k mode i header fault

-- a cause of the image: it is another file, its mode can't be, or the cause is said of its header
data Cause (k : Keys) (mode : Mode) (i : Image) (fault : BeginFault) : Type 0 where
  foreign : fault ≡ NotAStore → IsForeign i.book → Cause k mode i fault
  no_mode : fault ≡ Damaged Book 9 → HasNoMode i.book → Cause k mode i fault
  said : IsSaid k mode i fault → Cause k mode i fault

module _ (k : Keys) (mode : Mode) (i : Image) (long : length k.base_check ≡ 32) where
  cause_of : (fault : BeginFault) → IsOfImage fault → IsBeginFault k mode i fault
      → Cause k mode i fault
  cause_of DiskFailed none is = absurd none
  cause_of NotAStore of is = foreign refl is
  cause_of (Damaged area place) of (inl is) =
      no_mode (λ j. Damaged (is.0 j) (is.1 j)) is.2
  cause_of (Damaged area place) of (inr (h, has, own, bad)) = said (record {
    header = h;
    has = has;
    long = ap length own.base ∙ long;
    says = (own, bad);
  })
  cause_of (BaseDiffers stored given) of (h, has, s, g, other) = said (record {
    header = h;
    has = has;
    long = ap length (sym s) ∙ of ∙ ap length g ∙ long;
    says = (s, g, other);
  })
  cause_of (SurfaceDiffers stored given) of (h, has, base, s, g, other) = said (record {
    header = h;
    has = has;
    long = ap length base ∙ long;
    says = (base, s, g, other);
  })
  cause_of (ModeDiffers stored given) of (h, has, base, surface, s, g, other) = said (record {
    header = h;
    has = has;
    long = ap length base ∙ long;
    says = (base, surface, s, g, other);
  })
  cause_of Memory none is = absurd none

  -- ---- two causes of one header

  -- the places of two damages of one image are the same
  one_damage : (h other : Header) (one two : Spot) → HasHeader h i → HasHeader other i
      → HasBadRecords h i one → HasBadRecords other i two
      → Damaged one.area one.place ≡ Damaged two.area two.place
  one_damage h other one two has too bad bad_too =
      ap (λ (s : Spot). Damaged s.area s.place) (one_place h other i one two has bad too bad_too)

  module _ (h other : Header) (has : HasHeader h i) (too : HasHeader other i)
      (base : h.base_check ≡ other.base_check) (surface : h.surface_check ≡ other.surface_check)
      (modes : h.mode ≡ other.mode) where
    both : (one two : BeginFault) → Says k mode i h one → Says k mode i other two → one ≡ two
    both (Damaged area place) (Damaged too_area too_place) (own, bad) (ours, worse) =
        one_damage h other (record { area = area; place = place })
        (record { area = too_area; place = too_place }) has too bad worse
    both (Damaged area place) (BaseDiffers stored given) (own, bad) (s, g, differ) =
        absurd (differ (s ∙ sym base ∙ own.base ∙ sym g))
    both (Damaged area place) (SurfaceDiffers stored given) (own, bad) (b, s, g, differ) =
        absurd (differ (s ∙ sym surface ∙ own.surface ∙ sym g))
    both (Damaged area place) (ModeDiffers stored given) (own, bad) (b, v, s, g, differ) =
        absurd (differ (s ∙ sym modes ∙ own.mode_is ∙ sym g))
    both (BaseDiffers stored given) (Damaged area place) (s, g, differ) (own, bad) =
        absurd (differ (s ∙ base ∙ own.base ∙ sym g))
    both (BaseDiffers stored given) (BaseDiffers old new) (s, g, differ) (t, n, others) =
        (λ j. BaseDiffers ((s ∙ base ∙ sym t) j) ((g ∙ sym n) j))
    both (BaseDiffers stored given) (SurfaceDiffers old new) (s, g, differ) (b, t, n, others) =
        absurd (differ (s ∙ base ∙ b ∙ sym g))
    both (BaseDiffers stored given) (ModeDiffers old new) (s, g, differ) (b, v, t, n, others) =
        absurd (differ (s ∙ base ∙ b ∙ sym g))
    both (SurfaceDiffers stored given) (Damaged area place) (b, s, g, differ) (own, bad) =
        absurd (differ (s ∙ surface ∙ own.surface ∙ sym g))
    both (SurfaceDiffers stored given) (BaseDiffers old new) (b, s, g, differ) (t, n, others) =
        absurd (others (t ∙ sym base ∙ b ∙ sym n))
    both (SurfaceDiffers stored given) (SurfaceDiffers old new) (b, s, g, differ)
        (c, t, n, others) =
        (λ j. SurfaceDiffers ((s ∙ surface ∙ sym t) j) ((g ∙ sym n) j))
    both (SurfaceDiffers stored given) (ModeDiffers old new) (b, s, g, differ)
        (c, v, t, n, others) =
        absurd (differ (s ∙ surface ∙ v ∙ sym g))
    both (ModeDiffers stored given) (Damaged area place) (b, v, s, g, differ) (own, bad) =
        absurd (differ (s ∙ modes ∙ own.mode_is ∙ sym g))
    both (ModeDiffers stored given) (BaseDiffers old new) (b, v, s, g, differ) (t, n, others) =
        absurd (others (t ∙ sym base ∙ b ∙ sym n))
    both (ModeDiffers stored given) (SurfaceDiffers old new) (b, v, s, g, differ)
        (c, t, n, others) =
        absurd (others (t ∙ sym surface ∙ v ∙ sym n))
    both (ModeDiffers stored given) (ModeDiffers old new) (b, v, s, g, differ)
        (c, w, t, n, others) =
        (λ j. ModeDiffers ((s ∙ modes ∙ sym t) j) ((g ∙ sym n) j))
    both DiskFailed two none says = absurd none
    both NotAStore two none says = absurd none
    both Memory two none says = absurd none
    both one DiskFailed says none = absurd none
    both one NotAStore says none = absurd none
    both one Memory says none = absurd none

  one_said : (one two : BeginFault) → IsSaid k mode i one → IsSaid k mode i two → one ≡ two
  one_said one two a b =
      both a.header b.header a.has b.has
      (base_same i a.header b.header a.has b.has a.long b.long)
      (surface_same i a.header b.header a.has b.has a.long b.long)
      (mode_same i a.header b.header a.has b.has a.long b.long) one two a.says b.says

  -- ---- two causes

  one_cause : (one two : BeginFault) → Cause k mode i one → Cause k mode i two → one ≡ two
  one_cause one two (foreign is file) (foreign too _) = is ∙ sym too
  one_cause one two (foreign is file) (no_mode too none) = absurd (file.1 none.0)
  one_cause one two (foreign is file) (said b) = absurd (file.1 b.has.magic)
  one_cause one two (no_mode is none) (foreign too file) = absurd (file.1 none.0)
  one_cause one two (no_mode is none) (no_mode too _) = is ∙ sym too
  one_cause one two (no_mode is none) (said b) =
      absurd (has_mode i.book b.header b.has.head none)
  one_cause one two (said a) (foreign too file) = absurd (file.1 a.has.magic)
  one_cause one two (said a) (no_mode too none) =
      absurd (has_mode i.book a.header a.has.head none)
  one_cause one two (said a) (said b) = one_said one two a b

pub causes_are_one : CausesAreOne
causes_are_one k mode i one other long of is too is_too =
    one_cause k mode i long one other (cause_of k mode i long one of is)
    (cause_of k mode i long other too is_too)
