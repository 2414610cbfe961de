-- An image that stands for a book gives no cause by itself for which none is begun.
use Rattle.std.proofs.Common.{◌≡◌, ◌∙◌, ◌≤◌, ◌<◌, ℕ, List, [], ◌∷◌, ◌++◌, take, drop, get_or}
use Rattle.std.proofs.Common.{length, Option, Some, None, refl, sym, ap, subst, inl, inr, arith, lit<}
use Rattle.std.proofs.Common.{append_assoc}
use Rattle.std.specs.Prelude.{◌⊎◌, IfSome, slice_index}
use Rattle.std.specs.Int.{w32, to_be_bytes}
use Rattle.std.specs.List.{AllByRecursion}
use Rattle.std.proofs.lemmas.List.{append-nil, get_or-take, take_at, drop_at}
use Rattle.ov_base.specs.Modes.{mode_byte}
use Rattle.ov_base.specs.declared.mode.Mode.{Mode}
use Rattle.ov_base.specs.declared.mode.Mode.TheVariants.{Full, Delta}
use Rattle.ov_base.proofs.Modes.{one_byte}
use Rattle.ov_disk.specs.Disk.{Image}
use Rattle.ov_journal.specs.Book.{Contents, contents_of, spelled}
use Rattle.ov_journal.specs.Runs.{end_from}
use Rattle.ov_journal.specs.Standing.{HasMagic, HasNoMode, IsUnborn}
use Rattle.ov_journal.specs.declared.header.Header.{Header}
use Rattle.ov_record.specs.Briefs.{Brief as SpelledBrief}
use Rattle.ov_record.specs.Forms.{second_form}
use Rattle.ov_record.specs.Stored.{HasBriefForm}
use Rattle.ov_history.specs.Masters.{Masters}
use Rattle.ov_history.specs.Texts.{IsSealedBriefly}
use Rattle.ov_books.specs.Books.{Booked, IsNoted, bodies_of, history_by, intent_body, pending_bodies}
use Rattle.ov_books.specs.Books.{pending_size, settled_bodies, settled_of, settling_body, with_next}
use Rattle.ov_books.specs.Books.{with_pending}
use Rattle.ov_books.specs.Damage.{HasHeader, IsBadBehind, IsBadIntent, IsBadSettling}
use Rattle.ov_books.specs.Damage.{IsDamaged}
use Rattle.ov_books.specs.Images.{IsImageOf, Keeps, header_of}
use Rattle.ov_book.specs.Beginning.{IsBeginFault, IsOlder}
use Rattle.ov_book.specs.declared.fault.BookBegin.{BookBegin}
use Rattle.ov_book.specs.declared.fault.BookBegin.TheVariants as begins
use Rattle.ov_book.proofs.Headers.{born_is_store, digit_in, never_unborn}
use Rattle.ov_owning.specs.Running.{HasCheckForm}
use Rattle.ov_owning.proofs.Prefixes.{Follows, follows, intent_apart, intent_read, sealed_next}
use Rattle.ov_owning.proofs.Prefixes.{with_more, with_none, with_settling}

-- the cause is a fault of the disk, or want of memory
abbrev pub IsOutside : BookBegin → Type 0
IsOutside fault = (fault ≡ begins.Disk) ⊎ (fault ≡ begins.Memory)

-- ---- where none was begun

unborn_outside : (k : Masters) (mode : Mode) (i : Image) (fault : BookBegin) → IsUnborn i.book
    → IsBeginFault k mode i fault → IsOutside fault
unborn_outside k mode i begins.Disk un is = inl refl
unborn_outside k mode i begins.NotAStore un (inl foreign) = absurd (foreign.0 un)
unborn_outside k mode i begins.NotAStore un (inr older) = absurd (never_unborn i.book un older.0)
unborn_outside k mode i (begins.Damaged place) un (inl none) =
    absurd (never_unborn i.book un none.1.0)
unborn_outside k mode i (begins.Damaged place) un (inr (h, has, own, bad)) =
    absurd (never_unborn i.book un has.magic)
unborn_outside k mode i (begins.BaseDiffers stored given) un (h, has, s, g, differ) =
    absurd (never_unborn i.book un has.magic)
unborn_outside k mode i (begins.SurfaceDiffers stored given) un
    (h, has, base, s, g, differ) =
    absurd (never_unborn i.book un has.magic)
unborn_outside k mode i (begins.ModeDiffers stored given) un
    (h, has, base, surface, s, g, differ) =
    absurd (never_unborn i.book un has.magic)
unborn_outside k mode i begins.Memory un is = inr refl

-- ---- where a book is kept

-- both check values of a header
abbrev values_in : Header → List ℕ
values_in h = h.base_check ++ h.surface_check

-- what follows the magic of a header
abbrev behind : Header → List ℕ
behind h = to_be_bytes w32 h.first ++ values_in h

least : (mode : Mode) → mode_byte mode ≤ 1
least Full = omega arith
least Delta = omega arith

-- a book with a header has a mode
has_mode : (book : List ℕ) (h : Header) → take 78 book ≡ spelled h → HasNoMode book → ⊥
has_mode book h is none =
    let byte : get_or book 9 0 ≡ mode_byte h.mode =
    sym (get_or-take 78 book 9 0 (lit< tt)) ∙ ap (λ (l : List ℕ). get_or l 9 0) is in
    omega (arith, none.1, byte, least h.mode)

-- a pending intent comes behind all others
pending_behind : (us : List SpelledBrief) (w : SpelledBrief) (vs : List SpelledBrief)
    (p : Option SpelledBrief) → with_pending (us ++ w ∷ vs) p ≡ us ++ w ∷ with_pending vs p
pending_behind us w vs None = refl
pending_behind us w vs (Some u) = append_assoc us (w ∷ vs) (u ∷ [])

forms_behind : (us vs : List SpelledBrief)
    → AllByRecursion (HasBriefForm second_form) (us ++ vs)
    → AllByRecursion (HasBriefForm second_form) vs
forms_behind [] vs all = all
forms_behind (u ∷ us) vs all = forms_behind us vs all.1

module _ (k : Masters) (b : Booked) (i : Image) (keeps : Keeps k b i) where
  abbrev own : Header
  own = header_of k b.mode keeps.first

  head : take 78 i.book ≡ spelled own
  head = ap (λ (c : Contents). c.head) keeps.book

  bodies : (contents_of i.book).records.bodies ≡ bodies_of b
  bodies = ap (λ (c : Contents). c.records.bodies) keeps.book

  whole : (contents_of i.book).records.bad ≡ None
  whole = ap (λ (c : Contents). c.records.bad) keeps.book

  store : HasMagic i.book × (IsUnborn i.book → ⊥)
  store = born_is_store own None (bodies_of b) i.book (inr refl) keeps.book

  never_older : IsOlder i → ⊥
  never_older older =
      let digit : slice_index i.book 8 ≡ 50 = digit_in i.book own head in
      omega (arith, older.1, digit)

  -- ---- its header

  module _ (h : Header) (has : HasHeader h i) where
    same : spelled h ≡ spelled own
    same = sym has.head ∙ head

    mode_same : h.mode ≡ b.mode
    mode_same =
        let from : mode_byte h.mode ∷ behind h ≡ mode_byte b.mode ∷ behind own =
        ap (λ (l : List ℕ). drop 9 l) same in
        one_byte h.mode b.mode (cc from)

    values : values_in h ≡ values_in own
    values =
        sym (drop_at (to_be_bytes w32 h.first) (values_in h) 4 refl)
        ∙ ap (λ (l : List ℕ). drop 4 (drop 10 l)) same
        ∙ drop_at (to_be_bytes w32 own.first) (values_in own) 4 refl

    base_same : length h.base_check ≡ length own.base_check → h.base_check ≡ own.base_check
    base_same long =
        sym (take_at h.base_check h.surface_check (length own.base_check) long)
        ∙ ap (λ (l : List ℕ). take (length own.base_check) l) values
        ∙ take_at own.base_check own.surface_check (length own.base_check) refl

    surface_same : length h.base_check ≡ length own.base_check
        → h.surface_check ≡ own.surface_check
    surface_same long =
        sym (drop_at h.base_check h.surface_check (length own.base_check) long)
        ∙ ap (λ (l : List ℕ). drop (length own.base_check) l) values
        ∙ drop_at own.base_check own.surface_check (length own.base_check) refl

  -- ---- its records

  -- the records are those of another book, and the rest
  after : (x : Booked) (rest : List (List ℕ)) → IsNoted x
      → (contents_of i.book).records.bodies ≡ bodies_of x ++ rest
      → Follows b.settled x.settled b.pending x.pending rest
  after x rest noted split =
      follows b.settled x.settled b.pending x.pending rest keeps.is_book.noted.settled noted.settled
      keeps.is_book.noted.pending noted.pending (sym bodies ∙ split)

  -- an update that the book has is no bad one
  good_intent : (x : Booked) (u : SpelledBrief) (body : List ℕ) (gate place : ℕ)
      → HasBriefForm second_form u → intent_body u ≡ body
      → IsSealedBriefly (with_next (settled_of x) u) → IsBadIntent x body gate place → ⊥
  good_intent x u body gate place form is fits (inl other) =
      other.0 (ap (λ (l : List ℕ). take 1 l) (sym is))
  good_intent x u body gate place form is fits (inr (inl (bytes, at_byte, same, stops, at))) =
      intent_read u bytes at_byte form (ap (λ (l : List ℕ). drop 1 l) (is ∙ same)) stops
  good_intent x u body gate place form is fits (inr (inr (w, form_w, same, unfit, at))) =
      unfit (subst (λ (y : SpelledBrief). IsSealedBriefly (with_next (settled_of x) y))
      (intent_apart u w form form_w (is ∙ same)) fits)

  -- the settling byte alone is no bad record
  good_settling : (body : List ℕ) (gate place : ℕ) → settling_body ≡ body
      → IsBadSettling body gate place → ⊥
  good_settling body gate place is (inl other) =
      other.0 (ap (λ (l : List ℕ). take 1 l) (sym is))
  good_settling body gate place is (inr (byte, bytes, same, at)) =
      let longer : settling_body ≡ 9 ∷ byte ∷ bytes = is ∙ same in
      cc longer

  -- the history of the book goes on with the next intent behind others
  goes_on : (x : Booked) (u : SpelledBrief) (more : List SpelledBrief) → x.mode ≡ b.mode
      → with_pending b.settled b.pending ≡ x.settled ++ u ∷ more
      → IsSealedBriefly (with_next (settled_of x) u)
  goes_on x u more modes is =
      sealed_next x.mode x.settled u more
      (subst (λ (us : List SpelledBrief). IsSealedBriefly (history_by x.mode us)) is
      (subst (λ (m : Mode). IsSealedBriefly (history_by m (with_pending b.settled b.pending)))
      (sym modes) keeps.is_book.noted.fits))

  good_next : (x : Booked) (more : List SpelledBrief) (p : Option SpelledBrief) (body : List ℕ)
      (rest : List (List ℕ)) (gate place : ℕ) → x.mode ≡ b.mode → b.pending ≡ p
      → b.settled ≡ x.settled ++ more → AllByRecursion (HasBriefForm second_form) more
      → settled_bodies more ++ pending_bodies p ≡ body ∷ rest → IsBadIntent x body gate place → ⊥
  good_next x [] None body rest gate place modes pending same forms is bad = cc is
  good_next x [] (Some u) body rest gate place modes pending same forms is bad =
      let first : intent_body u ≡ body = cc is in
      let settled : b.settled ≡ x.settled = same ∙ append-nil x.settled in
      good_intent x u body gate place
      (subst (λ (o : Option SpelledBrief). IfSome o (HasBriefForm second_form)) pending
      keeps.is_book.noted.pending) first
      (goes_on x u [] modes (λ j. with_pending (settled j) (pending j))) bad
  good_next x (u ∷ more) p body rest gate place modes pending same forms is bad =
      let first : intent_body u ≡ body = cc is in
      good_intent x u body gate place forms.0 first
      (goes_on x u (with_pending more p) modes
      ((λ j. with_pending (same j) (pending j)) ∙ pending_behind x.settled u more p)) bad

  -- the next record is no bad one
  good_record : (x : Booked) (body : List ℕ) (rest : List (List ℕ)) (gate place : ℕ)
      → x.mode ≡ b.mode → Follows b.settled x.settled b.pending x.pending (body ∷ rest)
      → IsBadBehind x.pending x body gate place → ⊥
  good_record x body rest gate place modes (with_more more none same is) bad =
      good_next x more b.pending body rest gate place modes refl same
      (forms_behind x.settled more
      (subst (λ (us : List SpelledBrief). AllByRecursion (HasBriefForm second_form) us) same
      keeps.is_book.noted.settled)) is
      (subst (λ (o : Option SpelledBrief). IsBadBehind o x body gate place) none bad)
  good_record x body rest gate place modes (with_settling w more some same is) bad =
      good_settling body gate place (cc is)
      (subst (λ (o : Option SpelledBrief). IsBadBehind o x body gate place) some bad)
  good_record x body rest gate place modes (with_none w some same pending is) bad = cc is

  -- the bytes of the pending update's file are there
  has_text : (x : Booked) → length i.blobs < pending_size x.pending
      → Follows b.settled x.settled b.pending x.pending [] → ⊥
  has_text x short (with_more more none same is) =
      let size : pending_size x.pending ≡ 0 =
      ap (λ (o : Option SpelledBrief). pending_size o) none in
      omega (arith, short, size)
  has_text x short (with_settling w more some same is) = cc is
  has_text x short (with_none w some same pending is) =
      let size : pending_size x.pending ≡ pending_size b.pending =
      ap (λ (o : Option SpelledBrief). pending_size o) (some ∙ sym pending) in
      omega (arith, short, size, keeps.text.0)

  never_damaged : (mode : Mode) (place : ℕ) → b.mode ≡ mode → IsDamaged mode i place → ⊥
  never_damaged mode place modes (inl bad) =
      good_record bad.book bad.body bad.rest (end_from 78 (bodies_of bad.book)) place
      (bad.mode_is ∙ sym modes) (after bad.book (bad.body ∷ bad.rest) bad.noted bad.split) bad.bad
  never_damaged mode place modes (inr (inl bad)) = cc (sym whole ∙ bad.bad)
  never_damaged mode place modes (inr (inr bad)) =
      has_text bad.book bad.short
      (after bad.book [] bad.noted (bad.all ∙ sym (append-nil (bodies_of bad.book))))

  -- ---- all causes

  kept_outside : (mode : Mode) (fault : BookBegin) → b.mode ≡ mode → HasCheckForm fault
      → IsBeginFault k mode i fault → IsOutside fault
  kept_outside mode begins.Disk modes form is = inl refl
  kept_outside mode begins.NotAStore modes form (inl foreign) = absurd (foreign.1 store.0)
  kept_outside mode begins.NotAStore modes form (inr older) = absurd (never_older older)
  kept_outside mode (begins.Damaged place) modes form (inl (at, none, digit)) =
      absurd (has_mode i.book own head none)
  kept_outside mode (begins.Damaged place) modes form (inr (h, has, ours, bad)) =
      absurd (never_damaged mode place modes bad)
  kept_outside mode (begins.BaseDiffers stored given) modes form (h, has, s, g, differ) =
      absurd (differ (s ∙ base_same h has (ap length (sym s) ∙ form ∙ ap length g) ∙ sym g))
  kept_outside mode (begins.SurfaceDiffers stored given) modes form (h, has, base, s, g, differ) =
      absurd (differ (s ∙ surface_same h has (ap length base) ∙ sym g))
  kept_outside mode (begins.ModeDiffers stored given) modes form
      (h, has, base, surface, s, g, differ) =
      absurd (differ (s ∙ mode_same h has ∙ modes ∙ sym g))
  kept_outside mode begins.Memory modes form is = inr refl

-- where the image stands for a book of these masters and this mode, no other cause keeps it from
-- being begun
pub only_outside : (k : Masters) (mode : Mode) (b : Booked) (i : Image) (fault : BookBegin)
    → b.mode ≡ mode → IsImageOf k b i → HasCheckForm fault → IsBeginFault k mode i fault
    → IsOutside fault
only_outside k mode b i fault modes (inl unborn) form is =
    unborn_outside k mode i fault unborn.0 is
only_outside k mode b i fault modes (inr keeps) form is =
    kept_outside k b i keeps mode fault modes form is
