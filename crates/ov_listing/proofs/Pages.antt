-- The names on the pages of a catalogue.
use Rattle.std.proofs.Common.{◌≡◌, ◌∙◌, ℕ, zero, suc, List, [], ◌∷◌, ◌++◌, length, take}
use Rattle.std.proofs.Common.{Option, Some, None, refl, sym, ap, subst, arith, drop, get_or}
use Rattle.std.proofs.Common.{◌≤◌, ◌-◌}
use Rattle.std.specs.Prelude.{◌↔◌, IfNone, IfSome, IsSome, map, option_map, slice_get}
use Rattle.ov_base.specs.Names.{IsName}
use Rattle.std.proofs.Math.Seq.{take-append_seam, take-length}
use Rattle.std.proofs.lemmas.List.{append_assoc, append-nil, take-append-drop}
use Rattle.std.proofs.lemmas.Option.{same_Some, slice_get-map}
use Rattle.ov_fields.specs.Spelling.{name_field, optional, u32}
use Rattle.ov_history.specs.Catalogue.{Catalogue, Filed, files_shown, matrix_shown, outline}
use Rattle.ov_history.specs.Layers.{Layers, root_of}
use Rattle.ov_wire.specs.Entries.{File, User, entry_bytes}
use Rattle.ov_protocol.specs.Pages.{entry_of, file_entry_of, page_of, user_entry_of}
use Rattle.ov_listing.specs.Questions.{HasNoName, ShownBy, name_of_file, name_shown}
use Rattle.ov_listing.specs.Questions.{names_by_number, part_number}
use Rattle.ov_listing.specs.declared.part.Part.{Part}
use Rattle.ov_listing.specs.declared.part.Part.TheVariants.{Files, Users}
use Rattle.ov_listing.specs.declared.shown.Shown.{Shown}
use Rattle.ov_listing.specs.declared.shown.Shown.TheVariants.{Gone, Named}

-- bytes that begin with the field of a name
abbrev pub Begins : List ℕ → List ℕ → Type 0
Begins name bytes = (rest : List ℕ) × (bytes ≡ name_field name ++ rest)

-- so they do with more bytes behind them
further : (name bytes more : List ℕ) → Begins name bytes → Begins name (bytes ++ more)
further name bytes more (rest, is) =
    (rest ++ more, ap (λ (b : List ℕ). b ++ more) is ∙ append_assoc (name_field name) rest more)

field_begins : (name : List ℕ) → Begins name (name_field name)
field_begins name = ([], sym (append-nil (name_field name)))

-- the bytes behind a length, as many as it says
pub name_behind : (entry word : List ℕ) → 1 ≤ length entry
    → word ≡ take (get_or entry 0 0) (take (length entry - 1) (drop 1 entry))
    → length word ≡ get_or entry 0 0 → Begins word entry
name_behind [] word low is size = absurd (omega arith)
name_behind (count ∷ bytes) word low is size =
    let all : length (count ∷ bytes) - 1 ≡ length bytes = omega arith in
    let whole : take (length (count ∷ bytes) - 1) bytes ≡ bytes =
    ap (λ (k : ℕ). take k bytes) all ∙ take-length bytes in
    let front : word ≡ take count bytes = is ∙ ap (take count) whole in
    let cut : bytes ≡ word ++ drop count bytes =
    sym (take-append-drop count bytes) ∙ ap (λ (b : List ℕ). b ++ drop count bytes) (sym front) in
    (drop count bytes, ap (λ (n : ℕ). n ∷ bytes) (sym size) ∙ ap (λ (b : List ℕ). length word ∷ b) cut)

-- a name that was read of them
pub read_behind : (entry word : List ℕ) (read : Option (List ℕ)) → IfSome read (λ name. name ≡ word)
    → Begins word entry → IfSome read (λ name. Begins name entry)
read_behind entry word None is begins = tt
read_behind entry word (Some name) is begins =
    subst (λ (n : List ℕ). Begins n entry) (sym is) begins

-- two fields of names begin alike only where the names are the same
same_front : (x y r s : List ℕ) → name_field x ++ r ≡ name_field y ++ s → x ≡ y
same_front x y r s same =
    let size : length x ≡ length y = cc same in
    let rest : x ++ r ≡ y ++ s = cc same in
    sym (take-append_seam x r) ∙ ap (λ (k : ℕ). take k (x ++ r)) size
    ∙ ap (take (length y)) rest ∙ take-append_seam y s

one_name : (x y bytes : List ℕ) → Begins x bytes → Begins y bytes → x ≡ y
one_name x y bytes (r, one) (s, other) = same_front x y r s (sym one ∙ other)

-- where the bytes behind the length are no name, the entry begins with none
pub no_name : (entry word : List ℕ) (read : Option (List ℕ)) → (IsSome read ↔ IsName word)
    → Begins word entry → IfNone read (HasNoName entry)
no_name entry word (Some name) form begins = tt
no_name entry word None form begins = λ name rest named is.
    absurd (cc (form.1 (subst IsName (one_name name word entry (rest, is) begins) named)))

-- ---- users

user_page : (c : Catalogue) (number : ℕ) (name entry rest : List ℕ) (found : Option (List ℕ))
    → page_of (user_entry_of c number found) ≡ Some entry → entry ≡ name_field name ++ rest
    → found ≡ Some name
user_page c number name entry rest None page begins = absurd (cc page)
user_page c number name entry rest (Some x) page begins =
    let bytes = entry_bytes (User x (root_of c.base.sets number) (root_of c.surface.sets number)) in
    let is : bytes ≡ entry = same_Some bytes entry page in
    let front : Begins x bytes =
    further x (name_field x ++ u32 (root_of c.base.sets number)) (u32 (root_of c.surface.sets number))
    (further x (name_field x) (u32 (root_of c.base.sets number)) (field_begins x)) in
    ap Some (one_name x name bytes front (rest, is ∙ begins))

-- the entry of a user is longer than one byte
user_long : (name : List ℕ) (base surface : ℕ) → entry_bytes (User name base surface) ≡ 0 ∷ [] → ⊥
user_long [] base surface is = let long : 9 ≡ 1 = ap length is in omega (arith, long)
user_long (b ∷ name) base surface is =
    let first : suc (length name) ≡ 0 = ap (λ (bytes : List ℕ). get_or bytes 0 0) is in
    omega (arith, first)

no_gone_user : (c : Catalogue) (number : ℕ) (entry : List ℕ) (found : Option (List ℕ))
    → page_of (user_entry_of c number found) ≡ Some entry → entry ≡ 0 ∷ [] → ⊥
no_gone_user c number entry None page is = absurd (cc page)
no_gone_user c number entry (Some x) page is =
    let base = root_of c.base.sets number in
    let surface = root_of c.surface.sets number in
    user_long x base surface (same_Some (entry_bytes (User x base surface)) entry page ∙ is)

no_user : (c : Catalogue) (number : ℕ) (found : Option (List ℕ))
    → page_of (user_entry_of c number found) ≡ None → found ≡ None
no_user c number None page = refl
no_user c number (Some x) page = absurd (cc page)

-- ---- files

-- a file is shown with its name, and one that is gone with none
names_left : (y : Layers) (files : List (Option Filed)) (n : ℕ)
    → slice_get (map (option_map name_of_file) (files_shown y files)) n
    ≡ option_map (option_map (λ (f : Filed). f.name)) (slice_get files n)
names_left y [] n = refl
names_left y (None ∷ files) zero = refl
names_left y (Some f ∷ files) zero = refl
names_left y (f ∷ files) (suc n) = names_left y files n

-- the entry of a file that isn't gone is longer than one byte
file_long : (name : List ℕ) (node len generation : ℕ) (tag : List ℕ) (surface : Option ℕ)
    → entry_bytes (File name node len generation tag surface) ≡ 0 ∷ [] → ⊥
file_long [] node len generation tag surface is = absurd cc
file_long (b ∷ name) node len generation tag surface is =
    let first : suc (length name) ≡ 0 = ap (λ (bytes : List ℕ). get_or bytes 0 0) is in
    omega (arith, first)

file_page : (name entry rest : List ℕ) (found : Option (Option Filed))
    → page_of (file_entry_of found) ≡ Some entry → (entry ≡ 0 ∷ [] → ⊥)
    → entry ≡ name_field name ++ rest
    → (f : Filed) × (found ≡ Some (Some f)) × (f.name ≡ name)
file_page name entry rest None page other begins = absurd (cc page)
file_page name entry rest (Some None) page other begins =
    absurd (other (sym (same_Some (0 ∷ []) entry page)))
file_page name entry rest (Some (Some f)) page other begins =
    let bytes = entry_bytes (File f.name f.node f.length f.generation f.tag f.surface) in
    let is : bytes ≡ entry = same_Some bytes entry page in
    let head = name_field f.name in
    let one = further f.name head (u32 f.node) (field_begins f.name) in
    let two = further f.name (head ++ u32 f.node) (u32 f.length) one in
    let three = further f.name (head ++ u32 f.node ++ u32 f.length) (u32 f.generation) two in
    let four = further f.name (head ++ u32 f.node ++ u32 f.length ++ u32 f.generation) f.tag three in
    let front : Begins f.name bytes =
    further f.name (head ++ u32 f.node ++ u32 f.length ++ u32 f.generation ++ f.tag)
    (optional u32 f.surface) four in
    (f, refl, one_name f.name name bytes front (rest, is ∙ begins))

gone_page : (entry : List ℕ) (found : Option (Option Filed))
    → page_of (file_entry_of found) ≡ Some entry → entry ≡ 0 ∷ [] → found ≡ Some None
gone_page entry None page is = absurd (cc page)
gone_page entry (Some None) page is = refl
gone_page entry (Some (Some f)) page is =
    let bytes = entry_bytes (File f.name f.node f.length f.generation f.tag f.surface) in
    absurd (file_long f.name f.node f.length f.generation f.tag f.surface
    (same_Some bytes entry page ∙ is))

no_file : (found : Option (Option Filed)) → page_of (file_entry_of found) ≡ None → found ≡ None
no_file None page = refl
no_file (Some None) page = absurd (cc page)
no_file (Some (Some f)) page = absurd (cc page)

-- ---- both

-- by what is found, what is shown
abbrev left_at : Catalogue → ℕ → Option (Option Filed) → Type 0
left_at c number found =
    slice_get (names_by_number Files (matrix_shown c)) number
    ≡ option_map (option_map (λ (f : Filed). f.name)) found

left : (c : Catalogue) (number : ℕ) (found : Option (Option Filed))
    → slice_get c.files number ≡ found → left_at c number found
left c number found is = subst (left_at c number) is (names_left (outline c) c.files number)

pub page_shown : (part : Part) (c : Catalogue) (number : ℕ) (shown : Shown) (entry : List ℕ)
    → page_of (entry_of c (part_number part) number) ≡ Some entry → ShownBy entry (Some shown)
    → slice_get (names_by_number part (matrix_shown c)) number ≡ Some (name_shown shown)
page_shown Users c number Gone entry page is =
    absurd (no_gone_user c number entry (slice_get c.users number) page is)
page_shown Users c number (Named name) entry page (other, rest, begins) =
    slice_get-map Some c.users number
    ∙ ap (λ (o : Option (List ℕ)). option_map Some o)
    (user_page c number name entry rest (slice_get c.users number) page begins)
page_shown Files c number Gone entry page is =
    left c number (Some None) (gone_page entry (slice_get c.files number) page is)
page_shown Files c number (Named name) entry page (other, rest, begins) =
    let (f, is, same) = file_page name entry rest (slice_get c.files number) page other begins in
    left c number (Some (Some f)) is ∙ ap (λ (n : List ℕ). Some (Some n)) same

-- there is no page just where nothing has the number
pub no_page : (part : Part) (c : Catalogue) (number : ℕ)
    → page_of (entry_of c (part_number part) number) ≡ None
    → slice_get (names_by_number part (matrix_shown c)) number ≡ None
no_page Users c number page =
    slice_get-map Some c.users number
    ∙ ap (λ (o : Option (List ℕ)). option_map Some o)
    (no_user c number (slice_get c.users number) page)
no_page Files c number page = left c number None (no_file (slice_get c.files number) page)
