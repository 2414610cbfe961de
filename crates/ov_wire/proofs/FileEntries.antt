-- The reader of a file's entry reads exactly those of files, and the byte 0 of one that is gone.
use Rattle.std.proofs.Common.{◌≡◌, ℕ, zero, suc, ◌+◌, ◌*◌, ◌^◌, ◌<◌, ◌≤◌, List, [], ◌∷◌, ◌++◌, length, Option, Ok, Err, refl, ap, subst, ◌∙◌, arith}
use Rattle.std.specs.Prelude.{IfSome}
use Rattle.ov_base.specs.declared.limits.TheConstants.{MAX_USERS, MAX_FILE_BYTES, SET_BYTES}
use Rattle.ov_base.specs.Names.{IsName}
use Rattle.ov_fields.specs.Spelling.{name_field, optional, u32}
use Rattle.ov_fields.specs.Reading.{made, making}
use Rattle.ov_fields.proofs.ReadingLaws.{AreBytes, Reads, then_reads, made_into, ok_is}
use Rattle.ov_fields.proofs.FieldLaws.{bytes_reads, number_reads, wide32}
use Rattle.ov_fields.proofs.ListLaws.{optional_reads, Reads-more}
use Rattle.ov_fields.proofs.NameLaws.{name_reads}
use Rattle.ov_wire.specs.Entries.{Entry, User, Node, Access, File, Gone, entry_bytes, IsNode, IsOfPart, filed_at, file_entry_at, file, file_or_gone_at}
use Rattle.ov_wire.proofs.NumberLaws.{node_reads, at_most_reads}

-- no entry has more bytes than that of a node with the most edges
abbrev pub longest_entry : ℕ
longest_entry = SET_BYTES + (2 + MAX_USERS * (4 + 32))

-- ---- the fields behind a name

abbrev pub FiledFields : Type 0
FiledFields = (((ℕ × ℕ) × ℕ) × List ℕ) × Option ℕ

abbrev pub filed_fields : FiledFields → List ℕ
filed_fields f = u32 f.0.0.0.0 ++ u32 f.0.0.0.1 ++ u32 f.0.0.1 ++ f.0.1 ++ optional u32 f.1

abbrev pub FiledFits : FiledFields → Type 0
FiledFits f =
    (((IsNode f.0.0.0.0 × (f.0.0.0.1 ≤ MAX_FILE_BYTES)) × (f.0.0.1 < 2 ^ 32)) × (length f.0.1 ≡ 32)) × IfSome f.1 IsNode

pub filed_reads : Reads filed_at filed_fields FiledFits (4 + 4 + 4 + 32 + (1 + 4))
filed_reads =
    then_reads (then_reads (then_reads (then_reads node_reads (at_most_reads MAX_FILE_BYTES (omega arith))) (number_reads wide32)) (bytes_reads 32)) (optional_reads node_reads)

-- ---- a file

abbrev pub FileFields : Type 0
FileFields = List ℕ × FiledFields

abbrev pub FileFits : FileFields → Type 0
FileFits f = IsName f.0 × FiledFits f.1

-- an entry of a file that isn't gone
abbrev pub IsFile : Entry → Type 0
IsFile (File name n len generation tag surface) = IsOfPart 5 (File name n len generation tag surface)
IsFile e = ⊥

pub file_is : (e : Entry) → IsFile e → IsOfPart 5 e
file_is (User name base_root surface_root) is = absurd is
file_is (Node set edges) is = absurd is
file_is (Access u n token) is = absurd is
file_is (File name n len generation tag surface) is = is
file_is Gone is = absurd is

-- fields behind a name, one after the other
name_first : (a b c d e f : List ℕ) → a ++ (b ++ c ++ d ++ e ++ f) ≡ a ++ b ++ c ++ d ++ e ++ f
name_first [] b c d e f = refl
name_first (x ∷ a) b c d e f = ap (λ (l : List ℕ). x ∷ l) (name_first a b c d e f)

pub file_spelled : (f : FileFields) → name_field f.0 ++ filed_fields f.1 ≡ entry_bytes (file f)
file_spelled f = name_first (name_field f.0) (u32 f.1.0.0.0.0) (u32 f.1.0.0.0.1) (u32 f.1.0.0.1) f.1.0.1 (optional u32 f.1.1)

pub file_fits : (f : FileFields) → FileFits f → IsFile (file f)
file_fits f fits = (fits.0, fits.1.0.0.0.0, fits.1.0.0.0.1, fits.1.0.0.1, fits.1.0.1, fits.1.1)

back_file : (e : Entry) → IsFile e → (f : FileFields) × FileFits f × (file f ≡ e)
back_file (User name base_root surface_root) is = absurd is
back_file (Node set edges) is = absurd is
back_file (Access u n token) is = absurd is
back_file (File name n len generation tag surface) is =
    ((name, ((((n, len), generation), tag), surface)), (is.0, ((((is.1, is.2), is.3), is.4), is.5)), refl)
back_file Gone is = absurd is

file_reads : Reads (making file file_entry_at) entry_bytes IsFile longest_entry
file_reads =
    Reads-more
    (made_into file entry_bytes IsFile (then_reads name_reads filed_reads) file_fits (λ f fits. file_spelled f) back_file)
    longest_entry (omega arith)

-- ---- a file, or one that is gone

-- the bytes don't begin with 0
abbrev pub StartsNonzero : List ℕ → Type 0
StartsNonzero [] = Unit {0}
StartsNonzero (zero ∷ bytes) = ⊥
StartsNonzero (suc b ∷ bytes) = Unit {0}

-- of such bytes a file is read
pub file_read : (bytes : List ℕ) → StartsNonzero bytes → file_or_gone_at bytes ≡ made file (file_entry_at bytes)
unfolding file_or_gone_at
file_read [] starts = refl
file_read (zero ∷ bytes) starts = absurd starts
file_read (suc b ∷ bytes) starts = refl

-- the field of a name starts so
pub name_starts : (name more : List ℕ) → IsName name → StartsNonzero (name_field name ++ more)
name_starts [] more is = absurd cc
name_starts (b ∷ name) more is = tt

-- and the entry of a file with it
file_starts : (name : List ℕ) (n len generation : ℕ) (tag : List ℕ) (surface : Option ℕ) (rest : List ℕ) → IsName name
    → StartsNonzero (entry_bytes (File name n len generation tag surface) ++ rest)
file_starts [] n len generation tag surface rest is = absurd cc
file_starts (b ∷ name) n len generation tag surface rest is = tt

gone_or_takes : (bytes : List ℕ) (x : Entry × List ℕ) → AreBytes bytes → file_or_gone_at bytes ≡ Ok x
    → IsOfPart 5 x.0 × (bytes ≡ entry_bytes x.0 ++ x.1)
unfolding file_or_gone_at
gone_or_takes [] x fits e = let t = file_reads.takes [] x fits e in (file_is x.0 t.0, t.1)
gone_or_takes (zero ∷ bytes) x fits e =
    subst (λ (y : Entry × List ℕ). IsOfPart 5 y.0 × (zero ∷ bytes ≡ entry_bytes y.0 ++ y.1)) (ok_is (Gone, bytes) x e) (tt, refl)
gone_or_takes (suc b ∷ bytes) x fits e = let t = file_reads.takes (suc b ∷ bytes) x fits e in (file_is x.0 t.0, t.1)

gone_or_again : (e : Entry) (rest : List ℕ) → IsOfPart 5 e → file_or_gone_at (entry_bytes e ++ rest) ≡ Ok (e, rest)
unfolding file_or_gone_at
gone_or_again (User name base_root surface_root) rest is = absurd is
gone_or_again (Node set edges) rest is = absurd is
gone_or_again (Access u n token) rest is = absurd is
gone_or_again (File name n len generation tag surface) rest is =
    file_read (entry_bytes (File name n len generation tag surface) ++ rest) (file_starts name n len generation tag surface rest is.0)
    ∙ file_reads.again (File name n len generation tag surface) rest is
gone_or_again Gone rest is = refl

gone_or_near : (bytes : List ℕ) (left : ℕ) → AreBytes bytes → file_or_gone_at bytes ≡ Err left
    → (left ≤ length bytes) × (length bytes ≤ left + longest_entry)
unfolding file_or_gone_at
gone_or_near [] left fits e = file_reads.near [] left fits e
gone_or_near (zero ∷ bytes) left fits e = absurd cc
gone_or_near (suc b ∷ bytes) left fits e = file_reads.near (suc b ∷ bytes) left fits e

gone_or_short : (e : Entry) → IsOfPart 5 e → length (entry_bytes e) ≤ longest_entry
gone_or_short (User name base_root surface_root) is = absurd is
gone_or_short (Node set edges) is = absurd is
gone_or_short (Access u n token) is = absurd is
gone_or_short (File name n len generation tag surface) is = file_reads.short (File name n len generation tag surface) is
gone_or_short Gone is = omega arith

pub file_or_gone_reads : Reads file_or_gone_at entry_bytes (IsOfPart 5) longest_entry
file_or_gone_reads = record {
  takes = gone_or_takes;
  again = gone_or_again;
  near = gone_or_near;
  short = gone_or_short;
}
