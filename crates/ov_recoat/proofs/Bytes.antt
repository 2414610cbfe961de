-- The bytes of files under other surfaces.
use Rattle.std.proofs.Common.{◌≡◌, inl, inr, ℕ, zero, suc, ◌+◌, ◌<◌, ◌≤◌, List, [], ◌∷◌, length, get_or, refl, sym, ◌∙◌, ap, arith}
use Rattle.std.proofs.lemmas.Bool.{eq-eqb}
use Rattle.std.proofs.lemmas.Bool.Decides.{eqb_tells}
use Rattle.std.specs.Prelude.{Bool, true, false, ◌==◌, cond, Option, Some, None, Contains}
use Rattle.ov_ctr.proofs.Pad.{get_or-xor_pad}
use Rattle.ov_surface.specs.Coats.{coated}
use Rattle.ov_surface.proofs.CoatLaws.{length-coated}
use Rattle.ov_history.specs.Rewrites.{Rewrite, surface_key}
use Rattle.ov_recoat.specs.Finding.{first_of}
use Rattle.ov_recoat.specs.Laws.{Ascend, EachHasItsRewrite, FilesKeepLength, FilesRecoatByBytes}
use Rattle.ov_recoat.specs.Recoats.{coat_byte, recoat_byte, recoated}
use Rattle.ov_recoat.proofs.Finding.{first_here, first_later}

-- a byte of a piece with a coat laid
pub get_or-coated : (key : Option (List ℕ)) (file start : ℕ) (bytes : List ℕ) (k : ℕ) → k < length bytes
    → get_or (coated key file start bytes) k 0 ≡ coat_byte key file (start + k) (get_or bytes k 0)
get_or-coated None file start bytes k lt = refl
get_or-coated (Some key) file start bytes k lt = get_or-xor_pad key 0x53 file start bytes k lt

-- a byte of a piece with one coat taken off and another laid
pub get_or-recoated : (master : List ℕ) (r : Rewrite) (start : ℕ) (bytes : List ℕ) (k : ℕ) → k < length bytes
    → get_or (coated (surface_key master r.new) r.file start (coated (surface_key master r.old) r.file start bytes)) k 0
    ≡ recoat_byte master r (start + k) (get_or bytes k 0)
get_or-recoated master r start bytes k lt =
    let bare : List ℕ = coated (surface_key master r.old) r.file start bytes in
    get_or-coated (surface_key master r.new) r.file start bare k
    (omega (arith, lt, length-coated (surface_key master r.old) r.file start bytes))
    ∙ ap (coat_byte (surface_key master r.new) r.file (start + k))
    (get_or-coated (surface_key master r.old) r.file start bytes k lt)

pub files_recoat : FilesRecoatByBytes
files_recoat master r bytes place lt =
    get_or-recoated master r 0 bytes place lt
    ∙ ap (λ n. recoat_byte master r n (get_or bytes place 0)) (omega arith)

pub files_keep_length : FilesKeepLength
files_keep_length master r bytes =
    length-coated (surface_key master r.new) r.file 0 (coated (surface_key master r.old) r.file 0 bytes)
    ∙ length-coated (surface_key master r.old) r.file 0 bytes

-- ---- the rewrite of a file

-- those of files that ascend are of no file below
pub above : (number : ℕ) (rewrites : List Rewrite) (r : Rewrite) → Ascend number rewrites → Contains rewrites r → number ≤ r.file
above number [] r all (k, lt, is) = absurd (omega (arith, lt))
above number (x ∷ rewrites) r all (zero, lt, is) = omega (arith, all.0, ap (λ (y : Rewrite). y.file) is)
above number (x ∷ rewrites) r all (suc k, lt, is) =
    omega (arith, all.0, above (x.file + 1) rewrites r all.1 (k, omega (arith, lt), is))

-- the first of these rewrites is of the file, or it isn't
here : (master : List ℕ) (r : Rewrite) (rewrites : List Rewrite) (file place byte : ℕ) → (r.file == file) ≡ true
    → recoated master (r ∷ rewrites) file place byte ≡ recoat_byte master r place byte
here master r rewrites file place byte same =
    ap (λ (b : Bool). cond b (recoat_byte master r place byte) (recoated master rewrites file place byte)) same

later : (master : List ℕ) (r : Rewrite) (rewrites : List Rewrite) (file place byte : ℕ) → (r.file == file) ≡ false
    → recoated master (r ∷ rewrites) file place byte ≡ recoated master rewrites file place byte
later master r rewrites file place byte other =
    ap (λ (b : Bool). cond b (recoat_byte master r place byte) (recoated master rewrites file place byte)) other

pub each_has : EachHasItsRewrite
each_has master number [] r place byte all (k, lt, is) = absurd (omega (arith, lt))
each_has master number (x ∷ rewrites) r place byte all (zero, lt, is) =
    here master x rewrites r.file place byte
    (eq-eqb x.file r.file (ap (λ (y : Rewrite). y.file) is))
    ∙ ap (λ (y : Rewrite). recoat_byte master y place byte) is
each_has master number (x ∷ rewrites) r place byte all (suc k, lt, is) =
    let low : x.file < r.file =
    omega (arith, above (x.file + 1) rewrites r all.1 (k, omega (arith, lt), is)) in
    elim (eqb_tells x.file r.file) [
      | inl same ↦ absurd (omega (arith, low, same.1))
      | inr other ↦
          later master x rewrites r.file place byte other.0
          ∙ each_has master (x.file + 1) rewrites r place byte all.1 (k, omega (arith, lt), is)
    ]

-- ---- the first rewrite of a file

-- what this rewrite makes of a byte, which stays where there is none
abbrev by_one : List ℕ → Option Rewrite → ℕ → ℕ → ℕ
by_one master None place byte = byte
by_one master (Some r) place byte = recoat_byte master r place byte

-- what becomes of the bytes of a file is what its first rewrite makes of them
by_first : (master : List ℕ) (rewrites : List Rewrite) (file place byte : ℕ)
    → recoated master rewrites file place byte ≡ by_one master (first_of rewrites file) place byte
by_first master [] file place byte = refl
by_first master (r ∷ rewrites) file place byte = elim (eqb_tells r.file file) [
  | inl same ↦
      here master r rewrites file place byte same.0
      ∙ sym (ap (λ (o : Option Rewrite). by_one master o place byte) (first_here r rewrites file same.0))
  | inr other ↦
      later master r rewrites file place byte other.0
      ∙ by_first master rewrites file place byte
      ∙ sym (ap (λ (o : Option Rewrite). by_one master o place byte) (first_later r rewrites file other.0))
]

pub recoated_some : (master : List ℕ) (rewrites : List Rewrite) (file : ℕ) (r : Rewrite) (place byte : ℕ)
    → first_of rewrites file ≡ Some r → recoated master rewrites file place byte ≡ recoat_byte master r place byte
recoated_some master rewrites file r place byte is =
    by_first master rewrites file place byte ∙ ap (λ (o : Option Rewrite). by_one master o place byte) is

pub recoated_none : (master : List ℕ) (rewrites : List Rewrite) (file place byte : ℕ)
    → first_of rewrites file ≡ None → recoated master rewrites file place byte ≡ byte
recoated_none master rewrites file place byte is =
    by_first master rewrites file place byte ∙ ap (λ (o : Option Rewrite). by_one master o place byte) is

-- ---- a piece

pub piece : (master : List ℕ) (r : Rewrite) (start n : ℕ) (bytes after : List ℕ) (old new : Option (List ℕ)) (k : ℕ)
    → n ≡ start → old ≡ surface_key master r.old → new ≡ surface_key master r.new
    → after ≡ coated new r.file n (coated old r.file n bytes) → k < length bytes
    → get_or after k 0 ≡ recoat_byte master r (start + k) (get_or bytes k 0)
piece master r start n bytes after old new k at off on is lt =
    ap (λ (bs : List ℕ). get_or bs k 0)
    (is
    ∙ ap (λ (m : ℕ). coated new r.file m (coated old r.file m bytes)) at
    ∙ ap (λ (key : Option (List ℕ)). coated key r.file start (coated old r.file start bytes)) on
    ∙ ap (λ (key : Option (List ℕ)). coated (surface_key master r.new) r.file start (coated key r.file start bytes)) off)
    ∙ get_or-recoated master r start bytes k lt
