-- The laws of bytes under other surfaces.
use Rattle.std.specs.Prelude.{◌≡◌, ℕ, ◌+◌, ◌<◌, ◌≤◌, List, [], ◌∷◌, length, slice_index, Contains}
use Rattle.ov_history.specs.Rewrites.{Rewrite, restored}
use Rattle.ov_recoat.specs.Recoats.{recoat_byte, recoated}

-- each of a file's new bytes is what its rewrite makes of the byte at its place
abbrev pub FilesRecoatByBytes : Type 0
FilesRecoatByBytes =
    (master : List ℕ) (r : Rewrite) (bytes : List ℕ) (place : ℕ) → place < length bytes
    → slice_index (restored master r.old r.new r.file bytes) place
    ≡ recoat_byte master r place (slice_index bytes place)

-- they are as many as before
abbrev pub FilesKeepLength : Type 0
FilesKeepLength =
    (master : List ℕ) (r : Rewrite) (bytes : List ℕ)
    → length (restored master r.old r.new r.file bytes) ≡ length bytes

-- the files of these rewrites ascend, from this number on
abbrev pub Ascend : ℕ → List Rewrite → Type 0
Ascend number [] = Unit {0}
Ascend number (r ∷ rewrites) = (number ≤ r.file) × Ascend (r.file + 1) rewrites

-- where files ascend, each rewrite says what becomes of the bytes of its own file
abbrev pub EachHasItsRewrite : Type 0
EachHasItsRewrite =
    (master : List ℕ) (number : ℕ) (rewrites : List Rewrite) (r : Rewrite) (place byte : ℕ)
    → Ascend number rewrites → Contains rewrites r
    → recoated master rewrites r.file place byte ≡ recoat_byte master r place byte
