-- The laws of the two coats, for every key, file and place.
use Rattle.std.specs.Prelude.{◌≡◌, ℕ, ◌+◌, List, ◌++◌, length, Option}
use Rattle.ov_surface.specs.Coats.{base_coat, coated}

-- a coat that is laid and laid again comes off
abbrev pub CoatsComeOff : Type 0
CoatsComeOff = (surface : Option (List ℕ)) (file start : ℕ) (bytes : List ℕ)
    → coated surface file start (coated surface file start bytes) ≡ bytes

-- the two coats may be laid in either order
abbrev pub CoatsCommute : Type 0
CoatsCommute = (access : List ℕ) (surface : Option (List ℕ)) (file start : ℕ) (bytes : List ℕ)
    → base_coat access file start (coated surface file start bytes)
    ≡ coated surface file start (base_coat access file start bytes)

-- both coats of a file's bytes, laid again in either order, leave the plaintext
abbrev pub BothComeOff : Type 0
BothComeOff = (access : List ℕ) (surface : Option (List ℕ)) (file start : ℕ) (plain : List ℕ)
    → base_coat access file start
    (coated surface file start (coated surface file start (base_coat access file start plain)))
    ≡ plain

-- a coat keeps the number of bytes
abbrev pub CoatsKeepLength : Type 0
CoatsKeepLength = (surface : Option (List ℕ)) (file start : ℕ) (bytes : List ℕ)
    → length (coated surface file start bytes) ≡ length bytes

-- the coat of a whole is that of its parts, each from its own place on
abbrev pub CoatsTakeParts : Type 0
CoatsTakeParts = (surface : Option (List ℕ)) (file start : ℕ) (front back : List ℕ)
    → coated surface file start (front ++ back)
    ≡ coated surface file start front ++ coated surface file (start + length front) back
