-- The laws of the two coats.
use Rattle.std.proofs.Common.{◌≡◌, ◌∙◌, ℕ, ◌+◌, List, [], ◌∷◌, ◌++◌, length, bit_xor, Some, None, Option, ap, refl, sym}
use lib.Bits.{xor_assoc, xor_comm}
use Rattle.ov_ctr.specs.Ctr.{pad_byte, xor_pad}
use Rattle.ov_ctr.proofs.Pad.{length-xor_pad, xor_pad-append, xor_pad-xor_pad}
use Rattle.ov_surface.specs.Coats.{base_coat, coated}

-- two numbers are XORed to a third in either order
xor_swap : (b p q : ℕ) → bit_xor (bit_xor b p) q ≡ bit_xor (bit_xor b q) p
xor_swap b p q = xor_assoc b p q ∙ ap (bit_xor b) (xor_comm p q) ∙ sym (xor_assoc b q p)

-- two pads are laid in either order
pub xor_pad-swap : (key key' : List ℕ) (tag tag' file start : ℕ) (bytes : List ℕ)
    → xor_pad key tag file start (xor_pad key' tag' file start bytes)
    ≡ xor_pad key' tag' file start (xor_pad key tag file start bytes)
unfolding xor_pad
xor_pad-swap key key' tag tag' file start [] = refl
xor_pad-swap key key' tag tag' file start (b ∷ bytes) =
    rw (
      xor_swap b (pad_byte key' tag' file start) (pad_byte key tag file start),
      xor_pad-swap key key' tag tag' file (start + 1) bytes,
    ) refl

pub coated-coated : (surface : Option (List ℕ)) (file start : ℕ) (bytes : List ℕ)
    → coated surface file start (coated surface file start bytes) ≡ bytes
coated-coated None file start bytes = refl
coated-coated (Some key) file start bytes = xor_pad-xor_pad key 0x53 file start bytes

pub base_coat-coated : (access : List ℕ) (surface : Option (List ℕ)) (file start : ℕ) (bytes : List ℕ)
    → base_coat access file start (coated surface file start bytes)
    ≡ coated surface file start (base_coat access file start bytes)
base_coat-coated access None file start bytes = refl
base_coat-coated access (Some key) file start bytes =
    xor_pad-swap access key 0x42 0x53 file start bytes

pub both_come_off : (access : List ℕ) (surface : Option (List ℕ)) (file start : ℕ) (plain : List ℕ)
    → base_coat access file start
    (coated surface file start (coated surface file start (base_coat access file start plain)))
    ≡ plain
both_come_off access surface file start plain =
    ap (base_coat access file start) (coated-coated surface file start (base_coat access file start plain))
    ∙ xor_pad-xor_pad access 0x42 file start plain

pub length-coated : (surface : Option (List ℕ)) (file start : ℕ) (bytes : List ℕ)
    → length (coated surface file start bytes) ≡ length bytes
length-coated None file start bytes = refl
length-coated (Some key) file start bytes = length-xor_pad key 0x53 file start bytes

pub coated-append : (surface : Option (List ℕ)) (file start : ℕ) (front back : List ℕ)
    → coated surface file start (front ++ back)
    ≡ coated surface file start front ++ coated surface file (start + length front) back
coated-append None file start front back = refl
coated-append (Some key) file start front back = xor_pad-append key 0x53 file start front back

-- bytes with an old coat, which are coated again and then with a new coat, have the new coat alone
pub recoated : (old new : Option (List ℕ)) (file start : ℕ) (before bare after text : List ℕ)
    → bare ≡ coated old file start before
    → after ≡ coated new file start bare
    → before ≡ coated old file start text
    → after ≡ coated new file start text
recoated old new file start before bare after text off on is =
    on ∙ ap (coated new file start)
    (off ∙ ap (coated old file start) is ∙ coated-coated old file start text)
