-- Both coats come off chunk by chunk.
use Rattle.std.proofs.Common.{◌≡◌, ◌∙◌, ◌+◌, ℕ, List, ◌++◌, length, ap}
use Rattle.ov_ctr.proofs.Pad.{length-xor_pad, xor_pad-append}
use Rattle.ov_surface.specs.Coats.{base_coat, coated}
use Rattle.ov_surface.proofs.CoatLaws.{coated-append, length-coated}
use Rattle.ov_client.specs.Readers.{FileKeys, uncovered}

module _ (keys : FileKeys) (file : ℕ) where
  pub length-uncovered : (start : ℕ) (bytes : List ℕ)
      → length (uncovered keys file start bytes) ≡ length bytes
  length-uncovered start bytes =
      length-xor_pad keys.access 0x42 file start (coated keys.surface file start bytes)
      ∙ length-coated keys.surface file start bytes

  -- off a front and off what follows it
  pub uncovered-append : (start : ℕ) (front back : List ℕ)
      → uncovered keys file start (front ++ back)
      ≡ uncovered keys file start front ++ uncovered keys file (start + length front) back
  uncovered-append start front back =
      ap (λ (bytes : List ℕ). base_coat keys.access file start bytes)
      (coated-append keys.surface file start front back)
      ∙ xor_pad-append keys.access 0x42 file start (coated keys.surface file start front)
      (coated keys.surface file (start + length front) back)
      ∙ ap
      (λ (n : ℕ). uncovered keys file start front
      ++ base_coat keys.access file (start + n)
      (coated keys.surface file (start + length front) back))
      (length-coated keys.surface file start front)
