-- The bytes below the index are XORed, and those from it on are as they were.
use Rattle.std.proofs.Common.{◌≡◌, ◌++◌, map, take, drop, bit_xor}
use Rattle.ov_keyed.proofs.key_block.padded.Given as goal

abbrev pub invariant-loop-place : goal.invariant-loop-place
invariant-loop-place l =
    let block = l.initial.place-items in
    l.place-items ≡ map (λ b. bit_xor b l.byte) (take l.place-index block) ++ drop l.place-index block
