use Rattle.std.proofs.Common.{◌≡◌, ℕ, ◌<◌, ◌≤◌, ◌+◌, ◌-◌, ◌*◌, ◌%◌, ◌∙◌, [], length, get_or, bit_xor, arith, drop, take, length-take, length-drop}
use Rattle.std.proofs.lemmas.List.{get_or-drop, get_or-take}
use Rattle.ov_aes.specs.Aes.{aes256}
use Rattle.ov_aes.specs.Fronts.{IsFrontOf, with_last}
use Rattle.ov_ctr.specs.Ctr.{counter_block, pad_byte}
use Rattle.ov_ctr.proofs.Groups.{after_part, length_part, one_more_group, pad_of_group}
use Rattle.ov_ctr.proofs.four.apply_groups.Goals as goal

pub loop-g-preserved : goal.loop-g-preserved
loop-g-preserved c =
    let key = c.args.aes.now in
    let tag = c.args.tag in
    let file = c.args.file in
    let n = c.args.number in
    let g = c.loop-g.g in
    let old = c.args.piece.now in
    let now = c.loop-g.piece in
    let new = c.add_four.new.piece in
    let size : 64 * g + 64 - 64 * g ≡ 64 = omega arith in
    let room : 64 * g + 64 ≤ length old = omega (arith, c.loop-g-test.true) in
    let given : length (take (64 * g + 64 - 64 * g) (drop (64 * g) now)) ≡ 64 = simp (length-take, length-drop) (omega (arith, c.loop-g.invariant.long)) in
    let long : length new ≡ 64 = c.add_four.auto.piece ∙ given in
    let front : IsFrontOf c.front-front.result key (counter_block tag file n) = rw (← c.counter_block.ensures) c.front-front.ensures in
    let pads : (m : ℕ) → m < 4 → get_or c.four_blocks-pads.result m [] ≡ aes256 key (with_last (counter_block tag file n) (n % 256 + 4 * g + m))
    = λ m lm. c.four_blocks-pads.ensures (counter_block tag file n) m front lm in
    let group : (i : ℕ) → i < 64 → get_or new i 0 ≡ bit_xor (get_or now (64 * g + i) 0) (pad_byte key tag file (16 * n + (64 * g + i)))
    = λ i li. c.add_four.ensures i li
    ∙ (λ j. bit_xor ((get_or-take (64 * g + 64 - 64 * g) (drop (64 * g) now) i 0 (omega arith) ∙ get_or-drop (64 * g) now i 0) j)
    (pad_of_group key tag file n g c.four_blocks-pads.result i pads (omega (arith, c.requires.last, room)) li j)) in
    rw size record {
      long = length_part (64 * g) 64 now new long (omega (arith, room, c.loop-g.invariant.long)) ∙ c.loop-g.invariant.long;
      before = λ k lt. one_more_group old now new (λ i. pad_byte key tag file (16 * n + i)) g k c.loop-g.invariant.long room long
          c.loop-g.invariant.before c.loop-g.invariant.after group lt;
      after = λ k ge. after_part (64 * g) 64 now new k (omega (arith, ge)) long (omega (arith, room, c.loop-g.invariant.long)) ∙ c.loop-g.invariant.after k (omega (arith, ge));
    }
