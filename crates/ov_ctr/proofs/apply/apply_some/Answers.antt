use Rattle.std.proofs.Common.{◌≡◌, ◌+◌, ◌-◌, ◌*◌, ◌/◌, ◌%◌, ◌∙◌, ap, arith, bit_xor, drop, get_or, length, length-take, refl, take}
use Rattle.std.proofs.lemmas.List.{get_or-append_right, get_or-drop, get_or-take, get_or_append_left}
use Rattle.ov_ctr.proofs.Places.{pad_in_block}
use Rattle.ov_ctr.proofs.apply.apply_some.Goals as goal

pub returns-then-groups-gt0 : goal.returns-then-groups-gt0
returns-then-groups-gt0 c =
    let old = c.args.rest.now in
    let n = 64 * c.min-groups.result in
    let new = c.apply_groups.new.piece in
    let count : c.min-groups.result ≡ _ = c.min-groups.ensures in
    let given : length (take n old) ≡ n = simp length-take (omega (arith, count)) in
    let long : length new ≡ n = c.apply_groups.auto.piece ∙ given in
    record {
      some = omega arith;
      within = omega (arith, count);
      applied = λ i lt.
          let place : 16 * (c.args.place / 16) + i ≡ c.args.place + i = omega arith in
          let from = get_or-take n old i 0 lt in
          get_or_append_left new (drop n old) 0 i (omega (arith, long)) ∙ c.apply_groups.ensures i (omega (arith, given)) ∙ rw (from, place) refl;
      after = λ i ge.
          let place : n + (i - n) ≡ i = omega arith in
          get_or-append_right new (drop n old) n i 0 long ge ∙ get_or-drop n old (i - n) 0 ∙ ap (λ k. get_or old k 0) place;
    }

pub returns-else-place-eq0 : goal.returns-else-place-eq0
returns-else-place-eq0 c = record {
  some = omega (arith, c.add_within.ensures.count);
  within = omega (arith, c.add_within.ensures.count);
  applied = λ i lt.
      let old = get_or c.args.rest.now i 0 in
      let pad = pad_in_block c.args.aes.now c.counter_block-counter.result c.args.tag c.args.file c.args.place i c.counter_block-counter.ensures (omega (arith, lt, c.add_within.ensures.count)) in
      c.add_within.ensures.added i lt
      ∙ ap (λ pads. bit_xor old (get_or pads (c.args.place % 16 + i) 0)) c.block.ensures
      ∙ ap (bit_xor old) pad;
  after = c.add_within.ensures.after;
}
