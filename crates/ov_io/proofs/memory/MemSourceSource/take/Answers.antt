use Rattle.std.proofs.Common.{◌≡◌, ◌≤◌, sym, ap, ◌∙◌, drop, take, length, min, arith}
use Rattle.std.proofs.lemmas.Grind.{common_steps}
use Rattle.std.proofs.lemmas.List.{length-take}
use Rattle.ov_io.specs.Memory.{Reads}
use Rattle.ov_io.proofs.Known.{drop_consumed}
use Rattle.ov_io.proofs.memory.MemSourceSource.take.Goals as goal

pub returns-clause-bytes : goal.returns-clause-bytes
returns-clause-bytes c =
    let told : c.args.self.now.left ≡ drop c.self.inside.given c.self.inside.bytes = sym (ap (λ (r : Reads). r.left) c.self.view_is) in
    (told ∙ rw (← c.as_slice.ensures) (drop_consumed _ _ _ _ _ c.split_at.ensures.back c.give-count.ensures.bytes), λ none room. grind (arith, common_steps))

pub returns-clause-step : goal.returns-clause-step
returns-clause-step c =
    let told : c.args.self.now.left ≡ drop c.self.inside.given c.self.inside.bytes = sym (ap (λ (r : Reads). r.left) c.self.view_is) in
    let count : c.give-count.result ≤ c.self.inside.piece = grind (arith, common_steps) in record {
      piece = grind (arith, common_steps);
      fails = grind (arith, common_steps);
      calls = grind (arith, common_steps);
      given = (
        take c.give-count.result c.give-count.new.to,
        let size : length (take c.give-count.result c.give-count.new.to) ≡ min c.give-count.result (length c.give-count.new.to)
            = length-take c.give-count.result c.give-count.new.to in
            let piece : c.args.self.now.piece ≡ c.self.inside.piece = sym (ap (λ (r : Reads). r.piece) c.self.view_is) in
            omega (arith, size, count, piece),
        told ∙ rw (← c.as_slice.ensures) (drop_consumed _ _ _ _ _ c.split_at.ensures.back c.give-count.ensures.bytes),
      );
    }
