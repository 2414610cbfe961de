use Rattle.std.proofs.Common.{◌≡◌, ◌≤◌, ◌+◌, ◌∙◌, ap, take, drop, length, arith}
use Rattle.std.proofs.lemmas.Grind.{common_steps}
use Rattle.ov_script.specs.Feed.{Fed}
use Rattle.ov_script.proofs.Bytes.{front_grown}
use Rattle.ov_script.proofs.feed.Feed.fill.Goals as goal

pub returns-clause-taken : goal.returns-clause-taken
returns-clause-taken g c =
    let moved = c.move_to_front-self-inside in
    let was : take moved.result moved.new.buffer.items ≡ c.args.self.now.pending = moved.ensures.kept ∙ ap (λ (f : Fed _). f.pending) c.self.view_is in
    let len = c.in_ok-count.ensures.kept.0 in
    let fits = c.in_ok-count.ensures.taken.2 in
    let within : moved.result + c.in_ok-count.count ≤ length c.take_behind.new.buffer.items = grind (arith, common_steps) in
    let grown = front_grown _ _ _ _ _ was c.in_ok-count.ensures.kept.1 within in
    let same : c.self.inside.source ≡ c.args.self.now.source = ap (λ (f : Fed _). f.source) c.self.view_is in
    (take c.in_ok-count.count (drop moved.result c.take_behind.new.buffer.items), grown.0, grown.1, rw (← same) c.in_ok-count.ensures.taken.0, c.in_ok-count.ensures.taken.1)
