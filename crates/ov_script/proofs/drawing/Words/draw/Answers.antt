use Rattle.std.proofs.Common.{arith}
use Rattle.ov_script.proofs.Draws.{three_words}
use Rattle.ov_script.proofs.drawing.Words.draw.Goals as goal

pub returns-clause-drawn : goal.returns-clause-drawn
returns-clause-drawn c =
    let p = c.self.inside in
    rw (← c.self.view_is)
    (three_words p.number p.drawn p.rng c.next_word.new.self c.next_word-who.new.self c.next_word-what.new.self c.next_word.result c.next_word-who.result c.next_word-what.result
    c.kind-kind.result (omega arith) c.self.invariant c.next_word.ensures c.next_word-who.ensures c.next_word-what.ensures c.kind-kind.ensures)
