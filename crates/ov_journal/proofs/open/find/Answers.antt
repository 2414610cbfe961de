use Rattle.std.proofs.Common.{sym, ◌∙◌, ap, subst}
use Rattle.ov_journal.specs.Book.{is_first}
use Rattle.ov_journal.specs.Heads.{Heads}
use Rattle.ov_journal.proofs.open.find.Goals as goal

pub scan-requires-clause-first : goal.scan-requires-clause-first
scan-requires-clause-first g c i is =
    let heads = subst (Heads i.book) c.in-Store.is (c.in_ok-read_head.ensures.head i (sym c.read_head.ensures.untouched.reads_same ∙ is)) in
    c.is_first.ensures ∙ ap is_first (sym heads.1)
