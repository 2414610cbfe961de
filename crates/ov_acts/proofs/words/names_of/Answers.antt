use Rattle.ov_acts.proofs.Lines.{none_written}
use Rattle.ov_acts.proofs.words.names_of.Goals as goal

pub returns-clause-none : goal.returns-clause-none
returns-clause-none c =
    none_written c.list_of.result c.as_bytes.result.now c.args.word.now c.as_bytes.ensures.value
    c.list_of.ensures.none
