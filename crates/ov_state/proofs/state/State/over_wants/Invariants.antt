use Rattle.std.proofs.Common.{take}
use Rattle.ov_history.specs.Catalogue.{outline}
use Rattle.ov_state.specs.Relistings.{wants_after}
use Rattle.ov_state.proofs.SkippedFiles.{number_behind}
use Rattle.ov_state.proofs.state.State.over_wants.Given as goal

-- the wanted sets of the files up to the last of these are collected
abbrev pub invariant-loop-file : goal.invariant-loop-file
invariant-loop-file g l =
    let c = l.fn.self.catalogue in
    g.C.Collector.has l.fn.collector c (take (number_behind l.numbers l.file-index) (wants_after (outline c) l.fn.relisting 0 (outline c).files)) l.collector
