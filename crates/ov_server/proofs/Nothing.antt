-- What stands for a step and for an edge that isn't there.
use Rattle.std.proofs.Common.{[]}
use Rattle.ov_tokens.specs.declared.chain.Step.{Step}
use Rattle.ov_tokens.specs.declared.edge.Edge.{Edge}
use Rattle.ov_tokens.specs.declared.label.Kind.TheVariants.{Derive}
use Rattle.ov_tokens.specs.Labels.{label_of}

abbrev pub no_step : Step
no_step = record { to = label_of Derive 0; token = record { bytes = [] } }

abbrev pub no_edge : Edge
no_edge = record { from = 0; token = record { bytes = [] } }
