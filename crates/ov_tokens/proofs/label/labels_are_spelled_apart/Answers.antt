use Rattle.ov_tokens.proofs.LabelLemmas.{label_bytes-same}
use Rattle.ov_tokens.proofs.label.labels_are_spelled_apart.Goals as goal

pub returns : goal.returns
returns c = label_bytes-same
