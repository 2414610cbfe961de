use Rattle.ov_history_t.proofs.premises.names_that_are_not_empty_name.Goals as goal

pub returns : goal.returns
returns c = λ byte name names tokens tag size is. absurd (cc is)
