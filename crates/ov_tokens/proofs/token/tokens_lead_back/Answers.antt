use Rattle.ov_tokens.proofs.TokenLemmas.{derived_key-token_of}
use Rattle.ov_tokens.proofs.token.tokens_lead_back.Goals as goal

pub returns : goal.returns
returns c = derived_key-token_of
