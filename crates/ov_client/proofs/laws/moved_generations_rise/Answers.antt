use Rattle.ov_client.proofs.Rising.{generations_rise}
use Rattle.ov_client.proofs.laws.moved_generations_rise.Goals as goal

pub returns : goal.returns
returns c = generations_rise
