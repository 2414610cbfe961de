use Rattle.ov_exposure.proofs.GivenBytes.{readers_were_given_bytes}
use Rattle.ov_exposure.proofs.exposure.readers_were_given_bytes.Goals as goal

pub returns : goal.returns
returns c = readers_were_given_bytes
