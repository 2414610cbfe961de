use Rattle.ov_peer.proofs.Telling.{asks_along, exchanges_told}
use Rattle.ov_peer.proofs.laws.asks_are_told.Goals as goal

pub returns : goal.returns
returns g c = record {
  exchanges = exchanges_told g.P.Peer.tells;
  along = asks_along g.P.Peer.tells;
}
