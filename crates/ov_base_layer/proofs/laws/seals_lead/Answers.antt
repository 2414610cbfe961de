use Rattle.ov_base_layer.proofs.SealLaws.{access_leads, cover_sealed, edge_leads}
use Rattle.ov_base_layer.proofs.laws.seals_lead.Goals as goal

pub returns : goal.returns
returns c = record { covers = cover_sealed; edges = edge_leads; accesses = access_leads }
