use Rattle.std.proofs.Common.{◌∙◌, ap}
use Rattle.ov_aes.specs.Tower.{from_tower, one_of, two_of}
use Rattle.ov_aes.proofs.Linear.{once, thrice, twice}
use Rattle.ov_aes.proofs.RowLanes.{lane_lt, lane_map, lane_xor_maps}
use Rattle.ov_aes.proofs.row_steps.substituted.Goals as goal

pub returns-clause-once : goal.returns-clause-once
returns-clause-once c l lt =
    ap from_tower (lane_map one_of c.args.row _ l (ap (λ t. t.0) c.within.ensures) c.fits-row lt)
    ∙ once _ (lane_lt c.args.row l c.fits-row lt)

pub returns-clause-twice : goal.returns-clause-twice
returns-clause-twice c l lt =
    ap from_tower (lane_map two_of c.args.row _ l (ap (λ t. t.1) c.within.ensures) c.fits-row lt)
    ∙ twice _ (lane_lt c.args.row l c.fits-row lt)

pub returns-clause-thrice : goal.returns-clause-thrice
returns-clause-thrice c l lt =
    ap from_tower (lane_xor_maps one_of two_of c.args.row _ _ l (ap (λ t. t.0) c.within.ensures) (ap (λ t. t.1) c.within.ensures) c.fits-row lt)
    ∙ thrice _ (lane_lt c.args.row l c.fits-row lt)
