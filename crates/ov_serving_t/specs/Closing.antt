-- What becomes of a value that is shared, served and taken back.
use Rattle.std.specs.Prelude.{List}
use Rattle.ov_io.specs.Tells.{SourceTells, SinkTells}
use Rattle.ov_peer.specs.Tells.{AnswererTells}
use Rattle.ov_turn.specs.Passes.{PassState}
use Rattle.ov_serving.specs.AtOnce.{LeadsPasses, PassSession}
use Rattle.ov_serving.specs.Laws.{LeavesValue}
use Rattle.ov_serving.specs.Sessions.{serves_by_pass}

-- some sessions left the value so
abbrev pub IsLeftBySessions : {V S : Type 0} → AnswererTells V → SourceTells S → SinkTells S → V → V
    → Type 0
IsLeftBySessions {V} {S} answerer source sink start left =
    (passes : List (PassState V)) × (sessions : List (PassSession (PassState V) S))
    × (after : List (PassState V))
    × (leads : LeadsPasses (serves_by_pass answerer source sink) passes sessions after)
    × LeavesValue answerer source sink start left passes sessions after leads
