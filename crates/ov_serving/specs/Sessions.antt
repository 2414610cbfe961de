-- A session by a pass, and what is left of it.
use Rattle.std.specs.Prelude.{◌≡◌}
use Rattle.std.specs.Arc.{arc_value}
use Rattle.ov_io.specs.Tells.{SourceTells, SinkTells}
use Rattle.ov_peer.specs.Tells.{AnswererTells}
use Rattle.ov_session.specs.Ends.{Serves}
use Rattle.ov_session.specs.Links.{link}
use Rattle.ov_session.specs.Serving.{OneSession}
use Rattle.ov_turn.specs.Passes.{IsPassOf, PassState}
use Rattle.ov_serving.specs.declared.session.Session.{Session}
use Rattle.ov_serving.specs.declared.session.Ended.{Ended}
use Rattle.ov_serving.specs.Calls.{in_turns}

module _ {V : Type 0} where
  -- two states of passes of the same value
  abbrev pub IsOfSame : PassState V → PassState V → Type 0
  IsOfSame p q = (q.table ≡ p.table) × (q.start ≡ p.start)

  module _ {S : Type 0} (answerer : AnswererTells V) (source : SourceTells S) (sink : SinkTells S)
    where
      -- what one session by a pass does: the pass before it and after it, the stream before and
      -- after, and the end; the pass is still of the same value
      abbrev pub serves_by_pass : OneSession (PassState V) S
      serves_by_pass p q given left ending =
          Serves (in_turns answerer) p q (link source sink given) (link source sink left) ending
          × IsOfSame p q

module _ {L V G : Type 0} where
  -- the pass of a session is of its shared value
  abbrev pub HasOwnPass : Session L V G → Type 0
  HasOwnPass s = IsPassOf (arc_value s.shared) s.pass

  -- what is left of a session: its number, and its stream and pass as serving left them
  abbrev pub EndsAs : OneSession (PassState V) L → Session L V G → Ended L V → Type 0
  EndsAs one s e = (e.number ≡ s.number) × one s.pass e.pass s.stream e.stream e.ending
