use Rattle.ov_peer.specs.Spellings.{spelling_of}
use Rattle.ov_turn.specs.Steps.{failed_after}
use Rattle.ov_turn.proofs.shared.Shared.ask_in_turn.Given as goal

abbrev pub ghosts-raise : goal.ghosts-raise
ghosts-raise g a = record { spelling = spelling_of a.request.now }

abbrev pub ghosts-pass_on : goal.ghosts-pass_on
ghosts-pass_on g a = record { failed = failed_after a.done.now a.request.now a.reply.now }
