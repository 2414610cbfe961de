use Rattle.std.proofs.Common.{◌≡◌}
use Rattle.std.specs.Option.{option_map}
use Rattle.std.specs.Net.Text.{socket_text}
use Rattle.overstored.proofs.door.next_of.Given as goal

-- the door listens where it did
abbrev pub invariant-loop : goal.invariant-loop
invariant-loop g l =
    option_map (λ it. socket_text it.bound) l.door.listening ≡ option_map (λ it. socket_text it.bound) l.fn.door.listening
