-- The records of a Book as they stand, a step record among them as any other. A record is a gate of
-- one byte, the length of its body in four bytes, and the body. The first gate that isn't open ends
-- the records, and what follows it doesn't count.
use Rattle.std.specs.Prelude.{ℕ, zero, suc, ◌+◌, List, [], ◌∷◌, length, take, drop}
use Rattle.std.specs.Prelude.{Bool, true, false, ◌==◌, ◌&&◌, leb}
use Rattle.ov_base.specs.declared.limits.TheConstants.{MAX_RECORD_BYTES}
use Rattle.std.specs.Int.{w32, from_be_bytes}

-- the length field that begins these bytes
abbrev pub length_in : List ℕ → ℕ
length_in rest = from_be_bytes w32 (take 4 rest)

-- a length from 1 to 1,114,112 that leaves room for the body and one more byte
abbrev pub is_length : List ℕ → Bool
is_length rest =
    leb 1 (length_in rest) && leb (length_in rest) MAX_RECORD_BYTES
    && leb (length_in rest + 5) (length rest)

-- the body behind the length field
abbrev pub body_in : List ℕ → List ℕ
body_in rest = take (length_in rest) (drop 4 rest)

-- The bodies of the records before the first gate that isn't open. `bad` says that an open gate
-- with a length that can't be, or no gate at all, ended them in its place.
pub record Run : Type 0 where
  pub bodies : List (List ℕ)
  pub bad : Bool

-- what a gate says: whether it is open, whether its length can be, its body, and the records behind
-- it
abbrev pub past_gate : Bool → Bool → List ℕ → Run → Run
past_gate false fits body more = record { bodies = []; bad = false }
past_gate true false body more = record { bodies = []; bad = true }
past_gate true true body more = record { bodies = body ∷ more.bodies; bad = more.bad }

-- the records of these bytes, after this many that are passed over
abbrev pub run_after : ℕ → List ℕ → Run
run_after skip [] = record { bodies = []; bad = true }
run_after (suc skip) (byte ∷ rest) = run_after skip rest
run_after zero (gate ∷ rest) =
    past_gate (gate == 1) (is_length rest) (body_in rest) (run_after (length_in rest + 4) rest)

-- where the gates of these bodies are, the first at this place
abbrev pub gates_from : ℕ → List (List ℕ) → List ℕ
gates_from place [] = []
gates_from place (body ∷ bodies) = place ∷ gates_from (place + 5 + length body) bodies

-- where the gate behind the last of them is
abbrev pub end_from : ℕ → List (List ℕ) → ℕ
end_from place [] = place
end_from place (body ∷ bodies) = end_from (place + 5 + length body) bodies
