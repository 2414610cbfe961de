-- What a reader is told by an answer, or with which fault the read ends.
use Rattle.std.specs.Prelude.{◌≡◌, ℕ, ◌+◌, ◌-◌, ◌*◌, ◌^◌, ◌<◌, ◌==◌, nat_lt, min}
use Rattle.std.specs.Prelude.{List, length}
use Rattle.std.specs.Prelude.{Option, Some, None, Result, Ok, Err, if◌then◌else◌}
use Rattle.ov_base.specs.declared.limits.TheConstants.{MAX_CHUNK_BYTES}
use Rattle.ov_tokens.specs.declared.chain.Chain.{Chain}
use Rattle.ov_wire.specs.declared.answer.Chained.{Chained}
use Rattle.ov_wire.specs.declared.answer.Answer.{Answer}
use Rattle.ov_wire.specs.declared.answer.Answer.TheVariants as answers
use Rattle.ov_client.specs.Readers.{Reader}
use Rattle.ov_client.specs.declared.fault.ClientFault.{ClientFault}
use Rattle.ov_client.specs.declared.fault.ClientFault.TheVariants.{BadReply, Device, Memory}
use Rattle.ov_client.specs.declared.fault.ClientFault.TheVariants.{Refused}
use Rattle.ov_client.specs.declared.telling.Fetched.{Fetched}
use Rattle.ov_client.specs.declared.telling.Fetched.TheVariants.{Again, Bytes}

-- ---- chains

-- as many base steps as a frame can announce
abbrev pub HasFewSteps : Chained → Type 0
HasFewSteps c = length c.base.steps < 2 ^ 16

-- a Chained has as many base steps as a frame can announce
abbrev pub TellsFewSteps : Answer → Type 0
TellsFewSteps (answers.Chained c) = HasFewSteps c
TellsFewSteps answer = Unit {0}

-- the place of the generation in the frame of a Chained
abbrev pub generation_place : ℕ
generation_place = 13

-- the place of the base root in that frame, behind the tag
abbrev pub base_root_place : ℕ
base_root_place = 49

-- the place of the surface root in that frame, behind this many base steps and the flag
abbrev pub surface_root_place : ℕ → ℕ
surface_root_place steps = 56 + 37 * steps

-- the place of a surface root that isn't the reader's
abbrev pub wrong_surface : Reader → ℕ → Option Chain → Option ℕ
wrong_surface r steps None = None
wrong_surface r steps (Some chain) =
    if chain.root == r.surface_root then None else Some (surface_root_place steps)

-- the place of the first field that can't be, by what was told before: a generation below the
-- least, or a root that isn't the reader's
abbrev pub wrong_field : Reader → ℕ → Chained → Option ℕ
wrong_field r least c =
    if nat_lt c.generation least then Some generation_place
    else if c.base.root == r.base_root then wrong_surface r (length c.base.steps) c.surface
    else Some base_root_place

-- the chains, where no field is wrong
abbrev pub chained_unless : Option ℕ → Chained → Result Chained ClientFault
chained_unless None c = Ok c
chained_unless (Some place) c = Err (BadReply place)

-- the chains in an answer to Chain
abbrev pub chained_in : Reader → ℕ → Answer → Result Chained ClientFault
chained_in r least (answers.Chained c) = chained_unless (wrong_field r least c) c
chained_in r least (answers.Refused why) = Err (Refused why)
chained_in r least answers.NoMemory = Err Memory
chained_in r least answer = Err (BadReply 0)

-- ---- chunks

-- how many bytes the next chunk of a file has, of which this many came
abbrev pub chunk_bytes : ℕ → ℕ → ℕ
chunk_bytes size start = min MAX_CHUNK_BYTES (size - start)

-- the bytes of a chunk, where there are this many
abbrev pub sized : ℕ → List ℕ → Result Fetched ClientFault
sized count bytes =
    if length bytes == count then Ok (Bytes bytes)
    else Err (BadReply (1 + min (length bytes) count))

-- What an answer to Chunk tells, which was asked at this generation: bytes, of which there must be
-- this many, or that the read begins again. Where the file moved, the next chains are at least of
-- the generation that was told; where it is gone, they are of a greater one than was asked. A Chunk
-- is refused as NoFile alone: the grammar of its answers has no other refusal.
abbrev pub fetched_in : (asked count : ℕ) → Answer → Result Fetched ClientFault
fetched_in asked count (answers.Bytes bytes) = sized count bytes
fetched_in asked count (answers.Moved now) = Ok (Again now)
fetched_in asked count (answers.Refused why) = Ok (Again (asked + 1))
fetched_in asked count answers.DeviceFault = Err Device
fetched_in asked count answers.NoMemory = Err Memory
fetched_in asked count answer = Err (BadReply 0)

-- as many bytes came as there must be
abbrev pub HasSize : ℕ → Fetched → Type 0
HasSize count (Bytes bytes) = length bytes ≡ count
HasSize count (Again least) = Unit {0}
