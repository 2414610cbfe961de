-- The stated workload of a number: eight users are enrolled, and then each command is drawn by four
-- words of the number's stream.
use Rattle.std.specs.Prelude.{◌≡◌, ℕ, zero, suc, ◌+◌, ◌-◌, ◌*◌, ◌%◌, ◌<◌, Bool, true, false, nat_lt, max, List, [], ◌∷◌, ◌++◌, codes, get_or, replicate, Option, None, Some}
use Rattle.std.specs.Fmt.{decimal}
use Rattle.std.specs.Int.{w64, to_le_bytes}
use Rattle.rand_chacha.specs.ChaCha.{key_of, word_at}
use Rattle.ov_base.specs.Sets.{has}
use Rattle.ov_script.specs.declared.command.Command.{Command}
use Rattle.ov_script.specs.declared.command.Command.TheVariants.{Enrol, Create, Grant, Revoke, Read, List as Command-List}
use Rattle.ov_script.specs.declared.drawn.Drawn.{Drawn}
use Rattle.ov_script.specs.declared.drawn.Kind.{Kind}
use Rattle.ov_script.specs.declared.drawn.Kind.TheVariants.{Creates, Grants, Revokes, Reads, Lists}
use Rattle.ov_script.specs.declared.drawn.TheConstants.{WORKLOAD_USERS}

-- ChaCha20's key for a number: its 8 bytes, least first, and 24 zeros.
unfoldable pub key : ℕ → List ℕ
key number = key_of (to_le_bytes w64 number ++ replicate 24 0)

-- The words of a number: those of ChaCha20, of 20 rounds, from the beginning of stream 0.
unfoldable pub word : ℕ → ℕ → ℕ
word number place = word_at 10 (key number) 0 place

-- What a command does, by its first word modulo 8.
abbrev pub kind_of : ℕ → Kind
kind_of first =
    get_or (Creates ∷ Creates ∷ Grants ∷ Grants ∷ Revokes ∷ Reads ∷ Reads ∷ Lists ∷ [])
    (first % 8) Lists

-- The four words of drawn command i, of which the last says nothing.
abbrev pub drawn_at : ℕ → ℕ → Drawn
drawn_at number i = record {
  kind = kind_of (word number (4 * i));
  who = word number (4 * i + 1);
  what = word number (4 * i + 2);
}

-- How many files a command creates.
abbrev pub created : Kind → ℕ
created Creates = 1
created Grants = 0
created Revokes = 0
created Reads = 0
created Lists = 0

-- How many files the first drawn commands create, of which there are this many.
abbrev pub creations : ℕ → ℕ → ℕ
creations number zero = 0
creations number (suc i) = creations number i + created (drawn_at number i).kind

-- The name of a user: `u` and a number.
abbrev pub user : ℕ → List ℕ
user k = codes "u" ++ decimal k

-- The name of a file: `f` and the number of files that were created before it.
abbrev pub file : ℕ → List ℕ
file j = codes "f" ++ decimal j

-- The names, and this one behind them where it is wanted.
abbrev pub and_if : Bool → List (List ℕ) → List ℕ → List (List ℕ)
and_if true names name = names ++ name ∷ []
and_if false names name = names

-- The users, of the first ones up to this number, whose bit of the word is set.
abbrev pub users_in : ℕ → ℕ → List (List ℕ)
users_in who zero = []
users_in who (suc k) = and_if (has who k) (users_in who k) (user k)

-- This many bytes of command i: byte j is i + j modulo 256.
abbrev pub body : ℕ → ℕ → List ℕ
body i zero = []
body i (suc j) = body i j ++ (i + j) % 256 ∷ []

-- The command that is drawn so, as number i, where this many files were created before.
abbrev pub command_by : Kind → ℕ → ℕ → ℕ → ℕ → Command
command_by Creates i made who what =
    Create (file made) (users_in who WORKLOAD_USERS) (body i (what % 4096))
command_by Grants i made who what =
    Grant (user (who % WORKLOAD_USERS)) (file (what % max made 1))
command_by Revokes i made who what =
    Revoke (user (who % WORKLOAD_USERS)) (file (what % max made 1))
command_by Reads i made who what =
    Read (user (who % WORKLOAD_USERS)) (file (what % max made 1))
command_by Lists i made who what = Command-List (file (what % max made 1))

-- Drawn command i.
abbrev pub drawn_command : ℕ → ℕ → Command
drawn_command number i =
    command_by (drawn_at number i).kind i (creations number i)
    (drawn_at number i).who (drawn_at number i).what

-- An enrolment, or a drawn command.
abbrev pub enrols_or_draws : Bool → ℕ → ℕ → Command
enrols_or_draws true number place = Enrol (user place)
enrols_or_draws false number place = drawn_command number (place - WORKLOAD_USERS)

-- The command at a place of the workload: the users are enrolled first.
abbrev pub command_at : ℕ → ℕ → Command
command_at number place = enrols_or_draws (nat_lt place WORKLOAD_USERS) number place

-- This many first commands of a number, one after another.
abbrev pub first_commands : ℕ → ℕ → List Command
first_commands number zero = []
first_commands number (suc place) = first_commands number place ++ command_at number place ∷ []

-- The workload of a number with this many drawn commands.
abbrev pub workload : ℕ → ℕ → List Command
workload number count = first_commands number (WORKLOAD_USERS + count)

-- A workload of a number with this many drawn commands, and the place of its next command.
pub record Progress : Type 0 where
  pub number : ℕ
  pub count : ℕ
  pub place : ℕ

-- What a call gives: the command at the place, and then the place is the next; nothing at the end.
abbrev pub Gives : Progress → Option Command → Progress → Type 0
Gives old (Some command) new =
    (old.place < WORKLOAD_USERS + old.count) × (command ≡ command_at old.number old.place)
    × (new ≡ record old { place = old.place + 1 })
Gives old None new = (old.place ≡ WORKLOAD_USERS + old.count) × (new ≡ old)
