-- What is kept of replies: how many of each kind there are, and what was hashed.
use Rattle.std.specs.Prelude.{◌≡◌, ℕ, ◌+◌, ◌≤◌, List, [], ◌∷◌, ◌++◌}
use Rattle.sha2.specs.Hashers.{Holds256}
use Rattle.ov_script.specs.declared.command.Command.{Command}
use Rattle.ov_script.specs.declared.reply.Reply.{Reply}
use Rattle.ov_script.specs.declared.reply.Reply.TheVariants.{Accepted, Bytes, List as Listed}
use Rattle.ov_script.specs.declared.reply.Reply.TheVariants.{Epoch as EpochIs, Refused, End}
use Rattle.ov_history.specs.Plain.{PlainHistory}
use Rattle.ov_model.specs.Step.{after, reply_to}
use Rattle.ov_load.specs.declared.tally.Counts.{Counts}
use Rattle.ov_load.specs.declared.tally.Tally.{Tally}

-- nothing was counted
abbrev pub none_counted : Counts
none_counted = record { accepted = 0; refused = 0; given = 0; listed = 0 }

-- the counts with one reply more: an accepted update, a refusal, the bytes of a file or a list
abbrev pub counted : Counts → Reply → Counts
counted n (Accepted epoch) = record n { accepted = n.accepted + 1 }
counted n (Refused why) = record n { refused = n.refused + 1 }
counted n (Bytes user file bytes) = record n { given = n.given + 1 }
counted n (Listed file names) = record n { listed = n.listed + 1 }
counted n (EpochIs epoch) = n
counted n (End epoch) = n

-- the counts with those of the replies to these commands, from this history on
abbrev pub counted_all : Counts → PlainHistory → List Command → Counts
counted_all n h [] = n
counted_all n h (command ∷ commands) =
    counted_all (counted n (reply_to h command)) (after h command) commands

-- how many replies were counted
abbrev pub total : Counts → ℕ
total n = n.accepted + n.refused + n.given + n.listed

-- none of the counts is above this
pub record AreAtMost (n : Counts) (most : ℕ) : Type 0 where
  pub accepted : n.accepted ≤ most
  pub refused : n.refused ≤ most
  pub given : n.given ≤ most
  pub listed : n.listed ≤ most

-- nothing was counted, and nothing hashed
abbrev pub TalliesNothing : Tally → Type 0
TalliesNothing t = (t.counts ≡ none_counted) × Holds256 t.hasher []

-- the reply was counted, and this line of it hashed
abbrev pub Takes : Tally → Reply → List ℕ → Tally → Type 0
Takes old reply line new =
    (new.counts ≡ counted old.counts reply)
    × ((hashed : List ℕ) → Holds256 old.hasher hashed → Holds256 new.hasher (hashed ++ line))
