-- The counts of a load's replies, and what they add up to.
use Rattle.std.proofs.Common.{◌≡◌, ℕ, zero, suc, ◌+◌, Bool, true, false, List, [], ◌∷◌, ◌++◌, refl, ap, arith, Option, Some, None}
use Rattle.ov_base.specs.declared.refusal.Refusal.{Refusal}
use Rattle.ov_script.specs.declared.command.Command.{Command}
use Rattle.ov_script.specs.declared.command.Command.TheVariants as commands
use Rattle.ov_script.specs.declared.drawn.Kind.{Kind}
use Rattle.ov_script.specs.declared.drawn.Kind.TheVariants.{Creates, Grants, Revokes, Reads, Lists}
use Rattle.ov_script.specs.declared.drawn.TheConstants.{WORKLOAD_USERS}
use Rattle.ov_script.specs.declared.reply.Reply.{Reply}
use Rattle.ov_script.specs.declared.reply.Reply.TheVariants.{Accepted, Bytes, List as Listed, Epoch as EpochIs, Refused, End}
use Rattle.ov_script.specs.Workload.{command_at, command_by, enrols_or_draws, first_commands}
use Rattle.ov_history.specs.History.{matrix_of}
use Rattle.ov_history.specs.Lists.{file_number, user_number}
use Rattle.ov_history.specs.Plain.{PlainHistory, PlainUpdate, history_of}
use Rattle.ov_history.specs.Refusals.{list_refusal, read_refusal}
use Rattle.ov_model.specs.Step.{after, after_all, bytes_reply, names_reply, reply_or, reply_to, update_step}
use Rattle.ov_load.specs.Summary.{CountsAddUp}
use Rattle.ov_load.specs.Tallying.{counted, counted_all, none_counted, total}
use Rattle.ov_load.specs.declared.tally.Counts.{Counts}

-- one more command
pub counted_all-more : (n : Counts) (h : PlainHistory) (commands : List Command) (command : Command)
    → counted_all n h (commands ++ command ∷ []) ≡ counted (counted_all n h commands) (reply_to (after_all h commands) command)
counted_all-more n h [] command = refl
counted_all-more n h (c ∷ commands) command = counted_all-more (counted n (reply_to h c)) (after h c) commands command

-- the reply is counted
abbrev IsCounted : Reply → Type 0
IsCounted (EpochIs epoch) = ⊥
IsCounted (End epoch) = ⊥
IsCounted reply = Unit {0}

one_more : (n : Counts) (reply : Reply) → IsCounted reply → total (counted n reply) ≡ total n + 1
one_more n (Accepted epoch) is = omega arith
one_more n (Refused why) is = omega arith
one_more n (Bytes user file bytes) is = omega arith
one_more n (Listed file names) is = omega arith
one_more n (EpochIs epoch) is = absurd is
one_more n (End epoch) is = absurd is

-- ---- which replies come

update_counts : (h : PlainHistory) (u : PlainUpdate) (why : Option Refusal) → IsCounted (update_step h u why).0
update_counts h u None = tt
update_counts h u (Some why) = tt

reply_counts : (reply : Reply) (why : Option Refusal) → IsCounted reply → IsCounted (reply_or reply why)
reply_counts reply None is = is
reply_counts reply (Some why) is = tt

-- the command isn't a question for the epoch
abbrev IsCountable : Command → Type 0
IsCountable commands.Epoch = ⊥
IsCountable command = Unit {0}

command_counts : (h : PlainHistory) (command : Command) → IsCountable command → IsCounted (reply_to h command)
command_counts h (commands.Enrol user) is = update_counts h _ _
command_counts h (commands.Create file names bytes) is = update_counts h _ _
command_counts h (commands.Grant user file) is = update_counts h _ _
command_counts h (commands.Revoke user file) is = update_counts h _ _
command_counts h (commands.Remove file) is = update_counts h _ _
command_counts h (commands.Replace file bytes) is = update_counts h _ _
command_counts h (commands.Read user file) is =
    let m = matrix_of (history_of h) in
    reply_counts (bytes_reply h user file (file_number m file))
    (read_refusal m (user_number m user) (file_number m file)) tt
command_counts h (commands.List file) is =
    let m = matrix_of (history_of h) in
    reply_counts (names_reply m file (file_number m file)) (list_refusal m (file_number m file)) tt
command_counts h commands.Epoch is = absurd is

drawn_countable : (kind : Kind) (i made who what : ℕ) → IsCountable (command_by kind i made who what)
drawn_countable Creates i made who what = tt
drawn_countable Grants i made who what = tt
drawn_countable Revokes i made who what = tt
drawn_countable Reads i made who what = tt
drawn_countable Lists i made who what = tt

place_countable : (b : Bool) (number place : ℕ) → IsCountable (enrols_or_draws b number place)
place_countable true number place = tt
place_countable false number place = drawn_countable _ _ _ _ _

-- ---- all of them

first_add_up : (number : ℕ) (h : PlainHistory) (place : ℕ)
    → total (counted_all none_counted h (first_commands number place)) ≡ place
first_add_up number h zero = refl
first_add_up number h (suc place) =
    let before = first_commands number place in
    let command = command_at number place in
    let more : total (counted_all none_counted h (first_commands number (suc place)))
    ≡ total (counted (counted_all none_counted h before) (reply_to (after_all h before) command)) =
    ap total (counted_all-more none_counted h before command) in
    let one = one_more (counted_all none_counted h before) (reply_to (after_all h before) command)
    (command_counts (after_all h before) command (place_countable _ number place)) in
    let all = first_add_up number h place in
    omega (arith, more, one, all)

pub adds_up : CountsAddUp
adds_up load h = first_add_up load.number h (WORKLOAD_USERS + load.count)
