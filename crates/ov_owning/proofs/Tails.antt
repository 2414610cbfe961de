-- The words behind a book and its mode.
use Rattle.std.proofs.Common.{◌≡◌, ℕ, List, [], ◌∷◌, refl, ap, subst}
use Rattle.std.proofs.Common.{◌≤◌, length, arith}
use Rattle.std.specs.Prelude.{codes}
use Rattle.ov_acts.specs.Words.{IsActLine}
use Rattle.ov_acts.specs.declared.job.Act.{Act}
use Rattle.ov_acts.specs.declared.job.Act.TheVariants as acts
use Rattle.ov_owning.specs.Words.{IsOwnTail, IsUpdate, IsUpdateTail}
use Rattle.ov_owning.specs.declared.job.OwnAct.{OwnAct}
use Rattle.ov_owning.specs.declared.job.OwnAct.TheVariants.{Create, Enrol, Grant, Remove, Replace}
use Rattle.ov_owning.specs.declared.job.OwnAct.TheVariants.{Resume, Revoke}

-- no update is `resume`
no_resume : (act : Act) → IsUpdate act Resume → ⊥
no_resume (acts.Enrol user) e = absurd (cc)
no_resume (acts.Grant user file) e = absurd (cc)
no_resume (acts.Revoke user file) e = absurd (cc)
no_resume (acts.Remove file) e = absurd (cc)
no_resume (acts.Create file list) e = absurd (cc)
no_resume (acts.Replace file) e = absurd (cc)
no_resume (acts.List file) is = is
no_resume (acts.Key user) is = is
no_resume (acts.Read file) is = is
no_resume acts.Check is = is

-- the words of an update are words behind a mode
pub tail_of_update : (own : OwnAct) (words : List (List ℕ)) (path : List ℕ)
    → IsUpdateTail own words path → IsOwnTail own words path
tail_of_update (Enrol user) words path is = is
tail_of_update (Grant user file) words path is = is
tail_of_update (Revoke user file) words path is = is
tail_of_update (Remove file) words path is = is
tail_of_update (Create file list) words path is = is
tail_of_update (Replace file) words path is = is
tail_of_update Resume words path (act, is, more) = absurd (no_resume act is)

-- words behind a mode that aren't `resume` alone are those of an update
pub update_of_tail : (own : OwnAct) (words : List (List ℕ)) (path : List ℕ)
    → (words ≡ codes "resume" ∷ [] → ⊥) → IsOwnTail own words path → IsUpdateTail own words path
update_of_tail (Enrol user) words path none is = is
update_of_tail (Grant user file) words path none is = is
update_of_tail (Revoke user file) words path none is = is
update_of_tail (Remove file) words path none is = is
update_of_tail (Create file list) words path none is = is
update_of_tail (Replace file) words path none is = is
update_of_tail Resume words path none is = absurd (none is.0)

-- a command with these words behind it is an update's
pub tail_by : (act : Act) (own : OwnAct) (command path : List ℕ) (words : List (List ℕ))
    → IsUpdate act own → IsActLine act command words path → IsOwnTail own (command ∷ words) path
tail_by act own command path words is line =
    tail_of_update own (command ∷ words) path (act, is, (command, words, refl, line))

-- the act of an update's words
pub act_of_tail : (own : OwnAct) (command path : List ℕ) (words : List (List ℕ))
    → IsUpdateTail own (command ∷ words) path
    → (act : Act) × IsUpdate act own × IsActLine act command words path
act_of_tail own command path words (act, is, (c, rest, e, line)) =
    let f : c ≡ command = cc in
    let g : rest ≡ words = cc in
    (act, is, subst (λ x. IsActLine act x words path) f (subst (λ x. IsActLine act c x path) g line))

-- a command alone is no act's line
no_words : (act : Act) (command path : List ℕ) → IsActLine act command [] path → ⊥
no_words (acts.Enrol user) command path (c, w, _, _) = absurd (cc)
no_words (acts.Grant user file) command path (c, w, _, _, _) = absurd (cc)
no_words (acts.Revoke user file) command path (c, w, _, _, _) = absurd (cc)
no_words (acts.Remove file) command path (c, w, _, _) = absurd (cc)
no_words (acts.Create file list) command path (text, c, w, _, _) = absurd (cc)
no_words (acts.Replace file) command path (c, w, _) = absurd (cc)
no_words (acts.List file) command path (c, w, _, _) = absurd (cc)
no_words (acts.Key user) command path (c, w, _, _) = absurd (cc)
no_words (acts.Read file) command path (c, w, _, _) = absurd (cc)
no_words acts.Check command path is = is

-- one word alone is no update's
pub one_word_is_none : (own : OwnAct) (word path : List ℕ) → IsUpdateTail own (word ∷ []) path → ⊥
one_word_is_none own word path is =
    let by = act_of_tail own word path [] is in
    no_words by.0 word path by.2

-- ---- commands

-- the commands of updates are longer than all others
updates_by : (act : Act) (own : OwnAct) (command path : List ℕ) (words : List (List ℕ))
    → IsUpdate act own → IsActLine act command words path → 5 ≤ length command
updates_by (acts.Enrol user) own command path words is (c, _, _, _) = let e : length command ≡ 5 = ap length c in omega arith
updates_by (acts.Grant user file) own command path words is (c, _, _, _, _) = let e : length command ≡ 5 = ap length c in omega arith
updates_by (acts.Revoke user file) own command path words is (c, _, _, _, _) = let e : length command ≡ 6 = ap length c in omega arith
updates_by (acts.Remove file) own command path words is (c, _, _, _) = let e : length command ≡ 6 = ap length c in omega arith
updates_by (acts.Create file list) own command path words is (text, c, _, _, _) = let e : length command ≡ 6 = ap length c in omega arith
updates_by (acts.Replace file) own command path words is (c, _, _) = let e : length command ≡ 7 = ap length c in omega arith
updates_by (acts.List file) own command path words is line = absurd is
updates_by (acts.Key user) own command path words is line = absurd is
updates_by (acts.Read file) own command path words is line = absurd is
updates_by acts.Check own command path words is line = absurd is

-- those of the others are short
asks_by : (act : Act) (command path : List ℕ) (words : List (List ℕ))
    → ((own : OwnAct) → IsUpdate act own → ⊥) → IsActLine act command words path
    → length command ≤ 4
asks_by (acts.Enrol user) command path words none line = absurd (none (Enrol user) refl)
asks_by (acts.Grant user file) command path words none line = absurd (none (Grant user file) refl)
asks_by (acts.Revoke user file) command path words none line = absurd (none (Revoke user file) refl)
asks_by (acts.Remove file) command path words none line = absurd (none (Remove file) refl)
asks_by (acts.Create file list) command path words none line = absurd (none (Create file list) refl)
asks_by (acts.Replace file) command path words none line = absurd (none (Replace file) refl)
asks_by (acts.List file) command path words none (c, _, _, _) = let e : length command ≡ 4 = ap length c in omega arith
asks_by (acts.Key user) command path words none (c, _, _, _) = let e : length command ≡ 3 = ap length c in omega arith
asks_by (acts.Read file) command path words none (c, _, _, _) = let e : length command ≡ 4 = ap length c in omega arith
asks_by acts.Check command path words none line = absurd line

-- the words of an act that is no update are those of no update
pub asks_are_no_updates : (act : Act) (command path : List ℕ) (words : List (List ℕ))
    → ((own : OwnAct) → IsUpdate act own → ⊥) → IsActLine act command words path
    → (own : OwnAct) (other : List ℕ) → IsUpdateTail own (command ∷ words) other → ⊥
asks_are_no_updates act command path words none line own other is =
    let by = act_of_tail own command other words is in
    let yes = updates_by by.0 own command other words by.1 by.2 in
    let few = asks_by act command path words none line in
    absurd (omega (arith, yes, few))
