-- The grammar of scripts, met by short texts.
use Rattle.std.proofs.Common.{◌≡◌, ℕ, ◌+◌, ◌-◌, ◌<◌, ◌≤◌, List, [], ◌∷◌, ◌++◌, length, refl, ◌∙◌, ap, append-nil, length-append, arith}
use Rattle.std.specs.Prelude.{codes}
use Rattle.std.specs.Fmt.{digits}
use Rattle.ov_base.specs.declared.limits.TheConstants.{MAX_SCRIPT_BYTES}
use Rattle.ov_script.specs.declared.command.Command.TheVariants.{Enrol, Create, Grant, Revoke, Remove, Replace, Read, List as Command-List, Epoch}
use Rattle.ov_script.specs.Items.{IsItem, BeginsWithItem, CanBegin}
use Rattle.ov_script.specs.WrittenLists.{IsList}
use Rattle.ov_script.specs.Reading.{IsBad, cut, Reads, IsScript, AtEnd, BadAt, TooLong}
use Rattle.ov_script.proofs.Beginning.{alive_can, dead_cannot}
use Rattle.ov_script.proofs.ByteTexts.{lacks_by_test}
use Rattle.ov_script.proofs.Fronts.{bad_front}
use Rattle.ov_script.proofs.Grammar.{item_past}

-- the empty text
empty_text : IsScript [] [] AtEnd
empty_text = refl

-- one user
one_user : IsScript (codes "enrol a" ++ 10 ∷ []) (Enrol (codes "a") ∷ []) AtEnd
one_user = (codes "enrol a" ++ 10 ∷ [], [], refl, omega arith, (refl, refl), refl)

-- a file of five bytes, two of which are LF, and a user who reads it
abbrev body : List ℕ
body = 104 ∷ 10 ∷ 108 ∷ 108 ∷ 10 ∷ []

abbrev file_item : List ℕ
file_item = codes "create f1 alice 5" ++ 10 ∷ body ++ 10 ∷ []

abbrev read_item : List ℕ
read_item = codes "read alice f1" ++ 10 ∷ []

alice : IsList (codes "alice") (codes "alice" ∷ [])
alice = (codes "alice" ∷ [], (refl, tt), refl, refl)

five_bytes : IsItem file_item (Create (codes "f1") (codes "alice" ∷ []) body)
unfolding digits
five_bytes = (codes "alice", refl, alice, omega arith, omega arith, refl)

a_file : IsScript (file_item ++ read_item) (Create (codes "f1") (codes "alice" ∷ []) body ∷ Read (codes "alice") (codes "f1") ∷ []) AtEnd
a_file = (file_item, read_item, refl, omega arith, five_bytes, (read_item, [], refl, omega arith, (refl, refl, refl), refl))

-- the line `quit` is bad
bad_line : (room : ℕ) → 4 ≤ room → IsBad room (codes "quit" ++ 10 ∷ [])
bad_line room h = bad_front room (codes "quit") (10 ∷ []) h (dead_cannot (codes "quit") (lacks_by_test 10 (codes "quit") refl) refl)

behind_a_file : IsScript (file_item ++ codes "quit" ++ 10 ∷ []) (Create (codes "f1") (codes "alice" ∷ []) body ∷ []) (BadAt 5)
behind_a_file = (file_item, codes "quit" ++ 10 ∷ [], refl, omega arith, five_bytes, (refl, bad_line (MAX_SCRIPT_BYTES - 24) (omega arith)))

-- a user who is no name, on the second line
alice_and_bob : IsScript (codes "enrol alice" ++ 10 ∷ codes "enrol Bob" ++ 10 ∷ []) (Enrol (codes "alice") ∷ []) (BadAt 2)
alice_and_bob = (
  codes "enrol alice" ++ 10 ∷ [],
  codes "enrol Bob" ++ 10 ∷ [],
  refl,
  omega arith,
  (refl, refl),
  (refl, bad_front (MAX_SCRIPT_BYTES - 12) (codes "enrol B") (codes "ob" ++ 10 ∷ []) (omega arith) (dead_cannot (codes "enrol B") (lacks_by_test 10 (codes "enrol B") refl) refl)),
)

-- ---- the other commands

grant_item : IsItem (codes "grant b f" ++ 10 ∷ []) (Grant (codes "b") (codes "f"))
grant_item = (refl, refl, refl)

revoke_item : IsItem (codes "revoke b f" ++ 10 ∷ []) (Revoke (codes "b") (codes "f"))
revoke_item = (refl, refl, refl)

remove_item : IsItem (codes "remove f" ++ 10 ∷ []) (Remove (codes "f"))
remove_item = (refl, refl)

replace_item : IsItem (codes "replace f 3" ++ 10 ∷ (codes "abc" ++ 10 ∷ [])) (Replace (codes "f") (codes "abc"))
unfolding digits
replace_item = (refl, omega arith, refl)

list_item : IsItem (codes "list f" ++ 10 ∷ []) (Command-List (codes "f"))
list_item = (refl, refl)

epoch_item : IsItem (codes "epoch" ++ 10 ∷ []) Epoch
epoch_item = refl

-- ---- lists

-- a list without names, and a file without bytes
nobody : IsItem (codes "create f - 0" ++ 10 ∷ 10 ∷ []) (Create (codes "f") [] [])
unfolding digits
nobody = (codes "-", refl, ([], tt, refl, refl), omega arith, omega arith, refl)

-- a name that comes again counts once, at its first place
repeated : IsList (codes "b,a,b,c,a") (codes "b" ∷ codes "a" ∷ codes "c" ∷ [])
repeated = (codes "b" ∷ codes "a" ∷ codes "b" ∷ codes "c" ∷ codes "a" ∷ [], (refl, (refl, (refl, (refl, (refl, tt))))), refl, refl)

next_name_may_come : CanBegin (codes "create f a,")
next_name_may_come = alive_can (codes "create f a,") refl

two_commas : CanBegin (codes "create f a,,") → ⊥
two_commas = dead_cannot (codes "create f a,,") (lacks_by_test 10 (codes "create f a,,") refl) refl

trailing_comma : CanBegin (codes "create f a, ") → ⊥
trailing_comma = dead_cannot (codes "create f a, ") (lacks_by_test 10 (codes "create f a, ") refl) refl

behind_nobody : CanBegin (codes "create f -,") → ⊥
behind_nobody = dead_cannot (codes "create f -,") (lacks_by_test 10 (codes "create f -,") refl) refl

comma_in_a_grant : CanBegin (codes "grant a,") → ⊥
comma_in_a_grant = dead_cannot (codes "grant a,") (lacks_by_test 10 (codes "grant a,") refl) refl

-- a removal names no user
space_in_a_removal : CanBegin (codes "remove f ") → ⊥
space_in_a_removal = dead_cannot (codes "remove f ") (lacks_by_test 10 (codes "remove f ") refl) refl

-- a replacement has a size behind its name
comma_in_a_replacement : CanBegin (codes "replace f,") → ⊥
comma_in_a_replacement = dead_cannot (codes "replace f,") (lacks_by_test 10 (codes "replace f,") refl) refl

list_in_a_replacement : CanBegin (codes "replace f -") → ⊥
list_in_a_replacement = dead_cannot (codes "replace f -") (lacks_by_test 10 (codes "replace f -") refl) refl

new_size_may_go_on : CanBegin (codes "replace f 1677721")
new_size_may_go_on = alive_can (codes "replace f 1677721") refl

four_words_may_come : CanBegin (codes "re")
four_words_may_come = alive_can (codes "re") refl

-- ---- fronts of a size

size_may_go_on : CanBegin (codes "create f a 1677721")
size_may_go_on = alive_can (codes "create f a 1677721") refl

leading_zero : CanBegin (codes "create f a 00") → ⊥
leading_zero = dead_cannot (codes "create f a 00") (lacks_by_test 10 (codes "create f a 00") refl) refl

one_byte_too_many : CanBegin (codes "create f a 16777217") → ⊥
one_byte_too_many = dead_cannot (codes "create f a 16777217") (lacks_by_test 10 (codes "create f a 16777217") refl) refl

-- ---- the end inside an item, and the limit

no_item_without_lf : BeginsWithItem (codes "enrol a") → ⊥
no_item_without_lf (item, rest, command, e, is) =
    let past : 7 < length item = item_past (codes "enrol a") [] item rest command (lacks_by_test 10 (codes "enrol a") refl) (append-nil (codes "enrol a") ∙ e) is in
    let whole : 7 ≡ length item + length rest = ap length e ∙ length-append item rest in
    absurd (omega arith)

cut_line : IsScript (codes "enrol a") [] (BadAt 1)
cut_line = (refl, cut (omega arith) (omega arith) no_item_without_lf)

-- where seven bytes may be read, a line of eight is too long, and no bad item
eight_past_seven : Reads 1 7 (codes "enrol a" ++ 10 ∷ []) [] TooLong
eight_past_seven = record {
  past = omega arith;
  can = alive_can (codes "enrol a") refl;
  none_fits = λ item rest command e is. item_past (codes "enrol a") (10 ∷ []) item rest command (lacks_by_test 10 (codes "enrol a") refl) e is;
}
