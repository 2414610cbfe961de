-- Each command of a workload is what an item of a script says.
use Rattle.std.proofs.Common.{◌≡◌, ℕ, zero, suc, ◌+◌, ◌-◌, ◌*◌, ◌%◌, ◌^◌, ◌<◌, ◌≤◌, Bool, true, false, List, [], ◌∷◌, ◌++◌, length, refl, ◌∙◌, sym, ap, length-append, arith}
use Rattle.std.specs.Prelude.{codes, max, nat_lt}
use Rattle.std.specs.Fmt.{decimal}
use Rattle.std.proofs.lemmas.Bool.Decides.{nat_tests}
use Rattle.ov_base.specs.NameLists.{with_name}
use Rattle.ov_base.specs.Names.{IsName}
use Rattle.ov_base.specs.Sets.{has}
use Rattle.ov_base.specs.declared.limits.TheConstants.{MAX_FILE_BYTES, MAX_LINE_BYTES}
use Rattle.ov_script.specs.Items.{IsItem, line_of, create_line}
use Rattle.ov_script.specs.Workload.{and_if, body, command_at, command_by, creations, drawn_at, enrols_or_draws, file, user, users_in}
use Rattle.ov_script.specs.WrittenLists.{AreNames, list_text, with_commas, without_repeats}
use Rattle.ov_script.specs.declared.command.Command.{Command}
use Rattle.ov_script.specs.declared.command.Command.TheVariants.{Create}
use Rattle.ov_script.specs.declared.drawn.Kind.{Kind}
use Rattle.ov_script.specs.declared.drawn.Kind.TheVariants.{Creates, Grants, Revokes, Reads, Lists}
use Rattle.ov_script.specs.declared.drawn.TheConstants.{WORKLOAD_USERS, MAX_WORKLOAD}
use Rattle.ov_script.proofs.Draws.{creations_le}
use Rattle.ov_script.proofs.ListTexts.{AreNames-append, with_names-last}
use Rattle.ov_script.proofs.WordBytes.{name_short, size_short}
use Rattle.ov_script.proofs.WorkloadNames.{is_numbered, with_user}

-- ---- lists

user_named : (k : ℕ) → k < 2 ^ 32 → IsName (user k)
user_named k small = is_numbered 117 k refl small

file_named : (j : ℕ) → j < 2 ^ 32 → IsName (file j)
file_named j small = is_numbered 102 j refl small

and_if_named : (wanted : Bool) (names : List (List ℕ)) (name : List ℕ) → AreNames names → IsName name → AreNames (and_if wanted names name)
and_if_named true names name are named = AreNames-append names (name ∷ []) are (named, tt)
and_if_named false names name are named = are

users_named : (who k : ℕ) → k ≤ 8 → AreNames (users_in who k)
users_named who zero within = tt
users_named who (suc k) within = and_if_named (has who k) (users_in who k) (user k) (users_named who k (omega arith)) (user_named k (omega arith))

and_if_once : (wanted : Bool) (names : List (List ℕ)) (name : List ℕ) → names ≡ without_repeats names → with_name names name ≡ names ++ name ∷ []
    → and_if wanted names name ≡ without_repeats (and_if wanted names name)
and_if_once true names name once put =
    let last : without_repeats (names ++ name ∷ []) ≡ with_name (without_repeats names) name = with_names-last [] names name in
    sym put ∙ ap (λ (l : List (List ℕ)). with_name l name) once ∙ sym last
and_if_once false names name once put = once

users_once : (who k : ℕ) → k ≤ 8 → users_in who k ≡ without_repeats (users_in who k)
users_once who zero within = refl
users_once who (suc k) within = and_if_once (has who k) (users_in who k) (user k) (users_once who k (omega arith)) (with_user who k (omega arith))

and_if_few : (wanted : Bool) (names : List (List ℕ)) (name : List ℕ) → length (and_if wanted names name) ≤ length names + 1
and_if_few true names name = let n : length (names ++ name ∷ []) ≡ length names + 1 = length-append names (name ∷ []) in omega arith
and_if_few false names name = omega arith

users_few : (who k : ℕ) → length (users_in who k) ≤ k
users_few who zero = omega arith
users_few who (suc k) = omega (arith, users_few who k, and_if_few (has who k) (users_in who k) (user k))

commas_short : (names : List (List ℕ)) → AreNames names → length (with_commas names) ≤ length names * 65
commas_short [] are = omega arith
commas_short (name ∷ names) are =
    omega (arith, name_short name are.0, commas_short names are.1, length-append name (with_commas names))

list_short : (names : List (List ℕ)) → AreNames names → length (list_text names) ≤ length names * 65 + 1
list_short [] are = omega arith
list_short (name ∷ names) are =
    omega (arith, name_short name are.0, commas_short names are.1, length-append name (with_commas names))

-- ---- creations

pub body_size : (i j : ℕ) → length (body i j) ≡ j
body_size i zero = refl
body_size i (suc j) = omega (arith, body_size i j, length-append (body i j) ((i + j) % 256 ∷ []))

line_size : (file list : List ℕ) (size : ℕ) → length (create_line file list size) ≡ length file + length list + length (decimal size) + 10
line_size file list size =
    let line : length (create_line file list size) ≡ length (codes "create " ++ (file ++ 32 ∷ (list ++ 32 ∷ decimal size))) + 1 =
    length-append (codes "create " ++ (file ++ 32 ∷ (list ++ 32 ∷ decimal size))) (10 ∷ []) in
    let words : length (codes "create " ++ (file ++ 32 ∷ (list ++ 32 ∷ decimal size))) ≡ 7 + length (file ++ 32 ∷ (list ++ 32 ∷ decimal size)) =
    length-append (codes "create ") (file ++ 32 ∷ (list ++ 32 ∷ decimal size)) in
    let first : length (file ++ 32 ∷ (list ++ 32 ∷ decimal size)) ≡ length file + suc (length (list ++ 32 ∷ decimal size)) = length-append file (32 ∷ (list ++ 32 ∷ decimal size)) in
    let second : length (list ++ 32 ∷ decimal size) ≡ length list + suc (length (decimal size)) = length-append list (32 ∷ decimal size) in
    omega arith

-- ---- commands

abbrev IsSaid : Command → Type 0
IsSaid command = (item : List ℕ) × IsItem item command

creation_said : (i made who size : ℕ) → made < 2 ^ 32 → size < 4096 → IsSaid (Create (file made) (users_in who WORKLOAD_USERS) (body i size))
creation_said i made who size small few =
    let names : List (List ℕ) = users_in who WORKLOAD_USERS in
    let list : List ℕ = list_text names in
    let are = users_named who WORKLOAD_USERS (omega arith) in
    let bytes : length (body i size) ≡ size = body_size i size in
    let low : length (body i size) ≤ MAX_FILE_BYTES = omega arith in
    let short : length (create_line (file made) list (length (body i size))) ≤ MAX_LINE_BYTES =
    omega (arith, line_size (file made) list (length (body i size)), name_short (file made) (file_named made small), size_short (length (body i size)) low, list_short names are, users_few who WORKLOAD_USERS) in (
      create_line (file made) list (length (body i size)) ++ body i size ++ 10 ∷ [],
      (list, file_named made small, (names, are, refl, users_once who WORKLOAD_USERS (omega arith)), low, short, refl),
    )

asked : (who : ℕ) → IsName (user (who % WORKLOAD_USERS))
asked who = user_named (who % WORKLOAD_USERS) (omega arith)

asked_file : (made what : ℕ) → made < 2 ^ 31 → IsName (file (what % max made 1))
asked_file made what small =
    let some : 0 < max made 1 = omega arith in
    file_named (what % max made 1) (omega arith)

drawn_said : (kind : Kind) (i made who what : ℕ) → made < 2 ^ 31 → IsSaid (command_by kind i made who what)
drawn_said Creates i made who what small = creation_said i made who (what % 4096) (omega arith) (omega arith)
drawn_said Grants i made who what small = (line_of (codes "grant" ∷ user (who % WORKLOAD_USERS) ∷ file (what % max made 1) ∷ []), (asked who, asked_file made what small, refl))
drawn_said Revokes i made who what small = (line_of (codes "revoke" ∷ user (who % WORKLOAD_USERS) ∷ file (what % max made 1) ∷ []), (asked who, asked_file made what small, refl))
drawn_said Reads i made who what small = (line_of (codes "read" ∷ user (who % WORKLOAD_USERS) ∷ file (what % max made 1) ∷ []), (asked who, asked_file made what small, refl))
drawn_said Lists i made who what small = (line_of (codes "list" ∷ file (what % max made 1) ∷ []), (asked_file made what small, refl))

said_at : (first : Bool) (number place : ℕ) → nat_lt place WORKLOAD_USERS ≡ first → place < WORKLOAD_USERS + MAX_WORKLOAD → IsSaid (enrols_or_draws first number place)
said_at true number place test within =
    let less : place < WORKLOAD_USERS = grind (arith, nat_tests) in
    (line_of (codes "enrol" ∷ user place ∷ []), (user_named place (omega arith), refl))
said_at false number place test within =
    let i : ℕ = place - WORKLOAD_USERS in
    let few : creations number i ≤ i = creations_le number i in
    drawn_said (drawn_at number i).kind i (creations number i) (drawn_at number i).who (drawn_at number i).what (omega arith)

pub said : (number place : ℕ) → place < WORKLOAD_USERS + MAX_WORKLOAD → (item : List ℕ) × IsItem item (command_at number place)
said number place within = said_at (nat_lt place WORKLOAD_USERS) number place refl within
