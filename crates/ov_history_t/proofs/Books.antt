-- Contents of small stores.
use Rattle.std.proofs.Common.{◌≡◌, ℕ, List, [], ◌++◌, length, take, ◌∙◌, ap, arith}
use Rattle.std.proofs.Common.{length-append, false}
use Rattle.std.specs.Prelude.{None}
use Rattle.std.proofs.lemmas.List.{take_at, drop_at}
use Rattle.ov_base.specs.declared.mode.Mode.{Mode}
use Rattle.ov_keyed.proofs.HmacLemmas.{length-hmac}
use Rattle.ov_tokens.specs.Keys.{check_value_of}
use Rattle.ov_journal.specs.Book.{born, contents_of, is_first, records_in, spelled}
use Rattle.ov_journal.specs.Runs.{run_after}
use Rattle.ov_journal.specs.declared.header.Header.{Header}
use Rattle.ov_journal.proofs.Reading.{run_after-drop}
use Rattle.ov_images.specs.Images.{Keys}
use Rattle.ov_images.specs.Images.{header_of}
use Rattle.ov_history_t.specs.Stores.{book_in, history_in, recorded}

abbrev header : Mode → Keys → Header
header mode k = header_of k 2 (history_in mode [])

length-spelled : (mode : Mode) (k : Keys) → length k.base_check ≡ 32
    → length (spelled (header mode k)) ≡ 78
length-spelled mode k long =
    let check : length (check_value_of k.surface) ≡ 32 = length-hmac k.surface _ in
    omega (arith, length-append k.base_check (check_value_of k.surface), long, check)

-- the contents of a store with these records
pub contents : (mode : Mode) (k : Keys) (bodies : List (List ℕ)) → length k.base_check ≡ 32
    → run_after 0 (recorded bodies) ≡ record { bodies = bodies; bad = false }
    → contents_of (book_in mode k bodies) ≡ born (header mode k) None bodies
contents mode k bodies long is =
    let head = spelled (header mode k) in
    let whole : length head ≡ 78 = length-spelled mode k long in
    let front : take 78 (head ++ recorded bodies) ≡ head =
    take_at head (recorded bodies) 78 whole in
    let behind : run_after 78 (head ++ recorded bodies)
    ≡ record { bodies = bodies; bad = false } =
    run_after-drop 78 (head ++ recorded bodies)
    ∙ ap (λ (l : List ℕ). run_after 0 l) (drop_at head (recorded bodies) 78 whole) ∙ is in
    λ j. record { head = front j; records = records_in (is_first (front j)) (behind j) }
