-- A reply that says that the disk failed is no Accepted.
use Rattle.std.proofs.Common.{◌≡◌, ◌==◌, ℕ, true, false, List, [], ◌∷◌, refl, arith}
use Rattle.std.proofs.lemmas.Bool.{and_parts}
use Rattle.std.proofs.lemmas.Bool.Decides.{nat_tests}
use Rattle.ov_peer.specs.Spellings.{fails_update, reads_update, says_accepted}
use Rattle.ov_wire.specs.RequestReading.{request_of}

-- another kind byte
other_kind : (kind : ℕ) → (kind == 0x8d) ≡ true → (kind == 0x84) ≡ false
other_kind kind is = grind (arith, nat_tests)

-- what says that the disk failed in an update accepts none
pub failed_accepts_none : (request reply : List ℕ) → fails_update request reply ≡ true
    → says_accepted reply ≡ false
failed_accepts_none request [] is = refl
failed_accepts_none request (kind ∷ body) is =
    other_kind kind (and_parts (kind == 0x8d) (reads_update (request_of request)) is).0
