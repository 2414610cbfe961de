-- Acts over a server that nobody else updates are answered.
use Rattle.std.proofs.Common.{◌≡◌, ℕ, ◌≤◌, List, [], length}
use Rattle.std.proofs.Common.{Option, Some, Result, Ok, Err, sym, subst, inl, inr}
use Rattle.std.proofs.Common.{arith}
use Rattle.ov_base.specs.declared.limits.TheConstants.{MAX_FILE_BYTES}
use Rattle.ov_client.proofs.KeyLines.{lines_once}
use Rattle.ov_client.specs.KeyLines.{IsLineOf}
use Rattle.ov_client.specs.Readers.{Reader}
use Rattle.ov_history.specs.Masters.{Masters}
use Rattle.ov_history.specs.Plain.{PlainHistory}
use Rattle.ov_keyfile.proofs.Parts.{one_pair}
use Rattle.ov_keyfile.specs.KeyFile.{IsKeyFile}
use Rattle.ov_keyfile.specs.declared.masters.Masters.{Masters as ReadMasters}
use Rattle.ov_protocol.specs.Serving.{Service}
use Rattle.ov_peer.specs.Tells.{PeerTells}
use Rattle.ov_acts.proofs.Sources.{same_masters}
use Rattle.ov_acts.specs.Acts.{Acts, ActGoesOn, Owns, OwnsBy, ReadsBy, SaysCheck}
use Rattle.ov_acts.specs.Completeness.{AsksByName, HasFilesFor, HasOwnersFiles, HasReadersLine}
use Rattle.ov_peer.specs.Alone.{IsAlone}
use Rattle.ov_client.specs.Completeness.{FailsDisk}
use Rattle.ov_acts.specs.Completeness.{IsAnswered, IsAnsweredOr, IsComplete}
use Rattle.ov_acts.specs.Completeness.{IsStoreOf}
use Rattle.ov_acts.specs.Files.{FindsBody, FindsBytes, FindsMasters, FindsReader, plain_masters}
use Rattle.ov_acts.specs.Machine.{StoresBytes}
use Rattle.ov_acts.specs.Printing.{PutsOutcome}
use Rattle.ov_acts.specs.Stops.{Outcome}
use Rattle.ov_acts.specs.declared.job.Act.{Act}
use Rattle.ov_acts.specs.declared.job.Act.TheVariants as acts
use Rattle.ov_acts.specs.declared.stop.Stop.{Stop}
use Rattle.ov_acts.specs.declared.stop.Stop.TheVariants as stops
use Rattle.ov_acts.proofs.Commanding.{owned, read_answered}

-- ---- the files

-- an act is answered that goes on from right masters, or whose file wasn't read
masters_found : {P : Type 0} (disk : Type 0) (file : List ℕ) (k : Masters)
    (found : Result ReadMasters Stop) (p q : P) (outcome : Outcome) (Next : ReadMasters → Type 0)
    → IsKeyFile file k.base k.surface → FindsMasters (Some file) found
    → ((masters : ReadMasters) → k ≡ plain_masters masters → Next masters
    → IsAnsweredOr disk outcome)
    → ActGoesOn found p q outcome Next → IsAnsweredOr disk outcome
masters_found disk file k (Ok masters) p q outcome Next key is then goes =
    then masters (same_masters file k masters one_pair key is) goes
masters_found disk file k (Err stops.BadKeys) p q outcome Next key is then goes =
    absurd (is (k.base, k.surface, key))
masters_found disk file k (Err stops.Read) p q outcome Next key is then goes =
    subst (IsAnsweredOr disk) (sym goes.1) tt
masters_found disk file k (Err stop) p q outcome Next key is then goes = absurd is

-- an act is answered that goes on from the right reader
reader_found : {P : Type 0} (disk : Type 0) (line : List ℕ) (r : Reader)
    (found : Result Reader Stop) (p q : P) (outcome : Outcome) (Next : Reader → Type 0)
    → IsLineOf line r → FindsReader (Some line) found
    → (Next r → IsAnsweredOr disk outcome)
    → ActGoesOn found p q outcome Next → IsAnsweredOr disk outcome
reader_found disk line r (Ok other) p q outcome Next key is then goes =
    then (subst Next (lines_once line other r is key) goes)
reader_found disk line r (Err stops.BadKeys) p q outcome Next key is then goes = absurd (is r key)
reader_found disk line r (Err stops.Read) p q outcome Next key is then goes =
    subst (IsAnsweredOr disk) (sym goes.1) tt
reader_found disk line r (Err stop) p q outcome Next key is then goes = absurd is

-- an act is answered that goes on from the bytes to be stored, which are no more than a file may
-- have
bytes_taken : {P : Type 0} (disk : Type 0) (body : List ℕ) (found : Result (List ℕ) Stop)
    (p q : P) (outcome : Outcome) (Next : List ℕ → Type 0)
    → length body ≤ MAX_FILE_BYTES → FindsBytes (Some body) found
    → ((bytes : List ℕ) → Next bytes → IsAnsweredOr disk outcome)
    → ActGoesOn found p q outcome Next → IsAnsweredOr disk outcome
bytes_taken disk body (Ok bytes) p q outcome Next few is then goes = then bytes goes
bytes_taken disk body (Err stops.TooLong) p q outcome Next few is then goes =
    absurd (omega (arith, few, is))
bytes_taken disk body (Err stops.Read) p q outcome Next few is then goes =
    subst (IsAnsweredOr disk) (sym goes.1) tt
bytes_taken disk body (Err stops.Memory) p q outcome Next few is then goes =
    subst (IsAnsweredOr disk) (sym goes.1) tt
bytes_taken disk body (Err stop) p q outcome Next few is then goes = absurd is

-- what is taken of the file, where there is one
body_taken : {P : Type 0} (disk : Type 0) (act : Act) (body : Option (List ℕ)) (bytes : List ℕ)
    (found : Result (List ℕ) Stop) (p q : P) (outcome : Outcome) (Next : List ℕ → Type 0)
    → StoresBytes act body bytes → length bytes ≤ MAX_FILE_BYTES → FindsBody act body found
    → ((bytes : List ℕ) → Next bytes → IsAnsweredOr disk outcome)
    → ActGoesOn found p q outcome Next → IsAnsweredOr disk outcome
body_taken disk (acts.Create file list) body bytes found p q outcome Next stores few is then goes =
    bytes_taken disk bytes found p q outcome Next few
    (subst (λ (b : Option (List ℕ)). FindsBytes b found) stores is) then goes
body_taken disk (acts.Replace file) body bytes found p q outcome Next stores few is then goes =
    bytes_taken disk bytes found p q outcome Next few
    (subst (λ (b : Option (List ℕ)). FindsBytes b found) stores is) then goes
body_taken disk act body bytes found p q outcome Next stores few is then goes =
    then [] (subst (λ (t : Result (List ℕ) Stop). ActGoesOn t p q outcome Next) is goes)

-- ---- acts

check_answered : (disk : Type 0) (file : List ℕ) (k : Masters)
    (found : Result ReadMasters Stop) (outcome : Outcome)
    → IsKeyFile file k.base k.surface → FindsMasters (Some file) found → SaysCheck found outcome
    → IsAnsweredOr disk outcome
check_answered disk file k (Ok masters) outcome key is (inl e) =
    subst (IsAnsweredOr disk) (sym e) tt
check_answered disk file k (Ok masters) outcome key is (inr e) =
    subst (IsAnsweredOr disk) (sym e) tt
check_answered disk file k (Err stops.BadKeys) outcome key is e =
    absurd (is (k.base, k.surface, key))
check_answered disk file k (Err stops.Read) outcome key is e = subst (IsAnsweredOr disk) (sym e) tt
check_answered disk file k (Err stop) outcome key is e = absurd is

module _ {P : Type 0} (peer : PeerTells P)
    (p q : P) (outcome : Outcome) where
  abbrev disk : Type 0
  disk = FailsDisk peer p q

  owner_answered : (act : Act) (keys body : Option (List ℕ)) (k : Masters) (h : PlainHistory)
      (v : Service) → AsksByName act → OwnsBy peer act keys body p q outcome
      → IsAlone peer → peer.serves p v → IsStoreOf k h v → HasOwnersFiles act keys body k
      → IsAnsweredOr disk outcome
  owner_answered act keys body k h v named (found, is, goes) alone serving store files =
      masters_found disk files.file k found p q outcome _ files.masters
      (subst (λ (known : Option (List ℕ)). FindsMasters known found) files.told is)
      (λ masters one (taken, body_is, then).
      body_taken disk act body files.bytes taken p q outcome _ files.stores files.few body_is
      (λ bytes owns.
      owned peer alone k h v store act bytes p q outcome named
      (subst (λ (m : Masters). Owns peer m act bytes p q outcome) (sym one) owns) serving)
      then) goes

  reader_answered : (file : List ℕ) (keys : Option (List ℕ)) (k : Masters) (h : PlainHistory)
      (v : Service) → ReadsBy peer file keys p q outcome
      → IsAlone peer → peer.serves p v → IsStoreOf k h v → HasReadersLine keys k h
      → IsAnsweredOr disk outcome
  reader_answered file keys k h v (found, is, goes) alone serving store has =
      reader_found disk has.line has.reader found p q outcome _ has.is
      (subst (λ (known : Option (List ℕ)). FindsReader known found) has.told is)
      (λ (result, reads, e).
      subst (IsAnsweredOr disk) (sym e)
      (read_answered peer alone k h v store has.reader file p q result has.holds
      has.roots reads serving)) goes

  act_answered : (act : Act) (keys body : Option (List ℕ)) (k : Masters) (h : PlainHistory)
      (v : Service) → AsksByName act → Acts peer act keys body p q outcome
      → IsAlone peer → peer.serves p v → IsStoreOf k h v → HasFilesFor act keys body k h
      → IsAnsweredOr disk outcome
  act_answered (acts.Read file) keys body k h v named does alone serving store has =
      reader_answered file keys k h v does alone serving store has
  act_answered acts.Check keys body k h v named (same, (found, is, says)) alone serving store has =
      check_answered disk has.file k found outcome has.masters
      (subst (λ (known : Option (List ℕ)). FindsMasters known found) has.told is) says
  act_answered (acts.Enrol user) keys body k h v named does alone serving store has =
      owner_answered (acts.Enrol user) keys body k h v named does alone serving store has
  act_answered (acts.Grant user file) keys body k h v named does alone serving store has =
      owner_answered (acts.Grant user file) keys body k h v named does alone serving store has
  act_answered (acts.Revoke user file) keys body k h v named does alone serving store has =
      owner_answered (acts.Revoke user file) keys body k h v named does alone serving store has
  act_answered (acts.Remove file) keys body k h v named does alone serving store has =
      owner_answered (acts.Remove file) keys body k h v named does alone serving store has
  act_answered (acts.Create file list) keys body k h v named does alone serving store has =
      owner_answered (acts.Create file list) keys body k h v named does alone serving store has
  act_answered (acts.Replace file) keys body k h v named does alone serving store has =
      owner_answered (acts.Replace file) keys body k h v named does alone serving store has
  act_answered (acts.List file) keys body k h v named does alone serving store has =
      owner_answered (acts.List file) keys body k h v named does alone serving store has
  act_answered (acts.Key user) keys body k h v named does alone serving store has =
      owner_answered (acts.Key user) keys body k h v named does alone serving store has

  -- the check value asks no server
  check_done : (act : Act) (keys body : Option (List ℕ)) (k : Masters) → act ≡ acts.Check
      → Acts peer act keys body p q outcome → HasOwnersFiles act keys body k
      → IsAnsweredOr ⊥ outcome
  check_done act keys body k is does has =
      let (same, (found, there, says)) =
      subst (λ (a : Act). Acts peer a keys body p q outcome) is does in
      check_answered ⊥ has.file k found outcome has.masters
      (subst (λ (known : Option (List ℕ)). FindsMasters known found) has.told there) says

  -- ---- the statuses

  module _ (old new : Option (List ℕ)) (status : ℕ) where
    low : (why : Type 0) (code : ℕ) → 5 ≤ code → code ≤ 8 → status ≡ code → IsAnswered why status
    low why code above below e = inr (inr (inr (omega (arith, above, e), omega (arith, below, e))))

    status_answered : (disk_fails : Type 0) (o : Outcome) → IsAnsweredOr disk_fails o
        → PutsOutcome o old new status → IsAnswered disk_fails status
    status_answered disk_fails (Ok bytes) is (inl (e, put)) = inl e
    status_answered disk_fails (Ok bytes) is (inr (e, put)) =
        low disk_fails 6 (omega arith) (omega arith) e
    status_answered disk_fails (Err (stops.Refused why)) is (inl (inl (e, put))) = inr (inl e)
    status_answered disk_fails (Err (stops.Refused why)) is (inl (inr (e, put))) =
        low disk_fails 6 (omega arith) (omega arith) e
    status_answered disk_fails (Err (stops.Refused why)) is (inr (e, put)) =
        low disk_fails 7 (omega arith) (omega arith) e
    status_answered disk_fails (Err stops.Device) is (e, put) = inr (inr (inl (e, is)))
    status_answered disk_fails (Err stops.Read) is (e, put) =
        low disk_fails 5 (omega arith) (omega arith) e
    status_answered disk_fails (Err stops.Memory) is (e, put) =
        low disk_fails 7 (omega arith) (omega arith) e
    status_answered disk_fails (Err stops.Link) is (e, put) =
        low disk_fails 8 (omega arith) (omega arith) e
    status_answered disk_fails (Err stop) is puts = absurd is

    -- every act over such a server is answered
    pub complete : (act : Act) (keys body : Option (List ℕ)) → AsksByName act
        → Acts peer act keys body p q outcome → PutsOutcome outcome old new status
        → IsComplete peer act keys body p q status
    complete act keys body named does puts = record {
      over_server = λ k h v alone serving store has.
          status_answered disk outcome
          (act_answered act keys body k h v named does alone serving store has) puts;
      check = λ k is has.
          status_answered ⊥ outcome (check_done act keys body k is does has) puts;
    }
