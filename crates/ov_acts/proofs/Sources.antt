-- What is found in the files that an act reads.
use Rattle.std.proofs.Common.{◌≡◌, ◌∙◌, ◌⊎◌, ℕ, List, Option, Some, None, Result, Ok, Err, ap, ap₂}
use Rattle.std.proofs.Common.{sym, subst, inl, inr}
use Rattle.std.specs.Prelude.{IfSome}
use Rattle.ov_client.specs.KeyLines.{IsLineOf}
use Rattle.ov_client.specs.Readers.{Reader}
use Rattle.ov_history.specs.Masters.{Masters}
use Rattle.ov_keyfile.specs.KeyFile.{HasMasters, IsKeyFile}
use Rattle.ov_keyfile.specs.declared.masters.Masters.{Masters as ReadMasters}
use Rattle.ov_acts.specs.Acts.{Acts, ActGoesOn, SaysCheck}
use Rattle.ov_acts.specs.Causes.{HasKeys, NeedsKeys}
use Rattle.ov_acts.specs.Files.{FindsBody, FindsMasters, FindsReader, plain_masters}
use Rattle.ov_protocol.specs.Serving.{Service}
use Rattle.ov_peer.specs.Tells.{PeerTells}
use Rattle.ov_acts.specs.Machine.{OwnersAsMachine, OwnsAsMachine, StoresBytes}
use Rattle.ov_acts.specs.Printing.{PutsOutcome}
use Rattle.ov_acts.specs.Stops.{Outcome}
use Rattle.ov_acts.specs.declared.job.Act.{Act}
use Rattle.ov_acts.specs.declared.job.Act.TheVariants as acts
use Rattle.ov_acts.specs.declared.stop.Stop.{Stop}
use Rattle.ov_acts.specs.declared.stop.Stop.TheVariants as stops

-- ---- the masters

-- a key file has these masters alone
pub same_masters : (file : List ℕ) (k : Masters) (masters : ReadMasters)
    (once : (file base surface other another : List ℕ)
    → IsKeyFile file base surface → IsKeyFile file other another
    → (base ≡ other) × (surface ≡ another))
    → IsKeyFile file k.base k.surface → IsKeyFile file masters.base.bytes masters.surface.bytes
    → k ≡ plain_masters masters
same_masters file k masters once is found =
    let both = once file k.base k.surface masters.base.bytes masters.surface.bytes is found in
    ap₂ (λ b s. record { base = b; surface = s }) both.0 both.1

-- ---- the bytes

-- the bytes that are found are those that are stored
pub same_bytes : (act : Act) (body : Option (List ℕ)) (bytes stored : List ℕ)
    → FindsBody act body (Ok bytes) → StoresBytes act body stored → stored ≡ bytes
same_bytes (acts.Create file list) body bytes stored found is =
    subst (λ b. IfSome b (λ all. all ≡ bytes)) is found.all
same_bytes (acts.Replace file) body bytes stored found is =
    subst (λ b. IfSome b (λ all. all ≡ bytes)) is found.all
same_bytes (acts.Enrol user) body bytes stored found is = cc
same_bytes (acts.Grant user file) body bytes stored found is = cc
same_bytes (acts.Revoke user file) body bytes stored found is = cc
same_bytes (acts.Remove file) body bytes stored found is = cc
same_bytes (acts.List file) body bytes stored found is = cc
same_bytes (acts.Key user) body bytes stored found is = cc
same_bytes (acts.Read file) body bytes stored found is = cc
same_bytes acts.Check body bytes stored found is = cc

-- ---- files of keys that aren't of their form

-- an act that stops at the file of keys
abbrev StopsThere : {P : Type 0} → P → P → Outcome → Type 0
StopsThere p q outcome = (q ≡ p) × ((outcome ≡ Err stops.BadKeys) ⊎ (outcome ≡ Err stops.Read))

no_masters : {P : Type 0} (file : List ℕ) (found : Result ReadMasters Stop) (p q : P)
    (outcome : Outcome) (Next : ReadMasters → Type 0)
    → (HasMasters file → ⊥) → FindsMasters (Some file) found → ActGoesOn found p q outcome Next
    → StopsThere p q outcome
no_masters file (Ok masters) p q outcome Next none is goes =
    absurd (none (masters.base.bytes, masters.surface.bytes, is))
no_masters file (Err stops.BadKeys) p q outcome Next none is goes = (goes.0, inl goes.1)
no_masters file (Err stops.Read) p q outcome Next none is goes = (goes.0, inr goes.1)
no_masters file (Err (stops.Refused why)) p q outcome Next none is goes = absurd is
no_masters file (Err stops.Device) p q outcome Next none is goes = absurd is
no_masters file (Err stops.Memory) p q outcome Next none is goes = absurd is
no_masters file (Err stops.Link) p q outcome Next none is goes = absurd is
no_masters file (Err stops.OtherKeys) p q outcome Next none is goes = absurd is
no_masters file (Err stops.BadReply) p q outcome Next none is goes = absurd is
no_masters file (Err stops.Damaged) p q outcome Next none is goes = absurd is
no_masters file (Err stops.Unsettled) p q outcome Next none is goes = absurd is
no_masters file (Err stops.TooLong) p q outcome Next none is goes = absurd is

no_reader : {P : Type 0} (line : List ℕ) (found : Result Reader Stop) (p q : P)
    (outcome : Outcome) (Next : Reader → Type 0)
    → ((r : Reader) × IsLineOf line r → ⊥) → FindsReader (Some line) found
    → ActGoesOn found p q outcome Next → StopsThere p q outcome
no_reader line (Ok r) p q outcome Next none is goes = absurd (none (r, is))
no_reader line (Err stops.BadKeys) p q outcome Next none is goes = (goes.0, inl goes.1)
no_reader line (Err stops.Read) p q outcome Next none is goes = (goes.0, inr goes.1)
no_reader line (Err (stops.Refused why)) p q outcome Next none is goes = absurd is
no_reader line (Err stops.Device) p q outcome Next none is goes = absurd is
no_reader line (Err stops.Memory) p q outcome Next none is goes = absurd is
no_reader line (Err stops.Link) p q outcome Next none is goes = absurd is
no_reader line (Err stops.OtherKeys) p q outcome Next none is goes = absurd is
no_reader line (Err stops.BadReply) p q outcome Next none is goes = absurd is
no_reader line (Err stops.Damaged) p q outcome Next none is goes = absurd is
no_reader line (Err stops.Unsettled) p q outcome Next none is goes = absurd is
no_reader line (Err stops.TooLong) p q outcome Next none is goes = absurd is

no_check : {P : Type 0} (file : List ℕ) (found : Result ReadMasters Stop) (p q : P)
    (outcome : Outcome)
    → (HasMasters file → ⊥) → FindsMasters (Some file) found → q ≡ p → SaysCheck found outcome
    → StopsThere p q outcome
no_check file (Ok masters) p q outcome none is same says =
    absurd (none (masters.base.bytes, masters.surface.bytes, is))
no_check file (Err stops.BadKeys) p q outcome none is same says = (same, inl says)
no_check file (Err stops.Read) p q outcome none is same says = (same, inr says)
no_check file (Err (stops.Refused why)) p q outcome none is same says = absurd is
no_check file (Err stops.Device) p q outcome none is same says = absurd is
no_check file (Err stops.Memory) p q outcome none is same says = absurd is
no_check file (Err stops.Link) p q outcome none is same says = absurd is
no_check file (Err stops.OtherKeys) p q outcome none is same says = absurd is
no_check file (Err stops.BadReply) p q outcome none is same says = absurd is
no_check file (Err stops.Damaged) p q outcome none is same says = absurd is
no_check file (Err stops.Unsettled) p q outcome none is same says = absurd is
no_check file (Err stops.TooLong) p q outcome none is same says = absurd is

module _ {P : Type 0} (peer : PeerTells P) where
  -- without keys nothing is asked
  no_keys : (act : Act) (file : List ℕ) (body : Option (List ℕ)) (p q : P) (outcome : Outcome)
      → (HasKeys act file → ⊥) → Acts peer act (Some file) body p q outcome
      → StopsThere p q outcome
  no_keys (acts.Read name) file body p q outcome none (found, is, goes) =
      no_reader file found p q outcome _ none is goes
  no_keys acts.Check file body p q outcome none (same, (found, is, says)) =
      no_check file found p q outcome none is same says
  no_keys (acts.Enrol user) file body p q outcome none (found, is, goes) =
      no_masters file found p q outcome _ none is goes
  no_keys (acts.Grant user name) file body p q outcome none (found, is, goes) =
      no_masters file found p q outcome _ none is goes
  no_keys (acts.Revoke user name) file body p q outcome none (found, is, goes) =
      no_masters file found p q outcome _ none is goes
  no_keys (acts.Remove name) file body p q outcome none (found, is, goes) =
      no_masters file found p q outcome _ none is goes
  no_keys (acts.Create name list) file body p q outcome none (found, is, goes) =
      no_masters file found p q outcome _ none is goes
  no_keys (acts.Replace name) file body p q outcome none (found, is, goes) =
      no_masters file found p q outcome _ none is goes
  no_keys (acts.List name) file body p q outcome none (found, is, goes) =
      no_masters file found p q outcome _ none is goes
  no_keys (acts.Key user) file body p q outcome none (found, is, goes) =
      no_masters file found p q outcome _ none is goes

  -- the status of an act that stops at the file of keys
  ends_so : (p q : P) (outcome : Outcome) (old new : Option (List ℕ)) (status : ℕ)
      → StopsThere p q outcome → PutsOutcome outcome old new status
      → (q ≡ p) × ((status ≡ 10) ⊎ (status ≡ 5))
  ends_so p q outcome old new status (same, inl e) puts =
      let put = subst (λ o. PutsOutcome o old new status) e puts in (same, inl put.0)
  ends_so p q outcome old new status (same, inr e) puts =
      let put = subst (λ o. PutsOutcome o old new status) e puts in (same, inr put.0)

  -- an act needs its keys
  pub needs_keys : (act : Act) (keys body : Option (List ℕ)) (p q : P) (outcome : Outcome)
      (old new : Option (List ℕ)) (status : ℕ)
      → Acts peer act keys body p q outcome → PutsOutcome outcome old new status
      → NeedsKeys act keys p q status
  needs_keys act None body p q outcome old new status does puts = tt
  needs_keys act (Some file) body p q outcome old new status does puts = λ none.
      ends_so p q outcome old new status (no_keys act file body p q outcome none does) puts

-- ---- an owner's act

-- what is said of an owner's act with the masters and the bytes that were found is so with those
-- that the files tell
pub owner_told : (act : Act) (keys body : Option (List ℕ)) (v : Service) (Then : Service → Type 0)
    (outcome : Outcome) (masters : ReadMasters) (bytes : List ℕ)
    (once : (file base surface other another : List ℕ)
    → IsKeyFile file base surface → IsKeyFile file other another
    → (base ≡ other) × (surface ≡ another))
    → FindsMasters keys (Ok masters) → FindsBody act body (Ok bytes)
    → (v.surface ≡ masters.surface.bytes
    → OwnsAsMachine (plain_masters masters) act bytes v Then outcome)
    → OwnersAsMachine act keys body v Then outcome
owner_told act keys body v Then outcome masters bytes once found taken told = λ file stored k is key stores same.
    let found_there = subst (λ known. FindsMasters known (Ok masters)) is found in
    let one : k ≡ plain_masters masters = same_masters file k masters once key found_there in
    let all : stored ≡ bytes = same_bytes act body bytes stored taken stores in
    let served : v.surface ≡ masters.surface.bytes = same ∙ ap (λ (m : Masters). m.surface) one in
    subst (λ b. OwnsAsMachine k act b v Then outcome) (sym all)
    (subst (λ (m : Masters). OwnsAsMachine m act bytes v Then outcome) (sym one) (told served))
