-- Stores of which all stays but the disk, to which nothing is written.
use Rattle.std.proofs.Common.{◌≡◌, ◌∙◌, ◌≤◌, ℕ, List, Option, Some, None, refl, sym, ap, subst, arith, inr}
use Rattle.std.specs.Prelude.{IsSome, IsSomeAnd, IfSome, is_some}
use Rattle.ov_base.specs.Causes.{Rose}
use Rattle.ov_disk.specs.Disk.{Image}
use Rattle.ov_disk.specs.Moments.{IsUntouched, LeavesOnly}
use Rattle.ov_disk.specs.Tells.{DiskTells}
use Rattle.ov_disk.proofs.Runs.{looks_then, then_on, untouched, weaker}
use Rattle.ov_history.specs.Masters.{Masters}
use Rattle.ov_history.specs.Plain.{PlainHistory}
use Rattle.ov_protocol.specs.Serving.{IsService, Service, Serving, served, told_as}
use Rattle.ov_protocol.proofs.GoingOn.{services_are_served}
use Rattle.ov_server.specs.Answering.{serving_of}
use Rattle.ov_server.specs.Locally.{IsServedBy}
use Rattle.ov_store.specs.Opened.{Opened}
use Rattle.ov_machine.specs.Disks.{Holds, KeepsPlain, StandsForPlain}
use Rattle.ov_machine.specs.Seats.{Stays}

-- ---- bytes that are told

-- what is said of bytes that are told
pub if_told : {A : Type 0} (o : Option A) (P Q : A → Type 0) → IsSomeAnd o P
    → ((a : A) → P a → Q a) → IfSome o Q
if_told None P Q has then = absurd has
if_told (Some a) P Q has then = then a has

pub and_told : {A : Type 0} (o : Option A) (P Q : A → Type 0) → IsSome o → IfSome o P
    → ((a : A) → P a → Q a) → IsSomeAnd o Q
and_told None P Q told has then = absurd (cc told)
and_told (Some a) P Q told has then = then a has

pub are_told : {A : Type 0} (o : Option A) (P : A → Type 0) → IsSomeAnd o P → IsSome o
are_told None P has = absurd has
are_told (Some a) P has = refl

-- ---- what is served

-- a store that serves a history and tells its bytes shows all that follows from it
pub shows_told : {D : Type 0} (s : Opened D) (v : Service) → IsServedBy s v → serving_of s ≡ served v
shows_told s v (serves, told) =
    services_are_served (serving_of s) v serves ∙ all_told s.stored (served v) told where
      all_told : (o : Option (List (List ℕ))) (x : Serving) → IsSome o → told_as o x ≡ x
      all_told None x tells = absurd (cc tells)
      all_told (Some bytes) x tells = refl

-- ---- images

-- an image that keeps the history stands for it
pub keeps_stands : (k : Masters) (start p : PlainHistory) (c : Image) → KeepsPlain k start p c
    → StandsForPlain k start p c
keeps_stands k start p c (g, since, keeps) = (g, since, inr keeps)

-- ---- counts

-- a count that rose later rose
pub rose_since : (before mid now : ℕ) → before ≤ mid → Rose mid now → Rose before now
rose_since before mid now later rose = omega (arith, later, rose)

module _ {D : Type 0} (tells : DiskTells D) where
  -- ---- one store after another

  pub stays_here : (s : Opened D) → Stays tells s s
  stays_here s = record {
    writes = record { same = refl; disk = untouched tells s.disk };
    lent = refl;
    later = omega arith;
  }

  pub stays_then : (r s t : Opened D) → Stays tells r s → Stays tells s t → Stays tells r t
  stays_then r s t first then = record {
    writes = record {
      same = then.writes.same
          ∙ ap (λ (x : Opened D). record x { disk = t.disk }) first.writes.same;
      disk = looks_then tells r.disk s.disk t.disk first.writes.disk then.writes.disk;
    };
    lent = then.lent ∙ first.lent;
    later = omega (arith, first.later, then.later);
  }

  -- a store that is the same stays
  pub stays_same : (s t : Opened D) → t ≡ s → Stays tells s t
  stays_same s t same = subst (Stays tells s) (sym same) (stays_here s)

  module _ (s t : Opened D) (stays : Stays tells s t) where
    -- the server shows what it showed
    pub shows_same : serving_of t ≡ serving_of s
    shows_same = ap serving_of stays.writes.same

    pub fails_same : t.failed ≡ s.failed
    fails_same = ap (λ (x : Opened D). x.failed) stays.writes.same

    -- what was served is served
    pub serves_still : (v : Service) → IsServedBy s v → IsServedBy t v
    serves_still v (serves, told) = (
      subst (λ (x : Serving). IsService x v) (sym shows_same) serves,
      ap (λ (x : Serving). is_some x.stored) shows_same ∙ told,
    )

  -- ---- its disk

  -- each image that a crash may leave of a disk that holds the history keeps it
  pub holds_each : (k : Masters) (start p : PlainHistory) (disk : D)
      → Holds tells k start p disk → (c : Image) → tells.may_leave disk c → KeepsPlain k start p c
  holds_each k start p disk holds c left = (holds.kept, holds.since, holds.each c left)

  -- and stands for it
  pub holds_stands : (k : Masters) (start p : PlainHistory) (disk : D)
      → Holds tells k start p disk
      → (c : Image) → tells.may_leave disk c → StandsForPlain k start p c
  holds_stands k start p disk holds c left = (holds.kept, holds.since, inr (holds.each c left))

  module _ (old new : D) (quiet : IsUntouched tells old new) where
    -- a disk holds the history that it held
    pub holds_still : (k : Masters) (start p : PlainHistory) → Holds tells k start p old
        → Holds tells k start p new
    holds_still k start p holds = record {
      told = (holds.told.0, quiet.reads_same ∙ holds.told.1);
      kept = holds.kept;
      right = holds.right;
      since = holds.since;
      each = λ c left. holds.each c (quiet.no_more c left);
    }

    -- what each image has that a crash may leave, any moment since then has left
    pub quiet_leaves : (P : Image → Type 0) → ((c : Image) → tells.may_leave old c → P c)
        → LeavesOnly tells old new P
    quiet_leaves P each = weaker tells old new (tells.may_leave old) P quiet.any_moment each

    -- a run behind such calls
    pub quiet_then : (last : D) (P : Image → Type 0) → ((c : Image) → tells.may_leave old c → P c)
        → LeavesOnly tells new last P → LeavesOnly tells old last P
    quiet_then last P each leaves =
        then_on tells old new last P P (quiet_leaves P each) leaves (λ c has. has)
