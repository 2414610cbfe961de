-- All of a call over a server that serves the book on the disk.
use Rattle.std.proofs.Common.{◌≡◌, ◌≤◌, ◌<◌, ℕ, List, [], ◌∷◌, length, Option, Some, None, Result}
use Rattle.std.proofs.Common.{Ok, Err, refl, sym, subst, inl, inr, arith}
use Rattle.std.specs.Prelude.{◌⊎◌, IsOk, IsSome}
use Rattle.ov_base.specs.declared.limits.TheConstants.{MAX_FILE_BYTES}
use Rattle.ov_base.specs.declared.mode.Mode.{Mode}
use Rattle.ov_disk.specs.Disk.{Image, Only}
use Rattle.ov_disk.specs.Moments.{LeavesOnly}
use Rattle.ov_disk.specs.Tells.{DiskTells}
use Rattle.ov_disk.proofs.Runs.{started}
use Rattle.ov_history.specs.Masters.{Masters}
use Rattle.ov_keyfile.specs.KeyFile.{IsKeyFile}
use Rattle.ov_keyfile.specs.declared.masters.Masters.{Masters as ReadMasters}
use Rattle.ov_keyfile.proofs.Parts.{one_pair}
use Rattle.ov_protocol.specs.Serving.{Service}
use Rattle.ov_peer.specs.Alone.{IsAlone}
use Rattle.ov_peer.specs.Tells.{PeerTells}
use Rattle.ov_client.specs.Completeness.{FailsDisk}
use Rattle.ov_owner.specs.Alone.{IsLeftAlone}
use Rattle.ov_acts.specs.Files.{FindsBytes, FindsMasters, plain_masters}
use Rattle.ov_acts.specs.declared.stop.Stop.{Stop}
use Rattle.ov_acts.specs.declared.stop.Stop.TheVariants as files
use Rattle.ov_books.specs.Books.{Booked}
use Rattle.ov_books.specs.Images.{IsImageOf, Keeps}
use Rattle.ov_book.specs.Opened.{Holds, Opened, Pending}
use Rattle.ov_book.specs.declared.fault.BookBegin.{BookBegin}
use Rattle.ov_book.specs.declared.fault.BookBegin.TheVariants as begins
use Rattle.ov_book.specs.declared.intent.Intent.{Intent}
use Rattle.ov_owning.specs.Endings.{End, unbegun, unread}
use Rattle.ov_owning.specs.Intents.{FindsIntent, FindsStored, intent_with}
use Rattle.ov_owning.specs.Printing.{PutsEnd, PutsLine, end_code, end_line}
use Rattle.ov_owning.specs.Running.{IsIdle, IsResume, OpensBook, OpensNone, OwnsAfter, OwnsBy, OwnsFound}
use Rattle.ov_owning.specs.Running.{OwnsOpen, OwnsUnder}
use Rattle.ov_owning.specs.Serving.{HasBody, HasBook, HasKeyFile, IsByOneBook, IsOwnAnswered}
use Rattle.ov_owning.specs.Serving.{LeavesServed, MayGoOn, ServesBook}
use Rattle.ov_owning.specs.declared.job.OwnAct.{OwnAct}
use Rattle.ov_owning.specs.declared.job.OwnAct.TheVariants.{Create, Enrol, Grant, Remove, Replace}
use Rattle.ov_owning.specs.declared.job.OwnAct.TheVariants.{Resume, Revoke}
use Rattle.ov_owning.specs.declared.stop.OwnStop.{OwnStop}
use Rattle.ov_owning.specs.declared.stop.OwnStop.TheVariants as stops
use Rattle.ov_owning.proofs.Answered.{IsFine, is_fine}
use Rattle.ov_owning.proofs.Calls.{none_there}
use Rattle.ov_owning.proofs.Meanwhile.{same_meanwhile}
use Rattle.ov_owning.proofs.Opens.{only_outside}
use Rattle.ov_owning.proofs.NextBook.{IsFree, none_seen}
use Rattle.ov_owning.proofs.OneBook.{leaves_served}

-- an end without an epoch isn't a good one
failed_end : (end : End) (stop : OwnStop) → end ≡ Err stop → IsOk end → ⊥
failed_end end stop is ok = cc (subst (λ (e : End). IsOk e) is ok)

-- a key file has these masters alone
same_masters : (file : List ℕ) (k : Masters) (masters : ReadMasters)
    → IsKeyFile file k.base k.surface → IsKeyFile file masters.base.bytes masters.surface.bytes
    → k ≡ plain_masters masters
same_masters file k masters is found =
    let both = one_pair file k.base k.surface masters.base.bytes masters.surface.bytes is found in
    λ i. record { base = both.0 i; surface = both.1 i }

-- ---- the act and its file

-- an act that resumes has no intent
resume_none : (act : OwnAct) (body : Option (List ℕ)) (intent : Option Intent) → IsResume act
    → FindsIntent act body (Ok intent) → intent ≡ None
resume_none Resume body intent resumes (taken, none, same) =
    let is : Ok intent ≡ Ok None =
    subst (λ (t : Result (List ℕ) Stop). Ok intent ≡ intent_with Resume t) none same in
    cc is
resume_none (Enrol user) body intent resumes finds = absurd resumes
resume_none (Grant user file) body intent resumes finds = absurd resumes
resume_none (Revoke user file) body intent resumes finds = absurd resumes
resume_none (Remove file) body intent resumes finds = absurd resumes
resume_none (Create file list) body intent resumes finds = absurd resumes
resume_none (Replace file) body intent resumes finds = absurd resumes

-- why a file isn't read that has few enough bytes
bytes_fine : (fails : Type 0) (body : Option (List ℕ)) (bytes : List ℕ) (stop : Stop)
    → body ≡ Some bytes → length bytes ≤ MAX_FILE_BYTES → FindsBytes body (Err stop)
    → IsFine fails (Err (unread stop))
bytes_fine fails body bytes files.TooLong told few finds =
    let long : MAX_FILE_BYTES < length bytes =
    subst (λ (x : Option (List ℕ)). FindsBytes x (Err files.TooLong)) told finds in
    absurd (omega (arith, few, long))
bytes_fine fails body bytes files.Read told few finds = tt
bytes_fine fails body bytes files.Memory told few finds = tt
bytes_fine fails body bytes stop told few finds = absurd finds

stored_fine : (fails : Type 0) (act : OwnAct) (body : Option (List ℕ)) (stop : Stop)
    → HasBody act body → FindsStored act body (Err stop) → IsFine fails (Err (unread stop))
stored_fine fails (Create file list) body stop has finds =
    let (bytes, told, few) = has tt in bytes_fine fails body bytes stop told few finds
stored_fine fails (Replace file) body stop has finds =
    let (bytes, told, few) = has tt in bytes_fine fails body bytes stop told few finds
stored_fine fails (Enrol user) body stop has finds = absurd (cc finds)
stored_fine fails (Grant user file) body stop has finds = absurd (cc finds)
stored_fine fails (Revoke user file) body stop has finds = absurd (cc finds)
stored_fine fails (Remove file) body stop has finds = absurd (cc finds)
stored_fine fails Resume body stop has finds = absurd (cc finds)

taken_fine : (fails : Type 0) (act : OwnAct) (body : Option (List ℕ)) (stop : Stop)
    (taken : Result (List ℕ) Stop) → HasBody act body → FindsStored act body taken
    → Err stop ≡ intent_with act taken → IsFine fails (Err (unread stop))
taken_fine fails act body stop (Ok bytes) has finds same = absurd (cc same)
taken_fine fails act body stop (Err other) has finds same =
    let is : stop ≡ other = cc same in
    subst (λ (x : Stop). IsFine fails (Err (unread x))) (sym is)
    (stored_fine fails act body other has finds)

-- no book was begun, but for a fault of the disk or want of memory
begun_fine : (fails : Type 0) (fault : BookBegin)
    → (fault ≡ begins.Disk) ⊎ (fault ≡ begins.Memory) → IsFine fails (Err (unbegun fault))
begun_fine fails fault (inl disk) =
    subst (λ (x : BookBegin). IsFine fails (Err (unbegun x))) (sym disk) tt
begun_fine fails fault (inr memory) =
    subst (λ (x : BookBegin). IsFine fails (Err (unbegun x))) (sym memory) tt

-- ---- by an open book

module _ {P D : Type 0} (peer : PeerTells P) (disk : DiskTells D) (alone : IsAlone peer)
    (act : OwnAct) (mode : Mode) (body : Option (List ℕ)) (k : Masters) (b : Booked) (v : Service)
    (serves : ServesBook k b v) (d : D) (book : HasBook disk k mode b d) (p q : P)
    (serving : peer.serves p v) (e : D) (end : End) (untaken : Type 0) where
  -- nothing was asked, and a crash leaves this book
  idle_served : (stop : OwnStop) → q ≡ p → end ≡ Err stop
      → LeavesOnly disk d e (IsImageOf k b)
      → LeavesServed peer disk k b act body v q d e end
  idle_served stop same is leaves = record {
    now = v;
    serves = subst (λ (x : P). peer.serves x v) (sym same) serving;
    one = inl refl;
    images = λ c left.
        (b, refl, leaves.each c (disk.counts_now e (disk.moment d) c leaves.later left), serves);
    moments = same_meanwhile disk k b v serves d e leaves;
    done = λ ok. absurd (failed_end end stop is ok);
  }

  module _ (s : Opened D) (opens : OpensBook disk k mode d s) where
    holds : Holds disk b s
    holds = (opens.begun.found book.image book.told).each b book.mode_is book.stands

    reads : (i : Image) × (disk.reads s.disk ≡ Some i)
    reads = opens.begun.told book.image book.told

    opening : Only book.image (disk.may_leave d) → LeavesOnly disk d s.disk (IsImageOf k b)
    opening only = opens.leaves book.image book.told only b book.mode_is book.stands

    left_idle : (stop : OwnStop) → Only book.image (disk.may_leave d) → IsIdle p q s.disk e
        → end ≡ Err stop → LeavesServed peer disk k b act body v q d e end
    left_idle stop only (same, stays) is =
        idle_served stop same is
        (subst (λ (x : D). LeavesOnly disk d x (IsImageOf k b)) (sym stays) (opening only))

    is_free : (intent : Option Intent) → FindsIntent act body (Ok intent)
        → IsResume act ⊎ (s.pending ≡ None) → IsFree intent b
    is_free intent finds (inl resumes) = inl (resume_none act body intent resumes finds)
    is_free intent finds (inr none) = inr (none_there b.pending s.pending none holds.pending)

    found_served : IsLeftAlone peer → Only book.image (disk.may_leave d)
        → (found : Result (Option Intent) Stop)
        → IsResume act ⊎ (s.pending ≡ None) → FindsIntent act body found
        → OwnsFound peer disk mode s p q e end found
        → LeavesServed peer disk k b act body v q d e end
    found_served left only (Ok intent) goes finds owns =
        let both = owns b holds in
        leaves_served peer disk alone k b v serves s opens.begun.new.0 holds reads.0 reads.1 intent
        (is_free intent finds goes) mode act body finds left d (opening only) p q e end serving
        both.0 both.1
    found_served left only (Err stop) goes finds (idle, is) = left_idle (unread stop) only idle is

    open_served : IsLeftAlone peer → Only book.image (disk.may_leave d)
        → OwnsOpen peer disk act mode body untaken s p q e end
        → LeavesServed peer disk k b act body v q d e end
    open_served left only (inl (other, pending, idle, none, is)) =
        left_idle (stops.Pending s.settled.epoch) only idle is
    open_served left only (inr (goes, (found, finds, owns))) =
        found_served left only found goes finds owns

    found_fine : HasBody act body → (found : Result (Option Intent) Stop)
        → IsResume act ⊎ (s.pending ≡ None) → FindsIntent act body found
        → OwnsFound peer disk mode s p q e end found → IsFine (FailsDisk peer p q) end
    found_fine has (Ok intent) goes finds owns =
        let both = owns b holds in
        is_fine peer disk alone k b v serves s opens.begun.new.0 holds reads.0 reads.1 intent
        (is_free intent finds goes) mode book.mode_is p q e end serving both.0
    found_fine has (Err stop) goes (taken, finds, same) (idle, is) =
        subst (λ (x : End). IsFine (FailsDisk peer p q) x) (sym is)
        (taken_fine (FailsDisk peer p q) act body stop taken has finds same)

    goes_on : MayGoOn act b → (IsResume act → ⊥) → IsSome s.pending → ⊥
    goes_on (inl resumes) other pending = other resumes
    goes_on (inr none) other pending =
        cc (subst (λ (x : Option Pending). IsSome x)
        (none_seen b.pending s.pending none holds.pending) pending)

    open_fine : HasBody act body → MayGoOn act b
        → OwnsOpen peer disk act mode body untaken s p q e end → IsFine (FailsDisk peer p q) end
    open_fine has may (inl (other, pending, idle, none, is)) = absurd (goes_on may other pending)
    open_fine has may (inr (goes, (found, finds, owns))) = found_fine has found goes finds owns

  -- ---- from the book on the disk on

  under_served : IsLeftAlone peer → Only book.image (disk.may_leave d)
      → OwnsUnder peer disk k act mode body untaken p q d e end
      → LeavesServed peer disk k b act body v q d e end
  under_served left only (inl (fault, none, same, nothing, is)) =
      idle_served (unbegun fault) same is
      (none.leaves book.image book.told only b book.mode_is book.stands)
  under_served left only (inr (s, opens, owns)) = open_served s opens left only owns

  under_fine : HasBody act body → MayGoOn act b
      → OwnsUnder peer disk k act mode body untaken p q d e end → IsFine (FailsDisk peer p q) end
  under_fine has may (inl (fault, none, same, nothing, is)) =
      subst (λ (x : End). IsFine (FailsDisk peer p q) x) (sym is)
      (begun_fine (FailsDisk peer p q) fault
      (only_outside k mode b book.image fault book.mode_is book.stands none.form
      (none.cause book.image book.told)))
  under_fine has may (inr (s, opens, owns)) = open_fine s opens has may owns

  -- ---- from the key file on

  module _ (keys : Option (List ℕ)) (key : HasKeyFile keys k) where
    -- the masters that were found are those
    found_under : (masters : ReadMasters) → FindsMasters keys (Ok masters)
        → OwnsAfter peer disk act mode body untaken p q d e end (Ok masters)
        → OwnsUnder peer disk k act mode body untaken p q d e end
    found_under masters finds owns =
        let is = subst (λ (x : Option (List ℕ)). FindsMasters x (Ok masters)) key.told finds in
        subst (λ (m : Masters). OwnsUnder peer disk m act mode body untaken p q d e end)
        (sym (same_masters key.file k masters key.masters is)) owns

    -- or they weren't read
    no_masters : (stop : Stop) → FindsMasters keys (Err stop) → stop ≡ files.Read
    no_masters files.Read finds = refl
    no_masters files.BadKeys finds =
        let none = subst (λ (x : Option (List ℕ)). FindsMasters x (Err files.BadKeys)) key.told finds in
        absurd (none (k.base, k.surface, key.masters))
    no_masters stop finds = absurd finds

    by_served : IsLeftAlone peer → Only book.image (disk.may_leave d)
        → (found : Result ReadMasters Stop) → FindsMasters keys found
        → OwnsAfter peer disk act mode body untaken p q d e end found
        → LeavesServed peer disk k b act body v q d e end
    by_served left only (Ok masters) finds owns =
        under_served left only (found_under masters finds owns)
    by_served left only (Err stop) finds ((same, stays), nothing, is) =
        idle_served (unread stop) same is
        (subst (λ (x : D). LeavesOnly disk d x (IsImageOf k b)) (sym stays)
        (started disk d (IsImageOf k b)
        (λ c there. subst (λ (i : Image). IsImageOf k b i) (sym (only c there)) book.stands)))

    by_fine : HasBody act body → MayGoOn act b
        → (found : Result ReadMasters Stop) → FindsMasters keys found
        → OwnsAfter peer disk act mode body untaken p q d e end found
        → IsFine (FailsDisk peer p q) end
    by_fine has may (Ok masters) finds owns = under_fine has may (found_under masters finds owns)
    by_fine has may (Err stop) finds (idle, nothing, is) =
        subst (λ (x : End). IsFine (FailsDisk peer p q) x) (sym is)
        (subst (λ (x : Stop). IsFine (FailsDisk peer p q) (Err (unread x)))
        (sym (no_masters stop finds)) tt)

-- ---- the status

line_status : (line : List ℕ) (code : ℕ) (old new : Option (List ℕ)) (status : ℕ)
    → PutsLine line code old new status → (status ≡ code) ⊎ (status ≡ 6)
line_status [] code old new status puts = inl puts.0
line_status (byte ∷ bytes) code old new status (inl puts) = inl puts.0
line_status (byte ∷ bytes) code old new status (inr puts) = inr puts.0

low : (fails : Type 0) (status : ℕ) → 5 ≤ status → status ≤ 8 → IsOwnAnswered fails status
low fails status above below = inr (inr (inr (inl (above, below))))

code_answered : (fails : Type 0) (end : End) → IsFine fails end
    → IsOwnAnswered fails (end_code end)
code_answered fails (Ok epoch) is = inl refl
code_answered fails (Err (stops.Refused why)) is = inr (inl refl)
code_answered fails (Err stops.Device) is = inr (inr (inl (refl, is)))
code_answered fails (Err stops.Read) is = low fails 5 (omega arith) (omega arith)
code_answered fails (Err stops.Memory) is = low fails 7 (omega arith) (omega arith)
code_answered fails (Err stops.Link) is = low fails 8 (omega arith) (omega arith)
code_answered fails (Err stops.Disk) is = inr (inr (inr (inr refl)))
code_answered fails (Err stop) is = absurd is

status_answered : (fails : Type 0) (end : End) (old new : Option (List ℕ)) (status : ℕ)
    → IsFine fails end → PutsEnd end old new status → IsOwnAnswered fails status
status_answered fails end old new status is (inr puts) =
    low fails status (omega (arith, puts.0)) (omega (arith, puts.0))
status_answered fails end old new status is (inl puts) =
    elim (line_status (end_line end) (end_code end) old new status puts) [
      | inl same ↦ subst (λ (n : ℕ). IsOwnAnswered fails n) (sym same) (code_answered fails end is)
      | inr six ↦ low fails status (omega (arith, six)) (omega (arith, six))
    ]

-- ---- all of it

pub by_one_book : {P D : Type 0} (peer : PeerTells P) (disk : DiskTells D) (act : OwnAct)
    (mode : Mode) (keys body : Option (List ℕ)) (untaken : Type 0) (p q : P) (d e : D) (end : End)
    (old new : Option (List ℕ)) (status : ℕ)
    → OwnsBy peer disk act mode keys body untaken p q d e end → PutsEnd end old new status
    → IsByOneBook peer disk act mode keys body p q d e end status
by_one_book peer disk act mode keys body untaken p q d e end old new status (found, finds, owns)
    puts =
    record {
      served = λ k b v book alone left serving serves key only.
          by_served peer disk alone act mode body k b v serves d book p q serving e end untaken keys
          key left only found finds owns;
      answered = λ k b v book alone serving serves key has may.
          status_answered (FailsDisk peer p q) end old new status
          (by_fine peer disk alone act mode body k b v serves d book p q serving e end untaken keys
          key has may found finds owns) puts;
    }
