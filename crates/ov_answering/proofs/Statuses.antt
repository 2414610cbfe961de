-- What is promised of a status, of the key file and of the words.
use Rattle.std.proofs.Common.{◌≡◌, ◌⊎◌, inl, inr, ℕ, ◌≤◌, List, refl, sym, ◌∙◌, subst, arith}
use Rattle.std.specs.Prelude.{Option, Some, None, IfSome}
use Rattle.std.specs.Io.KnownBytes.{Appends}
use Rattle.ov_base.specs.Causes.{Rose}
use Rattle.ov_keyfile.specs.KeyFile.{HasMasters, IsKeyFile}
use Rattle.ov_store.specs.declared.fault.BeginFault.{BeginFault}
use Rattle.ov_store.specs.declared.fault.BeginFault.TheVariants.{Disk as BeginDisk, NotAStore, Damaged, BaseDiffers, SurfaceDiffers, ModeDiffers, Memory as BeginMemory}
use Rattle.ov_report.specs.Ends.{EndsIn, EndsOr}
use Rattle.ov_report.specs.Faults.{fault_status, memory_line}
use Rattle.std.proofs.KnownBytes.{Appends-trans}
use Rattle.ov_machine.specs.Machine.{AreOtherTags}
use Rattle.ov_machine.specs.Sinks.{Grows}
use Rattle.ov_machine.specs.declared.fault.BadTag.{BadTag}
use Rattle.ov_answering.specs.Answering.{Finishes, SaysTag}
use Rattle.ov_answering.specs.Ending.{JudgesKeys, RefusesWords}
use Rattle.ov_answering.specs.Faults.{tag_line}
use Rattle.ov_answering.specs.Printing.{IsAnswered, IsKeysStatus, IsRefused, IsScriptStatus, IsStoreStatus, keys_line, read_line, usage_line}
use Rattle.ov_answering.specs.declared.answer.Stop.{Stop}
use Rattle.ov_answering.specs.declared.answer.Stop.TheVariants.{End, BadLine, Long, Read, Write, Disk, Trace, Memory, Tag}

-- ---- the status

-- a line that is put last ends a run with its status or with that of a failed write
pub ends_so : (P : ℕ → Type 0) (line : List ℕ) (code : ℕ) (old new : Option (List ℕ)) (status : ℕ) → P code → P 6 → EndsIn line code old new status → P status
ends_so P line code old new status is six (inl q) = subst P (sym q.0) is
ends_so P line code old new status is six (inr q) = subst P (sym q.0) six

pub ends_or_so : (P : ℕ → Type 0) (line : List ℕ) (code : ℕ) (old new : Option (List ℕ)) (status : ℕ) → P code → P 6 → P 7 → EndsOr line code old new status → P status
ends_or_so P line code old new status is six seven (inl e) = ends_so P line code old new status is six e
ends_or_so P line code old new status is six seven (inr e) = ends_so P memory_line 7 old new status seven six e

pub script_six : IsScriptStatus 6
script_six = inr (inl (inr (inl refl)))

pub script_seven : IsScriptStatus 7
script_seven = inr (inl (inr (inr (inl refl))))

pub script_five : IsScriptStatus 5
script_five = inr (inl (inl refl))

script_four : IsScriptStatus 4
script_four = inr (inl (inr (inr (inr refl))))

pub finishes_so : (stop : Stop) (epoch : ℕ) (old new : Option (List ℕ)) (status : ℕ) → Finishes stop epoch old new status → IsScriptStatus status
finishes_so End epoch old new status f = ends_or_so IsScriptStatus _ 0 old new status (inl (inl refl)) script_six script_seven f
finishes_so (BadLine n) epoch old new status f = ends_or_so IsScriptStatus _ 3 old new status (inl (inr (inl refl))) script_six script_seven f
finishes_so Long epoch old new status f = ends_so IsScriptStatus _ 11 old new status (inl (inr (inr refl))) script_six f
finishes_so Read epoch old new status f = ends_so IsScriptStatus _ 5 old new status script_five script_six f
finishes_so Disk epoch old new status f = ends_so IsScriptStatus _ 4 old new status script_four script_six f
finishes_so Memory epoch old new status f = ends_so IsScriptStatus _ 7 old new status script_seven script_six f
finishes_so (Tag bad) epoch old new status f = ends_or_so IsScriptStatus _ 12 old new status (inr (inr refl)) script_six script_seven f
finishes_so Write epoch old new status f = subst IsScriptStatus (sym f.0) script_six
finishes_so Trace epoch old new status f = subst IsScriptStatus (sym f.0) script_six

pub keys_six : IsKeysStatus 6
keys_six = inr (inr script_six)

pub keys_five : IsKeysStatus 5
keys_five = inr (inr script_five)

-- the line's own status isn't this one
pub not_code : (line : List ℕ) (code n : ℕ) (old new : Option (List ℕ)) (status : ℕ) → EndsIn line code old new status → (code ≡ n → ⊥) → (6 ≡ n → ⊥) → status ≡ n → ⊥
not_code line code n old new status (inl q) other no_six e = other (sym q.0 ∙ e)
not_code line code n old new status (inr q) other no_six e = no_six (sym q.0 ∙ e)

pub not_code_or : (line : List ℕ) (code n : ℕ) (old new : Option (List ℕ)) (status : ℕ) → EndsOr line code old new status → (code ≡ n → ⊥) → (6 ≡ n → ⊥) → (7 ≡ n → ⊥)
    → status ≡ n → ⊥
not_code_or line code n old new status (inl e) other no_six no_seven = not_code line code n old new status e other no_six
not_code_or line code n old new status (inr e) other no_six no_seven = not_code memory_line 7 n old new status e no_seven no_six

pub memory_not : (n : ℕ) (old new : Option (List ℕ)) (status : ℕ) → EndsIn memory_line 7 old new status → (6 ≡ n → ⊥) → (7 ≡ n → ⊥) → status ≡ n → ⊥
memory_not n old new status e no_six no_seven = not_code memory_line 7 n old new status e no_seven no_six

-- a call of the disk or a read is said to have failed where it stopped the answering
pub finish_disk : (stop : Stop) (epoch : ℕ) (old new : Option (List ℕ)) (status : ℕ) → Finishes stop epoch old new status → status ≡ 4 → stop ≡ Disk
finish_disk End epoch old new status f e = absurd (not_code_or _ 0 4 old new status f (λ z. omega arith) (λ z. omega arith) (λ z. omega arith) e)
finish_disk (BadLine n) epoch old new status f e = absurd (not_code_or _ 3 4 old new status f (λ z. omega arith) (λ z. omega arith) (λ z. omega arith) e)
finish_disk Long epoch old new status f e = absurd (not_code _ 11 4 old new status f (λ z. omega arith) (λ z. omega arith) e)
finish_disk Read epoch old new status f e = absurd (not_code _ 5 4 old new status f (λ z. omega arith) (λ z. omega arith) e)
finish_disk Disk epoch old new status f e = refl
finish_disk Memory epoch old new status f e = absurd (not_code _ 7 4 old new status f (λ z. omega arith) (λ z. omega arith) e)
finish_disk (Tag bad) epoch old new status f e = absurd (not_code_or _ 12 4 old new status f (λ z. omega arith) (λ z. omega arith) (λ z. omega arith) e)
finish_disk Write epoch old new status f e = absurd (let six : status ≡ 6 = f.0 in omega arith)
finish_disk Trace epoch old new status f e = absurd (let six : status ≡ 6 = f.0 in omega arith)

pub finish_read : (stop : Stop) (epoch : ℕ) (old new : Option (List ℕ)) (status : ℕ) → Finishes stop epoch old new status → status ≡ 5 → stop ≡ Read
finish_read End epoch old new status f e = absurd (not_code_or _ 0 5 old new status f (λ z. omega arith) (λ z. omega arith) (λ z. omega arith) e)
finish_read (BadLine n) epoch old new status f e = absurd (not_code_or _ 3 5 old new status f (λ z. omega arith) (λ z. omega arith) (λ z. omega arith) e)
finish_read Long epoch old new status f e = absurd (not_code _ 11 5 old new status f (λ z. omega arith) (λ z. omega arith) e)
finish_read Read epoch old new status f e = refl
finish_read Disk epoch old new status f e = absurd (not_code _ 4 5 old new status f (λ z. omega arith) (λ z. omega arith) e)
finish_read Memory epoch old new status f e = absurd (not_code _ 7 5 old new status f (λ z. omega arith) (λ z. omega arith) e)
finish_read (Tag bad) epoch old new status f e = absurd (not_code_or _ 12 5 old new status f (λ z. omega arith) (λ z. omega arith) (λ z. omega arith) e)
finish_read Write epoch old new status f e = absurd (let six : status ≡ 6 = f.0 in omega arith)
finish_read Trace epoch old new status f e = absurd (let six : status ≡ 6 = f.0 in omega arith)

-- a count that rose is said otherwise
pub rose_lent : (a b c d : ℕ) → Rose a b → c ≡ a → d ≡ b → Rose c d
rose_lent a b c d r e f = omega (arith, r, e, f)

-- the count of a sink rose in what was put before, or in the last line; or that of the other sink
-- rose before
pub rose_after : (P Q R : Type 0) (a b c : ℕ) → a ≤ b → (P → Rose a b) → (Q → R) → b ≤ c → (P ⊎ Q) ⊎ Rose b c → Rose a c ⊎ R
rose_after P Q R a b c h before other later (inl (inl p)) = inl (let r : Rose a b = before p in omega (arith, r, later))
rose_after P Q R a b c h before other later (inl (inr q)) = inr (other q)
rose_after P Q R a b c h before other later (inr r) = inl (omega (arith, h, r))

-- a tag is said to be wrong where the answering stopped at one
pub finish_tag : (N : Type 0) (stop : Stop) (epoch : ℕ) (old mid new : Option (List ℕ)) (status : ℕ) → Finishes stop epoch mid new status → Grows old mid
    → ((bad : BadTag) → stop ≡ Tag bad → AreOtherTags bad × N) → status ≡ 12 → SaysTag old new × N
finish_tag N End epoch old mid new status f grew other e = absurd (not_code_or _ 0 12 mid new status f (λ z. omega arith) (λ z. omega arith) (λ z. omega arith) e)
finish_tag N (BadLine n) epoch old mid new status f grew other e = absurd (not_code_or _ 3 12 mid new status f (λ z. omega arith) (λ z. omega arith) (λ z. omega arith) e)
finish_tag N Long epoch old mid new status f grew other e = absurd (not_code _ 11 12 mid new status f (λ z. omega arith) (λ z. omega arith) e)
finish_tag N Read epoch old mid new status f grew other e = absurd (not_code _ 5 12 mid new status f (λ z. omega arith) (λ z. omega arith) e)
finish_tag N Disk epoch old mid new status f grew other e = absurd (not_code _ 4 12 mid new status f (λ z. omega arith) (λ z. omega arith) e)
finish_tag N Memory epoch old mid new status f grew other e = absurd (not_code _ 7 12 mid new status f (λ z. omega arith) (λ z. omega arith) e)
finish_tag N Write epoch old mid new status f grew other e = absurd (let six : status ≡ 6 = f.0 in omega arith)
finish_tag N Trace epoch old mid new status f grew other e = absurd (let six : status ≡ 6 = f.0 in omega arith)
finish_tag N (Tag bad) epoch old mid new status (inl (inl q)) grew other e =
    let put = Appends-trans old mid new grew.0 (tag_line bad) grew.1 q.1 in
    ((bad, (other bad refl).0, (grew.0, put)), (other bad refl).1)
finish_tag N (Tag bad) epoch old mid new status (inl (inr q)) grew other e = absurd (let six : status ≡ 6 = q.0 in omega arith)
finish_tag N (Tag bad) epoch old mid new status (inr (inl q)) grew other e = absurd (let seven : status ≡ 7 = q.0 in omega arith)
finish_tag N (Tag bad) epoch old mid new status (inr (inr q)) grew other e = absurd (let six : status ≡ 6 = q.0 in omega arith)

fault_not_tag : (fault : BeginFault) → fault_status fault ≡ 12 → ⊥
fault_not_tag BeginDisk e = omega arith
fault_not_tag BeginMemory e = omega arith
fault_not_tag NotAStore e = omega arith
fault_not_tag (Damaged area place) e = omega arith
fault_not_tag (BaseDiffers stored given) e = omega arith
fault_not_tag (SurfaceDiffers stored given) e = omega arith
fault_not_tag (ModeDiffers stored given) e = omega arith

pub fault_no_tag : (fault : BeginFault) (line : List ℕ) (old new : Option (List ℕ)) (status : ℕ) → EndsOr line (fault_status fault) old new status → status ≡ 12 → ⊥
fault_no_tag fault line old new status e tag =
    not_code_or line (fault_status fault) 12 old new status e (fault_not_tag fault) (λ z. omega arith) (λ z. omega arith) tag

-- the status of a disk that doesn't open
pub fault_so : (fault : BeginFault) → IsStoreStatus (fault_status fault)
fault_so BeginDisk = inr script_four
fault_so BeginMemory = inr script_seven
fault_so NotAStore = inl (inl refl)
fault_so (Damaged area place) = inl (inl refl)
fault_so (BaseDiffers stored given) = inl (inr refl)
fault_so (SurfaceDiffers stored given) = inl (inr refl)
fault_so (ModeDiffers stored given) = inl (inr refl)

fault_not_five : (fault : BeginFault) → fault_status fault ≡ 5 → ⊥
fault_not_five BeginDisk e = omega arith
fault_not_five BeginMemory e = omega arith
fault_not_five NotAStore e = omega arith
fault_not_five (Damaged area place) e = omega arith
fault_not_five (BaseDiffers stored given) e = omega arith
fault_not_five (SurfaceDiffers stored given) e = omega arith
fault_not_five (ModeDiffers stored given) e = omega arith

pub fault_no_read : (fault : BeginFault) (line : List ℕ) (old new : Option (List ℕ)) (status : ℕ) → EndsOr line (fault_status fault) old new status → status ≡ 5 → ⊥
fault_no_read fault line old new status e five =
    not_code_or line (fault_status fault) 5 old new status e (fault_not_five fault) (λ z. omega arith) (λ z. omega arith) five

-- the statuses of a script are no others
apart_from : (status : ℕ) → IsScriptStatus status → (status ≡ 2 → ⊥) × (8 ≤ status → status ≤ 10 → ⊥)
apart_from status (inl (inl e)) = (λ two. omega arith, λ low high. omega arith)
apart_from status (inl (inr (inl e))) = (λ two. omega arith, λ low high. omega arith)
apart_from status (inl (inr (inr e))) = (λ two. omega arith, λ low high. omega arith)
apart_from status (inr (inl (inl e))) = (λ two. omega arith, λ low high. omega arith)
apart_from status (inr (inl (inr (inl e)))) = (λ two. omega arith, λ low high. omega arith)
apart_from status (inr (inl (inr (inr (inl e))))) = (λ two. omega arith, λ low high. omega arith)
apart_from status (inr (inl (inr (inr (inr e))))) = (λ two. omega arith, λ low high. omega arith)
apart_from status (inr (inr e)) = (λ two. omega arith, λ low high. omega arith)

pub not_refused : (status : ℕ) → IsScriptStatus status → IsRefused status → ⊥
not_refused status is (inl eight) = (apart_from status is).1 (omega arith) (omega arith)
not_refused status is (inr nine) = (apart_from status is).1 (omega arith) (omega arith)

pub not_keys : (status : ℕ) → IsStoreStatus status → status ≡ 10 → ⊥
not_keys status (inl (inl e)) ten = omega arith
not_keys status (inl (inr e)) ten = omega arith
not_keys status (inr is) ten = (apart_from status is).1 (omega arith) (omega arith)

pub not_usage : (status : ℕ) → IsKeysStatus status → status ≡ 2 → ⊥
not_usage status (inl e) two = omega arith
not_usage status (inr (inl (inl e))) two = omega arith
not_usage status (inr (inl (inr e))) two = omega arith
not_usage status (inr (inr is)) two = (apart_from status is).0 two

-- ---- the key file

each : (keys : Option (List ℕ)) (P : List ℕ → Type 0) → ((file : List ℕ) → P file) → IfSome keys P
each None P all = tt
each (Some file) P all = all file

-- a status that isn't one of a script that was answered
not_answered : (status : ℕ) → (status ≡ 2) ⊎ ((status ≡ 5) ⊎ ((status ≡ 6) ⊎ (status ≡ 10))) → IsAnswered status → ⊥
not_answered status (inl p) (inl e) = absurd (omega arith)
not_answered status (inl p) (inr (inl e)) = absurd (omega arith)
not_answered status (inl p) (inr (inr e)) = absurd (omega arith)
not_answered status (inr (inl p)) (inl e) = absurd (omega arith)
not_answered status (inr (inl p)) (inr (inl e)) = absurd (omega arith)
not_answered status (inr (inl p)) (inr (inr e)) = absurd (omega arith)
not_answered status (inr (inr (inl p))) (inl e) = absurd (omega arith)
not_answered status (inr (inr (inl p))) (inr (inl e)) = absurd (omega arith)
not_answered status (inr (inr (inl p))) (inr (inr e)) = absurd (omega arith)
not_answered status (inr (inr (inr p))) (inl e) = absurd (omega arith)
not_answered status (inr (inr (inr p))) (inr (inl e)) = absurd (omega arith)
not_answered status (inr (inr (inr p))) (inr (inr e)) = absurd (omega arith)

-- the file is a key file
pub judged_with : (asked : Type 0) (keys : Option (List ℕ)) (status : ℕ) (old new : Option (List ℕ)) (untouched : Type 0) (base surface : List ℕ)
    → IfSome keys (λ file. IsKeyFile file base surface) → (status ≡ 10 → ⊥) → JudgesKeys asked keys status old new untouched
judged_with asked None status old new untouched base surface read ten = record {
  masters = λ _. tt;
  none = λ e. absurd (ten e);
  line = λ e. absurd (ten e);
  kept = λ e. absurd (ten e);
  unread = tt;
  ends = λ _. tt;
}
judged_with asked (Some file) status old new untouched base surface read ten = record {
  masters = λ _. (base, surface, read);
  none = λ e. absurd (ten e);
  line = λ e. absurd (ten e);
  kept = λ e. absurd (ten e);
  unread = λ no. absurd (no (base, surface, read));
  ends = λ _ no. absurd (no (base, surface, read));
}

-- the file is none
pub judged_none : (asked : Type 0) (keys : Option (List ℕ)) (status : ℕ) (old new : Option (List ℕ)) (untouched : Type 0)
    → IfSome keys (λ file. HasMasters file → ⊥) → EndsIn keys_line 10 old new status → untouched → JudgesKeys asked keys status old new untouched
judged_none asked keys status old new untouched none ends left = record {
  masters = λ is. absurd (not_answered status (by_ends ends) is);
  none = λ _. none;
  line = λ e. line_put ends e;
  kept = λ e. left;
  unread = each keys (λ file. (HasMasters file → ⊥) → untouched) (λ file no. left);
  ends = λ _. each keys (λ file. (HasMasters file → ⊥) → EndsIn keys_line 10 old new status ⊎ EndsIn read_line 5 old new status) (λ file no. inl ends);
} where
  by_ends : EndsIn keys_line 10 old new status → (status ≡ 2) ⊎ ((status ≡ 5) ⊎ ((status ≡ 6) ⊎ (status ≡ 10)))
  by_ends (inl q) = inr (inr (inr q.0))
  by_ends (inr q) = inr (inr (inl q.0))

  line_put : EndsIn keys_line 10 old new status → status ≡ 10 → Appends old new keys_line
  line_put (inl q) e = q.1
  line_put (inr q) e = let six : status ≡ 6 = q.0 in absurd (omega arith)

-- a read of the key file failed
pub judged_failed : (asked : Type 0) (keys : Option (List ℕ)) (status : ℕ) (old new : Option (List ℕ)) (untouched : Type 0)
    → EndsIn read_line 5 old new status → untouched → JudgesKeys asked keys status old new untouched
judged_failed asked keys status old new untouched ends left = record {
  masters = λ is. absurd (not_answered status (by_ends ends) is);
  none = λ e. absurd (not_ten ends e);
  line = λ e. absurd (not_ten ends e);
  kept = λ e. left;
  unread = each keys (λ file. (HasMasters file → ⊥) → untouched) (λ file no. left);
  ends = λ _. each keys (λ file. (HasMasters file → ⊥) → EndsIn keys_line 10 old new status ⊎ EndsIn read_line 5 old new status) (λ file no. inr ends);
} where
  by_ends : EndsIn read_line 5 old new status → (status ≡ 2) ⊎ ((status ≡ 5) ⊎ ((status ≡ 6) ⊎ (status ≡ 10)))
  by_ends (inl q) = inr (inl q.0)
  by_ends (inr q) = inr (inr (inl q.0))

  not_ten : EndsIn read_line 5 old new status → status ≡ 10 → ⊥
  not_ten (inl q) e = let five : status ≡ 5 = q.0 in omega arith
  not_ten (inr q) e = let six : status ≡ 6 = q.0 in omega arith

-- the key file isn't looked at, for other words
pub judged_unasked : (asked : Type 0) (keys : Option (List ℕ)) (status : ℕ) (old new : Option (List ℕ)) (untouched : Type 0)
    → (asked → ⊥) → EndsIn usage_line 2 old new status → untouched → JudgesKeys asked keys status old new untouched
judged_unasked asked keys status old new untouched not_asked ends left = record {
  masters = λ is. absurd (not_answered status (by_ends ends) is);
  none = λ e. absurd (not_ten ends e);
  line = λ e. absurd (not_ten ends e);
  kept = λ e. left;
  unread = each keys (λ file. (HasMasters file → ⊥) → untouched) (λ file no. left);
  ends = λ is. absurd (not_asked is);
} where
  by_ends : EndsIn usage_line 2 old new status → (status ≡ 2) ⊎ ((status ≡ 5) ⊎ ((status ≡ 6) ⊎ (status ≡ 10)))
  by_ends (inl q) = inl q.0
  by_ends (inr q) = inr (inr (inl q.0))

  not_ten : EndsIn usage_line 2 old new status → status ≡ 10 → ⊥
  not_ten (inl q) e = let two : status ≡ 2 = q.0 in omega arith
  not_ten (inr q) e = let six : status ≡ 6 = q.0 in omega arith

-- what stays untouched may be said in other words
pub judged_so : (asked : Type 0) (keys : Option (List ℕ)) (status : ℕ) (old new : Option (List ℕ)) (untouched other : Type 0)
    → JudgesKeys (Unit {0}) keys status old new untouched → (untouched → other) → JudgesKeys asked keys status old new other
judged_so asked keys status old new untouched other j so =
    record { masters = j.masters; none = j.none; line = j.line; kept = λ e. so (j.kept e); unread = unread keys j.unread; ends = λ _. j.ends tt } where
      unread : (keys : Option (List ℕ)) → IfSome keys (λ file. (HasMasters file → ⊥) → untouched) → IfSome keys (λ file. (HasMasters file → ⊥) → other)
      unread None u = tt
      unread (Some file) u = λ none. so (u none)

-- ---- the words

pub words_refused : (other : Type 0) (status : ℕ) (old new : Option (List ℕ)) (untouched : Type 0) → other → untouched → EndsIn usage_line 2 old new status
    → RefusesWords other status old new untouched
words_refused other status old new untouched are left ends =
    record { usage = λ e. (are, line_put ends e); ends = λ _. ends; unread = λ _. left } where
      line_put : EndsIn usage_line 2 old new status → status ≡ 2 → Appends old new usage_line
      line_put (inl q) e = q.1
      line_put (inr q) e = let six : status ≡ 6 = q.0 in absurd (omega arith)

pub words_known : (other : Type 0) (status : ℕ) (old new : Option (List ℕ)) (untouched : Type 0) → (other → ⊥) → (status ≡ 2 → ⊥)
    → RefusesWords other status old new untouched
words_known other status old new untouched known not_two =
    record { usage = λ e. absurd (not_two e); ends = λ are. absurd (known are); unread = λ are. absurd (known are) }
