-- A settings file that is taken whole, or past what one may have.
use Rattle.std.proofs.Common.{◌≡◌, ℕ, ◌+◌, ◌<◌, ◌≤◌, ◌⊎◌, inl, inr, List, [], ◌++◌, length, take, refl, sym, ◌∙◌, ap, subst, arith, length-append, append-nil, Option, Some, None, Result, Ok, Err}
use Rattle.std.specs.Prelude.{⊤}
use Rattle.std.proofs.lemmas.List.{length-take-le}
use Rattle.std.specs.Io.KnownBytes.{Consumes, IsAtEnd}
use Rattle.ov_io.specs.Calls.{TakesWhile, each_gave, no_piece}
use Rattle.ov_io.specs.Tells.{SourceTells}
use Rattle.ov_io.proofs.Pieces.{while_as}
use Rattle.ov_settings.specs.Settings.{FindsOr, IsReadAs, IsSettingsFile, TakesEnough, fault_code}
use Rattle.ov_settings.specs.declared.settings.Settings.{Settings}
use Rattle.ov_settings.specs.declared.fault.SettingsFault.{SettingsFault}
use Rattle.ov_settings.specs.declared.fault.SettingsFault.TheVariants.{Memory, Read, TooLong, NotToml, Address, Mode as ModeKey, Surface, BaseCheck, Book, Blobs, Sessions, Workers}
use Rattle.ov_settings.specs.declared.reading.TheConstants.{ENOUGH, LONGEST}

-- no fault for what isn't found is one of a read
pub finds_no_read : {T : Type 0} (IsSo : T → Type 0) (result : Result T SettingsFault) → FindsOr {T = T} IsSo result → result ≡ Err Read → ⊥
finds_no_read IsSo (Ok value) is e = cc
finds_no_read IsSo (Err fault) (inl memory) e = cc
finds_no_read IsSo (Err fault) (inr (code, none)) e =
    let read : fault ≡ Read = cc in
    let five : fault_code fault ≡ 5 = ap fault_code read in
    absurd (omega arith)

-- 5 is said of a read alone
pub code_of_read : (fault : SettingsFault) → fault_code fault ≡ 5 → fault ≡ Read
code_of_read Read e = refl
code_of_read Memory e = absurd (omega arith)
code_of_read TooLong e = absurd (omega arith)
code_of_read NotToml e = absurd (omega arith)
code_of_read Address e = absurd (omega arith)
code_of_read ModeKey e = absurd (omega arith)
code_of_read Surface e = absurd (omega arith)
code_of_read BaseCheck e = absurd (omega arith)
code_of_read Book e = absurd (omega arith)
code_of_read Blobs e = absurd (omega arith)
code_of_read Sessions e = absurd (omega arith)
code_of_read Workers e = absurd (omega arith)

module _ {S : Type 0} (tells : SourceTells S) where
  -- the size of the buffer is known, and the failure may be said otherwise
  pub enough_as : (size : ℕ) (F G : Type 0) (old new : S) → size ≡ ENOUGH → (G → F)
      → TakesWhile tells (λ seen. length seen < size) ⊤ F old new → TakesEnough tells G old new
  enough_as size F G old new e f t =
      while_as tells (λ seen. length seen < ENOUGH) ⊤ ⊤ F G old new (λ e. e) f
      (subst (λ (n : ℕ). TakesWhile tells (λ seen. length seen < n) ⊤ F old new) e t)

  -- nothing was taken
  pub nothing_taken : (G : Type 0) (old : S) → (G → ⊥) → TakesEnough tells G old old
  nothing_taken G old never = each_gave [] (no_piece old refl) never

-- ---- what is read

-- a file that begins so is too long
too_long : (all front rest : List ℕ) → all ≡ front ++ rest → length front ≡ ENOUGH → length all ≤ LONGEST → ⊥
too_long all front rest is long short =
    let size : length all ≡ length front + length rest = ap length is ∙ length-append front rest in
    absurd (omega arith)

-- all that was left was taken
whole : (all front rest : List ℕ) → all ≡ front ++ rest → rest ≡ [] → all ≡ front
whole all front rest is none = is ∙ ap (λ r. front ++ r) none ∙ append-nil front

read_as : (old new : Option (List ℕ)) (front : List ℕ) (result : Result Settings SettingsFault) → Consumes old new front
    → (length front ≡ ENOUGH) ⊎ IsAtEnd new → FindsOr (IsSettingsFile front) result → IsReadAs fault_code old result
read_as None new front (Ok s) taken ended is = (front, is, tt)
read_as None new front (Err fault) taken ended is = λ code. tt
read_as (Some all) None front result taken ended is = absurd taken
read_as (Some all) (Some rest) front (Ok s) taken (inl long) is = absurd (too_long front front [] (sym (append-nil front)) long is.short)
read_as (Some all) (Some rest) front (Ok s) taken (inr none) is = (front, is, whole all front rest taken none)
read_as (Some all) (Some rest) front (Err fault) taken ended (inl memory) = λ code.
    let seven : fault_code fault ≡ 7 = ap fault_code memory in
    absurd (omega arith)
read_as (Some all) (Some rest) front (Err fault) taken (inl long) (inr (code, none)) = λ same s is. too_long all front rest taken long is.short
read_as (Some all) (Some rest) front (Err fault) taken (inr end) (inr (code, none)) = λ same s is.
    none s (subst (λ (bytes : List ℕ). IsSettingsFile bytes s) (whole all front rest taken end) is)

-- settings are read by way of a buffer that was filled
pub read_of : (old new : Option (List ℕ)) (front buffer : List ℕ) (count size : ℕ) (result : Result Settings SettingsFault)
    → front ≡ take count buffer → length buffer ≡ size → size ≡ ENOUGH → count ≤ size
    → Consumes old new (take count buffer) → (count ≡ size) ⊎ IsAtEnd new
    → FindsOr (IsSettingsFile front) result → IsReadAs fault_code old result
read_of old new front buffer count size result is long enough within taken ended finds =
    read_as old new front result (subst (Consumes old new) (sym is) taken) (as_long ended) finds where
      as_long : (count ≡ size) ⊎ IsAtEnd new → (length front ≡ ENOUGH) ⊎ IsAtEnd new
      as_long (inl full) = inl (ap length is ∙ length-take-le count buffer (omega arith) ∙ full ∙ enough)
      as_long (inr end) = inr end
