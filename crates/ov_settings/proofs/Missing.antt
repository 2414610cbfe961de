-- What is missing of a whole, where a part of it is missing.
use Rattle.std.proofs.Common.{◌≡◌, ◌⊎◌, ℕ, List, inl, inr, Result, Ok, Err, ap, sym, subst}
use Rattle.std.specs.Result.{IsErrAnd}
use Rattle.toml.specs.Data.{Members}
use Rattle.ov_settings.specs.Settings.{FindsOr, IsDocument, IsSettingsFile, fault_code}
use Rattle.ov_settings.specs.declared.settings.Settings.{Settings}
use Rattle.ov_settings.specs.declared.fault.SettingsFault.{SettingsFault}
use Rattle.ov_settings.specs.declared.fault.SettingsFault.TheVariants.{Memory, NotToml}

module _ {T : Type 0} {U : Type 0} (IsPart : T → Type 0) (IsWhole : U → Type 0) (part : U → T)
    (has : (whole : U) → IsWhole whole → IsPart (part whole)) where
  -- where each whole has a part that is so, the fault for no such part is one for no such whole
  pub missing : (fault : SettingsFault) → FindsOr {T = T} IsPart (Err fault) → FindsOr {T = U} IsWhole (Err fault)
  missing fault (inl memory) = inl memory
  missing fault (inr (code, none)) = inr (code, λ whole is. none (part whole) (has whole is))

  -- a fault for no such part that is handed on is one for no such whole
  pub missing_on : (fault : SettingsFault) (result : Result U SettingsFault) → IsErrAnd result (λ handed. handed ≡ fault)
      → FindsOr {T = T} IsPart (Err fault) → FindsOr {T = U} IsWhole result
  missing_on fault (Ok whole) same none = elim same [ ]
  missing_on fault (Err handed) same none = subst (λ f. FindsOr {T = U} IsWhole (Err f)) (sym same) (missing fault none)

-- bytes of no document are no settings file
without_document : (bytes : List ℕ) (fault : SettingsFault)
    → (fault ≡ Memory) ⊎ ((fault ≡ NotToml) × ((document : Members) → IsDocument bytes document → ⊥))
    → FindsOr {T = Settings} (IsSettingsFile bytes) (Err fault)
without_document bytes fault (inl memory) = inl memory
without_document bytes fault (inr (same, none)) = inr (ap fault_code same, λ s is. none is.document is.is)

-- a fault for no document that is handed on is one for no settings file
pub without_document_on : (bytes : List ℕ) (fault : SettingsFault) (result : Result Settings SettingsFault) → IsErrAnd result (λ handed. handed ≡ fault)
    → (fault ≡ Memory) ⊎ ((fault ≡ NotToml) × ((document : Members) → IsDocument bytes document → ⊥))
    → FindsOr (IsSettingsFile bytes) result
without_document_on bytes fault (Ok whole) same none = elim same [ ]
without_document_on bytes fault (Err handed) same none =
    subst (λ f. FindsOr {T = Settings} (IsSettingsFile bytes) (Err f)) (sym same) (without_document bytes fault none)
