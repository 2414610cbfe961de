-- The number of workers, where its key is in the document.
use Rattle.std.proofs.Common.{◌≡◌, ℕ, inl, inr, Some, Result, Ok, Err, codes}
use Rattle.toml.specs.Data.{Data, Members, get_member}
use Rattle.ov_settings.specs.Settings.{FindsOr, HoldsNumber, HoldsWorkers}
use Rattle.ov_settings.specs.declared.fault.SettingsFault.{SettingsFault}
use Rattle.ov_settings.specs.declared.settings.TheConstants.{MAX_WORKERS}

-- a number that is looked for at a key that is there is the number of workers
pub workers_there : (m : Members) (d : Data) (result : Result ℕ SettingsFault) → get_member (codes "workers") m ≡ Some d
    → FindsOr (HoldsNumber m (codes "workers") MAX_WORKERS) result → FindsOr (HoldsWorkers m) result
workers_there m d (Ok number) there is = inl is
workers_there m d (Err fault) there (inl memory) = inl memory
workers_there m d (Err fault) there (inr (code, none)) = inr (code, neither) where
  neither : (workers : ℕ) → HoldsWorkers m workers → ⊥
  neither workers (inl is) = none workers is
  neither workers (inr (missing, four)) = cc (there, missing)
