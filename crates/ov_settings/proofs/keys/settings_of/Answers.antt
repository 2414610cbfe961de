use Rattle.ov_base.specs.declared.key.Key.{Key}
use Rattle.std.proofs.Common.{codes}
use Rattle.toml.specs.View.{table_view}
use Rattle.ov_settings.specs.Settings.{AreSettings, HoldsDigits, HoldsWorkers}
use Rattle.ov_settings.specs.declared.settings.Settings.{Settings}
use Rattle.ov_settings.proofs.Missing.{missing_on}
use Rattle.ov_settings.proofs.keys.settings_of.Goals as goal

pub returns-in_err-surface : goal.returns-in_err-surface
returns-in_err-surface c =
    let m = table_view c.args.table.now in
    missing_on (λ (key : Key). HoldsDigits m (codes "surface") key.bytes) (AreSettings m) (λ (s : Settings). s.surface) (λ s is. is.surface)
    c.in_err-surface.field-0.0 c.from_residual-in_err-surface.result c.from_residual-in_err-surface.ensures.1 c.in_err-surface.ensures

pub returns-in_err-base : goal.returns-in_err-base
returns-in_err-base c =
    let m = table_view c.args.table.now in
    missing_on (λ (key : Key). HoldsDigits m (codes "base_check") key.bytes) (AreSettings m) (λ (s : Settings). record { bytes = s.base_check }) (λ s is. is.base_check)
    c.in_err-base.field-0.0 c.from_residual-in_err-base.result c.from_residual-in_err-base.ensures.1 c.in_err-base.ensures

pub returns-in_err-workers : goal.returns-in_err-workers
returns-in_err-workers c =
    let m = table_view c.args.table.now in
    missing_on (HoldsWorkers m) (AreSettings m) (λ (s : Settings). s.workers) (λ s is. is.workers)
    c.in_err-workers.field-0.0 c.from_residual-in_err-workers.result c.from_residual-in_err-workers.ensures.1 c.in_err-workers.ensures
