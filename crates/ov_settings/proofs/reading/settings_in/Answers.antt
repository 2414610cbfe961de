use Rattle.ov_settings.proofs.Missing.{without_document_on}
use Rattle.ov_settings.proofs.reading.settings_in.Goals as goal

pub returns-in_err-table : goal.returns-in_err-table
returns-in_err-table c =
    without_document_on _ c.in_err-table.field-0.0 c.from_residual.result c.from_residual.ensures.1 c.in_err-table.ensures.none
