use Rattle.fw_account_tables.proofs.Common.{◌∙◌}
use Rattle.fw_account_tables.proofs.Controllers.{outstanding_is}
use Rattle.fw_account_tables.proofs.tables.Tables.is_busy.Goals as goal

pub returns : goal.returns
returns c = λ l h. c.is_asked.ensures ∙ outstanding_is _ _ (c.outstanding.ensures l h)
