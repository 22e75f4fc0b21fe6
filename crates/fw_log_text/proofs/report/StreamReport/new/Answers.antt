use Rattle.fw_log_text.proofs.TallyLaws.{reports_none}
use Rattle.fw_log_text.proofs.report.StreamReport.new.Goals as goal

pub returns : goal.returns
returns c = reports_none c.new.result c.new.ensures
