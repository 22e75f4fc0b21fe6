use Rattle.fw_model_account.specs.Fold.{entries_of}
use Rattle.fw_model_audit.proofs.Vouched.{audited_vouched}
use Rattle.fw_log_reports.proofs.Audits.{order_fits}
use Rattle.fw_log_reports.proofs.laws.sound_logs_are_vouched.Goals as goal

pub returns : goal.returns
returns c = λ entries bytes s a. audited_vouched (entries_of entries) (order_fits 0 entries s.spells.opens.order) a
