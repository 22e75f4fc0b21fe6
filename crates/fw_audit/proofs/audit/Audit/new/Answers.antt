use Rattle.std.proofs.Common.{refl}
use Rattle.fw_model_account.specs.Fold.{no_account}
use Rattle.fw_audit.proofs.Audits.{nothing_audited}
use Rattle.fw_audit.proofs.audit.Audit.new.Goals as goal

pub returns : goal.returns
returns c = (refl, record { account = no_account; is = refl; stands = c.in_ok-new.ensures; audited = nothing_audited })
