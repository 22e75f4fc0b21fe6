-- Each clause is a lemma.
use Rattle.fw_model_rounds.proofs.Beginning.{can_settle, all_reset}
use Rattle.fw_model_rounds.proofs.Settling.{settle_restores}
use Rattle.fw_model_rounds.proofs.settling_restores_all.Goals as goal

pub returns-clause-begins : goal.returns-clause-begins
returns-clause-begins c = can_settle

pub returns-clause-reset : goal.returns-clause-reset
returns-clause-reset c = all_reset

pub returns-clause-enough : goal.returns-clause-enough
returns-clause-enough c = settle_restores
