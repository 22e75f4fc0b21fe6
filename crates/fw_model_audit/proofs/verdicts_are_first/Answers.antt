-- Each clause is a lemma.
use Rattle.fw_model_audit.proofs.Verdicts.{first_verdict, no_fault}
use Rattle.fw_model_audit.proofs.verdicts_are_first.Goals as goal

pub returns-clause-first : goal.returns-clause-first
returns-clause-first c = first_verdict

pub returns-clause-none : goal.returns-clause-none
returns-clause-none c = no_fault
