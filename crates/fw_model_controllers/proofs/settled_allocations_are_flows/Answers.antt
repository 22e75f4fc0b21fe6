-- Each clause is a lemma.
use Rattle.fw_model_controllers.proofs.Together.{settled, whole}
use Rattle.fw_model_controllers.proofs.settled_allocations_are_flows.Goals as goal

pub returns-clause-allocations : goal.returns-clause-allocations
returns-clause-allocations c = settled

pub returns-clause-connections : goal.returns-clause-connections
returns-clause-connections c = whole
