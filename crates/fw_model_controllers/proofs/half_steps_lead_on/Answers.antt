-- Each clause is a lemma.
use Rattle.fw_model_controllers.proofs.Leads.{turn_tells, turn_leads, answer_leads}
use Rattle.fw_model_controllers.proofs.half_steps_lead_on.Goals as goal

pub returns-clause-says : goal.returns-clause-says
returns-clause-says c = turn_tells

pub returns-clause-request : goal.returns-clause-request
returns-clause-request c = turn_leads

pub returns-clause-answer : goal.returns-clause-answer
returns-clause-answer c = answer_leads
