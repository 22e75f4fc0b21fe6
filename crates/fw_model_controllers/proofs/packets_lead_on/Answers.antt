-- Each clause is a lemma.
use Rattle.fw_model_controllers.proofs.Requests.{is_request_at, request_leads, response_leads}
use Rattle.fw_model_controllers.proofs.packets_lead_on.Goals as goal

pub returns-clause-place : goal.returns-clause-place
returns-clause-place c = is_request_at

pub returns-clause-request : goal.returns-clause-request
returns-clause-request c = request_leads

pub returns-clause-response : goal.returns-clause-response
returns-clause-response c = response_leads
