-- The clause is a lemma.
use Rattle.fw_model_account.proofs.Listing.{flows_alone}
use Rattle.fw_model_account.proofs.allocations_are_flows.Goals as goal

pub returns : goal.returns
returns c = flows_alone
