-- Each clause is a lemma.
use Rattle.fw_model_account.proofs.Listing.{channel_once, units_with_channel}
use Rattle.fw_model_account.proofs.resources_are_distinct.Goals as goal

pub returns-clause-once : goal.returns-clause-once
returns-clause-once c = channel_once

pub returns-clause-beside : goal.returns-clause-beside
returns-clause-beside c = units_with_channel
