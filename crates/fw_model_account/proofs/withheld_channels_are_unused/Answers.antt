-- Each clause is a lemma.
use Rattle.fw_model_account.proofs.Open.{talks_apart}
use Rattle.fw_model_account.proofs.withheld_channels_are_unused.Goals as goal

pub returns-clause-allocations : goal.returns-clause-allocations
returns-clause-allocations c = λ l ch s. s.withheld_unallocated ch

pub returns-clause-flows : goal.returns-clause-flows
returns-clause-flows c = λ l ch s. s.withheld_unclaimed ch

pub returns-clause-talkers : goal.returns-clause-talkers
returns-clause-talkers c = talks_apart
