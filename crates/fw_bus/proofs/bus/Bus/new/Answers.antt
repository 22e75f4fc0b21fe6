-- A new bus stands for the first state, which the empty run leads to.
use Rattle.std.proofs.Common.{[]}
use Rattle.fw_model_run.specs.State.{first_state}
use Rattle.fw_model_run.specs.Runs.{begun}
use Rattle.fw_bus.proofs.bus.Bus.new.Goals as goal

pub invariant_of-result : goal.invariant_of-result
invariant_of-result c = λ fresh. record { commands = []; actions = []; log = []; state = first_state; run = begun; stands = c.new-7.ensures }
