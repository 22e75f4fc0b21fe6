use Rattle.std.proofs.Common.{◌≡◌, length}
use Rattle.fw_tests_nodes.proofs.plugs.plugs_linger_over_a_reset.Given as goal

abbrev pub invariant-loop-event : goal.invariant-loop-event
invariant-loop-event g l = record { outputs : length l.plugs.outputs ≡ 1; inputs : length l.plugs.inputs ≡ 1 }
