use Rattle.std.proofs.Common.{◌≡◌, ◌++◌}
use Rattle.fw_log_explain.specs.Resets.{first_ports}
use Rattle.fw_log_explain.proofs.reset.put_ports.Given as goal

abbrev pub invariant-loop-i : goal.invariant-loop-i
invariant-loop-i l = l.text.items ≡ l.fn.text.items ++ first_ports l.first l.ports l.i
