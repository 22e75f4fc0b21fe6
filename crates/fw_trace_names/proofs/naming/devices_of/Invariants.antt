use Rattle.std.proofs.Common.{◌≡◌, take}
use Rattle.fw_trace_names.specs.Names.{devices_of}
use Rattle.fw_trace_names.proofs.naming.devices_of.Given as goal

abbrev pub invariant-loop-i : goal.invariant-loop-i
invariant-loop-i l = l.nodes.items ≡ devices_of (take l.i l.rows)
