use Rattle.std.proofs.Common.{◌≡◌, ◌++◌, flat_map, take}
use Rattle.fw_trace_names.specs.Names.{blank_device}
use Rattle.fw_trace_names.proofs.naming.put_devices.Given as goal

abbrev pub invariant-loop-i : goal.invariant-loop-i
invariant-loop-i l = l.text.items ≡ l.fn.text.items ++ flat_map (blank_device l.names) (take l.i l.nodes)
