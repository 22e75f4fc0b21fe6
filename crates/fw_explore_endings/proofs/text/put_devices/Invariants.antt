use Rattle.std.proofs.Common.{◌≡◌, ◌++◌}
use Rattle.fw_explore_endings.specs.Texts.{devices_text}
use Rattle.fw_explore_endings.proofs.text.put_devices.Given as goal

abbrev pub invariant-loop-device : goal.invariant-loop-device
invariant-loop-device l = l.out.items ≡ l.fn.out.items ++ devices_text l.movers l.names l.device
