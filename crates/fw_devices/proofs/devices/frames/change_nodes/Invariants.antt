use Rattle.fw_devices.proofs.Common.{◌≡◌, false, Relay, first_state, kinds_of}
use Rattle.std.proofs.Common.{IsTrue}
use Rattle.fw_devices.specs.Frames.{nodes_at}
use Rattle.fw_devices.proofs.ChangeLaws.{IsChanged}
use Rattle.fw_devices.proofs.devices.frames.change_nodes.Given as goal

abbrev pub invariant-loop-n : goal.invariant-loop-n
invariant-loop-n l = IsChanged (first_state Relay 0 0 false) l.kept l.now l.numbers l.n l.nodes × (IsTrue l.same → kinds_of l.nodes ≡ kinds_of (nodes_at l.kept l.now))
