use Rattle.fw_bus_engine.proofs.Common.{◌≡◌, ◌<◌, ℕ, None, length}
use Rattle.std.proofs.Common.{slice_index_or}
use Rattle.fw_bus_engine.specs.Playing.{IsAt}
use Rattle.fw_bus_engine.proofs.cycle_streams.talking_plugs_of.Given as goal

abbrev pub invariant-loop-channel : goal.invariant-loop-channel
invariant-loop-channel l = record {
  count : length l.talking_plugs.items ≡ l.channel;
  at : (c : ℕ) → c < l.channel → IsAt l.machine.devices.nodes l.machine.streams c (slice_index_or l.talkers c None) (slice_index_or l.talking_plugs.items c None);
}
