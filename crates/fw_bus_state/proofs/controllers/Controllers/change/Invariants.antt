use Rattle.fw_bus_state.proofs.Common.{◌≡◌, first_listening}
use Rattle.fw_devices.proofs.ChangeLaws.{IsChanged}
use Rattle.fw_bus_state.proofs.controllers.Controllers.change.Given as goal

abbrev pub invariant-loop-n : goal.invariant-loop-n
invariant-loop-n l = record {
  changed : IsChanged first_listening l.kept l.now l.numbers l.n l.self.list;
  flags : l.self.flags ≡ l.initial.self.flags;
}
