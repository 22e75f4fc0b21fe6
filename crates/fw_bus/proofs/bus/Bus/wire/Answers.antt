-- The wire is that of the state for which the bus stands.
use Rattle.std.proofs.Common.{ap, sym, subst}
use Rattle.fw_bus_state.specs.declared.machine.Machine.{Machine}
use Rattle.fw_bus.specs.Buses.{BusView}
use Rattle.fw_bus_state.specs.Stands.{StandsFor}
use Rattle.fw_bus.proofs.bus.Bus.wire.Goals as goal

pub returns : goal.returns
returns c = record {
  lent = λ commands actions log s run st.
      let P : Machine → Type 0 = λ m. StandsFor m s in
      let here : StandsFor c.self.inside.machine s = subst P (ap (λ (b : BusView). b.machine) (sym c.self.view_is)) st in
      here.wire;
}
