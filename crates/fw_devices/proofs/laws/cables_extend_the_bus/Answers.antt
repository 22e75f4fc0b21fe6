use Rattle.fw_devices.proofs.BusLaws.{bus_stays, on_bus_declared}
use Rattle.fw_devices.proofs.JoinLaws.{bus_grows, bus_reaches}
use Rattle.fw_devices.proofs.laws.cables_extend_the_bus.Goals as goal

pub returns-clause-declared : goal.returns-clause-declared
returns-clause-declared c = on_bus_declared

pub returns-clause-grows : goal.returns-clause-grows
returns-clause-grows c = bus_grows

pub returns-clause-reaches : goal.returns-clause-reaches
returns-clause-reaches c = bus_reaches

pub returns-clause-stays : goal.returns-clause-stays
returns-clause-stays c = bus_stays
