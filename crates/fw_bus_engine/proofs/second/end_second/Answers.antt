use Rattle.fw_bus_engine.proofs.SecondEnds.{second_given}
use Rattle.fw_bus_engine.proofs.second.end_second.Goals as goal

pub returns-clause-does : goal.returns-clause-does
returns-clause-does g c =
    second_given _ _ _ c.requires.runs c.requires.now c.requires.few c.pass_second.ensures (rw c.second_over.ensures.value at c.emit.ensures)
