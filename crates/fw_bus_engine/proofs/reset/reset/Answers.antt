use Rattle.fw_bus_engine.proofs.ResetTurns.{ready_few, ready_on, ready_declared, ready_cycle, reset_does}
use Rattle.fw_bus_engine.proofs.reset.reset.Goals as goal

pub give_reset-requires-clause-declared : goal.give_reset-requires-clause-declared
give_reset-requires-clause-declared g c = ready_declared _ c.requires.ready c.requires.on

pub give_reset-requires-clause-on : goal.give_reset-requires-clause-on
give_reset-requires-clause-on g c = ready_on _ c.requires.ready c.requires.on

pub give_reset-requires-clause-cycle : goal.give_reset-requires-clause-cycle
give_reset-requires-clause-cycle g c = ready_cycle c.requires.ready

pub give_reset-requires-clause-few : goal.give_reset-requires-clause-few
give_reset-requires-clause-few g c = ready_few c.requires.ready c.requires.few

pub returns : goal.returns
returns g c = record { does = reset_does _ _ _ _ c.requires.on c.requires.few c.give_reset.ensures }
