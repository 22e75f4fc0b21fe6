use Rattle.fw_bus_engine.proofs.Common.{Some, sym, subst, arith, Pairs, without, TakesAction, living_there}
use Rattle.fw_model_run.specs.Actions.{Die}
use Rattle.fw_bus_engine.proofs.DeafTurns.{living_node}
use Rattle.fw_bus_engine.proofs.OneAction.{does_entry}
use Rattle.fw_bus_engine.proofs.LifeTurns.{death_turns}
use Rattle.fw_bus_engine.proofs.lives.stop.Goals as goal

pub die-requires : goal.die-requires
die-requires g c = (living_there c.args.machine.now c.args.device c.requires.ready c.requires.living).controller

pub number-own-requires : goal.number-own-requires
number-own-requires g c = living_node c.args.machine.now c.args.device c.requires.living

pub remove-requires : goal.remove-requires
remove-requires g c = c.number-own.ensures.range

pub remove-requires-2 : goal.remove-requires-2
remove-requires-2 g c = c.number-own.ensures.range

pub died-requires : goal.died-requires
died-requires g c = (living_there c.args.machine.now c.args.device c.requires.ready c.requires.living).low

pub leave-requires : goal.leave-requires
leave-requires g c =
    let st = c.requires.ready.stands in
    let low = (living_there c.args.machine.now c.args.device c.requires.ready c.requires.living).node in
    let nodes = st.devices.nodes.size in
    let size = st.election.size in
    omega (arith, low, nodes, size)

pub returns : goal.returns
returns g c =
    does_entry
    (subst (λ (w : Pairs). TakesAction (Die c.args.device) c.args.machine.now
    (record c.args.machine.now { controllers = c.die.new.self; wire = w; candidates = c.leave.new.self; bids = c.remove-2.new.self }) c.args.machine.now.cycle (Some c.died.result))
    (sym c.remove.ensures)
    (subst (λ (v : Pairs). TakesAction (Die c.args.device) c.args.machine.now
    (record c.args.machine.now { controllers = c.die.new.self; wire = without c.number-own.result c.args.machine.now.wire; candidates = c.leave.new.self; bids = v }) c.args.machine.now.cycle
    (Some c.died.result)) (sym c.remove-2.ensures)
    (death_turns c.args.machine.now c.die.new.self c.leave.new.self c.args.device c.number-own.result c.died.result c.requires.living c.number-own.ensures.value c.died.ensures.value c.die.ensures
    c.leave.ensures)))
    c.emit.ensures
