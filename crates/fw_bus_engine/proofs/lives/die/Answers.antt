use Rattle.fw_bus_engine.proofs.Common.{◌≡◌, true, sym, subst, ◌∙◌, false≢true, Awaits, states_of, living_there}
use Rattle.fw_cmp.specs.Losses.{MayTurn}
use Rattle.fw_bus_engine.proofs.OneAction.{does_when}
use Rattle.fw_bus_engine.proofs.LifeOrders.{dies_at}
use Rattle.fw_bus_engine.proofs.lives.die.Goals as goal
use Rattle.fw_bus_engine.proofs.lives.die.Goals.{else-late-via-then-late+else-has_request, else-late-via-else-late}

pub get-requires : goal.get-requires
get-requires g c = (living_there c.args.machine.now c.args.device c.requires.ready c.requires.living).controller

pub stop_late-requires : goal.stop_late-requires
stop_late-requires g c = record {
  ready = c.requires.ready;
  living = c.requires.living;
  standing = subst Awaits c.get.ensures (c.has_request.ensures.standing.0 c.if-has_request.true);
}

pub stop-requires : goal.stop-requires
stop-requires g c = record { ready = c.requires.ready; living = c.requires.living }

pub returns-then-has_request : goal.returns-then-has_request
returns-then-has_request g c = record { does = rw c.if-late.true c.stop_late.ensures }

-- no request is outstanding, or none is to be carried out
pub returns-else-late : goal.returns-else-late
returns-else-late g c = record { does = does_when (dies_at c.args.machine.now c.args.device c.args.late quiet) c.stop.ensures }
  where
    quiet : c.args.late ≡ true → MayTurn (states_of c.args.machine.now.controllers c.args.device)
    quiet late = elim c.else-late.branch [
      | else-late-via-then-late+else-has_request w ↦ subst MayTurn w.get.ensures (w.has_request.ensures.heard.0 w.if-has_request.false)
      | else-late-via-else-late w ↦ absurd (false≢true (sym w.if-late.false ∙ late))
    ]
