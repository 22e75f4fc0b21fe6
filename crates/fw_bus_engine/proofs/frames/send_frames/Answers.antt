-- proofs/machine/Machine/send_frames/Answers.antt
use Rattle.fw_bus_engine.proofs.Common.{refl, Err}
use Rattle.fw_bus_engine.proofs.Doings.{ready_after}
use Rattle.fw_bus_engine.proofs.Sending.{first_none, first_then, sends_all, all_cut}
use Rattle.fw_bus_engine.proofs.frames.send_frames.Goals as goal

pub send_frame-requires-clause-ready : goal.send_frame-requires-clause-ready
send_frame-requires-clause-ready g c = ready_after c.requires.ready c.loop.invariant.does

pub loop-init : goal.loop-init
loop-init g c = record { declared = c.requires.declared; does = first_none _ _ _ _ _ }

pub loop-preserved : goal.loop-preserved
loop-preserved g c = record {
  declared = rw c.in_ok-send_frame.ensures.size c.loop.invariant.declared;
  does = first_then _ c.loop.invariant.does _ c.if-branch.true c.in_ok-send_frame.ensures.does;
}

pub returns-in_err-send_frame : goal.returns-in_err-send_frame
returns-in_err-send_frame g c = record { does = all_cut _ (Err _) _ refl c.from_residual.ensures.0 c.loop.invariant.does c.in_err-send_frame.ensures.does }

pub returns : goal.returns
returns g c = record { does = sends_all _ _ c.loop.invariant.does _ c.if-branch.false c.in_ok-send_frame.ensures.does }
