use Rattle.fw_bus_engine.proofs.Common.{refl, Err}
use Rattle.fw_bus_engine.proofs.CommandTurns.{command_follows, command_cut}
use Rattle.fw_bus_engine.proofs.Doings.{does_then, ready_after}
use Rattle.fw_bus_engine.proofs.Linked.{linked_reaches}
use Rattle.fw_bus_engine.proofs.frames.command.Goals as goal

pub write_command-requires : goal.write_command-requires
write_command-requires g c = record {
  ready = c.requires.ready;
  desk = c.requires.desk;
  from = c.requires.from;
  to = c.requires.to;
  quiet = c.requires.quiet;
  few = c.requires.few;
}

pub send_frames-requires : goal.send_frames-requires
send_frames-requires g c =
    let there = linked_reaches c.args.machine.now.devices c.args.to c.requires.to in
    record {
      ready = ready_after c.requires.ready c.in_ok-write_command.ensures.does;
      declared = rw c.in_ok-write_command.ensures.size there.declared;
    }

pub returns-in_err-write_command : goal.returns-in_err-write_command
returns-in_err-write_command g c = record { does = command_cut _ c.args.from c.args.to _ (Err _) _ refl c.from_residual.ensures.0 c.in_err-write_command.ensures.does }

pub returns : goal.returns
returns g c = record { does = does_then _ (command_follows _ c.args.from c.args.to _) c.in_ok-write_command.ensures.does c.send_frames.ensures.does }
