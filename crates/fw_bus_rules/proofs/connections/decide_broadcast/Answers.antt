-- The order, or the rule, is that of the connection that is asked for.
use Rattle.std.proofs.Common.{arith}
use Rattle.fw_order.specs.declared.order.Wanted.TheVariants.{BroadcastOut}
use Rattle.fw_script_command.specs.declared.command.Command.TheVariants as Commands
use Rattle.fw_bus_rules.proofs.connections.decide_broadcast.Goals as goal
use Rattle.fw_bus_rules.proofs.ConnectionRules.{connection_decided, is_named, plug_is}
use Rattle.fw_bus_state.proofs.Living.{few_devices}

pub decide_connection-requires-clause-slot : goal.decide_connection-requires-clause-slot
decide_connection-requires-clause-slot c =
    let few = few_devices c.args.machine.now c.requires.ready in
    let p = c.in_ok-output.ensures.declared in
    let plug = c.in_ok-output.ensures.device.1 in
    ((omega arith, omega arith), omega arith, c.requires.overhead)

pub returns-clause-decided : goal.returns-clause-decided
returns-clause-decided c = λ s g st.
    let m = c.args.machine.now in
    let a = c.args.output.now in
    let p = c.in_ok-output.output in
    let name = is_named m s c.args.name.now c.in_ok-device.device st c.in_ok-device.ensures.device in
    let out = is_named m s a.0 p.device st c.in_ok-output.ensures.device.0 in
    let plug = plug_is p a c.in_ok-output.ensures.device.1 in
    connection_decided m s (Commands.Broadcast c.args.name.now a c.args.overhead) c.in_ok-device.device (BroadcastOut p c.args.overhead) c.decide_connection.result g st
    (record {
      asks = tt;
      known = ((c.in_ok-device.device, name), ((p.device, out), tt));
      wanted = (name, (p.device, out, λ i. BroadcastOut (plug i) c.args.overhead));
    }) c.decide_connection.ensures.decided
