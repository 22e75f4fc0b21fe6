use Rattle.fw_bus_engine.proofs.Common.{None, subst, sym, refl, arith, IsReady}
use Rattle.std.proofs.lemmas.List.{get_or_default}
use Rattle.fw_bus_engine.specs.Playing.{MayTakeTurn}
use Rattle.fw_bus_engine.proofs.Plain.{lists_fit, one_on, time_left}
use Rattle.fw_bus_engine.proofs.PlayerTurns.{all_played, all_put, playing_first, playing_on, ready_turn}
use Rattle.fw_bus_engine.proofs.Players.{may_turn}
use Rattle.fw_bus_engine.proofs.playing.put_talking_plugs.Goals as goal

pub loop-channel-init : goal.loop-channel-init
loop-channel-init g c = playing_first c.args.machine.now c.args.gone c.args.heard.now c.args.talking_plugs.now c.args.room.now c.requires.talking_plugs c.requires.nothing

pub take_turn-requires : goal.take_turn-requires
take_turn-requires g c =
    let m = c.args.machine.now in
    let x = c.loop-channel.invariant in
    let low = c.loop-channel-test.true in
    let few = x.few in
    let count = x.count in
    let size = x.size in
    let room = c.requires.room in
    let ready = one_on m IsReady c.args.gone c.requires.ready in
    let here = get_or_default c.loop-channel.talking_plugs c.loop-channel.channel c.index-talking_plugs-channel.result None (omega (arith, low, count)) in
    record {
      desk = c.requires.desk;
      may = subst (MayTakeTurn c.loop-channel.channel) (sym here)
          (may_turn _ _ c.loop-channel.channel _ _ (x.left c.loop-channel.channel (omega arith)) (λ d is. (ready_turn m c.args.gone c.loop-channel.channel d ready (time_left ready) x.are is).1));
      low = omega (arith, low, few, count);
      room = omega (arith, low, few, count, size, room);
    }

pub loop-channel-preserved : goal.loop-channel-preserved
loop-channel-preserved g c =
    let m = c.args.machine.now in
    let x = c.loop-channel.invariant in
    let ready = one_on m IsReady c.args.gone c.requires.ready in
    let low = c.loop-channel-test.true in
    let count = x.count in
    let here = get_or_default c.loop-channel.talking_plugs c.loop-channel.channel c.index-talking_plugs-channel.result None (omega (arith, low, count)) in
    playing_on _ _ (lists_fit c.args.gone m ready) low x (sym here) (rw c.epoch-epoch.ensures at c.take_turn.ensures.turn) c.take_turn.ensures.size

pub returns : goal.returns
returns g c =
    let x = c.loop-channel.invariant in
    let past = c.loop-channel-test.false in
    let end = c.loop-channel.auto.channel-end in
    record {
      puts = all_put (omega (arith, past)) (omega (arith, end)) x;
      same = x.same;
      talking_plugs = all_played (omega (arith, past)) x;
      count = x.count;
    }
