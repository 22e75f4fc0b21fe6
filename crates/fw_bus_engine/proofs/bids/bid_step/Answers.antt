use Rattle.fw_bus_engine.proofs.Common.{◌+◌, ap}
use Rattle.fw_bus_engine.proofs.BidTimes.{bid_stays, bid_counted}
use Rattle.fw_bus_engine.proofs.OneAction.{does_one}
use Rattle.fw_bus_engine.proofs.bids.bid_step.Goals as goal

pub turn-done-requires : goal.turn-done-requires
turn-done-requires g c = record { ready = c.requires.ready; may = (c.requires.candidate, c.requires.few) }

pub returns : goal.returns
returns g c =
    let x = c.turn-done.ensures in
    let turns = bid_counted x.turns in
    record {
      does = does_one c.turn-done.new.machine.cycle x.entry c.turn-done.result turns x.gives x.faults;
      candidate = bid_stays c.args.machine.now _ c.args.device c.turn-done.new.machine.cycle x.entry c.requires.ready turns;
      count = ap (λ n. n + 1) x.turns.half_steps;
    }
