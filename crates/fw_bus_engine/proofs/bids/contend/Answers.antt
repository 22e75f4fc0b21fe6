use Rattle.fw_bus_engine.proofs.Common.{refl, rules, arith, Err, Contend}
use Rattle.fw_bus_engine.proofs.BidTimes.{bids_cut}
use Rattle.fw_bus_engine.proofs.Doings.{ready_after}
use Rattle.fw_bus_engine.proofs.Times.{times_none, times_then, times_all}
use Rattle.fw_bus_engine.proofs.bids.contend.Goals as goal

pub bid_step-requires-clause-ready : goal.bid_step-requires-clause-ready
bid_step-requires-clause-ready g c = ready_after c.requires.ready c.loop-i.invariant.does

pub bid_step-requires-clause-few : goal.bid_step-requires-clause-few
bid_step-requires-clause-few g c = let count = c.loop-i.invariant.count in let few = c.requires.few in let lt = c.loop-i-test.true in omega arith

pub loop-i-init : goal.loop-i-init
loop-i-init g c = record { count = omega arith; candidate = c.requires.candidate; does = times_none _ _ _ _ _ }

pub loop-i-preserved : goal.loop-i-preserved
loop-i-preserved g c = record {
  count = let count = c.loop-i.invariant.count in let one = c.in_ok-bid_step.ensures.count in omega arith;
  candidate = c.in_ok-bid_step.ensures.candidate;
  does = times_then (Contend _) _ c.loop-i.invariant.does c.in_ok-bid_step.ensures.does;
}

pub returns-in_err-bid_step : goal.returns-in_err-bid_step
returns-in_err-bid_step g c = record {
  does = bids_cut _ _ _
      (Err _) _ c.loop-i-test.true c.requires.candidate c.requires.few refl c.from_residual.ensures.0 c.loop-i.invariant.does c.in_err-bid_step.ensures.does;
}

pub returns : goal.returns
returns g c = record { does = times_all (Contend _) _ _ (search rules) c.loop-i.invariant.does }
