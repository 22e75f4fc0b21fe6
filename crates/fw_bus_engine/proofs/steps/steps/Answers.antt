use Rattle.fw_bus_engine.proofs.Common.{refl, rules, arith, ◌∙◌, Err, HalfStep}
use Rattle.fw_bus_engine.proofs.Doings.{ready_after}
use Rattle.fw_bus_engine.proofs.Times.{times_none, times_then, times_cut, times_all}
use Rattle.fw_bus_engine.proofs.steps.steps.Goals as goal

pub half_step-requires-clause-ready : goal.half_step-requires-clause-ready
half_step-requires-clause-ready g c = ready_after c.requires.ready c.loop-i.invariant.does

pub half_step-requires-clause-few : goal.half_step-requires-clause-few
half_step-requires-clause-few g c = let count = c.loop-i.invariant.count in let few = c.requires.few in let lt = c.loop-i-test.true in omega arith

pub loop-i-init : goal.loop-i-init
loop-i-init g c = record { count = omega arith; living = c.requires.living; does = times_none _ _ _ _ _ }

pub loop-i-preserved : goal.loop-i-preserved
loop-i-preserved g c = record {
  count = let count = c.loop-i.invariant.count in let one = c.in_ok-half_step.ensures.count in omega arith;
  living = c.in_ok-half_step.ensures.living _ ∙ c.loop-i.invariant.living;
  does = times_then (HalfStep _) _ c.loop-i.invariant.does c.in_ok-half_step.ensures.does;
}

pub returns-in_err-half_step : goal.returns-in_err-half_step
returns-in_err-half_step g c = record {
  does = times_cut _ _ _
      (Err _) _ c.loop-i-test.true c.requires.living c.requires.few refl c.from_residual.ensures.0 c.loop-i.invariant.does c.in_err-half_step.ensures.does;
}

pub returns : goal.returns
returns g c = record { does = times_all (HalfStep _) _ _ (search rules) c.loop-i.invariant.does }
