use Rattle.std.proofs.Common.{refl, subst, arith}
use Rattle.std.specs.Prelude.{Err}
use Rattle.fw_model_run.specs.Actions.{HalfStep}
use Rattle.fw_model_run.specs.Carrying.{Carries, times}
use Rattle.fw_bus_state.specs.Orders.{MayCarry}
use Rattle.fw_bus_engine.proofs.CarryLaws.{carried}
use Rattle.fw_bus.proofs.Changes.{desk_err, performed_once}
use Rattle.fw_bus.proofs.change.carry_out_told.Goals as goal

pub step_once-requires-clause-living : goal.step_once-requires-clause-living
step_once-requires-clause-living g c = (subst (MayCarry c.args.machine.now) c.in-Some.ensures c.requires.may).0

pub step_once-requires-clause-few : goal.step_once-requires-clause-few
step_once-requires-clause-few g c = let most = (subst (MayCarry c.args.machine.now) c.in-Some.ensures c.requires.may).1 in omega (arith, most)

pub returns-in-Some-clause-does : goal.returns-in-Some-clause-does
returns-in-Some-clause-does g c =
    carried (times 1 (HalfStep c.in-Some.device)) c.in-Some.ensures tt (λ s t out f. Carries.steps f) (performed_once (HalfStep c.in-Some.device) c.step_once.ensures.does)

pub returns-in_err-carry_out-in-None-clause-does : goal.returns-in_err-carry_out-in-None-clause-does
returns-in_err-carry_out-in-None-clause-does g c = desk_err (Err _) _ refl c.from_residual.ensures.0 c.in_err-carry_out-in-None.ensures.does
