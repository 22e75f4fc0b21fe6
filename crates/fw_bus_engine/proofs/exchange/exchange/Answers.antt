use Rattle.fw_bus_engine.proofs.Common.{refl, Err}
use Rattle.fw_bus_engine.specs.Exchanging.{CutOff, Second}
use Rattle.fw_bus_engine.proofs.exchange.exchange.Goals as goal

pub returns-in_err-give_async : goal.returns-in_err-give_async
returns-in_err-give_async g c = CutOff (Err _) refl c.from_residual.ensures.0 c.in_err-give_async.ensures

pub returns : goal.returns
returns g c = Second _ _ _ c.in_ok-give_async.ensures c.give_async-2.ensures
