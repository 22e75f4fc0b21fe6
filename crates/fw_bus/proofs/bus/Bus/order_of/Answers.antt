use Rattle.std.proofs.Common.{subst, sym, IsFalse}
use Rattle.fw_bus_state.specs.Stands.{StandsFor}
use Rattle.fw_bus.proofs.Runs.{ready_of, run_good}
use Rattle.fw_bus.proofs.bus.Bus.order_of.Goals as goal

pub decide-requires-clause-ready : goal.decide-requires-clause-ready
decide-requires-clause-ready c = ready_of (c.self.invariant (subst (λ v. IsFalse v.spent) (sym c.self.view_is) c.requires.spent))

pub returns : goal.returns
returns c = record { run = λ commands actions log s r st. c.decide.ensures.decided s (run_good r) (subst (λ v. StandsFor v.machine s) (sym c.self.view_is) st) }
