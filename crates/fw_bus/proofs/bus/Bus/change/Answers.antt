use Rattle.std.proofs.Common.{subst, sym, refl, IsFalse}
use Rattle.fw_bus_state.specs.Stands.{StandsFor}
use Rattle.fw_bus.proofs.Runs.{goes, stops, quiet_reached, ready_of, reached_more, run_good}
use Rattle.fw_bus.proofs.bus.Bus.change.Goals as goal

pub decide-requires-clause-ready : goal.decide-requires-clause-ready
decide-requires-clause-ready g c = ready_of (c.self.invariant (subst (λ v. IsFalse v.spent) (sym c.self.view_is) c.requires.spent))

pub returns-in-Err-clause-run : goal.returns-in-Err-clause-run
returns-in-Err-clause-run g c commands actions log s r st = c.in-Err.ensures.decided s (run_good r) (subst (λ v. StandsFor v.machine s) (sym c.self.view_is) st)

pub carry_out_told-requires-clause-ready : goal.carry_out_told-requires-clause-ready
carry_out_told-requires-clause-ready g c = ready_of (c.self.invariant (subst (λ v. IsFalse v.spent) (sym c.self.view_is) c.requires.spent))

pub carry_out_told-requires-clause-quiet : goal.carry_out_told-requires-clause-quiet
carry_out_told-requires-clause-quiet g c = quiet_reached (c.self.invariant (subst (λ v. IsFalse v.spent) (sym c.self.view_is) c.requires.spent))

pub invariant_of-self : goal.invariant_of-self
invariant_of-self g c = λ fresh. reached_more c.args.c.now _ (c.self.invariant fresh) c.in-Ok.ensures.decided c.in-Ok-carry_out_told.ensures.does

pub returns-in-Ok-carry_out_told-clause-run : goal.returns-in-Ok-carry_out_told-clause-run
returns-in-Ok-carry_out_told-clause-run g c commands actions log s r st =
    goes c.args.c.now _ _ (subst (λ v. IsFalse v.spent) (sym c.self.view_is) c.requires.spent) c.in-Ok.ensures.decided c.in-Ok-carry_out_told.ensures.does commands actions log s r
    (subst (λ v. StandsFor v.machine s) (sym c.self.view_is) st)

pub returns-in-Err-carry_out_told-clause-run : goal.returns-in-Err-carry_out_told-clause-run
returns-in-Err-carry_out_told-clause-run g c commands actions log s r st =
    stops c.args.c.now _ _ refl c.in-Ok.ensures.decided c.in-Err-carry_out_told.ensures.does commands actions log s r (subst (λ v. StandsFor v.machine s) (sym c.self.view_is) st)
