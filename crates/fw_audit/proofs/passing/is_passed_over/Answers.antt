use Rattle.std.proofs.Common.{refl, sym, subst}
use Rattle.fw_audit.specs.Found.{IsPassedOver}
use Rattle.fw_audit.proofs.Audits.{other_clear, passed_found}
use Rattle.fw_audit.proofs.passing.is_passed_over.Goals as goal

pub returns-in-Iso-clause-same : goal.returns-in-Iso-clause-same
returns-in-Iso-clause-same c = λ yes entries a x. passed_found entries c.args.e.now a (subst IsPassedOver (sym c.in-Iso.is) (λ l. (refl, other_clear l))) x

pub returns-in-Async-clause-passed : goal.returns-in-Async-clause-passed
returns-in-Async-clause-passed c = λ yes. subst IsPassedOver (sym c.in-Async.is) (c.is_passed_packet.ensures.passed yes)

pub returns-in-Async-clause-same : goal.returns-in-Async-clause-same
returns-in-Async-clause-same c = λ yes entries a x. passed_found entries c.args.e.now a (subst IsPassedOver (sym c.in-Async.is) (c.is_passed_packet.ensures.passed yes)) x

pub returns-in-Outcome-clause-same : goal.returns-in-Outcome-clause-same
returns-in-Outcome-clause-same c = λ yes entries a x. passed_found entries c.args.e.now a (subst IsPassedOver (sym c.in-Outcome.is) (λ l. (refl, other_clear l))) x

pub returns-in-End-clause-same : goal.returns-in-End-clause-same
returns-in-End-clause-same c = λ yes entries a x. passed_found entries c.args.e.now a (subst IsPassedOver (sym c.in-End.is) (λ l. (refl, other_clear l))) x
