use Rattle.std.proofs.Common.{Option, sym, subst, arith}
use Rattle.fw_check.specs.Misfits.{HasNumber}
use Rattle.fw_check.specs.declared.misfit.Misfit.{Misfit}
use Rattle.fw_check.proofs.MisfitLaws.{numbered}
use Rattle.fw_check.proofs.bad_line.misfit_of.Goals as goal

pub returns-clause-number : goal.returns-clause-number
returns-clause-number c = subst (λ (o : Option Misfit). HasNumber o) (sym c.first_misfit.ensures) (numbered 2 c.types.result.now c.next.new.self (omega arith))
