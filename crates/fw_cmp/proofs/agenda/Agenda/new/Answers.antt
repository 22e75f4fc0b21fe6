use Rattle.fw_cmp.proofs.Common.{false≢true}
use Rattle.fw_cmp.proofs.ResetGoesOn.{first_goes_on}
use Rattle.fw_cmp.proofs.Fitting.{first_fits}
use Rattle.fw_cmp.proofs.agenda.Agenda.new.Goals as goal

pub invariant_of-result : goal.invariant_of-result
invariant_of-result c = (rw (c.new.ensures, c.new-2.ensures) first_fits, λ on. absurd (false≢true on))

pub returns-clause-fits : goal.returns-clause-fits
returns-clause-fits c = (invariant_of-result c).0

pub returns-clause-goes_on : goal.returns-clause-goes_on
returns-clause-goes_on c d = rw (c.new.ensures, c.new-2.ensures) (first_goes_on d)
