use Rattle.fw_cmp.proofs.Common.{sym, subst, CanGoOn, Listening}
use Rattle.fw_cmp.proofs.controller.Controller.second_over.Goals as goal

pub returns-clause-goes_on : goal.returns-clause-goes_on
returns-clause-goes_on c d h = c.second_over.ensures.goes_on d (subst (λ (x : Listening). CanGoOn d x.state) (sym c.self.view_is) h)
