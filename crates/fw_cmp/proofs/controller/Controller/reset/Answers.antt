use Rattle.fw_cmp.proofs.controller.Controller.reset.Goals.{then-self, else-self}
use Rattle.fw_cmp.proofs.controller.Controller.reset.Goals as goal

pub returns-clause-goes_on : goal.returns-clause-goes_on
returns-clause-goes_on c d = elim c.if-self.branch [
  | then-self w ↦ rw w.self-inside-is (w.reset_unheard.ensures.goes_on d)
  | else-self w ↦ rw w.self-inside-is (w.reset.ensures.goes_on d)
]
