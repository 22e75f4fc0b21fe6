use Rattle.fw_cmp.proofs.Common.{sym, subst, ◌∙◌, IsHeard}
use Rattle.fw_cmp.proofs.Works.{heard_kept}
use Rattle.fw_cmp.proofs.work.ActiveJob.unasked.Goals as goal

pub returns : goal.returns
returns c = heard_kept c.self.inside.stands c.self.inside.current c.self.invariant (subst IsHeard (sym c.self.view_is) c.requires) ∙ c.self.view_is
