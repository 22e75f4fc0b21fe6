use Rattle.fw_cmp.proofs.Common.{ap, ◌∙◌, Current, break_runs}
use Rattle.fw_cmp.proofs.Works.{breaks_kept}
use Rattle.fw_cmp.proofs.work.ActiveJob.breaks.Goals as goal

pub returns : goal.returns
returns c = c.breaks.ensures ∙ breaks_kept c.self.inside.stands c.self.inside.current c.args.slot ∙ ap (λ (x : Current). break_runs x c.args.slot) c.self.view_is
