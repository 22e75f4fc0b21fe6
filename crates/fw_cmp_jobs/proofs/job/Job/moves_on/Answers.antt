use Rattle.fw_cmp_jobs.proofs.Common.{sym, ◌∙◌}
use Rattle.fw_cmp_jobs.proofs.Resuming.{resumed_stays, late_moves, begin_moves}
use Rattle.fw_cmp_jobs.proofs.job.Job.moves_on.Goals as goal

pub returns-in_default-clause-stays : goal.returns-in_default-clause-stays
returns-in_default-clause-stays c d off = resumed_stays d c.args.slot.now c.args.self.now c.args.stage.now c.in_default.not-Begin (sym c.is_late.ensures ∙ off)

pub returns-in_default-clause-moves : goal.returns-in_default-clause-moves
returns-in_default-clause-moves c d on = late_moves d c.args.slot.now c.args.self.now c.args.stage.now (sym c.is_late.ensures ∙ on)

pub returns-in-Begin-clause-moves : goal.returns-in-Begin-clause-moves
returns-in-Begin-clause-moves c d on = begin_moves d c.args.slot.now c.args.self.now c.args.stage.now c.in-Begin.is
