-- Each clause is a lemma.
use Rattle.fw_model_rounds.proofs.Kept.{turn_restores}
use Rattle.fw_model_rounds.proofs.Lowering.{turn_leaves}
use Rattle.fw_model_rounds.proofs.Controllers.{progress}
use Rattle.fw_model_rounds.proofs.controllers_make_progress.Goals as goal

pub returns-clause-progress : goal.returns-clause-progress
returns-clause-progress r = λ words now d c i lt only fits knows below is. progress words now d c c.current i lt only.no_break fits only.current knows below is

pub returns-clause-fewer : goal.returns-clause-fewer
returns-clause-fewer r = λ words now d c lt only fits knows. turn_leaves words now d c c.current lt only.no_break fits only.current knows

pub returns-clause-restores : goal.returns-clause-restores
returns-clause-restores r = turn_restores
