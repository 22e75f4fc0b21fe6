use Rattle.fw_cmp_jobs.proofs.Deciding.{answer_decides}
use Rattle.fw_cmp_jobs.proofs.laws.answers_decide_by_what_they_show.Goals as goal

pub returns : goal.returns
returns c = answer_decides
