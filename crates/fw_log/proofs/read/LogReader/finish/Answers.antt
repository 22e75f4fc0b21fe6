use Rattle.fw_log.proofs.Common.{Ok, Err}
use Rattle.fw_log.proofs.FinishLaws.{finishes}
use Rattle.fw_log.proofs.read.LogReader.finish.Goals as goal

pub returns-in-Some-clause-log : goal.returns-in-Some-clause-log
returns-in-Some-clause-log c entries bytes h = finishes entries bytes c.args.self.now (Err c.in-Some.fault) h c.in-Some.ensures

pub returns-in-None-clause-log : goal.returns-in-None-clause-log
returns-in-None-clause-log c entries bytes h = finishes entries bytes c.args.self.now (Ok tt) h c.in-None.ensures
