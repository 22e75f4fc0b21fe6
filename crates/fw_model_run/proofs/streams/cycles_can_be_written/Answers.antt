-- Each clause is a lemma.
use Rattle.fw_model_run.proofs.CanWrite.{can_write, can_send, talkers_talk}
use Rattle.fw_model_run.proofs.streams.cycles_can_be_written.Goals as goal

pub returns-clause-cycles : goal.returns-clause-cycles
returns-clause-cycles c = can_write

pub returns-clause-packets : goal.returns-clause-packets
returns-clause-packets c = can_send

pub returns-clause-talkers : goal.returns-clause-talkers
returns-clause-talkers c = talkers_talk
