use Rattle.fw_avc.proofs.UnitLaws.{unit_asked}
use Rattle.fw_avc.proofs.laws.frames_change_what_they_command.Goals as goal

pub returns-clause-asked : goal.returns-clause-asked
returns-clause-asked c = λ u from f control notify. (unit_asked u from f control).same notify

pub returns-clause-notified : goal.returns-clause-notified
returns-clause-notified c = λ u from f control. (unit_asked u from f control).rest
