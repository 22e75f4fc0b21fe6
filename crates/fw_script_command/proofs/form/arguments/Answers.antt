use Rattle.fw_script_command.specs.declared.keyword.Keyword.TheVariants.{Device, Cable, Reset, Connect, Broadcast, Listen, Break, Step, Settle, Wait, Cycles, Die, Lose}
use Rattle.fw_script_command.specs.declared.keyword.Keyword.TheVariants.{Start, Command, Read, Swap, Insert, Eject, Show, Withhold, Candidate, Contend, Dub, End}
use Rattle.fw_script_command.proofs.FormLaws.{of_keyword}
use Rattle.fw_script_command.proofs.form.arguments.Goals as goal

pub returns-in-Device-clause-none : goal.returns-in-Device-clause-none
returns-in-Device-clause-none c = of_keyword c.args.keyword Device c.args.words.now c.device.result c.in-Device.is c.device.ensures.none

pub returns-in-Cable-clause-none : goal.returns-in-Cable-clause-none
returns-in-Cable-clause-none c = of_keyword c.args.keyword Cable c.args.words.now c.cable.result c.in-Cable.is c.cable.ensures.none

pub returns-in-Reset-clause-none : goal.returns-in-Reset-clause-none
returns-in-Reset-clause-none c = of_keyword c.args.keyword Reset c.args.words.now c.reset.result c.in-Reset.is c.reset.ensures.none

pub returns-in-Connect-clause-none : goal.returns-in-Connect-clause-none
returns-in-Connect-clause-none c = of_keyword c.args.keyword Connect c.args.words.now c.connect.result c.in-Connect.is c.connect.ensures.none

pub returns-in-Broadcast-clause-none : goal.returns-in-Broadcast-clause-none
returns-in-Broadcast-clause-none c = of_keyword c.args.keyword Broadcast c.args.words.now c.broadcast.result c.in-Broadcast.is c.broadcast.ensures.none

pub returns-in-Listen-clause-none : goal.returns-in-Listen-clause-none
returns-in-Listen-clause-none c = of_keyword c.args.keyword Listen c.args.words.now c.listen.result c.in-Listen.is c.listen.ensures.none

pub returns-in-Break-clause-none : goal.returns-in-Break-clause-none
returns-in-Break-clause-none c = of_keyword c.args.keyword Break c.args.words.now c.break_.result c.in-Break.is c.break_.ensures.none

pub returns-in-Step-clause-none : goal.returns-in-Step-clause-none
returns-in-Step-clause-none c = of_keyword c.args.keyword Step c.args.words.now c.step.result c.in-Step.is c.step.ensures.none

pub returns-in-Settle-clause-none : goal.returns-in-Settle-clause-none
returns-in-Settle-clause-none c = of_keyword c.args.keyword Settle c.args.words.now c.settle.result c.in-Settle.is c.settle.ensures.none

pub returns-in-Wait-clause-none : goal.returns-in-Wait-clause-none
returns-in-Wait-clause-none c = of_keyword c.args.keyword Wait c.args.words.now c.wait.result c.in-Wait.is c.wait.ensures.none

pub returns-in-Cycles-clause-none : goal.returns-in-Cycles-clause-none
returns-in-Cycles-clause-none c = of_keyword c.args.keyword Cycles c.args.words.now c.cycles.result c.in-Cycles.is c.cycles.ensures.none

pub returns-in-Die-clause-none : goal.returns-in-Die-clause-none
returns-in-Die-clause-none c = of_keyword c.args.keyword Die c.args.words.now c.die.result c.in-Die.is c.die.ensures.none

pub returns-in-Lose-clause-none : goal.returns-in-Lose-clause-none
returns-in-Lose-clause-none c = of_keyword c.args.keyword Lose c.args.words.now c.lose.result c.in-Lose.is c.lose.ensures.none

pub returns-in-Start-clause-none : goal.returns-in-Start-clause-none
returns-in-Start-clause-none c = of_keyword c.args.keyword Start c.args.words.now c.start.result c.in-Start.is c.start.ensures.none

pub returns-in-Command-clause-none : goal.returns-in-Command-clause-none
returns-in-Command-clause-none c = of_keyword c.args.keyword Command c.args.words.now c.command.result c.in-Command.is c.command.ensures.none

pub returns-in-Read-clause-none : goal.returns-in-Read-clause-none
returns-in-Read-clause-none c = of_keyword c.args.keyword Read c.args.words.now c.read.result c.in-Read.is c.read.ensures.none

pub returns-in-Swap-clause-none : goal.returns-in-Swap-clause-none
returns-in-Swap-clause-none c = of_keyword c.args.keyword Swap c.args.words.now c.swap.result c.in-Swap.is c.swap.ensures.none

pub returns-in-Insert-clause-none : goal.returns-in-Insert-clause-none
returns-in-Insert-clause-none c = of_keyword c.args.keyword Insert c.args.words.now c.insert.result c.in-Insert.is c.insert.ensures.none

pub returns-in-Eject-clause-none : goal.returns-in-Eject-clause-none
returns-in-Eject-clause-none c = of_keyword c.args.keyword Eject c.args.words.now c.eject.result c.in-Eject.is c.eject.ensures.none

pub returns-in-Show-clause-none : goal.returns-in-Show-clause-none
returns-in-Show-clause-none c = of_keyword c.args.keyword Show c.args.words.now c.show.result c.in-Show.is c.show.ensures.none

pub returns-in-Withhold-clause-none : goal.returns-in-Withhold-clause-none
returns-in-Withhold-clause-none c = of_keyword c.args.keyword Withhold c.args.words.now c.withhold.result c.in-Withhold.is c.withhold.ensures.none

pub returns-in-Candidate-clause-none : goal.returns-in-Candidate-clause-none
returns-in-Candidate-clause-none c = of_keyword c.args.keyword Candidate c.args.words.now c.candidate.result c.in-Candidate.is c.candidate.ensures.none

pub returns-in-Contend-clause-none : goal.returns-in-Contend-clause-none
returns-in-Contend-clause-none c = of_keyword c.args.keyword Contend c.args.words.now c.contend.result c.in-Contend.is c.contend.ensures.none

pub returns-in-Dub-clause-none : goal.returns-in-Dub-clause-none
returns-in-Dub-clause-none c = of_keyword c.args.keyword Dub c.args.words.now c.dub.result c.in-Dub.is c.dub.ensures.none

pub returns-in-End-clause-none : goal.returns-in-End-clause-none
returns-in-End-clause-none c = of_keyword c.args.keyword End c.args.words.now c.end.result c.in-End.is c.end.ensures.none
