use Rattle.fw_script.proofs.CallLaws.{read_nothing, read_command, given_first, read_end, read_refused, read_failed, taken_held}
use Rattle.fw_script.proofs.laws.calls_give_the_script.Goals as goal

pub returns-clause-begins : goal.returns-clause-begins
returns-clause-begins c = read_nothing

pub returns-clause-command : goal.returns-clause-command
returns-clause-command c = read_command

pub returns-clause-end : goal.returns-clause-end
returns-clause-end c = read_end

pub returns-clause-fault : goal.returns-clause-fault
returns-clause-fault c = read_refused

pub returns-clause-first : goal.returns-clause-first
returns-clause-first c = given_first

pub returns-clause-whole_lines : goal.returns-clause-whole_lines
returns-clause-whole_lines c = read_failed

pub returns-clause-taken : goal.returns-clause-taken
returns-clause-taken c = taken_held
