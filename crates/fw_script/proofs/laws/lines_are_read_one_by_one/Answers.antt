use Rattle.fw_script.proofs.PassLaws.{read_taken, pass_over, next_gives, refused_gives, held_answer}
use Rattle.fw_script.proofs.laws.lines_are_read_one_by_one.Goals as goal

pub returns-clause-taking : goal.returns-clause-taking
returns-clause-taking c = read_taken

pub returns-clause-nothing : goal.returns-clause-nothing
returns-clause-nothing c = pass_over

pub returns-clause-command : goal.returns-clause-command
returns-clause-command c = next_gives

pub returns-clause-refusal : goal.returns-clause-refusal
returns-clause-refusal c = refused_gives

pub returns-clause-held : goal.returns-clause-held
returns-clause-held c = held_answer
