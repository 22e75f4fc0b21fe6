-- Each clause is a lemma.
use Rattle.fw_script_words.proofs.OneRun.{has_one_run}
use Rattle.fw_program.specs.Blocks.{program_desk}
use Rattle.fw_program.proofs.Desks.{is_a_function}
use Rattle.fw_program.proofs.laws.program_desk_is_a_function.Goals as goal

pub returns-clause-desk : goal.returns-clause-desk
returns-clause-desk c = is_a_function

pub returns-clause-runs : goal.returns-clause-runs
returns-clause-runs c = has_one_run program_desk is_a_function
