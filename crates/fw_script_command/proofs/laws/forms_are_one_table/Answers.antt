use Rattle.fw_script_command.proofs.TableLaws.{one_table, own_word}
use Rattle.fw_script_command.proofs.laws.forms_are_one_table.Goals as goal

pub returns-clause-table : goal.returns-clause-table
returns-clause-table c = one_table

pub returns-clause-words : goal.returns-clause-words
returns-clause-words c = own_word
