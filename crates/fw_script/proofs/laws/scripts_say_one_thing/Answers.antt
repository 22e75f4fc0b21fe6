use Rattle.fw_script_command.proofs.FormLaws.{one_form}
use Rattle.fw_script.proofs.GivesLaws.{gives_once}
use Rattle.fw_script.proofs.ScriptLaws.{says_once, script_limit, begins_first, first_begins}
use Rattle.fw_script_command.proofs.PiecesLaws.{pieces_part}
use Rattle.fw_script.proofs.laws.scripts_say_one_thing.Goals as goal

pub returns-clause-line : goal.returns-clause-line
returns-clause-line c = one_form

pub returns-clause-answer : goal.returns-clause-answer
returns-clause-answer c = λ p q z r s g h m o. gives_once g h m o

pub returns-clause-script : goal.returns-clause-script
returns-clause-script c = λ bytes cs ds r s m n. says_once m n

pub returns-clause-limit : goal.returns-clause-limit
returns-clause-limit c = script_limit

pub returns-clause-pieces : goal.returns-clause-pieces
returns-clause-pieces c = pieces_part

pub returns-clause-first : goal.returns-clause-first
returns-clause-first c = begins_first

pub returns-clause-beginning : goal.returns-clause-beginning
returns-clause-beginning c = first_begins
