-- The clauses are lemmas.
use Rattle.fw_script_words.proofs.Common.{DeskRelations}
use Rattle.fw_script_words.proofs.Passings.{going_looked, going_passed, look_same, pass_shorter}
use Rattle.fw_script_words.proofs.laws.runs_go_on_line_by_line.Given as given
use Rattle.fw_script_words.proofs.laws.runs_go_on_line_by_line.Goals as goal

pub returns-clause-looking : goal.returns-clause-looking
returns-clause-looking g c =
    let D : DeskRelations = record { blocks = given.F-post g c.args.desk.now.blocks; vendor = given.H-post g c.args.desk.now.vendor } in
    going_looked D

pub returns-clause-passing : goal.returns-clause-passing
returns-clause-passing g c =
    let D : DeskRelations = record { blocks = given.F-post g c.args.desk.now.blocks; vendor = given.H-post g c.args.desk.now.vendor } in
    going_passed D

pub returns-clause-nothing : goal.returns-clause-nothing
returns-clause-nothing g c = look_same

pub returns-clause-less : goal.returns-clause-less
returns-clause-less g c = pass_shorter
