-- The clause is a lemma.
use Rattle.fw_script_words.proofs.Common.{DeskRelations}
use Rattle.fw_script_words.proofs.OneRun.{has_one_run}
use Rattle.fw_script_words.proofs.laws.scripts_have_one_log.Given as given
use Rattle.fw_script_words.proofs.laws.scripts_have_one_log.Goals as goal

pub returns : goal.returns
returns g c =
    let D : DeskRelations = record { blocks = given.F-post g c.args.desk.now.blocks; vendor = given.H-post g c.args.desk.now.vendor } in
    has_one_run D
