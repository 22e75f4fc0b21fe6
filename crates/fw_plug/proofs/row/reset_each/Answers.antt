use Rattle.std.proofs.Common.{arith}
use Rattle.std.proofs.lemmas.Grind.{common_steps}
use Rattle.std.proofs.lemmas.List.Edits.{map_over_more}
use Rattle.fw_plug.specs.Plugs.{plug_after_reset}
use Rattle.fw_plug.proofs.row.reset_each.Goals as goal

pub loop-plug-preserved : goal.loop-plug-preserved
loop-plug-preserved c = grind (arith, common_steps, map_over_more plug_after_reset)
