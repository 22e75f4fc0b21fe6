use Rattle.fw_ledger.proofs.Common.{arith, orphaned_charge}
use Rattle.std.proofs.lemmas.Grind.{common_steps}
use Rattle.std.proofs.lemmas.List.Edits.{map_over_more}
use Rattle.fw_ledger.proofs.event.orphan_charges.Goals as goal

pub loop-charge-preserved : goal.loop-charge-preserved
loop-charge-preserved c = grind (arith, common_steps, map_over_more (orphaned_charge c.args.c))
