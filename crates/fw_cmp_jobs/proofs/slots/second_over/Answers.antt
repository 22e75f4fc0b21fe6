use Rattle.fw_cmp_jobs.proofs.Common.{arith, slot_over}
use Rattle.std.proofs.lemmas.Grind.{common_steps}
use Rattle.std.proofs.lemmas.List.Edits.{map_over_more}
use Rattle.fw_cmp_jobs.proofs.slots.second_over.Goals as goal

pub loop-slot-preserved : goal.loop-slot-preserved
loop-slot-preserved c = grind (arith, common_steps, map_over_more slot_over)
