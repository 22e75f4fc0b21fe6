use Rattle.fw_cmp_jobs.proofs.Common.{arith, slot_reset}
use Rattle.std.proofs.lemmas.Grind.{common_steps}
use Rattle.std.proofs.lemmas.List.Edits.{map_over_more}
use Rattle.fw_cmp_jobs.proofs.slots.reset.Goals as goal

pub loop-slot-preserved : goal.loop-slot-preserved
loop-slot-preserved c = grind (arith, common_steps, map_over_more slot_reset)
