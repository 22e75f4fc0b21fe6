use Rattle.fw_map.proofs.Common.{drop}
use Rattle.fw_map.specs.Fields.{HasFields}
use Rattle.fw_map.proofs.fields.Ids.of.Given as goal

abbrev pub invariant-loop-k : goal.invariant-loop-k
invariant-loop-k l = HasFields (drop l.k l.packets) l.rows
