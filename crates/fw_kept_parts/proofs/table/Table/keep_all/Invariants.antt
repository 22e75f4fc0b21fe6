use Rattle.std.proofs.Common.{take}
use Rattle.fw_kept_parts.specs.Tables.{KeepsAll}
use Rattle.fw_kept_parts.proofs.table.Table.keep_all.Given as goal

abbrev pub invariant-loop-k : goal.invariant-loop-k
invariant-loop-k g l = KeepsAll g.T.Part.IsOf l.fn.self l.self (take l.k l.wholes) l.fn.out.items l.out.items
