use Rattle.std.proofs.Common.{take}
use Rattle.fw_kept_parts.specs.Tables.{KeepsAll}
use Rattle.fw_bus_places.proofs.guesses.keep_all_guessed.Given as goal

abbrev pub invariant-loop-k : goal.invariant-loop-k
invariant-loop-k g l = KeepsAll g.T.Part.IsOf l.fn.kept l.kept (take l.k l.wholes) l.fn.out.items l.out.items
