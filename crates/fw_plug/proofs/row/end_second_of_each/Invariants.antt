use Rattle.std.proofs.Common.{◌≡◌, ◌++◌, map, take, drop}
use Rattle.fw_plug.specs.Plugs.{plug_after_second}
use Rattle.fw_plug.proofs.row.end_second_of_each.Given as goal

abbrev pub invariant-loop-plug : goal.invariant-loop-plug
invariant-loop-plug l = l.plugs ≡ map plug_after_second (take l.plug-index l.initial.plugs) ++ drop l.plug-index l.initial.plugs
