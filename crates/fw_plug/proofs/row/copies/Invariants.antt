use Rattle.std.proofs.Common.{◌≡◌, replicate, false}
use Rattle.fw_plug.specs.declared.plug.Plug.{Plug}
use Rattle.fw_plug.proofs.row.copies.Given as goal

abbrev pub invariant-loop : goal.invariant-loop
invariant-loop l = let plug : Plug = record { word = l.word; lingers = false } in l.plugs.items ≡ replicate l.counter plug
