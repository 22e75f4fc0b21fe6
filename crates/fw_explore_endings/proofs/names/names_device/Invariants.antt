use Rattle.std.proofs.Common.{◌≡◌, drop}
use Rattle.fw_explore_endings.specs.Texts.{names_device}
use Rattle.fw_explore_endings.proofs.names.names_device.Given as goal

abbrev pub invariant-loop-mover : goal.invariant-loop-mover
invariant-loop-mover l = names_device (drop l.mover-index l.movers) l.name ≡ names_device l.movers l.name
