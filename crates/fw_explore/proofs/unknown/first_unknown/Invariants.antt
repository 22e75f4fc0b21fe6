use Rattle.fw_explore.proofs.UnknownLaws.{MoversKnown, LinesKnown}
use Rattle.fw_explore.proofs.unknown.first_unknown.Given as goal

abbrev pub invariant-loop-mover : goal.invariant-loop-mover
invariant-loop-mover l = MoversKnown l.machine.devices.names l.explored l.mover-index

abbrev pub invariant-loop-line : goal.invariant-loop-line
invariant-loop-line l = LinesKnown l.machine.devices.names l.explored l.line-index
