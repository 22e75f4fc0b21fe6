-- draft
use Rattle.fw_explore_meaning.proofs.ThereLaws.{NoneWaits}
use Rattle.fw_explore.proofs.there.is_next.Given as goal

abbrev pub invariant-loop-other : goal.invariant-loop-other
invariant-loop-other l = NoneWaits l.explored l.done l.line l.other
