-- draft
use Rattle.fw_explore.proofs.Common.{◌≡◌, List, IsFalse, Timed, Command, State, StandsFor}
use Rattle.fw_explore_meaning.specs.Moves.{Subsequent}
use Rattle.fw_explore_meaning.proofs.AfterLines.{Midway}
use Rattle.fw_explore.proofs.step.Walker.carry_after.Given as goal

abbrev pub invariant-loop-line : goal.invariant-loop-line
invariant-loop-line g l = record {
  pasts : l.self.pasts ≡ l.fn.self.pasts;
  places : l.self.kept.places ≡ l.fn.self.kept.places;
  here : l.self.here ≡ l.fn.self.here;
  fresh : IsFalse l.self.kept.bus.spent;
  midway : (script commands : List Command) (out : List Timed) (s : State) → Subsequent (record { blocks = goal.F-post g l.desk.blocks; vendor = goal.H-post g l.desk.vendor }) script
      commands out s
      → StandsFor l.fn.self.kept.bus.machine s
      → Midway (record { blocks = goal.F-post g l.desk.blocks; vendor = goal.H-post g l.desk.vendor }) script commands out l.following l.line-index l.fn.past l.past
      l.fn.refused.items l.refused.items l.fn.lines.items l.lines.items
      l.self.kept.bus.machine;
}
