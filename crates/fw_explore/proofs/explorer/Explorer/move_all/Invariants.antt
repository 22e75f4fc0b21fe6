use Rattle.fw_explore.proofs.Common.{◌≡◌}
use Rattle.fw_explore_meaning.proofs.TryLaws.{IsTrying}
use Rattle.fw_explore.proofs.explorer.Explorer.move_all.Given as goal

abbrev pub invariant-loop-mover : goal.invariant-loop-mover
invariant-loop-mover g l = record {
  here : l.self.walker.here ≡ l.fn.self.walker.here;
  rows : l.self.rows ≡ l.fn.self.rows;
  trying : IsTrying g.P.Keeper.Kept (record { blocks = goal.F-post g l.desk.blocks; vendor = goal.H-post g l.desk.vendor }) l.explored l.place l.fn.self.walker.pasts l.fn.self.walker.kept.places
      l.fn.self.levels
      l.fn.self.rows l.mover l.self.walker.pasts l.self.walker.kept.places l.self.levels l.self.rows l.moved;
}
