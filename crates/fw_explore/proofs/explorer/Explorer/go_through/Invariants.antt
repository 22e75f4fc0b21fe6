use Rattle.fw_explore.proofs.Common.{ℕ, ◌≡◌, List, Command, IsFunction, Had, ArePlaced, IsGoing}
use Rattle.fw_explore.proofs.explorer.Explorer.go_through.Given as goal

abbrev pub invariant-loop-place : goal.invariant-loop-place
invariant-loop-place g l = record {
  level : l.self.levels.level ≡ l.fn.self.levels.level;
  longest : l.self.rows.longest ≡ l.fn.self.rows.longest;
  placed : ArePlaced (Had l.self.walker.pasts) (g.P.Keeper.Kept l.self.walker.kept.places) l.self.levels.level;
  next : ArePlaced (Had l.self.walker.pasts) (g.P.Keeper.Kept l.self.walker.kept.places) l.self.levels.next;
  walks : (script : List Command) (n : ℕ) → IsFunction (record { blocks = goal.F-post g l.desk.blocks; vendor = goal.H-post g l.desk.vendor })
      → IsGoing (record { blocks = goal.F-post g l.desk.blocks; vendor = goal.H-post g l.desk.vendor }) script l.explored l.fn.self.walker.pasts (g.P.Keeper.Kept l.fn.self.walker.kept.places) n 0
      l.fn.self.levels
      l.fn.self.rows
      → IsGoing (record { blocks = goal.F-post g l.desk.blocks; vendor = goal.H-post g l.desk.vendor }) script l.explored l.self.walker.pasts (g.P.Keeper.Kept l.self.walker.kept.places) n l.place
      l.self.levels
      l.self.rows;
}
