-- draft
use Rattle.fw_explore.proofs.Common.{ℕ, ◌≡◌, ◌<◌, List, [], length, Command, IsFunction, Had, ArePlaced, IsGoing}
use Rattle.fw_explore_meaning.specs.Walking.{IsAtLevel}
use Rattle.fw_explore.proofs.explorer.Explorer.go.Given as goal

abbrev pub invariant-loop-moves : goal.invariant-loop-moves
invariant-loop-moves g l = record {
  some : l.moves ≡ 0 → 0 < length l.self.levels.level;
  next : l.self.levels.next ≡ [];
  placed : ArePlaced (Had l.self.walker.pasts) (g.P.Keeper.Kept l.self.walker.kept.places) l.self.levels.level;
  walks : (script : List Command) → IsFunction (record { blocks = goal.F-post g l.desk.blocks; vendor = goal.H-post g l.desk.vendor })
      → IsGoing (record { blocks = goal.F-post g l.desk.blocks; vendor = goal.H-post g l.desk.vendor }) script l.explored l.fn.self.walker.pasts
      (g.P.Keeper.Kept l.fn.self.walker.kept.places) 0 0 l.fn.self.levels l.fn.self.rows
      → IsAtLevel (record { blocks = goal.F-post g l.desk.blocks; vendor = goal.H-post g l.desk.vendor }) script l.explored l.self.walker.pasts (g.P.Keeper.Kept l.self.walker.kept.places) l.moves
      l.self.levels l.self.rows;
}
