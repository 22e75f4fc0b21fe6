-- draft
use Rattle.fw_explore.proofs.Common.{ℕ, ◌≡◌, ◌<◌, List, Command, IsFunction, Had}
use Rattle.fw_explore_meaning.specs.Finishing.{WritesMore}
use Rattle.fw_explore_meaning.specs.Pasts.{LeadsAt}
use Rattle.fw_explore.proofs.step.Walker.is_cut.Given as goal

abbrev pub invariant-loop-mover : goal.invariant-loop-mover
invariant-loop-mover g l = record {
  pasts : l.self.pasts ≡ l.fn.self.pasts;
  places : l.self.kept.places ≡ l.fn.self.kept.places;
  here : l.self.here ≡ l.fn.self.here;
  none : (script : List Command) (w : List ℕ) → IsFunction (record { blocks = goal.F-post g l.desk.blocks; vendor = goal.H-post g l.desk.vendor })
      → LeadsAt (record { blocks = goal.F-post g l.desk.blocks; vendor = goal.H-post g l.desk.vendor }) script l.explored (Had l.fn.self.pasts)
      (g.P.Keeper.Kept l.fn.self.kept.places) w l.fn.self.here.items
      → (p : ℕ) → p < l.mover → WritesMore (record { blocks = goal.F-post g l.desk.blocks; vendor = goal.H-post g l.desk.vendor }) script l.explored w p → ⊥;
}
