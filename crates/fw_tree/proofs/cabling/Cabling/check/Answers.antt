use Rattle.fw_tree.proofs.PlacedLaws.{placed_of}
use Rattle.fw_tree.proofs.cabling.Cabling.check.Goals as goal

pub are_connected-requires-clause-placed : goal.are_connected-requires-clause-placed
are_connected-requires-clause-placed c = placed_of c.self.inside.facts c.self.inside.count c.self.inside.cables c.self.invariant
