use Rattle.std.proofs.Common.{length, ap, arith}
use Rattle.std.proofs.lemmas.List.{length-map}
use Rattle.fw_explore_levels.specs.Spots.{spotted_in}
use Rattle.fw_explore_levels.proofs.level.Level.len.Goals as goal

pub returns : goal.returns
returns c = omega (arith, c.len.ensures, c.self.inside.spots.ok.0, length-map c.self.inside.spots.items (spotted_in c.self.inside.bytes.items), ap length c.self.view_is)
