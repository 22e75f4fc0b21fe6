use Rattle.std.proofs.Common.{length, ap, arith}
use Rattle.std.proofs.lemmas.List.{length-map}
use Rattle.fw_explore_levels.specs.Spots.{spotted_in}
use Rattle.fw_explore_levels.proofs.LinkLaws.{spotted_at}
use Rattle.fw_explore_levels.proofs.level.Level.ways.Goals as goal

pub index-requires : goal.index-requires
index-requires c = omega (arith, c.requires, c.self.inside.spots.ok.0, length-map c.self.inside.spots.items (spotted_in c.self.inside.bytes.items), ap length c.self.view_is)

pub returns : goal.returns
returns c = λ d. ap (λ x. x.ways) (spotted_at c.self.inside.bytes.items c.self.inside.spots.items c.args.place c.index.result.now c.args.self.now d c.requires c.index.ensures c.self.view_is)
