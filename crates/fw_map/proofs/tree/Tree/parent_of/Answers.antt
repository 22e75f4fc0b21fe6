use Rattle.fw_map.proofs.Common.{sym, ap, ◌∙◌, number_at}
use Rattle.fw_map.proofs.WalkLaws.{has_parent, higher}
use Rattle.fw_map.proofs.tree.Tree.parent_of.Goals as goal

pub unreachable-requires : goal.unreachable-requires
unreachable-requires c =
    let k = (has_parent c.args.self.now c.requires.tree c.args.node c.requires.node).1 in
    let e = ap (number_at c.args.self.now.parent) c.from.ensures in
    let i = c.in-None.is in
    let z : ⊥ = cc in
    z

pub returns-clause-higher : goal.returns-clause-higher
returns-clause-higher c = (higher c.args.self.now c.requires.tree c.args.node c.in-Some.parent (ap (number_at c.args.self.now.parent) (sym c.from.ensures) ∙ c.in-Some.is)).0
