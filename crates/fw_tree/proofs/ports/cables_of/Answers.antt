use Rattle.fw_tree.proofs.PlacedLaws.{cables_same, open_same}
use Rattle.fw_tree.proofs.ports.cables_of.Goals as goal

pub returns-then-ports-lt27-clause-ports : goal.returns-then-ports-lt27-clause-ports
returns-then-ports-lt27-clause-ports c = cables_same c.args.facts.now c.args.g.now c.args.d c.from-ports.result c.requires.placed c.from-ports.ensures

pub returns-then-ports-lt27-clause-open : goal.returns-then-ports-lt27-clause-open
returns-then-ports-lt27-clause-open c = λ stays. open_same stays _ _ (cables_same c.args.facts.now c.args.g.now c.args.d c.from-ports.result c.requires.placed c.from-ports.ensures)
