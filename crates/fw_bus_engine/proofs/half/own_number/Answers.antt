use Rattle.fw_bus_engine.proofs.Common.{◌≡◌, sym, ◌∙◌, arith, none-some, same_Some}
use Rattle.fw_bus_engine.proofs.OwnNumbers.{own_known}
use Rattle.fw_bus_engine.proofs.half.own_number.Goals as goal

pub node_of-requires : goal.node_of-requires
node_of-requires c = (own_known c.args.machine.now c.args.device c.requires.ready c.requires.living).1.below

pub unreachable-requires : goal.unreachable-requires
unreachable-requires c =
    let own = own_known c.args.machine.now c.args.device c.requires.ready c.requires.living in
    absurd (none-some own.0 (sym c.in-None.is ∙ (c.node_of.ensures ∙ own.1.told)))

pub returns-clause-value : goal.returns-clause-value
returns-clause-value c =
    let own = own_known c.args.machine.now c.args.device c.requires.ready c.requires.living in
    own.1.number ∙ sym own.1.told ∙ sym c.node_of.ensures ∙ c.in-Some.is

pub returns-clause-range : goal.returns-clause-range
returns-clause-range c =
    let own = own_known c.args.machine.now c.args.device c.requires.ready c.requires.living in
    let same : c.in-Some.number ≡ own.0 = same_Some c.in-Some.number own.0 (sym c.in-Some.is ∙ (c.node_of.ensures ∙ own.1.told)) in
    let low = own.1.low in
    omega (arith, same, low)
