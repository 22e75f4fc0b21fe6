use Rattle.fw_bus_engine.proofs.Common.{ap, sym, ◌∙◌, false≢true}
use Rattle.fw_devices.specs.Decks.{tape_of}
use Rattle.fw_bus_engine.proofs.Players.{tape_found, tape_lost}
use Rattle.fw_bus_engine.proofs.cycle_streams.tape_in.Goals as goal

pub returns-in-Some-tape_subunit : goal.returns-in-Some-tape_subunit
returns-in-Some-tape_subunit c = c.copy_of.ensures ∙ (tape_found c.in-Some.node.now _ c.in-Some-tape_subunit.ensures.tape ∙ ap tape_of c.in-Some.ensures.some.0)

pub returns-in-None-tape_subunit : goal.returns-in-None-tape_subunit
returns-in-None-tape_subunit c = c.new.ensures ∙ (tape_lost c.in-Some.node.now c.in-None-tape_subunit.ensures.tape ∙ ap tape_of c.in-Some.ensures.some.0)

pub returns-in-None : goal.returns-in-None
returns-in-None c = absurd (false≢true (sym c.in-None.ensures.none ∙ c.requires))
