use Rattle.fw_bus_engine.proofs.Common.{false, ap, ◌∙◌, ◌+◌, map, Network}
use Rattle.fw_devices.specs.Decks.{passed}
use Rattle.fw_bus_state.specs.Streaming.{counted_on}
use Rattle.fw_bus_state.proofs.DeckNodes.{rested_may_pass}
use Rattle.fw_bus_engine.proofs.second.pass_second.Goals as goal

pub pass-requires : goal.pass-requires
pass-requires c = rested_may_pass c.second_over.new.self c.requires.ready c.requires.few c.second_over.ensures

pub returns : goal.returns
returns c =
    let devices = c.pass.ensures.tapes ∙ ap (λ (n : Network). record n { nodes = map (passed 1) n.nodes }) c.second_over.ensures in
    let streams = c.pass.ensures.counts ∙ ap (λ (n : Network). counted_on 1 n.nodes c.args.machine.now.streams) c.second_over.ensures in
    record {
      table = c.second_over-2.ensures;
      after = λ i. record c.args.machine.now {
        devices = devices i;
        controllers = c.second_over-2.new.self;
        cycle = c.args.machine.now.cycle + 1;
        reclaiming = false;
        streams = streams i;
      };
    }
