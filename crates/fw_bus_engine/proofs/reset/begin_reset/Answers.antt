use Rattle.fw_bus_engine.proofs.Common.{◌≡◌, ◌∙◌, ap, rules, is_node, states_of}
use Rattle.fw_cmp.specs.Losses.{after_bus_reset as controller_reset}
use Rattle.fw_bus_engine.specs.Resetting.{directory_in}
use Rattle.fw_bus_engine.proofs.reset.begin_reset.Goals as goal

pub returns-clause-begins : goal.returns-clause-begins
returns-clause-begins c =
    let none = c.node.ensures.none in
    let some = c.node.ensures.some in
    let zero : c.is_some-machine.result ≡ is_node c.args.machine.now.devices.nodes 0 = search rules in
    let epoch = c.epoch.ensures in
    let heard = c.reset-2.ensures in
    let directory = c.directory_now-machine.ensures ∙ ap (λ b. directory_in c.reset.new.self b c.args.machine.now.cycle) zero in
    record {
      reset = c.reset.ensures.reset;
      table = record {
        count_is = heard.count_is;
        states_are = heard.states_are ∙ (λ i d. controller_reset (epoch i) (states_of c.args.machine.now.controllers d));
        dead_are = heard.dead_are;
      };
      after = λ i. record c.args.machine.now {
        devices = c.reset.new.self;
        controllers = c.reset-2.new.self;
        directory = directory i;
        reclaiming = zero i;
        wire = c.clear.ensures i;
        bids = c.clear-2.ensures i;
      };
    }
