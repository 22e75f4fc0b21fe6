use Rattle.fw_devices.proofs.Common.{◌≡◌, ◌<◌, ◌+◌, ◌∙◌, List, arith, rules, refl, sym, subst, with_items, with_items_is, IsOnBus, NodeState, Network, kinds_of}
use Rattle.std.proofs.Common.{◌^◌}
use Rattle.fw_devices.specs.Resets.{IsReset}
use Rattle.fw_devices.proofs.EntryLaws.{entry_fits}
use Rattle.fw_devices.proofs.NetworkLaws.{network_kept}
use Rattle.fw_devices.proofs.ResetLaws.{left_of, number_low, entry_of, is_reset, same_devices}
use Rattle.fw_devices.proofs.devices.Devices.reset.Goals as goal

pub reset_nodes-requires-clause-range : goal.reset_nodes-requires-clause-range
reset_nodes-requires-clause-range c =
    let h = c.find.ensures.found.numbered in
    let N : Network → Type 0 = λ n. IsOnBus n.topology.cables c.args.initiator in
    let on = subst N (sym c.self.view_is) c.requires.on in
    number_low c.self.inside.cabling _ c.find.new.bus c.begin.new.self h (c.begin.ensures _ (h.numbers.places c.args.initiator on))

pub invariant_of-self : goal.invariant_of-self
invariant_of-self c =
    let old : Network = record {
      topology = c.self.inside.cabling;
      names = c.self.inside.names;
      nodes = c.self.inside.nodes.items;
      epoch = c.self.inside.bus.entry.epoch;
      manager = c.self.inside.bus.manager;
      latest = c.self.inside.bus.entry;
      withheld = c.self.inside.withhold;
    } in
    let nodes = c.reset_nodes.new.nodes in
    let b = c.begin.new.self in
    let N : Network → Type 0 = λ n. IsOnBus n.topology.cables c.args.initiator in
    let on = subst N (sym c.self.view_is) c.requires.on in
    let w = left_of old c.args.initiator c.find.new.bus b c.deref.result.now c.deref_mut.result.now nodes on c.deref.ensures.value c.deref_mut.ensures.value c.find.ensures.found
    c.find.ensures.epoch c.begin.ensures c.reset_nodes.ensures.size c.reset_nodes.ensures.nodes in
    let same = same_devices old c.args.initiator b.numbering b.manager nodes b.entry w.steps in
    let written : (with_items c.self.inside.nodes nodes).items ≡ nodes = with_items_is c.self.inside.nodes nodes (let size = same.size in let long = c.self.inside.nodes.ok.0 in omega arith) in
    rw written (record {
      network = network_kept old _ c.self.invariant.network refl refl refl same;
      few = c.self.invariant.few;
      same = same.size ∙ c.self.invariant.same;
      nodes_room = c.self.invariant.nodes_room;
      found = λ now. w.found;
    })

pub returns : goal.returns
returns c =
    let old : Network = record {
      topology = c.self.inside.cabling;
      names = c.self.inside.names;
      nodes = c.self.inside.nodes.items;
      epoch = c.self.inside.bus.entry.epoch;
      manager = c.self.inside.bus.manager;
      latest = c.self.inside.bus.entry;
      withheld = c.self.inside.withhold;
    } in
    let nodes = c.reset_nodes.new.nodes in
    let b = c.begin.new.self in
    let N : Network → Type 0 = λ n. IsOnBus n.topology.cables c.args.initiator in
    let on = subst N (sym c.self.view_is) c.requires.on in
    let w = left_of old c.args.initiator c.find.new.bus b c.deref.result.now c.deref_mut.result.now nodes on c.deref.ensures.value c.deref_mut.ensures.value c.find.ensures.found
    c.find.ensures.epoch c.begin.ensures c.reset_nodes.ensures.size c.reset_nodes.ensures.nodes in
    let written : (with_items c.self.inside.nodes nodes).items ≡ nodes = with_items_is c.self.inside.nodes nodes (let same = w.steps.same in let long = c.self.inside.nodes.ok.0 in omega arith) in
    let few : c.self.inside.bus.entry.epoch + 1 < 2 ^ 32 = search rules in
    let P : List NodeState → Type 0 = λ items. IsReset old (record {
      topology = c.self.inside.cabling;
      names = c.self.inside.names;
      nodes = items;
      epoch = b.entry.epoch;
      manager = b.manager;
      latest = b.entry;
      withheld = c.self.inside.withhold;
    }) c.args.initiator b.entry in
    record {
      reset = rw (← c.self.view_is) (subst P (sym written) (is_reset old c.args.initiator b.numbering b.manager nodes b.entry c.self.invariant.network w.steps));
      fits = entry_fits c.self.inside.cabling (kinds_of c.self.inside.nodes.items)
          (c.self.inside.bus.entry.epoch + 1) c.args.initiator b.entry c.self.invariant.network.made c.self.invariant.network.kinds few
          (entry_of old c.args.initiator b.numbering b.manager nodes b.entry w.steps);
    }
