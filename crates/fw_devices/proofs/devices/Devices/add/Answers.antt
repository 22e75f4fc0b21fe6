use Rattle.fw_devices.proofs.Common.{◌≡◌, ◌<◌, ◌+◌, ◌∙◌, ◌++◌, ◌∷◌, [], length, arith, rules, ap, sym, subst, length_push, first_state, Topology, Made}
use Rattle.std.proofs.lemmas.Grind.{common_steps}
use Rattle.fw_devices.specs.Network.{facts_of}
use Rattle.fw_devices.proofs.NetworkLaws.{network_more}
use Rattle.fw_devices.proofs.devices.Devices.add.Goals as goal

pub invariant_of-self : goal.invariant_of-self
invariant_of-self c =
    let topology : c.add.new.self ≡ record { devices = c.self.inside.cabling.devices ++ facts_of c.args.kind c.args.ports c.args.speed ∷ []; cables = c.self.inside.cabling.cables } =
    c.in-Ok.ensures.added.1.is ∙ ap (λ f. record { devices = c.self.inside.cabling.devices ++ f ∷ []; cables = c.self.inside.cabling.cables }) c.facts_of.ensures in
    let names : c.push.new.self ≡ c.self.inside.names ++ c.args.name.now ∷ [] = grind (arith, common_steps) in
    let nodes : c.push-2.new.self.items ≡ c.self.inside.nodes.items ++ first_state c.args.kind (length c.self.inside.names) c.args.speed c.self.inside.withhold ∷ [] = grind (arith, common_steps) in
    let P : Topology → Type 0 = Made in
    rw (topology, names, nodes) (record {
      network = network_more _ c.args.name.now c.args.kind c.args.ports c.args.speed c.self.invariant.network (subst P topology c.add.ensures.made);
      few = let room : length c.self.inside.names < 63 = search rules in let more = length_push c.self.inside.names c.args.name.now in omega arith;
      same = length_push c.self.inside.nodes.items (first_state c.args.kind (length c.self.inside.names) c.args.speed c.self.inside.withhold) ∙ ap (λ k. k + 1) c.self.invariant.same
          ∙ sym (length_push c.self.inside.names c.args.name.now);
      nodes_room = omega (arith, c.push-2.ensures.capacity);
      found = λ now. absurd (let z : ⊥ = cc in z);
    })
