use Rattle.fw_bus_engine.proofs.Common.{◌≡◌, ◌<◌, ℕ, List, Some, option_map, is_some, length, ap, sym, subst, ◌∙◌, IsTrue, same_Some, has_link, space_of, Network, node_at, nodes_after}
use Rattle.std.proofs.Common.{Bor}
use Rattle.fw_node.specs.Packets.{IsServed}
use Rattle.fw_bus_engine.proofs.Outstanding.{goes_to, some_stand, spells_it}
use Rattle.fw_bus_engine.proofs.exchange.serve.Goals as goal

-- ---- its bytes stand there

pub unreachable-requires : goal.unreachable-requires
unreachable-requires c =
    let x = c.requires.outstanding.2 in
    let w = some_stand (λ (b : Bor (List ℕ)). b.now) c.get.result x c.get.ensures in
    c.in_default.not-Some w.0 w.1

pub destination_at-requires : goal.destination_at-requires
destination_at-requires c =
    let got = ap (option_map (λ (b : Bor (List ℕ)). b.now)) (sym c.in-Some.is) ∙ c.get.ensures in
    record { packet = c.requires.outstanding.1; spells = spells_it c.requires.outstanding.2 got }

-- ---- and go to the node of a device
pub unreachable-requires-in_default-device_at : goal.unreachable-requires-in_default-device_at
unreachable-requires-in_default-device_at c =
    let o = c.requires.outstanding in
    let got = ap (option_map (λ (b : Bor (List ℕ)). b.now)) (sym c.in-Some.is) ∙ c.get.ensures in
    let at = c.device_at.ensures ∙ goes_to c.number_of.result c.destination_at.result o.2 c.number_of.ensures.value (c.destination_at.ensures o.1 (spells_it o.2 got)) in
    c.in_default-device_at.not-Some o.0 at

-- ---- which carries the request out

pub serve-reply-requires-clause-request : goal.serve-reply-requires-clause-request
serve-reply-requires-clause-request c =
    let o = c.requires.outstanding in
    let got = ap (option_map (λ (b : Bor (List ℕ)). b.now)) (sym c.in-Some.is) ∙ c.get.ensures in
    record { packet = o.1; spells = spells_it o.2 got; asks = o.2.asks }

pub serve-reply-requires-clause-declared : goal.serve-reply-requires-clause-declared
serve-reply-requires-clause-declared c =
    let o = c.requires.outstanding in
    let got = ap (option_map (λ (b : Bor (List ℕ)). b.now)) (sym c.in-Some.is) ∙ c.get.ensures in
    let at = c.device_at.ensures ∙ goes_to c.number_of.result c.destination_at.result o.2 c.number_of.ensures.value (c.destination_at.ensures o.1 (spells_it o.2 got)) in
    let same : o.0 ≡ c.in-Some-device_at.target = same_Some o.0 c.in-Some-device_at.target (sym at ∙ c.in-Some-device_at.is) in
    subst (λ (t : ℕ). t < length c.args.devices.now.nodes) same o.2.declared

pub serve-reply-requires-clause-number : goal.serve-reply-requires-clause-number
serve-reply-requires-clause-number c =
    let o = c.requires.outstanding in
    let got = ap (option_map (λ (b : Bor (List ℕ)). b.now)) (sym c.in-Some.is) ∙ c.get.ensures in
    let at = c.device_at.ensures ∙ goes_to c.number_of.result c.destination_at.result o.2 c.number_of.ensures.value (c.destination_at.ensures o.1 (spells_it o.2 got)) in
    let same : o.0 ≡ c.in-Some-device_at.target = same_Some o.0 c.in-Some-device_at.target (sym at ∙ c.in-Some-device_at.is) in
    subst (λ (t : ℕ). IsTrue (is_some (node_at c.args.devices.now.nodes t).number)) same o.2.number

pub serve-reply-requires-clause-link : goal.serve-reply-requires-clause-link
serve-reply-requires-clause-link c =
    let o = c.requires.outstanding in
    let got = ap (option_map (λ (b : Bor (List ℕ)). b.now)) (sym c.in-Some.is) ∙ c.get.ensures in
    let at = c.device_at.ensures ∙ goes_to c.number_of.result c.destination_at.result o.2 c.number_of.ensures.value (c.destination_at.ensures o.1 (spells_it o.2 got)) in
    let same : o.0 ≡ c.in-Some-device_at.target = same_Some o.0 c.in-Some-device_at.target (sym at ∙ c.in-Some-device_at.is) in
    subst (λ (t : ℕ). IsTrue (has_link (node_at c.args.devices.now.nodes t).kind)) same o.2.link

pub returns : goal.returns
returns c = λ device p x.
    let n : Network = c.args.devices.now in
    let got = ap (option_map (λ (b : Bor (List ℕ)). b.now)) (sym c.in-Some.is) ∙ c.get.ensures in
    let read = spells_it x got in
    let at = c.device_at.ensures ∙ goes_to c.number_of.result c.destination_at.result x c.number_of.ensures.value (c.destination_at.ensures p read) in
    let same : device ≡ c.in-Some-device_at.target = same_Some device c.in-Some-device_at.target (sym at ∙ c.in-Some-device_at.is) in
    record {
      target = sym same;
      response = λ number e. subst (λ (t : ℕ). IsServed (space_of number c.args.cycle (node_at n.nodes t)) p c.serve-reply.new.out c.serve-reply.result) (sym same)
          (c.serve-reply.ensures.response p read number (subst (λ (t : ℕ). (node_at n.nodes t).number ≡ Some number) same e));
      registers = subst (λ (t : ℕ). c.serve-reply.new.self ≡ record n { nodes = nodes_after n.nodes t p }) (sym same) (c.serve-reply.ensures.registers p read);
      rest = c.remove.ensures;
    }
