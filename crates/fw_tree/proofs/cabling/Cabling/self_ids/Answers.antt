use Rattle.fw_tree.proofs.Common.{◌≡◌, ◌<◌, ℕ, take, subst, arith, true, Topology, has_number, device_at, ArePackets}
use Rattle.fw_tree.proofs.FitLaws.{packets_fit}
use Rattle.fw_tree.specs.SelfIds.{no_node}
use Rattle.fw_tree.proofs.NumberingLaws.{low_of, count_most}
use Rattle.fw_tree.proofs.SelfIdLaws.{one_more, of_first}
use Rattle.fw_tree.proofs.cabling.Cabling.self_ids.Goals as goal

pub loop-node-init : goal.loop-node-init
loop-node-init c = rw c.clear.ensures (record { packets = no_node; size = omega arith })

pub push_node-requires : goal.push_node-requires
push_node-requires c = let most = count_most c.args.self.now c.args.n.now c.requires.numbering in let size = c.loop-node.invariant.size in omega arith

pub loop-node-preserved : goal.loop-node-preserved
loop-node-preserved c = record {
  packets = one_more c.self.inside.facts c.self.inside.cables c.args.n.now.number c.args.n.now.parent_port c.args.initiator c.loop-node.node
      (device_at c.args.devices.now c.loop-node.node) c.loop-node.out c.push_node.new.out
      (c.requires.devices c.loop-node.node c.loop-node-test.true) c.push_node.ensures.packets c.loop-node.invariant.packets;
  size = let size = c.loop-node.invariant.size in let more = c.push_node.ensures.size in omega arith;
}

pub returns-clause-fit : goal.returns-clause-fit
returns-clause-fit c =
    let all : c.loop-node.node ≡ c.args.n.now.count = omega arith in
    let most = count_most c.args.self.now c.args.n.now c.requires.numbering in
    let s = c.self.invariant.sound in
    let low : (d : ℕ) → has_number c.args.n.now.number d ≡ true → d < c.self.inside.count =
    λ d h. low_of c.self.inside.facts c.self.inside.count c.self.inside.cables c.args.self.now c.args.n.now c.self.view_is s c.requires.numbering d h in
    packets_fit (take c.self.inside.count c.self.inside.facts) c.self.inside.cables c.args.n.now.number c.args.n.now.parent_port c.args.initiator c.loop-node.node c.loop-node.out s.devices
    (omega arith)
    (of_first c.self.inside.facts c.self.inside.cables c.args.n.now.number c.args.n.now.parent_port c.args.initiator c.self.inside.count c.loop-node.node c.loop-node.out low
    c.loop-node.invariant.packets)

pub returns-clause-packets : goal.returns-clause-packets
returns-clause-packets c =
    let all : c.loop-node.node ≡ c.args.n.now.count = omega arith in
    let P : ℕ → Type 0 = λ n. ArePackets c.self.inside.facts c.self.inside.cables c.args.n.now.number c.args.n.now.parent_port c.args.initiator n c.loop-node.out in
    let Q : Topology → Type 0 = λ p. ArePackets p.devices p.cables c.args.n.now.number c.args.n.now.parent_port c.args.initiator c.args.n.now.count c.loop-node.out in
    let low : (d : ℕ) → has_number c.args.n.now.number d ≡ true → d < c.self.inside.count =
    λ d h. low_of c.self.inside.facts c.self.inside.count c.self.inside.cables c.args.self.now c.args.n.now c.self.view_is c.self.invariant.sound c.requires.numbering d h in
    subst Q c.self.view_is (of_first c.self.inside.facts c.self.inside.cables c.args.n.now.number c.args.n.now.parent_port c.args.initiator c.self.inside.count c.args.n.now.count c.loop-node.out low
    (subst P all c.loop-node.invariant.packets))

pub bounds-devices-node : goal.bounds-devices-node
bounds-devices-node c = let most = count_most c.args.self.now c.args.n.now c.requires.numbering in omega arith
