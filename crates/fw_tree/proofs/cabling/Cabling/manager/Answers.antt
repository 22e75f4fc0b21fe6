use Rattle.fw_tree.proofs.Common.{◌≡◌, ◌<◌, ◌+◌, ◌∙◌, ℕ, Option, subst, sym, arith, true, Topology, has_number, device_at}
use Rattle.fw_tree.specs.Numbering.{IsManager, IsGreatest}
use Rattle.fw_tree.proofs.NumberingLaws.{low_of, count_most, greatest_first, greatest_yes, greatest_no, manager_of}
use Rattle.fw_tree.proofs.cabling.Cabling.manager.Goals as goal
use Rattle.fw_tree.proofs.cabling.Cabling.manager.Goals.{then-contends, else-contends}

pub loop-node-init : goal.loop-node-init
loop-node-init c = greatest_first c.self.inside.facts c.args.n.now.number

pub loop-node-preserved : goal.loop-node-preserved
loop-node-preserved c =
    let fs = c.self.inside.facts in
    let number = c.args.n.now.number in
    let d = device_at c.args.devices.now c.loop-node.node in
    let at = c.requires.devices c.loop-node.node c.loop-node-test.true in
    let P : Option ℕ → Type 0 = IsGreatest fs number (c.loop-node.node + 1) in
    elim c.if-contends.branch [
      | then-contends w ↦ subst P (sym w.manager-is) (greatest_yes fs number d c.loop-node.node at (sym c.contends.ensures ∙ w.if-contends.true))
      | else-contends w ↦ subst P (sym w.manager-is) (greatest_no fs number d c.loop-node.node c.loop-node.manager c.requires.numbering.nodes.one at
          (sym c.contends.ensures ∙ w.if-contends.false) c.loop-node.invariant)
    ]

pub returns : goal.returns
returns c =
    let all : c.loop-node.node ≡ c.args.n.now.count = omega arith in
    let low : (d : ℕ) → has_number c.args.n.now.number d ≡ true → d < c.self.inside.count =
    λ d h. low_of c.self.inside.facts c.self.inside.count c.self.inside.cables c.args.self.now c.args.n.now c.self.view_is c.self.invariant.sound c.requires.numbering d h in
    let P : ℕ → Type 0 = λ n. IsGreatest c.self.inside.facts c.args.n.now.number n c.loop-node.manager in
    let Q : Topology → Type 0 = λ p. IsManager p.devices c.args.n.now.number c.loop-node.manager in
    let nodes = c.requires.numbering.nodes in
    subst Q c.self.view_is (manager_of c.self.inside.facts c.args.n.now.number c.self.inside.count c.args.n.now.count c.loop-node.manager low nodes (subst P all c.loop-node.invariant))

pub bounds-devices-node : goal.bounds-devices-node
bounds-devices-node c = let most = count_most c.args.self.now c.args.n.now c.requires.numbering in omega arith
