use Rattle.fw_tree.proofs.Common.{take}
use Rattle.fw_tree.specs.Topology.{cable}
use Rattle.fw_tree.proofs.ReachLaws.{Joins, joins_of}
use Rattle.fw_tree.proofs.cabling.Cabling.join.Goals as goal
use Rattle.fw_tree.proofs.cabling.Cabling.join.Goals.{In_ok-check}

-- what the cable makes of the topology, since no fault holds
joins : (c : In_ok-check) → Joins (take c.self.inside.count c.self.inside.facts) c.self.inside.cables c.args.a c.args.b
joins c = joins_of (take c.self.inside.count c.self.inside.facts) c.self.inside.cables c.args.a c.args.b c.self.invariant.sound (rw c.self.view_is c.in_ok-check.ensures.free)

pub plug-requires : goal.plug-requires
plug-requires c = let w = (joins (goal.at.plug-requires c).In_ok-check).ends in record { a_device = w.a_device; a_port = w.a_port; b_device = w.b_device; b_port = w.b_port }

pub invariant_of-self : goal.invariant_of-self
invariant_of-self c =
    let j = joins (goal.at.invariant_of-self c).In_ok-check in
    rw c.plug.ensures (record { size = c.self.invariant.size; most = c.self.invariant.most; made = cable c.self.invariant.made c.args.a c.args.b j.is; sound = j.sound })

pub returns-clause-joined : goal.returns-clause-joined
returns-clause-joined c =
    let j = joins (goal.at.returns-clause-joined c).In_ok-check in
    rw (c.plug.ensures, ← c.self.view_is) j.is

pub returns-clause-made : goal.returns-clause-made
returns-clause-made c =
    let j = joins (goal.at.returns-clause-made c).In_ok-check in
    rw c.plug.ensures (cable c.self.invariant.made c.args.a c.args.b j.is)
