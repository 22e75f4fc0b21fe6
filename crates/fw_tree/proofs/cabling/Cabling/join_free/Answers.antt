use Rattle.fw_tree.proofs.Common.{take}
use Rattle.fw_tree.specs.Topology.{cable}
use Rattle.fw_tree.proofs.ReachLaws.{joins_of}
use Rattle.fw_tree.proofs.cabling.Cabling.join_free.Goals as goal

pub plug-requires : goal.plug-requires
plug-requires c =
    let j = joins_of (take c.self.inside.count c.self.inside.facts) c.self.inside.cables c.args.a c.args.b c.self.invariant.sound (rw c.self.view_is c.requires) in
    record { a_device = j.ends.a_device; a_port = j.ends.a_port; b_device = j.ends.b_device; b_port = j.ends.b_port }

pub invariant_of-self : goal.invariant_of-self
invariant_of-self c =
    let j = joins_of (take c.self.inside.count c.self.inside.facts) c.self.inside.cables c.args.a c.args.b c.self.invariant.sound (rw c.self.view_is c.requires) in
    rw c.plug.ensures (record { size = c.self.invariant.size; most = c.self.invariant.most; made = cable c.self.invariant.made c.args.a c.args.b j.is; sound = j.sound })

pub returns-clause-joined : goal.returns-clause-joined
returns-clause-joined c =
    let j = joins_of (take c.self.inside.count c.self.inside.facts) c.self.inside.cables c.args.a c.args.b c.self.invariant.sound (rw c.self.view_is c.requires) in
    rw (c.plug.ensures, ← c.self.view_is) j.is

pub returns-clause-made : goal.returns-clause-made
returns-clause-made c =
    let j = joins_of (take c.self.inside.count c.self.inside.facts) c.self.inside.cables c.args.a c.args.b c.self.invariant.sound (rw c.self.view_is c.requires) in
    rw c.plug.ensures (cable c.self.invariant.made c.args.a c.args.b j.is)
