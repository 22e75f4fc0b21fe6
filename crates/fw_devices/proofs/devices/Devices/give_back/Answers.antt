use Rattle.fw_devices.proofs.Common.{◌≡◌, ◌∙◌, sym, subst, false, vec_capacity, Network, NetworkFrame}
use Rattle.std.proofs.lemmas.Bool.{false≢true}
use Rattle.fw_devices.specs.Frames.{IsOf}
use Rattle.fw_devices.specs.Kept.{IsKept}
use Rattle.fw_devices.proofs.FrameLaws.{few_numbers, given_back}
use Rattle.fw_devices.proofs.devices.Devices.give_back.Goals as goal

pub copy_nodes-requires : goal.copy_nodes-requires
copy_nodes-requires c =
    let n = c.requires.0 in
    let of = c.requires.1 in
    record { room = c.self.invariant.nodes_room; few = few_numbers c.args.frame.now c.args.kept.now c.args.numbers.now n of; within = of.within }

-- the frame is that which was given
given_frame : (c : goal.After-copy_nodes) → ◌≡◌ {A = NetworkFrame} (record {
  topology = c.copy_from.new.self;
  names = c.copy_from-2.new.self;
  epoch = c.copy_from-3.new.self.epoch;
  manager = c.frame.inside.manager;
  latest = c.copy_from-3.new.self;
  withheld = c.frame.inside.withhold;
}) c.args.frame.now
given_frame c = (λ i. record {
  topology = c.copy_from.ensures i;
  names = c.copy_from-2.ensures i;
  epoch = (c.copy_from-3.ensures i).epoch;
  manager = c.frame.inside.manager;
  latest = c.copy_from-3.ensures i;
  withheld = c.frame.inside.withhold;
}) ∙ c.frame.view_is

given : (c : goal.After-copy_nodes) (n : Network) → IsOf c.args.frame.now c.args.kept.now c.args.numbers.now n
    → ◌≡◌ {A = Network} (record {
      topology = c.copy_from.new.self;
      names = c.copy_from-2.new.self;
      nodes = c.copy_nodes.new.nodes.items;
      epoch = c.copy_from-3.new.self.epoch;
      manager = c.frame.inside.manager;
      latest = c.copy_from-3.new.self;
      withheld = c.frame.inside.withhold;
    }) n
given c n of = given_back c.args.frame.now c.args.kept.now c.args.numbers.now n of _ c.copy_nodes.new.nodes.items (given_frame c) c.copy_nodes.ensures.nodes

pub invariant_of-self : goal.invariant_of-self
invariant_of-self c =
    let n = c.requires.0 in
    let of = c.requires.1 in
    let P : Network → Type 0 = λ x. IsKept x (vec_capacity c.copy_nodes.new.nodes) false c.self.inside.bus.numbering in
    subst P (sym (given c n of)) (record { network = of.network; few = of.few; same = of.same; nodes_room = c.copy_nodes.ensures.room; found = λ now. absurd (false≢true now) })

pub returns : goal.returns
returns c = λ n of. given c n of
