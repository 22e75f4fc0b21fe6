use Rattle.fw_devices.proofs.Common.{◌≡◌, ◌∙◌, List, ap, sym, subst, length, refl, arith, with_items, vec_capacity, with_items_is, DeviceKind, NetworkFrame, IsFound, Network, kinds_of}
use Rattle.std.proofs.lemmas.Bool.{and_parts}
use Rattle.fw_devices.specs.Frames.{frame_of}
use Rattle.fw_devices.proofs.FrameLaws.{given_back, kept_of, same_count}
use Rattle.fw_devices.proofs.devices.Devices.change.Goals as goal

pub invariant_of-self : goal.invariant_of-self
invariant_of-self c =
    let n = c.requires.kept.0 in
    let of = c.requires.kept.1 in
    let inside = c.self.inside in
    let nodes = c.change_nodes-same.new.nodes in
    let old : Network = record {
      topology = inside.cabling;
      names = inside.names;
      nodes = inside.nodes.items;
      epoch = inside.bus.entry.epoch;
      manager = inside.bus.manager;
      latest = inside.bus.entry;
      withheld = inside.withhold;
    } in
    let framed : frame_of old ≡ frame_of c.args.self.now = ap frame_of c.self.view_is in
    let size : length nodes ≡ length inside.nodes.items =
    same_count (frame_of c.args.self.now) c.args.kept.now c.args.numbers.now n of nodes c.change_nodes-same.ensures.nodes
    ∙ (ap (λ (f : NetworkFrame). length f.names) (of.frame ∙ sym framed) ∙ sym c.self.invariant.same) in
    let written : (with_items inside.nodes nodes).items ≡ nodes = with_items_is inside.nodes nodes (let long = inside.nodes.ok.0 in omega (arith, long, size)) in
    let F : List DeviceKind → Type 0 = λ kinds. IsFound inside.cabling kinds inside.bus.numbering inside.bus.manager inside.bus.entry in
    rw written (kept_of (frame_of c.args.self.now) c.args.kept.now c.args.numbers.now n of _ _ _ inside.bus.numbering
    (given_back (frame_of c.args.self.now) c.args.kept.now c.args.numbers.now n of (frame_of old) nodes framed c.change_nodes-same.ensures.nodes)
    c.self.invariant.nodes_room
    (λ now. let both = and_parts inside.bus.current c.change_nodes-same.result now in
    subst F (sym (c.change_nodes-same.ensures.kinds both.1 ∙ ap kinds_of c.deref_mut.ensures.value)) (c.self.invariant.found both.0)))
