use Rattle.fw_devices.proofs.Common.{◌≡◌, ◌∙◌, List, ap, sym, subst, length, refl, arith, with_items, vec_capacity, length-map, with_items_is, DeviceKind, NetworkFrame, IsFound, Network, kinds_of}
use Rattle.fw_devices.proofs.Common.{node_at}
use Rattle.std.proofs.lemmas.Bool.{and_parts}
use Rattle.fw_log_entry.specs.declared.entry.ResetEntry.{ResetEntry}
use Rattle.fw_devices.proofs.FrameLaws.{given_back, kept_of}
use Rattle.fw_devices.proofs.devices.Devices.change_frame.Goals as goal

pub invariant_of-self : goal.invariant_of-self
invariant_of-self c =
    let n = c.requires.kept.0 in
    let of = c.requires.kept.1 in
    let inside = c.self.inside in
    let bus = c.change.new.self in
    let nodes = c.change_nodes-same.new.nodes in
    let seen = ap (λ (x : Network). length x.nodes) c.self.view_is in
    let before = ap length c.requires.now.nodes ∙ length-map c.args.now.now (node_at c.args.kept.now) in
    let after = ap length c.change_nodes-same.ensures.nodes ∙ length-map c.args.numbers.now (node_at c.args.kept.now) in
    let size : length nodes ≡ length inside.nodes.items = omega (arith, seen, before, after, c.if-now-numbers.false) in
    let written : (with_items inside.nodes nodes).items ≡ nodes = with_items_is inside.nodes nodes (let long = inside.nodes.ok.0 in omega (arith, long, size)) in
    let lines = c.if-not-has_lines.ensures refl in
    let topology = ap (λ (x : Network). x.topology) c.self.view_is ∙ lines.0 in
    let names = ap (λ (x : Network). x.names) c.self.view_is ∙ lines.1 in
    let epoch = ap (λ (e : ResetEntry). e.epoch) c.change.ensures.entry ∙ ap (λ (f : NetworkFrame). f.epoch) c.frame.view_is in
    let manager = c.change.ensures.manager ∙ ap (λ (f : NetworkFrame). f.manager) c.frame.view_is in
    let latest = c.change.ensures.entry ∙ ap (λ (f : NetworkFrame). f.latest) c.frame.view_is in
    let withheld = ap (λ (f : NetworkFrame). f.withheld) c.frame.view_is in
    let f : NetworkFrame = record { topology = inside.cabling; names = inside.names; epoch = bus.entry.epoch; manager = bus.manager; latest = bus.entry; withheld = c.frame.inside.withhold } in
    let framed : f ≡ c.args.frame.now = λ i. record { topology = topology i; names = names i; epoch = epoch i; manager = manager i; latest = latest i; withheld = withheld i } in
    let F : List DeviceKind → Type 0 = λ kinds. IsFound inside.cabling kinds inside.bus.numbering inside.bus.manager inside.bus.entry in
    rw written (kept_of c.args.frame.now c.args.kept.now c.args.numbers.now n of _ _ _ bus.numbering
    (given_back c.args.frame.now c.args.kept.now c.args.numbers.now n of f nodes framed c.change_nodes-same.ensures.nodes)
    c.self.invariant.nodes_room
    (c.change.ensures.found inside.cabling (kinds_of nodes) (λ now. let both = and_parts inside.bus.current c.change_nodes-same.result now in
    subst F (sym (c.change_nodes-same.ensures.kinds both.1 ∙ ap kinds_of c.deref_mut.ensures.value)) (c.self.invariant.found both.0))))
