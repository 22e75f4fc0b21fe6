use Rattle.fw_devices.proofs.Common.{◌≡◌, ◌∙◌, ◌<◌, ℕ, length, ap, sym, false, arith, DeviceKind, Relay, NodeState, first_state, kinds_of}
use Rattle.std.proofs.lemmas.Bool.{and_parts}
use Rattle.std.proofs.lemmas.List.{get_or_read}
use Rattle.fw_devices.proofs.ChangeLaws.{all_changed, new_number, same_number}
use Rattle.fw_devices.proofs.FrameLaws.{kinds_set}
use Rattle.fw_devices.proofs.devices.frames.change_nodes.Goals as goal
use Rattle.fw_devices.proofs.devices.frames.change_nodes.Goals.{then-now-n, else-now-n}

abbrev kind_of : NodeState → DeviceKind
kind_of n = n.kind

pub loop-n-preserved : goal.loop-n-preserved
loop-n-preserved c =
    let none : NodeState = first_state Relay 0 0 false in
    let kept = c.args.kept.now in
    let now = c.args.now.now in
    let numbers = c.args.numbers.now in
    let changed = c.loop-n.invariant.0 in
    let low : c.loop-n.n < length numbers = omega (arith, c.loop-n-test.true) in
    let here : c.loop-n.n < length c.loop-n.nodes = omega (arith, low, changed.size) in
    elim c.if-now-n.branch [
      | then-now-n w ↦
          let x = w.copy_from.new.self in
          let y = w.index-nodes-n.result in
          let copy = get_or_read kept _ w.index-kept-numbers.result (c.requires.within c.loop-n.n low) w.index-kept-numbers.is none in
          let one = get_or_read c.loop-n.nodes c.loop-n.n y here w.index-nodes-n.is none in
          rw w.nodes-is (rw w.same-is (
            new_number none kept now numbers c.loop-n.n c.loop-n.nodes x changed low (w.copy_from.ensures ∙ copy),
            λ same. let both = and_parts c.loop-n.same w.same_kind-same.result same in
                kinds_set c.loop-n.nodes c.loop-n.n x y one (ap kind_of w.copy_from.ensures ∙ (w.same_kind-same.ensures both.1 ∙ sym (ap kind_of w.index-nodes-n.is))) ∙ c.loop-n.invariant.1 both.0,
          ))
      | else-now-n w ↦ rw w.nodes-is (rw w.same-is (same_number none kept now numbers c.loop-n.n c.loop-n.nodes changed w.if-now-n.false, c.loop-n.invariant.1))
    ]

pub returns : goal.returns
returns c = record {
  nodes = all_changed (first_state Relay 0 0 false) c.args.kept.now c.args.now.now c.args.numbers.now c.loop-n.n c.loop-n.nodes (omega (arith, c.loop-n-test.false)) c.loop-n.invariant.0;
  kinds = λ same. c.loop-n.invariant.1 same ∙ ap kinds_of (sym c.requires.now);
}
