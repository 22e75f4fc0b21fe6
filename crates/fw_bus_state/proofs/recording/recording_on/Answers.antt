use Rattle.fw_bus_state.proofs.Common.{◌<◌, length, slice_index, slice_index_or, true, false, Some, None, refl, ap, sym, subst, ◌∙◌, NodeState, is_active, field, at_plug}
use Rattle.fw_plug.specs.Plugs.{PlugWords}
use Rattle.fw_tape.specs.Transports.{same_state}
use Rattle.fw_tape.specs.declared.transport.Transport.TheVariants.{Record}
use Rattle.fw_model_run.specs.Dubs.{hears_in}
use Rattle.fw_bus_state.specs.Recording.{recording_by}
use Rattle.fw_bus_state.proofs.Listening.{listens, listens_now, none_of, no_tape, no_unit, off_bus, recorded_at, tied_records, unit_none, unit_of}
use Rattle.fw_bus_state.proofs.recording.recording_on.Goals as goal
use Rattle.fw_bus_state.proofs.recording.recording_on.Goals.{else-is_recording-via-then-is_recording+else-hears, else-is_recording-via-else-is_recording}

-- ---- its plug is there

pub hears-requires : goal.hears-requires
hears-requires c =
    let r = c.requires.ready in
    let node = c.in_ok-node.ensures.some in
    let found = unit_of c.in_ok-node.node.now.unit c.in_ok-tape_subunit.field-0.now c.in_ok-tape_subunit.ensures.tape in
    let some = sym (ap (λ (x : NodeState). x.unit) node.0) ∙ found.1 in
    let plugs = c.plugs-plugs.ensures ∙ ap (λ (x : NodeState). x.plugs) node.0 in
    subst (λ (p : PlugWords). 0 < length p.inputs) (sym plugs) (listens c.args.machine.now r.state c.in_ok-machine.field-0 found.0 r.good r.stands node.1 some).plugs

pub in_word-requires : goal.in_word-requires
in_word-requires c =
    let r = c.requires.ready in
    let node = c.in_ok-node.ensures.some in
    let found = unit_of c.in_ok-node.node.now.unit c.in_ok-tape_subunit.field-0.now c.in_ok-tape_subunit.ensures.tape in
    let some = sym (ap (λ (x : NodeState). x.unit) node.0) ∙ found.1 in
    let plugs = c.plugs-plugs.ensures ∙ ap (λ (x : NodeState). x.plugs) node.0 in
    subst (λ (p : PlugWords). 0 < length p.inputs) (sym plugs) (listens c.args.machine.now r.state c.in_ok-machine.field-0 found.0 r.good r.stands node.1 some).plugs

-- ---- nothing is recorded

pub returns-in_err-machine-clause-value : goal.returns-in_err-machine-clause-value
returns-in_err-machine-clause-value c s g st =
    c.from_residual.ensures ∙ sym (ap (recording_by s) (sym st.reel.tied_is ∙ c.in_err-machine.was))

pub returns-in_err-node-clause-value : goal.returns-in_err-node-clause-value
returns-in_err-node-clause-value c s g st =
    let m = c.args.machine.now in
    let d = c.in_ok-machine.field-0 in
    c.from_residual-in_err-node.ensures ∙ sym (tied_records m s d st c.in_ok-machine.was ∙ off_bus m s d g st c.in_err-node.ensures.none)

pub returns-in_err-tape_subunit-clause-value : goal.returns-in_err-tape_subunit-clause-value
returns-in_err-tape_subunit-clause-value c s g st =
    let m = c.args.machine.now in
    let d = c.in_ok-machine.field-0 in
    let node = c.in_ok-node.ensures.some in
    let none = sym (ap (λ (x : NodeState). x.unit) node.0) ∙ unit_none c.in_ok-node.node.now.unit c.in_err-tape_subunit.ensures.tape in
    c.from_residual-in_err-tape_subunit.ensures ∙ sym (tied_records m s d st c.in_ok-machine.was ∙ no_unit m s d g st node.1 none)

pub returns-in_err-cassette-clause-value : goal.returns-in_err-cassette-clause-value
returns-in_err-cassette-clause-value c s g st =
    let m = c.args.machine.now in
    let d = c.in_ok-machine.field-0 in
    let node = c.in_ok-node.ensures.some in
    let found = unit_of c.in_ok-node.node.now.unit c.in_ok-tape_subunit.field-0.now c.in_ok-tape_subunit.ensures.tape in
    let some = sym (ap (λ (x : NodeState). x.unit) node.0) ∙ found.1 in
    c.from_residual-in_err-cassette.ensures ∙ sym (tied_records m s d st c.in_ok-machine.was ∙ no_tape m s d found.0 g st node.1 some (found.2 ∙ sym c.in_err-cassette.ensures.tape))

pub returns-else-is_recording-clause-value : goal.returns-else-is_recording-clause-value
returns-else-is_recording-clause-value c s g st =
    let m = c.args.machine.now in
    let d = c.in_ok-machine.field-0 in
    let node = c.in_ok-node.ensures.some in
    let found = unit_of c.in_ok-node.node.now.unit c.in_ok-tape_subunit.field-0.now c.in_ok-tape_subunit.ensures.tape in
    let some = sym (ap (λ (x : NodeState). x.unit) node.0) ∙ found.1 in
    let tape = found.2 ∙ sym c.in_ok-cassette.ensures.tape in
    let plugs = c.plugs-plugs.ensures ∙ ap (λ (x : NodeState). x.plugs) node.0 in
    let cassette = c.in_ok-cassette.cassette in
    sym (tied_records m s d st c.in_ok-machine.was ∙ elim c.else-is_recording.branch [
      | else-is_recording-via-then-is_recording+else-hears w ↦
          let there = listens m s d found.0 g st node.1 some in
          let hears = listens_now m s d w.hears.result g st node.1 there.plugs
          (w.hears.ensures ∙ ap (λ (p : PlugWords). is_active (slice_index p.inputs 0) (slice_index_or p.lingering_inputs 0 false)) plugs) in
          recorded_at m s d found.0 cassette g st node.1 some tape (same_state cassette.transport Record) refl false (sym hears ∙ w.if-hears.false) ∙ none_of (same_state cassette.transport Record) _
      | else-is_recording-via-else-is_recording w ↦
          recorded_at m s d found.0 cassette g st node.1 some tape false (sym c.is_recording.ensures ∙ w.if-is_recording.false) (hears_in s.account s.dub (at_plug d 0)) refl
    ])

-- ---- what is recorded

pub returns-then-hears-clause-value : goal.returns-then-hears-clause-value
returns-then-hears-clause-value c s g st =
    let m = c.args.machine.now in
    let d = c.in_ok-machine.field-0 in
    let node = c.in_ok-node.ensures.some in
    let found = unit_of c.in_ok-node.node.now.unit c.in_ok-tape_subunit.field-0.now c.in_ok-tape_subunit.ensures.tape in
    let some = sym (ap (λ (x : NodeState). x.unit) node.0) ∙ found.1 in
    let tape = found.2 ∙ sym c.in_ok-cassette.ensures.tape in
    let plugs = c.plugs-plugs.ensures ∙ ap (λ (x : NodeState). x.plugs) node.0 in
    let there = listens m s d found.0 g st node.1 some in
    let hears = listens_now m s d c.hears.result g st node.1 there.plugs
    (c.hears.ensures ∙ ap (λ (p : PlugWords). is_active (slice_index p.inputs 0) (slice_index_or p.lingering_inputs 0 false)) plugs) in
    let at = recorded_at m s d found.0 c.in_ok-cassette.cassette g st node.1 some tape true (sym c.is_recording.ensures ∙ c.if-is_recording.true) true (sym hears ∙ c.if-hears.true) in
    let channel = c.channel.ensures ∙ ap (λ w. field w 10 15) (c.in_word.ensures ∙ ap (λ (p : PlugWords). slice_index p.inputs 0) plugs) in
    let limit = c.room_on.ensures.value c.in_ok-cassette.cassette refl in
    (λ i. Some (record { channel = channel i; limit = limit i; block = None })) ∙ sym (tied_records m s d st c.in_ok-machine.was ∙ at)
