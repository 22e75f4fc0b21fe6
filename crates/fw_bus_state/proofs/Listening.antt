-- What the tied deck records of a cycle: of the machine and of the run.
use Rattle.fw_bus_state.proofs.Common.{◌≡◌, ◌≢◌, ℕ, ◌<◌, ◌&&◌, cond, length, slice_index, slice_index_or, Bool, true, false}
use Rattle.fw_bus_state.proofs.Common.{Option, Some, None, option_map, refl, ap, sym, ◌∙◌, arith, IsTrue, same_Some}
use Rattle.fw_bus_state.proofs.Common.{UnitState, input_plugs_of, at_plug, kind_at, node_at, is_active, field, IsGood, State, is_on, Machine, StandsFor}
use Rattle.std.proofs.lemmas.Option.{none-some}
use Rattle.fw_terms.proofs.KindLaws.{unit_plugs}
use Rattle.fw_devices.specs.Network.{is_node}
use Rattle.fw_tape.specs.Motion.{transport_of}
use Rattle.fw_tape.specs.Transports.{same_state}
use Rattle.fw_tape.specs.declared.cassette.Cassette.{Cassette}
use Rattle.fw_tape.specs.declared.transport.Transport.{Transport}
use Rattle.fw_tape.specs.declared.transport.Transport.TheVariants.{Stop, Rewind, FastForward, Play, PlayPause, Reverse, ReversePause, Record, RecordPause}
use Rattle.fw_model_run.specs.Dubs.{hears_in}
use Rattle.fw_model_run.specs.Recording.{records, room_of, tape_in}
use Rattle.fw_model_run.specs.State.{has_deck}
use Rattle.fw_model_run.proofs.Hearing.{hears_channel, off_hears}
use Rattle.fw_bus_state.specs.declared.recording.Recording.{Recording}
use Rattle.fw_bus_state.specs.Recording.{recording_by, recording_in, recording_of}
use Rattle.fw_bus_state.proofs.Hearing.{node_hears}
use Rattle.fw_bus_state.proofs.Latest.{on_number}
use Rattle.fw_bus_state.proofs.Nodes.{is_node_same, node_has, on_within}

-- ---- transports

-- the state of recording alone has its codes
pub recording_codes : (t : Transport) → t ≢ Record → same_state t Record ≡ false
recording_codes Stop ne = refl
recording_codes Rewind ne = refl
recording_codes FastForward ne = refl
recording_codes Play ne = refl
recording_codes PlayPause ne = refl
recording_codes Reverse ne = refl
recording_codes ReversePause ne = refl
recording_codes Record ne = absurd (ne refl)
recording_codes RecordPause ne = refl

-- ---- nothing is recorded

-- one of these does not hold
off_records : (s : State) (d : ℕ) → records s d ≡ false → recording_of s d ≡ None
off_records s d off = ap (λ b. cond b (Some (record { channel = s.account.input_channel (at_plug d 0); limit = room_of (tape_in s d); block = None })) None) off

-- the device is off the bus
pub off_bus : (m : Machine) (s : State) (d : ℕ) → IsGood s → StandsFor m s → is_node m.devices.nodes d ≡ false → recording_of s d ≡ None
off_bus m s d g st off =
    let quiet = off_hears s d 0 g st.around.hearing (sym (is_node_same m.devices.nodes s st.devices.nodes g d) ∙ off) in
    off_records s d (third (has_deck s d) (same_state (transport_of (tape_in s d)) Record) (hears_in s.account s.dub (at_plug d 0)) quiet)
  where
    third : (a b c : Bool) → c ≡ false → (a && (b && c)) ≡ false
    third a b c e = grind (arith, e)

-- the unit of a device on the bus
unit_there : (m : Machine) (s : State) (d : ℕ) → IsGood s → StandsFor m s → IsTrue (is_node m.devices.nodes d)
    → (node_at m.devices.nodes d).unit ≡ cond (has_deck s d) (Some (s.decks d).unit) None
unit_there m s d g st on =
    let low = on_within m.devices.nodes s d st.devices.nodes g (sym (is_node_same m.devices.nodes s st.devices.nodes g d) ∙ on) in
    (st.devices.decks.each d low).unit

-- it has none
pub no_unit : (m : Machine) (s : State) (d : ℕ) → IsGood s → StandsFor m s → IsTrue (is_node m.devices.nodes d) → (node_at m.devices.nodes d).unit ≡ None → recording_of s d ≡ None
no_unit m s d g st on none = go (has_deck s d) refl (sym (unit_there m s d g st on) ∙ none)
  where
    go : (b : Bool) → has_deck s d ≡ b → cond b (Some (s.decks d).unit) None ≡ None → recording_of s d ≡ None
    go true e is = absurd (none-some (s.decks d).unit (sym is))
    go false e is = off_records s d (ap (λ b. b && (same_state (transport_of (tape_in s d)) Record && hears_in s.account s.dub (at_plug d 0))) e)

-- what the unit has the deck has
pub tape_there : (m : Machine) (s : State) (d : ℕ) (u : UnitState) → IsGood s → StandsFor m s → IsTrue (is_node m.devices.nodes d) → (node_at m.devices.nodes d).unit ≡ Some u
    → (has_deck s d ≡ true) × (tape_in s d ≡ u.tape)
tape_there m s d u g st on some = go (has_deck s d) refl (sym (unit_there m s d g st on) ∙ some)
  where
    go : (b : Bool) → has_deck s d ≡ b → cond b (Some (s.decks d).unit) None ≡ Some u → (has_deck s d ≡ true) × (tape_in s d ≡ u.tape)
    go true e is = (e, ap (λ (x : UnitState). x.tape) (same_Some (s.decks d).unit u is))
    go false e is = absurd (none-some u is)

-- no tape is in
pub no_tape : (m : Machine) (s : State) (d : ℕ) (u : UnitState) → IsGood s → StandsFor m s → IsTrue (is_node m.devices.nodes d) → (node_at m.devices.nodes d).unit ≡ Some u
    → u.tape ≡ None → recording_of s d ≡ None
no_tape m s d u g st on some none =
    let x = tape_there m s d u g st on some in
    off_records s d (second (has_deck s d) (hears_in s.account s.dub (at_plug d 0)) (ap (λ o. same_state (transport_of o) Record) (x.1 ∙ none)))
  where
    second : (a c : Bool) {b : Bool} → b ≡ false → (a && (b && c)) ≡ false
    second a c e = grind (arith, e)

-- ---- what is recorded

-- its input plug, by the machine and by the run
pub record Listens (m : Machine) (s : State) (d : ℕ) : Type 0 where
  pub plugs : 0 < length (node_at m.devices.nodes d).plugs.inputs
  pub channel : field (slice_index (node_at m.devices.nodes d).plugs.inputs 0) 10 15 ≡ s.account.input_channel (at_plug d 0)

pub listens : (m : Machine) (s : State) (d : ℕ) (u : UnitState) → IsGood s → StandsFor m s → IsTrue (is_node m.devices.nodes d) → (node_at m.devices.nodes d).unit ≡ Some u → Listens m s d
listens m s d u g st on some =
    let there : IsTrue (is_on s d) = sym (is_node_same m.devices.nodes s st.devices.nodes g d) ∙ on in
    let space = node_has m.devices.nodes s d st.devices.nodes g there in
    let size = space.inputs in
    let one = (unit_plugs (kind_at s.declared.kinds d) (tape_there m s d u g st on some).0).1 in
    let few : 0 < input_plugs_of (kind_at s.declared.kinds d) = omega (arith, one) in
    record {
      plugs = omega (arith, few, size);
      channel = ap (λ w. field w 10 15) (space.input_words 0 few) ∙ hears_channel s d 0 g there few;
    }

-- it hears if the run says so
pub listens_now : (m : Machine) (s : State) (d : ℕ) (b : Bool) → IsGood s → StandsFor m s → IsTrue (is_node m.devices.nodes d) → 0 < length (node_at m.devices.nodes d).plugs.inputs
    → b ≡ is_active (slice_index (node_at m.devices.nodes d).plugs.inputs 0) (slice_index_or (node_at m.devices.nodes d).plugs.lingering_inputs 0 false)
    → b ≡ hears_in s.account s.dub (at_plug d 0)
listens_now m s d b g st on plugs is =
    let there : IsTrue (is_on s d) = sym (is_node_same m.devices.nodes s st.devices.nodes g d) ∙ on in
    is ∙ node_hears m.devices.nodes s d _ g st.devices.nodes st.devices.hearers (on_within m.devices.nodes s d st.devices.nodes g there) (on_number s d there) 0 plugs

-- by the transport of its tape and by its plug
pub recorded_at : (m : Machine) (s : State) (d : ℕ) (u : UnitState) (c : Cassette) → IsGood s → StandsFor m s → IsTrue (is_node m.devices.nodes d) → (node_at m.devices.nodes d).unit ≡ Some u
    → u.tape ≡ Some c → (b : Bool) → same_state c.transport Record ≡ b → (h : Bool) → hears_in s.account s.dub (at_plug d 0) ≡ h
    → recording_of s d ≡ cond (b && h) (Some (record { channel = field (slice_index (node_at m.devices.nodes d).plugs.inputs 0) 10 15; limit = room_of (Some c); block = None })) None
recorded_at m s d u c g st on some tape b same h hears =
    let x = tape_there m s d u g st on some in
    let l = listens m s d u g st on some in
    let in_ : tape_in s d ≡ Some c = x.1 ∙ tape in
    let channel = sym l.channel in
    let is : records s d ≡ (b && h) = (λ i. x.0 i && (same_state (transport_of (in_ i)) Record && hears_in s.account s.dub (at_plug d 0))) ∙ (λ i. same i && hears i) in
    (λ i. cond (is i) (Some (record { channel = channel i; limit = room_of (in_ i); block = None })) None)

-- ---- by the tied device and its node

pub tied_records : (m : Machine) (s : State) (d : ℕ) → StandsFor m s → m.tied ≡ Some d → recording_in s ≡ recording_of s d
tied_records m s d st tied = ap (recording_by s) (sym st.reel.tied_is ∙ tied)

-- a tape subunit is there if a unit is
pub unit_none : (o : Option UnitState) → None ≡ option_map (λ (u : UnitState). u.tape) o → o ≡ None
unit_none None e = refl
unit_none (Some u) e = absurd (none-some u.tape e)

pub unit_of : (o : Option UnitState) (t : Option Cassette) → Some t ≡ option_map (λ (u : UnitState). u.tape) o → (u : UnitState) × (o ≡ Some u) × (u.tape ≡ t)
unit_of None t e = absurd (none-some t (sym e))
unit_of (Some u) t e = (u, refl, same_Some u.tape t (sym e))

pub none_of : (b : Bool) (o : Option Recording) → cond (b && false) o None ≡ None
none_of true o = refl
none_of false o = refl
