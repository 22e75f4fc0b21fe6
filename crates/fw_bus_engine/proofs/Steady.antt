-- What a cycle leaves as it was: what the tied deck records, and which node is root.
use Rattle.fw_bus_engine.proofs.Common.{◌≡◌, inl, inr, ℕ, ◌<◌, ◌&&◌, List, length, map, Bool, true, false, cond, Option, Some, None, is_some, option_map, refl, ap, sym, ◌∙◌, arith, IsTrue}
use Rattle.fw_bus_engine.proofs.Common.{nat_tests, at_plug, ResetEntry, NodeState, is_node, node_at, unwrap_or, IsGood, IsLatest, State, Machine, StandsFor}
use Rattle.std.proofs.Common.{nat_lt, slice_index, slice_index_or}
use Rattle.std.proofs.lemmas.Bool.{cases_lt}
use Rattle.std.proofs.lemmas.List.{length-map}
use Rattle.fw_tape.specs.declared.cassette.Cassette.{Cassette}
use Rattle.fw_tape.specs.declared.transport.Transport.{Transport}
use Rattle.fw_tape.specs.declared.transport.Transport.TheVariants.{Record}
use Rattle.fw_tape.specs.Motion.{passed_on}
use Rattle.fw_tape.specs.Transports.{same_state}
use Rattle.fw_words.specs.Quadlet.{field}
use Rattle.fw_avc.specs.State.{UnitState}
use Rattle.fw_plug.specs.Plugs.{PlugWords, is_active}
use Rattle.fw_devices.specs.Decks.{passed}
use Rattle.fw_devices.specs.Network.{no_entry}
use Rattle.fw_model_run.specs.Dubs.{hears_in}
use Rattle.fw_model_run.specs.Recording.{room_on}
use Rattle.fw_bus_state.specs.Recording.{recording_in, recording_by, recording_of}
use Rattle.fw_bus_state.proofs.DeckNodes.{mapped_at}
use Rattle.fw_bus_state.proofs.Listening.{listens, listens_now, no_tape, no_unit, off_bus, recorded_at, tied_records}
use Rattle.fw_bus_engine.proofs.Ahead.{system_same, transport_same}
use Rattle.fw_bus_engine.proofs.BegunCycles.{root_of}

-- ---- the root

pub rooted_here : (m : Machine) (s : State) → 0 < length m.devices.names → IsGood s → StandsFor m s → root_of s.account.latest ≡ Some m.devices.latest.root
rooted_here m s some g st = go s.account.latest g.latest st.devices.latest
  where
    go : (o : Option ResetEntry) → IsLatest o s.declared s.account → m.devices.latest ≡ unwrap_or o no_entry → root_of o ≡ Some m.devices.latest.root
    go None h is =
        let none : length m.devices.names ≡ 0 = ap (λ (l : List (List ℕ)). length l) (st.devices.names ∙ h.0) in
        absurd (omega (arith, some, none))
    go (Some e) h is = ap (λ (x : ResetEntry). Some x.root) (sym is)

-- ---- what is recorded

same_node : (nodes : List NodeState) (d : ℕ) → is_node (map (passed 1) nodes) d ≡ is_node nodes d
same_node nodes d = elim (cases_lt d (length nodes)) [
  | inl low ↦ (λ i. nat_lt d (length-map nodes (passed 1) i) && is_some ((ap (λ (n : NodeState). n.number) (mapped_at (passed 1) nodes d low)) i))
  | inr past ↦
      let size = length-map nodes (passed 1) in
      let off : nat_lt d (length nodes) ≡ false = grind (arith, nat_tests, past) in
      let out : nat_lt d (length (map (passed 1) nodes)) ≡ false = grind (arith, nat_tests, past, size) in
      ap (λ b. b && is_some (node_at (map (passed 1) nodes) d).number) out ∙ sym (ap (λ b. b && is_some (node_at nodes d).number) off)
]

low_of : (nodes : List NodeState) (d : ℕ) → IsTrue (is_node nodes d) → d < length nodes
low_of nodes d on = elim (cases_lt d (length nodes)) [
  | inl low ↦ low
  | inr past ↦
      let off : nat_lt d (length nodes) ≡ false = grind (arith, nat_tests, past) in
      absurd (let no : false ≡ true = sym (ap (λ b. b && is_some (node_at nodes d).number) off) ∙ on in let bad : ⊥ = cc in bad)
]

-- of a tape that moved on
what_of : (m now : Machine) (s t : State) (d : ℕ) (u v : UnitState) (c : Cassette) → IsGood s → StandsFor m s → IsGood t → StandsFor now t
    → IsTrue (is_node m.devices.nodes d) → IsTrue (is_node now.devices.nodes d) → (node_at m.devices.nodes d).unit ≡ Some u → (node_at now.devices.nodes d).unit ≡ Some v
    → u.tape ≡ Some c → v.tape ≡ Some (passed_on 1 c) → (node_at now.devices.nodes d).plugs ≡ (node_at m.devices.nodes d).plugs → recording_of s d ≡ recording_of t d
what_of m now s t d u v c g st h su on over some there tape later plugs =
    recorded_at m s d u c g st on some tape state refl hears refl
    ∙ ((λ i. cond (state && hears_same i) (Some (record {
      channel = field (slice_index (plugs_same i).inputs 0) 10 15;
      limit = room_on (system i);
      block = None;
    })) None)
    ∙ sym (recorded_at now t d v (passed_on 1 c) h su over there later state (ap (λ (x : Transport). same_state x Record) (transport_same 1 c)) (hears_in t.account t.dub (at_plug d 0)) refl))
  where
    state : Bool
    state = same_state c.transport Record

    hears : Bool
    hears = hears_in s.account s.dub (at_plug d 0)

    plugs_same : (node_at m.devices.nodes d).plugs ≡ (node_at now.devices.nodes d).plugs
    plugs_same = sym plugs

    system : c.system ≡ (passed_on 1 c).system
    system = sym (system_same 1 c)

    hears_same : hears ≡ hears_in t.account t.dub (at_plug d 0)
    hears_same =
        sym (listens_now m s d _ g st on (listens m s d u g st on some).plugs refl)
        ∙ (ap (λ (p : PlugWords). is_active (slice_index p.inputs 0) (slice_index_or p.lingering_inputs 0 false)) plugs_same
        ∙ listens_now now t d _ h su over (listens now t d v h su over there).plugs refl)

pub recording_stays : (m now : Machine) (s t : State) → IsGood s → StandsFor m s → IsGood t → StandsFor now t → now.tied ≡ m.tied
    → now.devices.nodes ≡ map (passed 1) m.devices.nodes → recording_in s ≡ recording_in t
recording_stays m now s t g st h su tied nodes = go m.tied refl
  where
    node : (d : ℕ) → d < length m.devices.nodes → node_at now.devices.nodes d ≡ passed 1 (node_at m.devices.nodes d)
    node d low = ap (λ (l : List NodeState). node_at l d) nodes ∙ mapped_at (passed 1) m.devices.nodes d low

    there : (d : ℕ) → is_node now.devices.nodes d ≡ is_node m.devices.nodes d
    there d = ap (λ (l : List NodeState). is_node l d) nodes ∙ same_node m.devices.nodes d

    of_tape : (d : ℕ) (u : UnitState) (o : Option Cassette) → IsTrue (is_node m.devices.nodes d) → (node_at m.devices.nodes d).unit ≡ Some u
        → (node_at now.devices.nodes d).unit ≡ Some (record u { tape = option_map (passed_on 1) u.tape }) → u.tape ≡ o → recording_of s d ≡ recording_of t d
    of_tape d u None on some later tape =
        no_tape m s d u g st on some tape
        ∙ sym (no_tape now t d (record u { tape = option_map (passed_on 1) u.tape }) h su (there d ∙ on) later (ap (option_map (passed_on 1)) tape))
    of_tape d u (Some c) on some later tape =
        what_of m now s t d u (record u { tape = option_map (passed_on 1) u.tape }) c g st h su on (there d ∙ on) some later tape (ap (option_map (passed_on 1)) tape)
        (ap (λ (n : NodeState). n.plugs) (node d (low_of m.devices.nodes d on)))

    by_unit : (d : ℕ) (o : Option UnitState) → IsTrue (is_node m.devices.nodes d) → (node_at m.devices.nodes d).unit ≡ o
        → (node_at now.devices.nodes d).unit ≡ option_map (λ (u : UnitState). record u { tape = option_map (passed_on 1) u.tape }) o → recording_of s d ≡ recording_of t d
    by_unit d None on is later = no_unit m s d g st on is ∙ sym (no_unit now t d h su (there d ∙ on) later)
    by_unit d (Some u) on is later = of_tape d u u.tape on is later refl

    of_unit : (d : ℕ) → IsTrue (is_node m.devices.nodes d) → recording_of s d ≡ recording_of t d
    of_unit d on = by_unit d (node_at m.devices.nodes d).unit on refl (ap (λ (n : NodeState). n.unit) (node d (low_of m.devices.nodes d on)))

    of_node : (d : ℕ) (b : Bool) → is_node m.devices.nodes d ≡ b → recording_of s d ≡ recording_of t d
    of_node d true on = of_unit d on
    of_node d false off = off_bus m s d g st off ∙ sym (off_bus now t d h su (there d ∙ off))

    go : (o : Option ℕ) → m.tied ≡ o → recording_in s ≡ recording_in t
    go None is =
        ap (recording_by s) (sym st.reel.tied_is ∙ is) ∙ sym (ap (recording_by t) (sym su.reel.tied_is ∙ (tied ∙ is)))
    go (Some d) is = tied_records m s d st is ∙ (of_node d (is_node m.devices.nodes d) refl ∙ sym (tied_records now t d su (tied ∙ is)))
