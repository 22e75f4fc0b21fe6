-- Tapes that go into decks and out of them: of the machine and of the run.
use Rattle.fw_bus_engine.proofs.Common.{◌≡◌, ℕ, ◌<◌, ◌^◌, zero, suc, List, [], ◌∷◌, ◌++◌, length, slice_set, true, false}
use Rattle.fw_bus_engine.proofs.Common.{cond, Option, Some, None, is_some, refl, ap, sym, subst, ◌∙◌, arith, IsTrue, Ok}
use Rattle.fw_bus_engine.proofs.Common.{IsErr, Result, length-set, update, DeviceKind, Entry, NodeState, Network, node_at, kind_at, Carries, DeckState, at_most, State, steps_good, update_new}
use Rattle.fw_bus_engine.proofs.Common.{update_others, Machine, Performs, Performed, TakesAction, between, HasDecks, IsReady, StandsFor}
use Rattle.fw_terms.specs.Devices.{has_unit}
use Rattle.fw_avc.specs.State.{UnitState}
use Rattle.fw_tape.specs.declared.cassette.Cassette.{Cassette}
use Rattle.fw_tape.specs.declared.system.TapeSystem.{TapeSystem}
use Rattle.fw_tape.specs.Motion.{inserted}
use Rattle.fw_devices.specs.Decks as Devices
use Rattle.fw_order.specs.declared.order.Order.TheVariants as Orders
use Rattle.fw_model_run.specs.Actions.{InsertTape, EjectTape}
use Rattle.fw_model_run.specs.Afterwards.{with_cassette}
use Rattle.fw_model_run.specs.Carrying.{SendsAll, inserts, ejects, ejects_nothing}
use Rattle.fw_model_run.specs.Decks.{with_tape}
use Rattle.fw_model_run.specs.Entries as Entries
use Rattle.fw_model_run.specs.State.{has_deck}
use Rattle.fw_model_run.specs.Units.{HasDeck}
use Rattle.fw_model_run.proofs.SendsAll.{can_send_all}
use Rattle.fw_model_run.proofs.Units.{tape_kept, tape_is}
use Rattle.fw_bus_state.specs.Orders.{has_deck_in}
use Rattle.fw_bus_state.proofs.Living.{few_devices as few_names}
use Rattle.fw_bus_state.proofs.DeckNodes.{decks_set}
use Rattle.fw_bus_engine.proofs.Doings.{Follows, GoesOn, does_cut}
use Rattle.fw_bus_engine.proofs.OneAction.{does_nothing}
use Rattle.fw_bus_engine.proofs.FrameNodes.{with_node, with_decks, deck_stands, off_waits, tape_registers}
use Rattle.fw_bus_engine.proofs.Sending.{all_steps}

-- a deck by the machine is one by the run
pub deck_same : (m : Machine) (s : State) (d : ℕ) → StandsFor m s → has_deck_in m.devices d ≡ has_deck s d
deck_same m s d st = ap (λ (ks : List DeviceKind). has_unit (kind_at ks d)) st.devices.kinds

-- ---- a tape goes in or out

-- the machine with this tape in a deck, or none
abbrev pub taped : Machine → ℕ → Option Cassette → Machine
taped m d tape = with_node m d (Devices.with_tape tape (node_at m.devices.nodes d))

taped_stands : (m : Machine) (s : State) (d : ℕ) (tape : Option Cassette) → StandsFor m s → d < length m.devices.nodes
    → StandsFor (taped m d tape) (with_cassette s d tape)
taped_stands m s d tape st low =
    subst (λ o. StandsFor (taped m d tape) (record (with_cassette s d tape) { frame = o })) (sym st.unsent)
    (deck_stands m s f d n st low (tape_registers tape (node_at m.devices.nodes d)) (λ off. off_waits m.devices.nodes s d st.devices.nodes low off) decks)
  where
    n : NodeState
    n = Devices.with_tape tape (node_at m.devices.nodes d)

    f : ℕ → DeckState
    f = update s.decks d (with_tape tape (s.decks d))

    decks : HasDecks (slice_set m.devices.nodes d n) (with_decks s f).declared.kinds (with_decks s f).decks
    decks = decks_set m.devices.nodes s (with_decks s f) d n low st.devices.decks
        (subst (HasDeck n (has_deck s d)) (sym (update_new s.decks d (with_tape tape (s.decks d))))
        (tape_kept tape (has_deck s d) (node_at m.devices.nodes d) (s.decks d) (st.devices.decks.each d low)))
        (λ c ne x. subst (HasDeck (node_at m.devices.nodes c) (has_deck s c)) (sym (update_others s.decks d (with_tape tape (s.decks d)) c ne)) x)
        (λ c ne. update_others s.decks d (with_tape tape (s.decks d)) c ne)

-- a declared device
named_low : (m : Machine) (s : State) (d : ℕ) → StandsFor m s → d < length m.devices.nodes → d < length s.declared.names
named_low m s d st low = let size = st.devices.nodes.size in omega (arith, low, size)

pub insert_turns : (m : Machine) (after : Network) (d tape : ℕ) (system : TapeSystem) (e : Entry) → d < length m.devices.nodes
    → IsTrue (has_deck_in m.devices d) → tape < 2 ^ 16 → e ≡ Entries.inserted d tape system → after ≡ (taped m d (Some (inserted tape system))).devices
    → TakesAction (InsertTape d tape system) m (record m { devices = after }) m.cycle (Some e)
insert_turns m after d tape system e low deck few entry is = record {
  shown = λ s g st.
      let t : State = with_cassette s d (Some (inserted tape system)) in
      let out : at_most m.cycle (Some e) ≡ at_most s.clock.cycle (Some (Entries.inserted d tape system)) =
      (λ i. at_most (st.clock.cycle i) (Some (entry i))) in (
        t,
        record { found = tt; waits = st.answered; may = record { declared = named_low m s d st low; deck = sym (deck_same m s d st) ∙ deck; fits = few }; out_is = out; state_is = refl },
        subst (λ (n : Network). StandsFor (record m { devices = n }) t) (sym is) (taped_stands m s d (Some (inserted tape system)) st low),
      );
}

-- whether a tape is in is the same by the node and by the run
tape_in : (m : Machine) (s : State) (d : ℕ) → StandsFor m s → d < length m.devices.nodes → IsTrue (has_deck_in m.devices d)
    → is_some (Devices.tape_of (node_at m.devices.nodes d)) ≡ is_some (s.decks d).unit.tape
tape_in m s d st low deck =
    let there : has_deck s d ≡ true = sym (deck_same m s d st) ∙ deck in
    let same = tape_is (has_deck s d) (node_at m.devices.nodes d) (s.decks d) (st.devices.decks.each d low) in
    ap is_some (same ∙ ap (λ b. cond b (s.decks d).unit.tape None) there)

pub eject_turns : (m : Machine) (after : Network) (d : ℕ) (e : Entry) → d < length m.devices.nodes → IsTrue (has_deck_in m.devices d)
    → IsTrue (is_some (Devices.tape_of (node_at m.devices.nodes d))) → e ≡ Entries.ejected d → after ≡ (taped m d None).devices
    → TakesAction (EjectTape d) m (record m { devices = after }) m.cycle (Some e)
eject_turns m after d e low deck was entry is = record {
  shown = λ s g st.
      let t : State = with_cassette s d None in
      let out : at_most m.cycle (Some e) ≡ at_most s.clock.cycle (Some (Entries.ejected d)) = (λ i. at_most (st.clock.cycle i) (Some (entry i))) in (
        t,
        record {
          found = tt;
          waits = st.answered;
          may = record { declared = named_low m s d st low; deck = sym (deck_same m s d st) ∙ deck; tape = sym (tape_in m s d st low deck) ∙ was };
          out_is = out;
          state_is = refl;
        },
        subst (λ (n : Network). StandsFor (record m { devices = n }) t) (sym is) (taped_stands m s d None st low),
      );
}

-- ---- without a tape nothing is done

no_tape : (n : NodeState) → is_some (Devices.tape_of n) ≡ false → Devices.with_tape None n ≡ n
no_tape n e = go n.unit e
  where
    go : (u : Option UnitState) → is_some (Devices.tape_of (record n { unit = u })) ≡ false
        → Devices.with_tape None (record n { unit = u }) ≡ record n { unit = u }
    go None e = refl
    go (Some u) e = of u.tape e
      where
        of : (o : Option Cassette) → is_some o ≡ false → record n { unit = Some (record u { tape = None }) } ≡ record n { unit = Some (record u { tape = o }) }
        of None e = refl
        of (Some c) e = let no : ⊥ = cc e in absurd no

set_itself : (nodes : List NodeState) (d : ℕ) → d < length nodes → slice_set nodes d (node_at nodes d) ≡ nodes
set_itself [] d lt = absurd (omega (arith, lt))
set_itself (n ∷ nodes) zero lt = refl
set_itself (n ∷ nodes) (suc d) lt = ap (λ (ns : List NodeState). n ∷ ns) (set_itself nodes d (omega (arith, lt)))

eject_same : (m : Machine) (after : Network) (d : ℕ) → d < length m.devices.nodes → is_some (Devices.tape_of (node_at m.devices.nodes d)) ≡ false
    → after ≡ (taped m d None).devices → after ≡ m.devices
eject_same m after d low none is =
    is ∙ ((λ i. (with_node m d (no_tape (node_at m.devices.nodes d) none i)).devices) ∙ (λ i. record m.devices { nodes = set_itself m.devices.nodes d low i }))

pub ejects_none : {T E : Type 0} (m : Machine) (after : Network) (d : ℕ) (held : Option (List ℕ)) (k : ℕ) (u : T) → d < length m.devices.nodes
    → IsTrue (has_deck_in m.devices d) → is_some (Devices.tape_of (node_at m.devices.nodes d)) ≡ false → after ≡ (taped m d None).devices
    → Performed {T = T} {E = E} (λ s. Carries s (Orders.Eject d)) m (record m { devices = after }) (between held held k k) (Ok u)
ejects_none {E = E} m after d held k u low deck none is =
    subst (λ (n : Network). Performed {E = E} (λ s. Carries s (Orders.Eject d)) m (record m { devices = n }) (between held held k k) (Ok u))
    (sym (eject_same m after d low none is)) (does_nothing m held k u (λ s g st. ejects_nothing (sym (tape_in m s d st low deck) ∙ none)))

-- ---- and then all frames are sent

pub insert_follows : {m : Machine} (d tape : ℕ) (system : TapeSystem)
    → Follows m (Performs (InsertTape d tape system ∷ [])) (SendsAll d) (λ s. Carries s (Orders.Insert d tape system))
insert_follows d tape system s mid t xs ys a b g st p f q h =
    subst (λ z. Carries s (Orders.Insert d tape system) (z ++ ys) (a ++ b) t) (sym p.0) (inserts mid ys a b p.1 q)

pub eject_follows : {m : Machine} (d : ℕ) → Follows m (Performs (EjectTape d ∷ [])) (SendsAll d) (λ s. Carries s (Orders.Eject d))
eject_follows d s mid t xs ys a b g st p f q h = subst (λ z. Carries s (Orders.Eject d) (z ++ ys) (a ++ b) t) (sym p.0) (ejects mid ys a b p.1 q)

insert_goes : (m : Machine) (d tape : ℕ) (system : TapeSystem) → GoesOn m (Performs (InsertTape d tape system ∷ [])) (λ s. Carries s (Orders.Insert d tape system))
insert_goes m d tape system s u xs a g st p f =
    let good = steps_good s u xs a g f in
    let is : u ≡ with_cassette s d (Some (inserted tape system)) = p.1.5.1 ∙ p.1.3.state_is in
    let r = can_send_all u d good (ap (λ (x : State). x.transaction) is ∙ st.answered) (ap (λ (x : State). x.frame) is ∙ st.unsent) in
    let goes = all_steps d u r.actions r.out r.after r.sends in
    (r.actions, r.out, r.after, insert_follows {m = m} d tape system s u r.after xs r.actions a r.out g st p f r.sends goes, goes)

eject_goes : (m : Machine) (d : ℕ) → GoesOn m (Performs (EjectTape d ∷ [])) (λ s. Carries s (Orders.Eject d))
eject_goes m d s u xs a g st p f =
    let good = steps_good s u xs a g f in
    let is : u ≡ with_cassette s d None = p.1.5.1 ∙ p.1.3.state_is in
    let r = can_send_all u d good (ap (λ (x : State). x.transaction) is ∙ st.answered) (ap (λ (x : State). x.frame) is ∙ st.unsent) in
    let goes = all_steps d u r.actions r.out r.after r.sends in
    (r.actions, r.out, r.after, eject_follows {m = m} d s u r.after xs r.actions a r.out g st p f r.sends goes, goes)

-- the entry of the event was cut off
pub insert_cut : {U F V G : Type 0} (d tape : ℕ) (system : TapeSystem) {m now last : Machine} {a b : Option (List ℕ)} {k l : ℕ}
    (q : Result U F) (r : Result V G) → IsErr q → IsErr r → Performed (Performs (InsertTape d tape system ∷ [])) m now (between a b k l) q
    → Performed (λ s. Carries s (Orders.Insert d tape system)) m last (between a b k l) r
insert_cut d tape system {m} q r was is f = does_cut q r (insert_goes m d tape system) was is f

pub eject_cut : {U F V G : Type 0} (d : ℕ) {m now last : Machine} {a b : Option (List ℕ)} {k l : ℕ} (q : Result U F) (r : Result V G) → IsErr q → IsErr r
    → Performed (Performs (EjectTape d ∷ [])) m now (between a b k l) q → Performed (λ s. Carries s (Orders.Eject d)) m last (between a b k l) r
eject_cut d {m} q r was is f = does_cut q r (eject_goes m d) was is f

-- ---- numbers

-- a device stays declared if a node changes
pub still_declared : (n now : Network) (d at : ℕ) (node : NodeState) → d < length n.nodes → now ≡ record n { nodes = slice_set n.nodes at node } → d < length now.nodes
still_declared n now d at node low is = subst (λ (k : ℕ). d < k) (sym (ap (λ (x : Network). length x.nodes) is ∙ length-set n.nodes at node)) low

-- declared devices are few
pub few_devices : {m : Machine} {d : ℕ} → IsReady m → d < length m.devices.nodes → d < 63
few_devices {m} r low =
    let size = r.stands.devices.nodes.size in
    let names = ap (λ (xs : List (List ℕ)). length xs) r.stands.devices.names in
    let few = few_names m r in
    omega (arith, low, size, names, few)
