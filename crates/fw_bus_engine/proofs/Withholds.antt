-- Channel 31 is withheld: by the machine and by the run.
use Rattle.fw_bus_engine.proofs.Common.{◌≡◌, ℕ, ◌<◌, List, [], ◌∷◌, length, true, false, Some, refl, ap, sym}
use Rattle.fw_bus_engine.proofs.Common.{subst, ◌∙◌, arith, Entry, Timed, Network, Action, Carries, at_most, IsGood, State, entered}
use Rattle.fw_bus_engine.proofs.Common.{Machine, Performs, TakesAction, StandsFor}
use Rattle.fw_model_account.specs.Events.{after_withholding}
use Rattle.fw_order.specs.declared.order.Order.TheVariants as Orders
use Rattle.fw_model_run.specs.Actions.{Withhold}
use Rattle.fw_model_run.specs.Carrying.{withholds, withholds_already}
use Rattle.fw_model_run.specs.Entries.{withheld}
use Rattle.fw_model_run.proofs.Withholds.{none_before, withholding_is}
use Rattle.fw_bus_state.proofs.Wires.{wire_same}

-- no node is there yet
no_node : (m : Machine) (s : State) (d : ℕ) → StandsFor m s → m.devices.names ≡ [] → d < length m.devices.nodes → ⊥
no_node m s d st none low =
    let size = st.devices.nodes.size in
    omega (arith, size, low, ap (λ (xs : List (List ℕ)). length xs) (sym st.devices.names ∙ none))

withheld_stands : (m : Machine) (s : State) → StandsFor m s → m.devices.names ≡ []
    → StandsFor (record m { devices = record m.devices { withheld = true } }) (record s { account = after_withholding s.account })
withheld_stands m s st none = record {
  devices = record {
    topology = st.devices.topology;
    names = st.devices.names;
    kinds = st.devices.kinds;
    nodes = record { size = st.devices.nodes.size; each = λ d low. absurd (no_node m s d st none low) };
    lingering = record { each = λ d low. absurd (no_node m s d st none low) };
    decks = record { each = λ d low. absurd (no_node m s d st none low); others = st.devices.decks.others };
    hearers = record { each = λ d low. absurd (no_node m s d st none low) };
    latest = st.devices.latest;
    epoch = st.devices.epoch;
    manager = st.devices.manager;
    withheld = refl;
  };
  clock = st.clock;
  table = st.table;
  directory = st.directory;
  wire = wire_same m.wire s (record s { account = after_withholding s.account }) refl refl (λ d. refl) st.wire;
  streams = st.streams;
  answered = st.answered;
  unsent = st.unsent;
  election = st.election;
  bids = st.bids;
  reel = st.reel;
  around = st.around;
}

-- the machine that withholds it is that of the run
pub withhold_turns : (m : Machine) (n : Network) (e : Entry) → m.devices.names ≡ [] → m.devices.withheld ≡ false → e ≡ withheld
    → n ≡ record m.devices { withheld = true } → TakesAction Withhold m (record m { devices = n }) m.cycle (Some e)
withhold_turns m n e none free entry is = record {
  shown = λ s g st.
      let empty : s.declared.names ≡ [] = sym st.devices.names ∙ none in
      let out : at_most m.cycle (Some e) ≡ at_most s.clock.cycle (Some withheld) = (λ i. at_most (st.clock.cycle i) (Some (entry i))) in (
        record s { account = entered s.account withheld },
        record { found = tt; waits = st.answered; may = record { early = empty; once = sym st.devices.withheld ∙ free }; out_is = out; state_is = refl },
        subst (λ d. StandsFor (record m { devices = d }) (record s { account = entered s.account withheld })) (sym is)
            (subst (λ l. StandsFor (record m { devices = record m.devices { withheld = true } }) (record s { account = l })) (sym (withholding_is s.account (none_before s g empty)))
            (withheld_stands m s st none)),
      );
}

pub withholds_at : (s t : State) (xs : List Action) (out : List Timed) → Performs (Withhold ∷ []) s xs out t → Carries s Orders.Withhold xs out t
withholds_at s t xs out f = subst (λ z. Carries s Orders.Withhold z out t) (sym f.0) (withholds f.1)

-- a bus that withholds it goes on
pub goes_on_withholding : (m : Machine) → m.devices.withheld ≡ true → (s : State) → IsGood s → StandsFor m s → Carries s Orders.Withhold [] [] s
goes_on_withholding m on s g st = withholds_already (sym st.devices.withheld ∙ on)
