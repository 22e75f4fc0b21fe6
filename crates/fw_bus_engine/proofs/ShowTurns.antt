-- Registers that are shown, and the end of the log.
use Rattle.fw_bus_engine.proofs.Common.{◌≡◌, ℕ, ◌<◌, ◌^◌, Some, refl, ap, sym, ◌∙◌, IsTrue, Reply, at_most, is_linked, Machine, is_linked_in, TakesAction, linked_same}
use Rattle.fw_model_run.specs.Spaces.{read_at}
use Rattle.fw_model_run.specs.Entries.{shown_entry}
use Rattle.fw_model_run.specs.Actions.{ShowWord}
use Rattle.fw_bus_state.specs.Stands.{read_in}
use Rattle.fw_bus_state.proofs.Nodes.{read_same}

-- the word that a device's node would show is the account's
pub show_turns : (m : Machine) (d offset : ℕ) → IsTrue (is_linked_in m.devices d) → offset < 2 ^ 12 → (read_in m d offset).rcode ≡ 0
    → TakesAction (ShowWord d offset) m m m.cycle (Some (shown_entry d offset (read_in m d offset).value))
show_turns m d offset linked low complete = record {
  shown = λ s g st.
      let on : IsTrue (is_linked s d) = sym (linked_same m.devices s d g st.devices) ∙ linked in
      let same : read_in m d offset ≡ read_at s d offset = read_same m s g st d offset on in (
        s,
        record {
          found = tt;
          waits = st.answered;
          may = record { linked = on; fits = low; complete = sym (ap (λ (r : Reply). r.rcode) same) ∙ complete };
          out_is = λ i. at_most (st.clock.cycle i) (Some (shown_entry d offset (same i).value));
          state_is = refl;
        },
        st,
      );
}
